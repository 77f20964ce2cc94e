use Rattle.vote_commands.proofs.TextLaws.{checks_have_one_text, counts_have_one_text, listings_have_one_text}
use Rattle.vote_commands.proofs.laws.commands_have_one_text.Goals as goal

pub returns-clause-counts : goal.returns-clause-counts
returns-clause-counts c =
    counts_have_one_text c.sheet_exists.ensures c.picture_exists.ensures c.verifications_exist.ensures
    c.sheet_is_unique.ensures c.picture_is_unique.ensures c.verifications_are_determined.ensures

pub returns-clause-listings : goal.returns-clause-listings
returns-clause-listings c = listings_have_one_text c.steps_exist.ensures c.steps_are_determined.ensures

pub returns-clause-checks : goal.returns-clause-checks
returns-clause-checks c = checks_have_one_text
