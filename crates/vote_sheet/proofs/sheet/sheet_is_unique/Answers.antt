use Rattle.vote_sheet.proofs.Uniqueness.{sheet_is_unique_lem}
use Rattle.vote_sheet.proofs.sheet.sheet_is_unique.Goals as goal

pub returns : goal.returns
returns c = sheet_is_unique_lem c.outcomes_are_determined.ensures c.decisions_are_determined.ensures
