use Rattle.vote_program.proofs.CountLaws.{known_ends}
use Rattle.vote_program.proofs.laws.known_ends_are_kept.Goals as goal

pub returns : goal.returns
returns g c = let one_text = c.commands_have_one_text.ensures.counts in search known_ends
