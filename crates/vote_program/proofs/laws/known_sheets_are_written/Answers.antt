use Rattle.vote_program.proofs.CountLaws.{known_sheets}
use Rattle.vote_program.proofs.laws.known_sheets_are_written.Goals as goal

pub returns : goal.returns
returns c = known_sheets c.sheet_is_unique.ensures
