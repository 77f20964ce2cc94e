use Rattle.vote_commands.proofs.JoinedLaws.{parts_are_one}
use Rattle.vote_commands.proofs.laws.parts_are_unique.Goals as goal

pub returns : goal.returns
returns c = parts_are_one
