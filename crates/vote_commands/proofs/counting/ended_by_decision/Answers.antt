use Rattle.std.proofs.Common.{refl}
use Rattle.vote_commands.proofs.counting.ended_by_decision.Goals as goal

pub returns-in-Tie : goal.returns-in-Tie
returns-in-Tie c = rw c.in-Tie.is refl
