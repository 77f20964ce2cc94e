use Rattle.std.proofs.Common.{refl}
use Rattle.vote_commands.proofs.counting.ended_by_verification.Goals as goal

pub returns-in-Differs : goal.returns-in-Differs
returns-in-Differs c = rw c.in-Differs.is refl
