use Rattle.std.proofs.Common.{rules}
use Rattle.vote_commands.proofs.fault.status.Goals as goal

pub returns-in-Ok-Tie-clause-status : goal.returns-in-Ok-Tie-clause-status
returns-in-Ok-Tie-clause-status c = rw c.in-Ok-Tie.is (search rules)
