use Rattle.std.proofs.Common.{refl}
use Rattle.vote_commands.proofs.output.write_run.Goals as goal

pub returns-in-Ok-clause-writes : goal.returns-in-Ok-clause-writes
returns-in-Ok-clause-writes g c = (_, refl, c.in-Ok.ensures.ok)

pub returns-in-Err-clause-writes : goal.returns-in-Err-clause-writes
returns-in-Err-clause-writes g c = (_, refl, c.in-Err.ensures.err)
