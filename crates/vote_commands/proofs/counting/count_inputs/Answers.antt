use Rattle.std.proofs.Common.{rules}
use Rattle.vote_commands.proofs.HeldLines.{counted_in}
use Rattle.vote_commands.proofs.Stopping.{count_goes_through}
use Rattle.vote_commands.proofs.counting.count_inputs.Goals as goal

pub returns-clause-desks : goal.returns-clause-desks
returns-clause-desks g c = counted_in c.args.inputs.now c.in-Ok.taken c.witness.result c.witness.ensures c.in-Ok.ensures.taken

pub returns-clause-stops : goal.returns-clause-stops
returns-clause-stops g c = search (rules, count_goes_through)
