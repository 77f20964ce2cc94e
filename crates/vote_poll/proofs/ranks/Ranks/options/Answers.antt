use Rattle.std.proofs.lemmas.Grind.{common_steps, elements, moves, pieces}
use Rattle.std.proofs.Common.{arith}
use Rattle.vote_poll.proofs.ranks.Ranks.options.Goals as goal

pub returns-clause-number : goal.returns-clause-number
returns-clause-number c = grind (arith, common_steps, elements, moves, pieces)
