use Rattle.std.proofs.Common.{ap, arith, Global, string_bytes}
use Rattle.std.proofs.lemmas.List.{length-map}
use Rattle.std.proofs.lemmas.Grind.{common_steps, elements, moves, pieces}
use Rattle.vote_poll.specs.PollContent.{elector_count}
use Rattle.vote_poll.proofs.poll.Poll.electors.Goals as goal

pub returns-clause-number : goal.returns-clause-number
returns-clause-number c = omega (arith, length-map c.self.inside.roll.keys (string_bytes {Z = Global}), ap elector_count c.self.view_is)

pub returns-clause-at_least : goal.returns-clause-at_least
returns-clause-at_least c = grind (arith, common_steps, elements, moves, pieces)
