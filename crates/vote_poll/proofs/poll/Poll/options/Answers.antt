use Rattle.std.proofs.Common.{ap, arith, Global, string_bytes}
use Rattle.std.proofs.lemmas.List.{length-map}
use Rattle.std.proofs.lemmas.Grind.{common_steps, elements, moves, pieces}
use Rattle.vote_poll.specs.PollContent.{option_count}
use Rattle.vote_poll.proofs.poll.Poll.options.Goals as goal

pub returns-clause-number : goal.returns-clause-number
returns-clause-number c = omega (arith, length-map c.self.inside.options.items (string_bytes {Z = Global}), ap option_count c.self.view_is)

pub returns-clause-at_least : goal.returns-clause-at_least
returns-clause-at_least c = grind (arith, common_steps, elements, moves, pieces)

pub overflow_cast-result : goal.overflow_cast-result
overflow_cast-result c = grind (arith, common_steps, elements, moves, pieces)

pub returns-clause-at_most : goal.returns-clause-at_most
returns-clause-at_most c = grind (arith, common_steps, elements, moves, pieces)
