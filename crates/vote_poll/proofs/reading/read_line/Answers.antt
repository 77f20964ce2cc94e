use Rattle.std.proofs.lemmas.Grind.{common_steps, elements, moves, pieces}
use Rattle.std.proofs.Common.{arith}
use Rattle.vote_poll.proofs.GrammarLaws.{reading_laws}
use Rattle.vote_poll.proofs.reading.read_line.Goals as goal

pub returns-in-Err-clause-grammar : goal.returns-in-Err-clause-grammar
returns-in-Err-clause-grammar c = grind (arith, common_steps, elements, moves, pieces, reading_laws)
