use Rattle.std.proofs.Common.{arith}
use Rattle.std.proofs.lemmas.Grind.{common_steps, elements, moves, pieces}
use Rattle.vote_poll_text.specs.Shown.{shown_byte}
use Rattle.vote_poll_text.proofs.shown.push_byte.Goals as goal

pub returns : goal.returns
unfolding shown_byte
returns c = grind (arith, common_steps, elements, moves, pieces)
