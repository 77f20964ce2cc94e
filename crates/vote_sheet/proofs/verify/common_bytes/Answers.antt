use Rattle.std.proofs.Common.{arith, drop}
use Rattle.std.proofs.lemmas.Grind.{common_steps, elements, moves, pieces}
use Rattle.vote_sheet.proofs.FileLines.{over_here}
use Rattle.vote_sheet.proofs.verify.common_bytes.Goals as goal

pub returns-else-count-other-clause-agree : goal.returns-else-count-other-clause-agree
returns-else-count-other-clause-agree c =
    omega (arith, c.loop-count.invariant.agree, over_here (drop c.loop-count.count c.args.text.now) c.args.other.now c.loop-count.count (omega arith))

pub loop-count-preserved : goal.loop-count-preserved
loop-count-preserved c = grind (arith, common_steps, elements, moves, pieces)
