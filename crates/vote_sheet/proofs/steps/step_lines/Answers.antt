use Rattle.std.proofs.Common.{arith}
use Rattle.std.proofs.lemmas.Grind.{common_steps, elements, moves, pieces}
use Rattle.vote_sheet.proofs.steps.step_lines.Goals as goal

pub loop-step-preserved : goal.loop-step-preserved
loop-step-preserved c = grind (arith, common_steps, elements, moves, pieces)

pub returns : goal.returns
returns c = grind (arith, common_steps, elements, moves, pieces)
