use Rattle.std.proofs.Common.{refl}
use Rattle.vote_sheet.specs.Steps.{step_lines}
use Rattle.vote_sheet.proofs.steps.steps_exist.Goals as goal

pub returns : goal.returns
returns c poll lines =
    let held = c.lines_can_be_cast.ensures poll lines in (step_lines held.0.steps, (held.0, held.1, held.2, refl))
