use Rattle.std.proofs.Common.{◌∙◌, ap, sym}
use Rattle.vote_steps.specs.Boxes.{BoxState}
use Rattle.vote_sheet.specs.Steps.{step_lines}
use Rattle.vote_sheet.proofs.steps.steps_are_determined.Goals as goal

pub returns : goal.returns
returns c poll lines text other is is' =
    is.3 ∙ ap (λ (b : BoxState). step_lines b.steps) (c.order_leaves_no_choice.ensures poll lines is.0 is'.0 is.1 is'.1 is.2 is'.2) ∙ sym is'.3
