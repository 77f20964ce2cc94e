use Rattle.std.proofs.Common.{◌≡◌, ◌++◌, drop, string_bytes}
use Rattle.vote_sheet.specs.Steps.{step_lines}
use Rattle.vote_sheet.proofs.steps.step_lines.Given as goal

-- the text that is written and the lines of the steps that are left make up the whole
abbrev pub invariant-loop-step : goal.invariant-loop-step
invariant-loop-step l = string_bytes l.text ++ step_lines (drop l.step-index l.steps) ≡ step_lines l.steps
