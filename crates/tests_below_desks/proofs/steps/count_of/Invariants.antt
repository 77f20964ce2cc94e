use Rattle.std.proofs.Common.{◌≤◌}
use Rattle.tests_below_desks.proofs.steps.count_of.Given as goal

abbrev pub invariant-loop-step : goal.invariant-loop-step
invariant-loop-step l = l.number ≤ l.step-index
