use Rattle.std.proofs.Common.{◌≡◌, ◌-◌}
use Rattle.tests_below_desks.proofs.tray.take_all.Given as goal

abbrev pub invariant-loop-place : goal.invariant-loop-place
invariant-loop-place l = l.pass.tray ≡ l.tray

abbrev pub decreases-loop-place : goal.decreases-loop-place
decreases-loop-place l = l.tray.size - l.pass.seen
