use Rattle.std.proofs.Common.{ℕ, ◌<◌, get_or}
use Rattle.vote_poll.specs.Readings.{readings}
use Rattle.vote_steps.specs.declared.Step.{Step}
use Rattle.vote_steps.specs.Recasts.{HasOwnReading}
use Rattle.vote_audit.proofs.auditing.first_other_reading.Given as goal

abbrev pub invariant-loop-place : goal.invariant-loop-place
invariant-loop-place l = (k : ℕ) (d : Step) → k < l.place → HasOwnReading (readings l.poll l.lines) (get_or l.steps k d)
