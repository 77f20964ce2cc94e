use Rattle.std.proofs.Common.{◌+◌, ◌*◌}
use Rattle.vote_audit.proofs.auditing.+stretches.Given as goal

abbrev pub decreases-first_other_reading_by : goal.decreases-first_other_reading_by
decreases-first_other_reading_by g l = 2 * l.threads

abbrev pub decreases-left : goal.decreases-left
decreases-left g l = 2 * l.low + 1

abbrev pub decreases-right : goal.decreases-right
decreases-right g l = 2 * l.high + 1
