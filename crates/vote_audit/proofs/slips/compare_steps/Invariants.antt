use Rattle.std.proofs.Common.{map, take, vec_items}
use Rattle.vote_audit.specs.Comparing.{AgreeWith}
use Rattle.vote_audit.proofs.slips.compare_steps.Given as goal

abbrev pub invariant-loop-place : goal.invariant-loop-place
invariant-loop-place l = AgreeWith (map vec_items l.slips_by_desk) (take l.place l.steps) l.compared
