use Rattle.std.proofs.Common.{◌≡◌, ℕ, ◌<◌, ◌≤◌, map, vec_items}
use Rattle.vote_desks_box.specs.Slips.{slips_from}
use Rattle.vote_desks_box.specs.Desks.{slips_at}
use Rattle.vote_audit.proofs.slips.first_other_slip.Given as goal

abbrev pub invariant-loop-desk : goal.invariant-loop-desk
invariant-loop-desk l = (desk : ℕ) → 1 ≤ desk → desk < l.desk → slips_at (map vec_items l.slips_by_desk) desk ≡ slips_from 1 l.steps desk
