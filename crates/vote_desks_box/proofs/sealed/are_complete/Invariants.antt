use Rattle.std.proofs.Common.{◌≡◌, ℕ, ◌+◌, ◌<◌, get_or}
use Rattle.vote_desks_box.specs.Desks.{DeskState}
use Rattle.vote_desks_box.proofs.sealed.are_complete.Given as goal

abbrev pub invariant-loop-place : goal.invariant-loop-place
invariant-loop-place g l = (k : ℕ) (d : DeskState) → k < l.place → (get_or l.desks k d).number ≡ k + 1
