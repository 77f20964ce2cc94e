-- The slips that desks note of their casts.
use Rattle.std.specs.Prelude.{ℕ, ◌+◌, ◌==◌, not, if◌then◌else◌, List, [], ◌∷◌, Option, Some, None, count_by, map}
use Rattle.std.specs.List.{cons_option}
use Rattle.std.specs.List.Sorted.{IsStrictlyIncreasing}
use Rattle.vote_desks_box.specs.declared.slip.Slip.{Slip}
use Rattle.vote_steps.specs.declared.Step.{Step}
use Rattle.vote_steps.specs.declared.Step.TheVariants.{Cast, Close}
use Rattle.vote_steps.specs.History.{is_valid}

-- the slip that the step with this number gives a desk; None if the step is not a cast at this desk
abbrev pub slip_of : ℕ → ℕ → Step → Option Slip
slip_of desk number Close = None
slip_of desk number (Cast d stamp reading reply) = if d == desk then Some (record { number = number; stamp = stamp; reply = reply }) else None

-- the slips that its casts give a desk, in order; the first step has this number
abbrev pub slips_from : ℕ → List Step → ℕ → List Slip
slips_from number [] desk = []
slips_from number (step ∷ steps) desk = cons_option (slip_of desk number step) (slips_from (number + 1) steps desk)

-- the number of slips that say that the line is a valid ballot
abbrev pub valid_slips : List Slip → ℕ
valid_slips slips = count_by (λ slip. is_valid slip.reply) slips

-- the number of slips that say that the line is not a valid ballot, that it was late, or that it came after the close
abbrev pub refused_slips : List Slip → ℕ
refused_slips slips = count_by (λ slip. not (is_valid slip.reply)) slips

-- the stamps of these slips, in their order
abbrev pub stamps_of : List Slip → List ℕ
stamps_of slips = map (λ slip. slip.stamp) slips

-- the stamps of these slips increase: the envelopes were cast in the order of their stamps
abbrev pub Rises : List Slip → Type 0
Rises slips = IsStrictlyIncreasing (stamps_of slips)
