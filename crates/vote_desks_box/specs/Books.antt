-- What the books of valid and refused lines say about all desks.
use Rattle.std.specs.Prelude.{◌≡◌, ℕ, List, sum_by}
use Rattle.std.specs.declared.vec.Vec.{Vec}
use Rattle.vote_steps.specs.Boxes.{BoxState}
use Rattle.vote_steps.specs.History.{valid, refused}
use Rattle.vote_desks_box.specs.declared.slip.Slip.{Slip}
use Rattle.vote_desks_box.specs.Slips.{valid_slips, refused_slips}
use Rattle.vote_desks_box.specs.Desks.{DeskState}

-- the sum of these desks' shares of the book of valid lines
abbrev pub valid_at : {Z : Type 0} → Vec DeskState Z → ℕ
valid_at desks = sum_by (λ desk. desk.valid_share) desks.items

-- the sum of these desks' shares of the book of refused lines
abbrev pub refused_at : {Z : Type 0} → Vec DeskState Z → ℕ
refused_at desks = sum_by (λ desk. desk.refused_share) desks.items

-- the box counts as many valid and as many refused lines as the desks' shares add up to, and as the desks have slips for
pub record MeetsBooks {Z : Type 0} (desks : Vec DeskState Z) (b : BoxState) (slips_by_desk : List (List Slip)) : Type 0 where
  pub valid_shares : valid_at desks ≡ valid b.last_in_time b.steps
  pub refused_shares : refused_at desks ≡ refused b.last_in_time b.steps
  pub valid_on_slips : sum_by valid_slips slips_by_desk ≡ valid b.last_in_time b.steps
  pub refused_on_slips : sum_by refused_slips slips_by_desk ≡ refused b.last_in_time b.steps
