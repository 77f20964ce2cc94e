-- The shares and the slips of the desks that were merged so far.
use Rattle.std.proofs.Common.{◌≡◌, ℕ, ◌+◌, ◌++◌, List, [], ◌∷◌, map, sum_by, refl, sym, ap, ◌∙◌, append_assoc, arith}
use Rattle.std.proofs.lemmas.List.{map_push}
use Rattle.std.proofs.lemmas.List.Sums.{sum_by-cons, sum_by_push}
use Rattle.vote_desks_box.specs.declared.slip.Slip.{Slip}
use Rattle.vote_desks_box.specs.Slips.{valid_slips, refused_slips}
use Rattle.vote_desks_box.specs.Desks.{DeskState}

-- the merged desks and those that are left together have the shares of all desks, and their slips in order
pub record Merged {X : Type 0} (slips_in : X → List Slip) (all left : List DeskState) (valid refused : ℕ) (slips : List X) : Type 0 where
  pub valid_shares : valid + sum_by (λ desk. desk.valid_share) left ≡ sum_by (λ desk. desk.valid_share) all
  pub refused_shares : refused + sum_by (λ desk. desk.refused_share) left ≡ sum_by (λ desk. desk.refused_share) all
  pub valid_on_slips : sum_by valid_slips (map slips_in slips) ≡ valid
  pub refused_on_slips : sum_by refused_slips (map slips_in slips) ≡ refused
  pub in_order : map slips_in slips ++ map (λ desk. desk.slips) left ≡ map (λ desk. desk.slips) all

pub none_merged : {X : Type 0} {slips_in : X → List Slip} {all : List DeskState} → Merged slips_in all all 0 0 []
none_merged = record { valid_shares = omega arith; refused_shares = omega arith; valid_on_slips = refl; refused_on_slips = refl; in_order = refl }

pub merge_more : {X : Type 0} {slips_in : X → List Slip} {all left rest : List DeskState} {desk : DeskState} {valid refused more_valid more_refused : ℕ} {slips more : List X} (x : X)
    → left ≡ desk ∷ rest → more_valid ≡ valid + desk.valid_share → more_refused ≡ refused + desk.refused_share → more ≡ slips ++ x ∷ [] → slips_in x ≡ desk.slips
    → desk.valid_share ≡ valid_slips desk.slips → desk.refused_share ≡ refused_slips desk.slips → Merged slips_in all left valid refused slips → Merged slips_in all rest more_valid more_refused more
merge_more {X} {slips_in} {all} {left} {rest} {desk} {valid} {refused} {more_valid} {more_refused} {slips} {more} x is valid_is refused_is pushed its valid_slips_are refused_slips_are h =
    let items = ap (map slips_in) pushed ∙ map_push slips_in slips x ∙ ap (λ y. map slips_in slips ++ y ∷ []) its in
    let rest_slips = map (λ (d : DeskState). d.slips) rest in
    record {
      valid_shares = omega (arith, ap (sum_by (λ (d : DeskState). d.valid_share)) is, sum_by-cons (λ (d : DeskState). d.valid_share) desk rest);
      refused_shares = omega (arith, ap (sum_by (λ (d : DeskState). d.refused_share)) is, sum_by-cons (λ (d : DeskState). d.refused_share) desk rest);
      valid_on_slips = omega (arith, ap (sum_by valid_slips) items, sum_by_push valid_slips (map slips_in slips) desk.slips);
      refused_on_slips = omega (arith, ap (sum_by refused_slips) items, sum_by_push refused_slips (map slips_in slips) desk.slips);
      in_order = ap (λ ys. ys ++ rest_slips) items ∙ append_assoc (map slips_in slips) (desk.slips ∷ []) rest_slips
          ∙ ap (λ ds. map slips_in slips ++ map (λ (d : DeskState). d.slips) ds) (sym is) ∙ h.in_order;
    }
