-- How many slips all desks have.
use Rattle.std.proofs.Common.{◌≡◌, ℕ, ◌+◌, not, cond, List, [], ◌∷◌, length, sum_by, refl, arith}
use Rattle.std.proofs.lemmas.Bool.Decides.{nat_tests}
use Rattle.std.proofs.lemmas.List.Sums.{sum_by-cons}
use Rattle.vote_desks_box.specs.declared.slip.Slip.{Slip}
use Rattle.vote_desks_box.specs.Slips.{valid_slips, refused_slips}
use Rattle.vote_steps.specs.History.{is_valid}

-- each slip is valid or refused
either_slip : (slips : List Slip) → valid_slips slips + refused_slips slips ≡ length slips
either_slip [] = refl
either_slip (slip ∷ slips) =
    let one : cond {A = ℕ} (is_valid slip.reply) 1 0 + cond {A = ℕ} (not (is_valid slip.reply)) 1 0 ≡ 1 = grind (arith, nat_tests) in
    omega (arith, sum_by-cons (λ (s : Slip). cond {A = ℕ} (is_valid s.reply) 1 0) slip slips, sum_by-cons (λ (s : Slip). cond {A = ℕ} (not (is_valid s.reply)) 1 0) slip slips, either_slip slips)

pub all_slips : (slips_by_desk : List (List Slip)) → sum_by valid_slips slips_by_desk + sum_by refused_slips slips_by_desk ≡ sum_by length slips_by_desk
all_slips [] = refl
all_slips (slips ∷ slips_by_desk) =
    omega (arith, sum_by-cons valid_slips slips slips_by_desk, sum_by-cons refused_slips slips slips_by_desk, sum_by-cons {X = List Slip} length slips slips_by_desk, either_slip slips, all_slips slips_by_desk)
