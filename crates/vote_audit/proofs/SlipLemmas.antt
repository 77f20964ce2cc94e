-- The slips of the desks, compared step by step with those of their casts.
use Rattle.std.proofs.Common.{◌≡◌, ◌≢◌, ℕ, ◌+◌, ◌-◌, ◌<◌, ◌≤◌, zero, suc, cond, Bool, true, false, List, [], ◌∷◌, ◌++◌, Option, Some, None, length, set, take, refl, sym, ap, ◌∙◌, subst, ⊎_elim, arith}
use Rattle.std.specs.Prelude.{slice_get}
use Rattle.std.specs.List.{cons_option}
use Rattle.std.proofs.lemmas.Bool.{cases_eq, eq-eqb, ne_eqb}
use Rattle.std.proofs.Math.Seq.{take-suc}
use Rattle.std.proofs.lemmas.List.{append-nil, take-append-le, take_all, length-append, get_or-set_other}
use Rattle.std.proofs.lemmas.Grind.{get_or-set_at}
use Rattle.std.proofs.lemmas.Option.{slice_get_within, get_or_from_slice_get}
use Rattle.vote_poll.specs.declared.Reading.{Reading}
use Rattle.vote_desks_box.specs.declared.Slip.{Slip}
use Rattle.vote_audit.specs.declared.slips.Compared.{Compared}
use Rattle.vote_steps.specs.declared.Reply.{Reply}
use Rattle.vote_steps.specs.declared.Step.{Step}
use Rattle.vote_steps.specs.declared.Step.TheVariants.{Cast, Close}
use Rattle.vote_desks_box.specs.Slips.{slip_of, slips_from}
use Rattle.vote_desks_box.specs.Desks.{slips_at}
use Rattle.vote_audit.specs.Comparing.{AgreesWith, AgreeWith, compared_at}

-- lists

cons_option-append : (o : Option Slip) (xs ys : List Slip) → cons_option o (xs ++ ys) ≡ cons_option o xs ++ ys
cons_option-append None xs ys = refl
cons_option-append (Some x) xs ys = refl

get-append_left : {X : Type 0} (xs ys : List X) (k : ℕ) → k < length xs → slice_get (xs ++ ys) k ≡ slice_get xs k
get-append_left [] ys k h = absurd (omega arith)
get-append_left (x ∷ xs) ys zero h = refl
get-append_left (x ∷ xs) ys (suc k) h = get-append_left xs ys k (omega arith)

get-append_seam : {X : Type 0} (xs : List X) (y : X) (n : ℕ) → length xs ≡ n → slice_get (xs ++ y ∷ []) n ≡ Some y
get-append_seam [] y zero h = refl
get-append_seam [] y (suc n) h = absurd (omega arith)
get-append_seam (x ∷ xs) y zero h = absurd (omega arith)
get-append_seam (x ∷ xs) y (suc n) h = get-append_seam xs y n (omega arith)

take-get : {X : Type 0} (xs : List X) (n : ℕ) (x : X) → slice_get xs n ≡ Some x → take (n + 1) xs ≡ take n xs ++ x ∷ []
take-get xs n x h =
    let next : n + 1 ≡ suc n = omega arith in
    ap (λ k. take k xs) next ∙ take-suc xs n x (slice_get_within xs n x h) ∙ ap (λ y. take n xs ++ y ∷ []) (get_or_from_slice_get xs n x x h)

-- the slips after one more step

slips_from-push : (n : ℕ) (before : List Step) (step : Step) (desk : ℕ)
    → slips_from n (before ++ step ∷ []) desk ≡ slips_from n before desk ++ cons_option (slip_of desk (n + length before) step) []
slips_from-push n [] step desk = let at : n + 0 ≡ n = omega arith in ap (λ m. cons_option (slip_of desk m step) []) (sym at)
slips_from-push n (x ∷ xs) step desk =
    let at : n + 1 + length xs ≡ n + suc (length xs) = omega arith in
    ap (cons_option (slip_of desk n x)) (slips_from-push (n + 1) xs step desk ∙ ap (λ m. slips_from (n + 1) xs desk ++ cons_option (slip_of desk m step) []) at)
    ∙ cons_option-append (slip_of desk n x) (slips_from (n + 1) xs desk) (cons_option (slip_of desk (n + suc (length xs)) step) [])

pub slips-push : (before : List Step) (step : Step) (desk number : ℕ) → length before + 1 ≡ number
    → slips_from 1 (before ++ step ∷ []) desk ≡ slips_from 1 before desk ++ cons_option (slip_of desk number step) []
slips-push before step desk number is =
    let at : 1 + length before ≡ number = omega (arith, is) in
    slips_from-push 1 before step desk ∙ ap (λ m. slips_from 1 before desk ++ cons_option (slip_of desk m step) []) at

-- one more slip of the casts, compared with those of the desk

pub still_parted : (slips casts : List Slip) (slip : Slip) (at : Compared) → at.differs ≡ true → AgreesWith slips casts at → AgreesWith slips (casts ++ slip ∷ []) at
still_parted slips casts slip at differs h =
    let inside = (h.part differs).0 in
    record {
      within = h.within;
      so_far = h.so_far ∙ sym (take-append-le at.alike casts (slip ∷ []) (omega arith));
      all = λ not. absurd (let f : true ≡ false = sym differs ∙ not in cc);
      part = λ _. (omega (arith, inside, length-append casts (slip ∷ [])), λ e. (h.part differs).1 (e ∙ get-append_left casts (slip ∷ []) at.alike inside));
    }

pub one_more_alike : (slips casts : List Slip) (slip : Slip) (at : Compared) → at.differs ≡ false → slice_get slips at.alike ≡ Some slip → AgreesWith slips casts at
    → AgreesWith slips (casts ++ slip ∷ []) (record { alike = at.alike + 1; differs = false })
one_more_alike slips casts slip at alike here h =
    let n = at.alike in
    let inside = slice_get_within slips n slip here in
    let len = h.all alike in
    let longer = length-append casts (slip ∷ []) in
    record {
      within = omega (arith, inside);
      so_far = take-get slips n slip here ∙ ap (λ xs. xs ++ slip ∷ []) (h.so_far ∙ take_all n casts (omega arith)) ∙ sym (take_all (n + 1) (casts ++ slip ∷ []) (omega arith));
      all = λ _. omega (arith, longer, len);
      part = λ differs. absurd (let f : false ≡ true = differs in cc);
    }

pub parts_here : (slips casts : List Slip) (slip : Slip) (at : Compared) → at.differs ≡ false → slice_get slips at.alike ≢ Some slip → AgreesWith slips casts at
    → AgreesWith slips (casts ++ slip ∷ []) (record { alike = at.alike; differs = true })
parts_here slips casts slip at alike other h =
    let n = at.alike in
    let len = h.all alike in
    let longer = length-append casts (slip ∷ []) in
    record {
      within = h.within;
      so_far = h.so_far ∙ sym (take-append-le n casts (slip ∷ []) (omega arith));
      all = λ not. absurd (let f : true ≡ false = not in cc);
      part = λ _. (omega (arith, longer, len), λ e. other (e ∙ get-append_seam casts slip n len));
    }

-- one more step, compared with the slips of all desks

pub close_compared : (slips_by_desk : List (List Slip)) (before : List Step) (compared : List Compared) → AgreeWith slips_by_desk before compared → AgreeWith slips_by_desk (before ++ Close ∷ []) compared
close_compared slips_by_desk before compared h desk low high =
    subst (λ xs. AgreesWith (slips_at slips_by_desk desk) xs (compared_at compared desk)) (sym (slips-push before Close desk (length before + 1) refl ∙ append-nil (slips_from 1 before desk))) (h desk low high)

pub cast_compared : (slips_by_desk : List (List Slip)) (before : List Step) (compared : List Compared) (slips : List Slip) (was at : Compared) (place desk stamp number : ℕ) (reading : Reading) (reply : Reply)
    → 1 ≤ desk → desk ≤ length compared → length before + 1 ≡ number → slips ≡ slips_at slips_by_desk desk → was ≡ compared_at compared desk → place ≡ desk - 1
    → ((casts : List Slip) → AgreesWith slips casts was → AgreesWith slips (casts ++ (let slip : Slip = record { number = number; stamp = stamp; reply = reply } in slip) ∷ []) at)
    → AgreeWith slips_by_desk before compared → AgreeWith slips_by_desk (before ++ Cast desk stamp reading reply ∷ []) (set compared place at)
cast_compared slips_by_desk before compared slips was at place desk stamp number reading reply first last is its_slips was_so here one h other low high =
    let slip : Slip = record { number = number; stamp = stamp; reply = reply } in
    let step : Step = Cast desk stamp reading reply in
    let new : List Compared = set compared place at in
    let none : Compared = record { alike = 0; differs = false } in
    let given : Bool → List Slip = λ t. slips_from 1 before other ++ cons_option (cond {A = Option Slip} t (Some slip) None) [] in
    ⊎_elim
    (λ (same : desk ≡ other).
    let noted : slips_from 1 before desk ++ slip ∷ [] ≡ slips_from 1 (before ++ step ∷ []) other =
    ap (λ d. slips_from 1 before d ++ slip ∷ []) same ∙ sym (slips-push before step other number is ∙ ap given (eq-eqb desk other same)) in
    let new_at : at ≡ compared_at new other = sym (get_or-set_at compared place (other - 1) at none (omega (arith, here, same)) (omega (arith, here, last, first))) in
    let so_far : AgreesWith slips (slips_from 1 before desk) was =
    subst (λ c. AgreesWith slips (slips_from 1 before desk) c) (sym was_so) (subst (λ s. AgreesWith s (slips_from 1 before desk) (compared_at compared desk)) (sym its_slips) (h desk first (omega (arith, high, same)))) in
    subst (λ c. AgreesWith (slips_at slips_by_desk other) (slips_from 1 (before ++ step ∷ []) other) c) new_at
    (subst (λ xs. AgreesWith (slips_at slips_by_desk other) xs at) noted
    (subst (λ s. AgreesWith s (slips_from 1 before desk ++ slip ∷ []) at) (its_slips ∙ ap (slips_at slips_by_desk) same) (one (slips_from 1 before desk) so_far))))
    (λ (apart : desk ≡ other → ⊥).
    let none_noted : slips_from 1 before other ≡ slips_from 1 (before ++ step ∷ []) other = sym (slips-push before step other number is ∙ ap given (ne_eqb desk other apart) ∙ append-nil (slips_from 1 before other)) in
    let same_at : compared_at compared other ≡ compared_at new other = sym (get_or-set_other compared place (other - 1) at none (λ e. apart (omega (arith, e, here, first, low)))) in
    subst (λ c. AgreesWith (slips_at slips_by_desk other) (slips_from 1 (before ++ step ∷ []) other) c) same_at
    (subst (λ xs. AgreesWith (slips_at slips_by_desk other) xs (compared_at compared other)) none_noted (h other low high)))
    (cases_eq desk other)
