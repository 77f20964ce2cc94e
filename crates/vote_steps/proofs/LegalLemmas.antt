-- Facts about every legal history, proved step by step.
use Rattle.std.proofs.Common.{◌≡◌, ℕ, ◌+◌, ◌<◌, ◌≤◌, true, false, ◌||◌, cond, eqb, List, [], ◌∷◌, ◌++◌, ⊎_elim, refl, sym, ap, ◌∙◌, subst, arith, length, length-append, append-nil, append_assoc}
use Rattle.std.proofs.lemmas.Cmp.{nat_eq_equiv}
use Rattle.std.specs.List.{IsDistinct, list_any, count_by}
use Rattle.std.proofs.Math.Bool.{or-false}
use Rattle.std.proofs.lemmas.Bool.{eqb-true, cases_Bool, or_cases}
use Rattle.std.proofs.lemmas.List.Elements.{filter_map-append}
use Rattle.std.proofs.lemmas.List.Folds.{list_any-append}
use Rattle.std.proofs.lemmas.Map.Keys.{IsDistinct-push}
use Rattle.std.proofs.lemmas.Map.Steps.{length-le_from_distinct_below}
use Rattle.vote_poll.specs.declared.Reading.{Reading}
use Rattle.vote_count.proofs.Counts.{count-cons, one_at_most}
use Rattle.vote_steps.specs.declared.step.Reply.{Reply}
use Rattle.vote_steps.specs.declared.step.Step.{Step}
use Rattle.vote_steps.specs.declared.step.Step.TheVariants.{Cast, Close}
use Rattle.vote_steps.specs.History.{is_cast, is_close, is_closed, is_used, stamp_of, stamps}
use Rattle.vote_steps.specs.Boxes.{BoxState, MayFollow, IsLegal}
use Rattle.vote_steps.specs.Laws.{StampsAreDistinct, EachStampIsUsed, ClosesOnce, HasRoomForAll}
use Rattle.vote_steps.proofs.HistoryLemmas.{is_closed-append, count_by-push}

-- if a fact holds of no steps, and still holds after each step that may follow, it holds of a legal history
by_steps_from : (b : BoxState) (P : List Step → Type 0) → ((before : List Step) (step : Step) → MayFollow b before step → P before → P (before ++ step ∷ []))
    → IsLegal b → (before rest : List Step) → b.steps ≡ before ++ rest → P before → P b.steps
by_steps_from b P more legal before [] e p = subst P (sym (e ∙ append-nil before)) p
by_steps_from b P more legal before (step ∷ rest) e p =
    by_steps_from b P more legal (before ++ step ∷ []) rest (e ∙ sym (append_assoc before (step ∷ []) rest)) (more before step (legal before rest step e) p)

-- a number is in a list by either form of the test
any_flip : (xs : List ℕ) (n : ℕ) → list_any (eqb n) xs ≡ list_any (λ used. eqb used n) xs
any_flip [] n = refl
any_flip (x ∷ xs) n = ap (λ t. t || list_any (eqb n) xs) (nat_eq_equiv.symm n x) ∙ ap (λ t. eqb x n || t) (any_flip xs n)

pub record IsTidy (limit : ℕ) (steps : List Step) : Type 0 where
  pub distinct : IsDistinct eqb (stamps steps)
  pub within : (n : ℕ) → list_any (eqb n) (stamps steps) ≡ true → (1 ≤ n) × (n ≤ limit)
  pub closes : count_by is_close steps ≡ cond (is_closed steps) 1 0

stamps-cast : (steps : List Step) (d n : ℕ) (r : Reading) (p : Reply) → stamps (steps ++ Cast d n r p ∷ []) ≡ stamps steps ++ n ∷ []
stamps-cast steps d n r p = filter_map-append stamp_of steps (Cast d n r p ∷ [])

stamps-close : (steps : List Step) → stamps (steps ++ Close ∷ []) ≡ stamps steps
stamps-close steps = filter_map-append stamp_of steps (Close ∷ []) ∙ append-nil (stamps steps)

within_more : (limit : ℕ) (xs : List ℕ) (n : ℕ) → (1 ≤ n) × (n ≤ limit) → ((m : ℕ) → list_any (eqb m) xs ≡ true → (1 ≤ m) × (m ≤ limit))
    → (m : ℕ) → list_any (eqb m) (xs ++ n ∷ []) ≡ true → (1 ≤ m) × (m ≤ limit)
within_more limit xs n fits old m h =
    ⊎_elim (λ (t : list_any (eqb m) xs ≡ true). old m t)
    (λ (t : (eqb m n || false) ≡ true). let e : m ≡ n = eqb-true m n (sym (or-false (eqb m n)) ∙ t) in let P : ℕ → Type 0 = λ k. (1 ≤ k) × (k ≤ limit) in subst P (sym e) fits)
    (or_cases (list_any (eqb m) xs) (eqb m n || false) (sym (list_any-append (eqb m) xs (n ∷ [])) ∙ h))

tidy_more : (b : BoxState) (before : List Step) (step : Step) → MayFollow b before step → IsTidy b.limit before → IsTidy b.limit (before ++ step ∷ [])
tidy_more b before Close may t =
    let P : List ℕ → Type 0 = λ xs. IsDistinct eqb xs in
    let Q : List ℕ → Type 0 = λ xs. (n : ℕ) → list_any (eqb n) xs ≡ true → (1 ≤ n) × (n ≤ b.limit) in
    record {
      distinct = subst P (sym (stamps-close before)) t.distinct;
      within = subst Q (sym (stamps-close before)) t.within;
      closes = omega (arith, count_by-push is_close before Close, t.closes, ap (λ u. cond {A = ℕ} u 1 0) may, ap (λ u. cond {A = ℕ} u 1 0) (is_closed-append before Close ∙ ap (λ u. u || true) may));
    }
tidy_more b before (Cast d n r p) may t =
    let P : List ℕ → Type 0 = λ xs. IsDistinct eqb xs in
    let Q : List ℕ → Type 0 = λ xs. (m : ℕ) → list_any (eqb m) xs ≡ true → (1 ≤ m) × (m ≤ b.limit) in
    record {
      distinct = subst P (sym (stamps-cast before d n r p)) (IsDistinct-push nat_eq_equiv (stamps before) n t.distinct (any_flip (stamps before) n ∙ may.stamp_new));
      within = subst Q (sym (stamps-cast before d n r p)) (within_more b.limit (stamps before) n may.stamp_fits t.within);
      closes = omega (arith, count_by-push is_close before (Cast d n r p), t.closes, ap (λ u. cond {A = ℕ} u 1 0) (is_closed-append before (Cast d n r p) ∙ or-false (is_closed before)));
    }

pub tidy : (b : BoxState) → IsLegal b → IsTidy b.limit b.steps
unfolding IsDistinct
tidy b legal = by_steps_from b (IsTidy b.limit) (tidy_more b) legal [] b.steps refl (record { distinct = tt; within = λ n h. cc; closes = refl })

-- each cast has a stamp, and each other step is a close
length-stamps : (steps : List Step) → length (stamps steps) ≡ count_by is_cast steps
length-stamps [] = refl
length-stamps (Close ∷ steps) = omega (arith, length-stamps steps, count-cons is_cast Close steps)
length-stamps (Cast d n r p ∷ steps) = omega (arith, length-stamps steps, count-cons is_cast (Cast d n r p) steps)

casts-closes : (steps : List Step) → count_by is_cast steps + count_by is_close steps ≡ length steps
casts-closes [] = refl
casts-closes (Close ∷ steps) = omega (arith, casts-closes steps, count-cons is_cast Close steps, count-cons is_close Close steps)
casts-closes (Cast d n r p ∷ steps) = omega (arith, casts-closes steps, count-cons is_cast (Cast d n r p) steps, count-cons is_close (Cast d n r p) steps)

-- with 0, which is not a stamp, and with a stamp that is not used, there are still no more numbers than from 0 to the limit
with_zero : (b : BoxState) → IsTidy b.limit b.steps → IsDistinct eqb (stamps b.steps ++ 0 ∷ [])
with_zero b t = IsDistinct-push nat_eq_equiv (stamps b.steps) 0 t.distinct (⊎_elim (λ (h : list_any (eqb 0) (stamps b.steps) ≡ true). let low = (t.within 0 h).0 in absurd (omega (arith, low))) (λ (h : list_any (eqb 0) (stamps b.steps) ≡ false). h) (cases_Bool (list_any (eqb 0) (stamps b.steps))))

zero_within : (limit : ℕ) (xs : List ℕ) → ((n : ℕ) → list_any (eqb n) xs ≡ true → n ≤ limit) → (n : ℕ) → list_any (eqb n) (xs ++ 0 ∷ []) ≡ true → n < limit + 1
zero_within limit xs old n h =
    ⊎_elim (λ (t : list_any (eqb n) xs ≡ true). let le = old n t in omega (arith, le)) (λ (t : (eqb n 0 || false) ≡ true). let e = eqb-true n 0 (sym (or-false (eqb n 0)) ∙ t) in omega (arith, e))
    (or_cases (list_any (eqb n) xs) (eqb n 0 || false) (sym (list_any-append (eqb n) xs (0 ∷ [])) ∙ h))

pub casts_within : (b : BoxState) → IsLegal b → count_by is_cast b.steps ≤ b.limit
casts_within b legal =
    let t = tidy b legal in
    let xs : List ℕ = stamps b.steps in
    let len = length-le_from_distinct_below (xs ++ 0 ∷ []) (b.limit + 1) (with_zero b t) (zero_within b.limit xs (λ n h. (t.within n h).1)) in
    omega (arith, len, length-append xs (0 ∷ []), length-stamps b.steps)

-- if a stamp is not used, there are fewer casts than stamps
pub casts_below : (b : BoxState) (n : ℕ) → IsLegal b → 1 ≤ n → n ≤ b.limit → is_used b.steps n ≡ false → count_by is_cast b.steps < b.limit
casts_below b n legal low high unused =
    let t = tidy b legal in
    let xs : List ℕ = stamps b.steps in
    let more : List ℕ = xs ++ n ∷ [] in
    let distinct = IsDistinct-push nat_eq_equiv xs n t.distinct (any_flip xs n ∙ unused) in
    let within = within_more b.limit xs n (low, high) t.within in
    let none : list_any (eqb 0) more ≡ false = ⊎_elim (λ (h : list_any (eqb 0) more ≡ true). let least = (within 0 h).0 in absurd (omega (arith, least))) (λ (h : list_any (eqb 0) more ≡ false). h) (cases_Bool (list_any (eqb 0) more)) in
    let len = length-le_from_distinct_below (more ++ 0 ∷ []) (b.limit + 1) (IsDistinct-push nat_eq_equiv more 0 distinct none) (zero_within b.limit more (λ m h. (within m h).1)) in
    omega (arith, len, length-append more (0 ∷ []), length-append xs (n ∷ []), length-stamps b.steps)

pub stamps_are_distinct_lem : StampsAreDistinct
stamps_are_distinct_lem b legal = (tidy b legal).distinct

pub each_stamp_is_used_lem : EachStampIsUsed
each_stamp_is_used_lem b legal full n low high =
    ⊎_elim (λ (t : is_used b.steps n ≡ true). t) (λ (t : is_used b.steps n ≡ false). let less = casts_below b n legal low high t in absurd (omega (arith, less, full))) (cases_Bool (is_used b.steps n))

pub closes_once_lem : ClosesOnce
closes_once_lem b legal = let t = tidy b legal in omega (arith, t.closes, one_at_most (is_closed b.steps))

pub has_room_for_all_lem : HasRoomForAll
has_room_for_all_lem b legal = omega (arith, casts_within b legal, closes_once_lem b legal, casts-closes b.steps)

-- the number of steps, in an open box and in any box
pub length-steps : (b : BoxState) → IsLegal b → length b.steps ≡ count_by is_cast b.steps + cond (is_closed b.steps) 1 0
length-steps b legal = let t = tidy b legal in omega (arith, t.closes, casts-closes b.steps)
