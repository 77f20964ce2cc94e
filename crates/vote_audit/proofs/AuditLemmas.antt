-- An audit's answer is true, and no other answer is.
use Rattle.std.proofs.Common.{◌≡◌, ℕ, ◌+◌, ◌<◌, ◌≤◌, zero, suc, true, false, not, cond, ltb, List, [], ◌∷◌, ◌++◌, ◌↔◌, Option, Some, None, Result, Ok, Err, IsOk, length, get_or, take, drop, refl, sym, ap, ◌∙◌, subst, ⊎_elim, arith}
use Rattle.std.specs.Prelude.{slice_get, position, MatchResult}
use Rattle.std.specs.List.{All, prefix_len}
use Rattle.std.proofs.lemmas.Bool.{cases_lt, cases_Bool, ltb-false}
use Rattle.std.proofs.Math.Seq.{get_or-append_seam}
use Rattle.std.proofs.lemmas.List.{get_or-take, get_or_append_left, length-append, length_push, length-take-le}
use Rattle.std.proofs.lemmas.List.Quantifiers.{position-Some}
use Rattle.vote_poll.specs.PollContent.{PollContent}
use Rattle.vote_poll.specs.Readings.{readings}
use Rattle.vote_desks_box.specs.declared.Slip.{Slip}
use Rattle.vote_audit.specs.declared.fault.AuditFault.{AuditFault}
use Rattle.vote_audit.specs.declared.fault.AuditFault.TheVariants.{SizeDiffers, CountDiffers, StepDiffers, SlipDiffers, ClosedEarly}
use Rattle.vote_steps.specs.declared.Step.{Step}
use Rattle.vote_steps.specs.declared.Step.TheVariants.{Cast, Close}
use Rattle.vote_steps.specs.History.{is_close, is_closed, before_close}
use Rattle.vote_steps.specs.Boxes.{BoxState, IsLegal, MayFollow}
use Rattle.vote_steps.specs.Recasts.{HasOwnReading}
use Rattle.vote_steps.proofs.HistoryLemmas.{casts_before}
use Rattle.vote_desks_box.specs.Slips.{slips_from}
use Rattle.vote_desks_box.specs.Desks.{slips_at}
use Rattle.vote_audit.specs.Comparing.{HasDesk, HasEnvelope}
use Rattle.vote_audit.specs.Audit.{HasOwnReadings, HasSlips, IsAudited, DiffersFirst, PartAt, SlipDiffersFirst, IsEarlyClose, IsFaultOf}

-- lists

split_at : {X : Type 0} (xs : List X) (k : ℕ) (d : X) → k < length xs → xs ≡ take k xs ++ get_or xs k d ∷ drop (suc k) xs
split_at [] k d h = absurd (omega arith)
split_at (x ∷ xs) zero d h = refl
split_at (x ∷ xs) (suc k) d h = ap (λ ys. x ∷ ys) (split_at xs k d (omega arith))

slice_get-take : {X : Type 0} (n k : ℕ) (xs : List X) → k < n → slice_get (take n xs) k ≡ slice_get xs k
slice_get-take zero k xs h = absurd (omega arith)
slice_get-take (suc n) k [] h = refl
slice_get-take (suc n) zero (x ∷ xs) h = refl
slice_get-take (suc n) (suc k) (x ∷ xs) h = slice_get-take n k xs (omega arith)

-- in a legal history each cast is at a desk, and its envelope is within the limit

may_have_desk : (b : BoxState) (before : List Step) (step : Step) → MayFollow b before step → HasDesk step
may_have_desk b before Close h = tt
may_have_desk b before (Cast d n r p) h = h.desk_fits

may_have_envelope : (b : BoxState) (before : List Step) (step : Step) → MayFollow b before step → HasEnvelope b.limit step
may_have_envelope b before Close h = tt
may_have_envelope b before (Cast d n r p) h = h.stamp_fits

pub legal_desks : (b : BoxState) → IsLegal b → All HasDesk b.steps
legal_desks b h = λ k d lt. may_have_desk b (take k b.steps) (get_or b.steps k d) (h (take k b.steps) (drop (suc k) b.steps) (get_or b.steps k d) (split_at b.steps k d lt))

pub legal_envelopes : (b : BoxState) → IsLegal b → All (HasEnvelope b.limit) b.steps
legal_envelopes b h = λ k d lt. may_have_envelope b (take k b.steps) (get_or b.steps k d) (h (take k b.steps) (drop (suc k) b.steps) (get_or b.steps k d) (split_at b.steps k d lt))

-- the first cast whose reading is not that of its line

pub differs_first : (poll : PollContent) (lines : List (List ℕ)) (steps : List Step) (place : ℕ) (step : Step) → place < length steps → step ≡ get_or steps place step
    → ((k : ℕ) (d : Step) → k < place → HasOwnReading (readings poll lines) (get_or steps k d))
    → ¬ HasOwnReading (readings poll lines) step → DiffersFirst poll lines steps (place + 1)
differs_first poll lines steps place step inside here so_far differs =
    let P : Step → Type 0 = λ s. HasOwnReading (readings poll lines) s in
    let len : length (take place steps) ≡ place = length-take-le place steps (omega arith) in
    record {
      before = take place steps;
      step = step;
      after = drop (suc place) steps;
      here = split_at steps place step inside ∙ ap (λ s. take place steps ++ s ∷ drop (suc place) steps) (sym here);
      number_is = omega (arith, len);
      so_far = λ k e lt. subst P (sym (get_or-take place steps k e (omega (arith, len, lt)))) (so_far k e (omega (arith, len, lt)));
      differs = differs;
    }

own_before : (poll : PollContent) (lines : List (List ℕ)) (steps : List Step) (n : ℕ) (h : DiffersFirst poll lines steps n) (k : ℕ) (d : Step) → k + 1 < n → HasOwnReading (readings poll lines) (get_or steps k d)
own_before poll lines steps n h k d lt =
    let P : Step → Type 0 = λ s. HasOwnReading (readings poll lines) s in
    let is = h.number_is in
    let inside : k < length h.before = omega arith in
    subst P (sym (ap (λ xs. get_or xs k d) h.here ∙ get_or_append_left h.before (h.step ∷ h.after) d k inside)) (h.so_far k d inside)

other_there : (poll : PollContent) (lines : List (List ℕ)) (steps : List Step) (n : ℕ) (h : DiffersFirst poll lines steps n) (k : ℕ) (d : Step) → k + 1 ≡ n → HasOwnReading (readings poll lines) (get_or steps k d) → ⊥
other_there poll lines steps n h k d at own =
    let P : Step → Type 0 = λ s. HasOwnReading (readings poll lines) s in
    let is = h.number_is in
    let same : k ≡ length h.before = omega arith in
    h.differs (subst P (ap (λ i. get_or steps i d) same ∙ ap (λ xs. get_or xs (length h.before) d) h.here ∙ get_or-append_seam h.before h.step h.after d) own)

one_step : (poll : PollContent) (lines : List (List ℕ)) (steps : List Step) (n m : ℕ) → DiffersFirst poll lines steps n → DiffersFirst poll lines steps m → n ≡ m
one_step poll lines steps n m h g =
    let hn = h.number_is in
    let gm = g.number_is in
    ⊎_elim
    (λ (lt : n < m). absurd (other_there poll lines steps n h (length h.before) h.step (omega arith) (own_before poll lines steps m g (length h.before) h.step (omega arith))))
    (λ (ge : m ≤ n).
    ⊎_elim
    (λ (lt : m < n). absurd (other_there poll lines steps m g (length g.before) g.step (omega arith) (own_before poll lines steps n h (length g.before) g.step (omega arith))))
    (λ (le : n ≤ m). omega arith)
    (cases_lt m n))
    (cases_lt n m)

no_step : (poll : PollContent) (lines : List (List ℕ)) (steps : List Step) (n : ℕ) → DiffersFirst poll lines steps n → HasOwnReadings poll lines steps → ⊥
no_step poll lines steps n h own =
    let is = h.number_is in
    let inside : length h.before < length steps = omega (arith, length-append h.before (h.step ∷ h.after), ap length h.here) in
    other_there poll lines steps n h (length h.before) h.step (omega arith) (own (length h.before) h.step inside)

-- the first slip that differs

one_place : (slips other : List Slip) (p q : ℕ) → PartAt slips other p → PartAt slips other q → p ≡ q
one_place slips other p q h g =
    let hp = h.place_is in
    let gq = g.place_is in
    ⊎_elim
    (λ (lt : h.before < g.before).
    absurd (h.differ (sym (slice_get-take g.before h.before slips lt) ∙ ap (λ xs. slice_get xs h.before) g.so_far ∙ slice_get-take g.before h.before other lt)))
    (λ (ge : g.before ≤ h.before).
    ⊎_elim
    (λ (lt : g.before < h.before).
    absurd (g.differ (sym (slice_get-take h.before g.before slips lt) ∙ ap (λ xs. slice_get xs g.before) h.so_far ∙ slice_get-take h.before g.before other lt)))
    (λ (le : h.before ≤ g.before). omega arith)
    (cases_lt g.before h.before))
    (cases_lt h.before g.before)

no_part : (slips other : List Slip) (p : ℕ) → PartAt slips other p → slips ≡ other → ⊥
no_part slips other p h same = h.differ (ap (λ xs. slice_get xs h.before) same)

one_desk : (steps : List Step) (slips_by_desk : List (List Slip)) (d p e q : ℕ) → SlipDiffersFirst steps slips_by_desk d p → SlipDiffersFirst steps slips_by_desk e q → d ≡ e
one_desk steps slips_by_desk d p e q h g =
    ⊎_elim
    (λ (lt : d < e). absurd (no_part (slips_at slips_by_desk d) (slips_from 1 steps d) p h.part (g.others d h.is_desk.0 lt)))
    (λ (ge : e ≤ d).
    ⊎_elim
    (λ (lt : e < d). absurd (no_part (slips_at slips_by_desk e) (slips_from 1 steps e) q g.part (h.others e g.is_desk.0 lt)))
    (λ (le : d ≤ e). omega arith)
    (cases_lt e d))
    (cases_lt d e)

one_slip : (steps : List Step) (slips_by_desk : List (List Slip)) (d p e q : ℕ) → SlipDiffersFirst steps slips_by_desk d p → SlipDiffersFirst steps slips_by_desk e q → p ≡ q
one_slip steps slips_by_desk d p e q h g =
    let P : ℕ → Type 0 = λ k. PartAt (slips_at slips_by_desk k) (slips_from 1 steps k) p in
    one_place (slips_at slips_by_desk e) (slips_from 1 steps e) p q (subst P (one_desk steps slips_by_desk d p e q h g) h.part) g.part

no_slip : (steps : List Step) (slips_by_desk : List (List Slip)) (d p : ℕ) → SlipDiffersFirst steps slips_by_desk d p → HasSlips steps slips_by_desk → ⊥
no_slip steps slips_by_desk d p h all = no_part (slips_at slips_by_desk d) (slips_from 1 steps d) p h.part (all d h.is_desk.0 h.is_desk.1)

-- the close

before_at : (steps : List Step) (i : ℕ) (d : Step) → i < length steps → is_close (get_or steps i d) ≡ true → ((k : ℕ) → k < i → is_close (get_or steps k d) ≡ false) → length (before_close steps) ≡ i
before_at [] i d inside here before = absurd (omega arith)
before_at (Close ∷ steps) zero d inside here before = refl
before_at (Close ∷ steps) (suc i) d inside here before = let f : true ≡ false = before 0 (omega arith) in cc
before_at (Cast e n r p ∷ steps) zero d inside here before = cc
before_at (Cast e n r p ∷ steps) (suc i) d inside here before =
    omega (arith, before_at steps i d (omega arith) here (λ k lt. before (suc k) (omega (arith, lt))))

-- where the close is found
pub close_at : (steps : List Step) (i : ℕ) → position is_close steps ≡ Some i → (length (before_close steps) ≡ i) × (i < length steps)
close_at steps i e =
    let h = position-Some is_close steps i Close e in
    (before_at steps i Close h.0 h.1 h.2, h.0)

closed_last : (steps : List Step) → is_closed steps ≡ true → length steps ≤ length (before_close steps) + 1 → steps ≡ before_close steps ++ Close ∷ []
closed_last [] closed le = cc
closed_last (Close ∷ []) closed le = refl
closed_last (Close ∷ step ∷ steps) closed le = absurd (omega arith)
closed_last (Cast d n r p ∷ steps) closed le = ap (λ xs. Cast d n r p ∷ xs) (closed_last steps closed (omega arith))

-- a closed box whose close is the last step
pub closed_last_at : (steps : List Step) (i : ℕ) → is_closed steps ≡ true → position is_close steps ≡ Some i → length steps ≤ i + 1 → steps ≡ before_close steps ++ Close ∷ []
closed_last_at steps i closed e le = let h = close_at steps i e in closed_last steps closed (omega arith)

pub early_at : (steps : List Step) (i : ℕ) → position is_close steps ≡ Some i → i + 1 < length steps → IsEarlyClose steps (i + 1)
early_at steps i e more = let h = close_at steps i e in (omega arith, more)

not_early : (steps : List Step) (n : ℕ) → IsEarlyClose steps n → steps ≡ before_close steps ++ Close ∷ [] → ⊥
not_early steps n h last =
    let len = length_push (before_close steps) Close in
    let same = ap length last in
    let is = h.0 in
    let more = h.1 in
    absurd (omega arith)

-- no two answers are true

pub sound : (poll : PollContent) (lines : List (List ℕ)) (b : BoxState) (slips_by_desk : List (List Slip)) (f : AuditFault) → IsAudited poll lines b slips_by_desk → IsFaultOf poll lines b slips_by_desk f → ⊥
sound poll lines b slips_by_desk SizeDiffers a h = h a.holds.sizes
sound poll lines b slips_by_desk CountDiffers a h = h.1 (casts_before b.steps a.holds.closed_last ∙ a.holds.casts)
sound poll lines b slips_by_desk (StepDiffers n) a h = no_step poll lines b.steps n h.2 a.holds.own_readings
sound poll lines b slips_by_desk (SlipDiffers d p) a h = no_slip b.steps slips_by_desk d p h.3 a.slips_are
sound poll lines b slips_by_desk (ClosedEarly n) a h = not_early b.steps n h.4 a.holds.closed_last

one_fault : (poll : PollContent) (lines : List (List ℕ)) (b : BoxState) (slips_by_desk : List (List Slip)) (f g : AuditFault) → IsFaultOf poll lines b slips_by_desk f → IsFaultOf poll lines b slips_by_desk g → f ≡ g
one_fault poll lines b slips_by_desk SizeDiffers SizeDiffers h k = refl
one_fault poll lines b slips_by_desk SizeDiffers CountDiffers h k = absurd (h k.0)
one_fault poll lines b slips_by_desk SizeDiffers (StepDiffers m) h k = absurd (h k.0)
one_fault poll lines b slips_by_desk SizeDiffers (SlipDiffers e q) h k = absurd (h k.0)
one_fault poll lines b slips_by_desk SizeDiffers (ClosedEarly m) h k = absurd (h k.0)
one_fault poll lines b slips_by_desk CountDiffers SizeDiffers h k = absurd (k h.0)
one_fault poll lines b slips_by_desk CountDiffers CountDiffers h k = refl
one_fault poll lines b slips_by_desk CountDiffers (StepDiffers m) h k = absurd (h.1 k.1)
one_fault poll lines b slips_by_desk CountDiffers (SlipDiffers e q) h k = absurd (h.1 k.1)
one_fault poll lines b slips_by_desk CountDiffers (ClosedEarly m) h k = absurd (h.1 k.1)
one_fault poll lines b slips_by_desk (StepDiffers n) SizeDiffers h k = absurd (k h.0)
one_fault poll lines b slips_by_desk (StepDiffers n) CountDiffers h k = absurd (k.1 h.1)
one_fault poll lines b slips_by_desk (StepDiffers n) (StepDiffers m) h k = ap StepDiffers (one_step poll lines b.steps n m h.2 k.2)
one_fault poll lines b slips_by_desk (StepDiffers n) (SlipDiffers e q) h k = absurd (no_step poll lines b.steps n h.2 k.2)
one_fault poll lines b slips_by_desk (StepDiffers n) (ClosedEarly m) h k = absurd (no_step poll lines b.steps n h.2 k.2)
one_fault poll lines b slips_by_desk (SlipDiffers d p) SizeDiffers h k = absurd (k h.0)
one_fault poll lines b slips_by_desk (SlipDiffers d p) CountDiffers h k = absurd (k.1 h.1)
one_fault poll lines b slips_by_desk (SlipDiffers d p) (StepDiffers m) h k = absurd (no_step poll lines b.steps m k.2 h.2)
one_fault poll lines b slips_by_desk (SlipDiffers d p) (SlipDiffers e q) h k = ap (λ i. SlipDiffers i p) (one_desk b.steps slips_by_desk d p e q h.3 k.3) ∙ ap (SlipDiffers e) (one_slip b.steps slips_by_desk d p e q h.3 k.3)
one_fault poll lines b slips_by_desk (SlipDiffers d p) (ClosedEarly m) h k = absurd (no_slip b.steps slips_by_desk d p h.3 k.3)
one_fault poll lines b slips_by_desk (ClosedEarly n) SizeDiffers h k = absurd (k h.0)
one_fault poll lines b slips_by_desk (ClosedEarly n) CountDiffers h k = absurd (k.1 h.1)
one_fault poll lines b slips_by_desk (ClosedEarly n) (StepDiffers m) h k = absurd (no_step poll lines b.steps m k.2 h.2)
one_fault poll lines b slips_by_desk (ClosedEarly n) (SlipDiffers e q) h k = absurd (no_slip b.steps slips_by_desk e q k.3 h.3)
one_fault poll lines b slips_by_desk (ClosedEarly n) (ClosedEarly m) h k = ap ClosedEarly (h.4.0 ∙ sym k.4.0)

-- what each answer of an audit means
abbrev pub Found : PollContent → List (List ℕ) → BoxState → List (List Slip) → Result (Unit {0}) AuditFault → Type 0
Found poll lines b slips_by_desk answer = MatchResult answer (λ _. IsAudited poll lines b slips_by_desk) (IsFaultOf poll lines b slips_by_desk)

pub ok_exact : (poll : PollContent) (lines : List (List ℕ)) (b : BoxState) (slips_by_desk : List (List Slip)) (answer : Result (Unit {0}) AuditFault) → Found poll lines b slips_by_desk answer
    → IsOk answer ↔ IsAudited poll lines b slips_by_desk
ok_exact poll lines b slips_by_desk (Ok u) h = (λ _. h, λ _. refl)
ok_exact poll lines b slips_by_desk (Err f) h = (λ e. absurd (let e' : false ≡ true = e in cc), λ a. absurd (sound poll lines b slips_by_desk f a h))

pub fault_exact : (poll : PollContent) (lines : List (List ℕ)) (b : BoxState) (slips_by_desk : List (List Slip)) (answer : Result (Unit {0}) AuditFault) → Found poll lines b slips_by_desk answer
    → (fault : AuditFault) → (answer ≡ Err fault) ↔ IsFaultOf poll lines b slips_by_desk fault
fault_exact poll lines b slips_by_desk (Ok u) h fault = (λ e. absurd (cc), λ f. absurd (sound poll lines b slips_by_desk fault h f))
fault_exact poll lines b slips_by_desk (Err f) h fault =
    let P : AuditFault → Type 0 = λ g. IsFaultOf poll lines b slips_by_desk g in
    (λ e. subst P (let same : f ≡ fault = cc in same) h, λ g. ap Err (one_fault poll lines b slips_by_desk f fault h g))

-- in a closed history the close has an index
pub close_found : (steps : List Step) → position is_close steps ≡ None → is_closed steps ≡ true → ⊥
close_found steps none closed =
    let far : length steps ≤ prefix_len (λ s. not (is_close s)) steps = past (prefix_len (λ s. not (is_close s)) steps) (length steps) none in
    absurd (closed_within steps closed far)
  where
    past : (n m : ℕ) → cond {A = Option ℕ} (ltb n m) (Some n) None ≡ None → m ≤ n
    past n m e =
        ⊎_elim (λ (t : ltb n m ≡ true). absurd (let f : Some n ≡ None = sym (ap (λ u. cond {A = Option ℕ} u (Some n) None) t) ∙ e in cc)) (λ (t : ltb n m ≡ false). ltb-false n m t) (cases_Bool (ltb n m))

    closed_within : (steps : List Step) → is_closed steps ≡ true → length steps ≤ prefix_len (λ s. not (is_close s)) steps → ⊥
    closed_within [] closed far = cc
    closed_within (Close ∷ steps) closed far = absurd (omega arith)
    closed_within (Cast d n r p ∷ steps) closed far = closed_within steps closed (omega arith)

-- the same faults if the call returns another value
pub ok_moved : {A B : Type 0} (P : AuditFault → Type 0) (x : A) (y : B) → ((fault : AuditFault) → (◌≡◌ {A = Result A AuditFault} (Ok x) (Err fault)) ↔ P fault)
    → (fault : AuditFault) → (◌≡◌ {A = Result B AuditFault} (Ok y) (Err fault)) ↔ P fault
ok_moved P x y h fault = (λ e. absurd (cc), λ p. absurd (let e = (h fault).1 p in cc))

pub err_moved : {A B : Type 0} (P : AuditFault → Type 0) (f : AuditFault) → ((fault : AuditFault) → (◌≡◌ {A = Result A AuditFault} (Err f) (Err fault)) ↔ P fault)
    → (fault : AuditFault) → (◌≡◌ {A = Result B AuditFault} (Err f) (Err fault)) ↔ P fault
err_moved P f h fault = (λ e. (h fault).0 (let same : f ≡ fault = cc in ap Err same), λ p. (let e = (h fault).1 p in let same : f ≡ fault = cc in ap Err same))
