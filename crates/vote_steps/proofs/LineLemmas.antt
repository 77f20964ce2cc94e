-- The counts of a box that holds the lines follow from the lines.
use Rattle.std.proofs.Common.{◌≡◌, ℕ, ◌+◌, ◌-◌, ◌<◌, ◌≤◌, zero, suc, cond, eqb, Bool, true, false, not, ◌||◌, List, [], ◌∷◌, ◌++◌, Option, Some, None, length, get_or, take, refl, sym, ap, ◌∙◌, ⊎_elim, arith, append_assoc}
use Rattle.std.specs.Prelude.{slice_get, is_some, option_and_then}
use Rattle.std.specs.List.{AllByRecursion, count_by, range_with_len}
use Rattle.std.proofs.lemmas.Bool.{cases_eq, cases_lt, eq-eqb, ne_eqb, lt-ltb, le-ltb}
use Rattle.std.proofs.lemmas.Bool.Decides.{nat_tests}
use Rattle.std.proofs.lemmas.List.{take_all}
use Rattle.std.proofs.Math.Bool.{or-false}
use Rattle.std.proofs.Math.Seq.{take-suc}
use Rattle.std.proofs.lemmas.List.Elements.{recursion_from_All}
use Rattle.std.proofs.lemmas.List.Sums.{sum_by_push}
use Rattle.std.proofs.lemmas.Option.{get_or_from_slice_get, slice_get_within, slice_get-get_or}
use Rattle.vote_poll.specs.declared.Reading.{Reading}
use Rattle.vote_poll.specs.declared.Reading.TheVariants.{Ballot, Bad}
use Rattle.vote_poll.specs.Readings.{is_ballot as is_ballot_reading, readings}
use Rattle.vote_count.proofs.Counts.{count-cons, one}
use Rattle.vote_count.specs.Ballots.{entry_prefers}
use Rattle.vote_steps.specs.declared.step.Received.{Received}
use Rattle.vote_steps.specs.declared.step.Step.{Step}
use Rattle.vote_steps.specs.declared.step.Step.TheVariants.{Cast, Close}
use Rattle.vote_steps.specs.History.{is_ballot, is_late, is_used, is_for, before_close, standing, standing_ranks, valid}
use Rattle.vote_steps.specs.Boxes.{BoxState, IsLegal}
use Rattle.vote_steps.specs.Recasts.{HasOwnReading, last_ballot}
use Rattle.vote_steps.proofs.HistoryLemmas.{casts_before, valid-refused, is_used-cast, is_used-close}
use Rattle.vote_steps.proofs.LegalLemmas.{each_stamp_is_used_lem}
use Rattle.vote_steps.proofs.RecountLemmas.{count_by-map_same, same_entry}
use Rattle.vote_steps.specs.Standing.{LinesAreCounted}
use Rattle.vote_steps.proofs.StandingLemmas.{as_long, last_lines_stand_lem}

pub take_next : {X : Type 0} (xs : List X) (n : ℕ) (x : X) → slice_get xs n ≡ Some x → take (suc n) xs ≡ take n xs ++ x ∷ []
take_next xs n x h = take-suc xs n x (slice_get_within xs n x h) ∙ ap (λ y. take n xs ++ y ∷ []) (get_or_from_slice_get xs n x x h)

-- each envelope is cast once

abbrev has_stamp : ℕ → Step → Bool
has_stamp n Close = false
has_stamp n (Cast d stamp r p) = eqb stamp n

abbrev casts_of : ℕ → List Step → ℕ
casts_of n steps = count_by (has_stamp n) steps

-- after steps that have used a stamp no cast has it; otherwise at most one cast has it
at_most_once : (b : BoxState) → IsLegal b → (n : ℕ) (before after : List Step) → b.steps ≡ before ++ after → casts_of n after ≤ cond {A = ℕ} (is_used before n) 0 1
at_most_once b legal n before [] here = omega arith
at_most_once b legal n before (Close ∷ after) here =
    let next = at_most_once b legal n (before ++ Close ∷ []) after (here ∙ sym (append_assoc before (Close ∷ []) after)) in
    let same = ap (λ t. cond {A = ℕ} t 0 1) (is_used-close before n) in
    omega (arith, count-cons (has_stamp n) Close after, next, same)
at_most_once b legal n before (Cast d s r p ∷ after) here =
    let next = at_most_once b legal n (before ++ Cast d s r p ∷ []) after (here ∙ sym (append_assoc before (Cast d s r p ∷ []) after)) in
    let same = ap (λ t. cond {A = ℕ} t 0 1) (is_used-cast before d s r p n) in
    let fresh : is_used before s ≡ false = (legal before after (Cast d s r p) here).stamp_new in
    let more = count-cons (has_stamp n) (Cast d s r p) after in
    ⊎_elim
    (λ (is : s ≡ n).
    let unused : is_used before n ≡ false = sym (ap (is_used before) is) ∙ fresh in
    let now : (is_used before n || eqb s n) ≡ true = ap (λ t. t || eqb s n) unused ∙ eq-eqb s n is in
    omega (arith, more, next, same, ap (λ t. cond {A = ℕ} t 0 1) now, ap (λ t. cond {A = ℕ} t 0 1) unused, ap one (eq-eqb s n is)))
    (λ (other : s ≡ n → ⊥).
    let now : (is_used before n || eqb s n) ≡ is_used before n = ap (λ t. is_used before n || t) (ne_eqb s n other) ∙ or-false (is_used before n) in
    omega (arith, more, next, same, ap (λ t. cond {A = ℕ} t 0 1) now, ap one (ne_eqb s n other)))
    (cases_eq s n)

used_is_cast : (n : ℕ) (steps : List Step) → is_used steps n ≡ true → 1 ≤ casts_of n steps
used_is_cast n [] used = cc
used_is_cast n (Close ∷ steps) used = omega (arith, count-cons (has_stamp n) Close steps, used_is_cast n steps used)
used_is_cast n (Cast d s r p ∷ steps) used =
    ⊎_elim
    (λ (is : s ≡ n). omega (arith, count-cons (has_stamp n) (Cast d s r p) steps, ap one (eq-eqb s n is)))
    (λ (other : s ≡ n → ⊥).
    let rest : is_used steps n ≡ true = sym (ap (λ t. t || is_used steps n) (ne_eqb s n other)) ∙ used in
    omega (arith, count-cons (has_stamp n) (Cast d s r p) steps, used_is_cast n steps rest))
    (cases_eq s n)

-- the ballots among the casts of the first envelopes

abbrev is_ballot_of : ℕ → Step → Bool
is_ballot_of n Close = false
is_ballot_of n (Cast d s (Bad fault) p) = false
is_ballot_of n (Cast d s (Ballot voter ranks) p) = eqb s n

too_late : (n s : ℕ) → n < s → one (not (is_late n s)) ≡ 0
too_late n s h = ap (λ t. one (not t)) (lt-ltb n s h)

one_envelope_more : (n : ℕ) (steps : List Step) → count_by (is_ballot (suc n)) steps ≡ count_by (is_ballot n) steps + count_by (is_ballot_of (suc n)) steps
one_envelope_more n [] = refl
one_envelope_more n (step ∷ steps) =
    omega (arith, count-cons (is_ballot (suc n)) step steps, count-cons (is_ballot n) step steps, count-cons (is_ballot_of (suc n)) step steps, of_step step, one_envelope_more n steps)
  where
    of_step : (s : Step) → one (is_ballot (suc n) s) ≡ one (is_ballot n s) + one (is_ballot_of (suc n) s)
    of_step Close = refl
    of_step (Cast d s (Bad fault) p) = refl
    of_step (Cast d s (Ballot voter ranks) p) = grind (arith, nat_tests)

-- the line of an envelope

either_nothing : (t : Bool) → cond {A = ℕ} t 0 0 ≡ 0
either_nothing true = refl
either_nothing false = refl

its_reading : (readings : List Reading) (n : ℕ) (r reading : Reading) (s : ℕ) → slice_get readings n ≡ Some r → slice_get readings (s - 1) ≡ Some reading → s ≡ suc n → reading ≡ r
its_reading readings n r reading s line own is =
    let at : s - 1 ≡ n = omega arith in
    let same : Some reading ≡ Some r = sym own ∙ ap (slice_get readings) at ∙ line in cc

ballot_at : (readings : List Reading) (n : ℕ) (r : Reading) (step : Step) → slice_get readings n ≡ Some r → HasOwnReading readings step
    → one (is_ballot_of (suc n) step) ≡ cond {A = ℕ} (is_ballot_reading r) (one (has_stamp (suc n) step)) 0
ballot_at readings n r Close line own = sym (either_nothing (is_ballot_reading r))
ballot_at readings n r (Cast d s (Bad fault) p) line own =
    ⊎_elim
    (λ (is : s ≡ suc n). sym (ap (λ t. cond {A = ℕ} t (one (eqb s (suc n))) 0) (sym (ap is_ballot_reading (its_reading readings n r (Bad fault) s line own.1 is)))))
    (λ (other : s ≡ suc n → ⊥). sym (ap (λ t. cond {A = ℕ} (is_ballot_reading r) (one t) 0) (ne_eqb s (suc n) other) ∙ either_nothing (is_ballot_reading r)))
    (cases_eq s (suc n))
ballot_at readings n r (Cast d s (Ballot voter ranks) p) line own =
    ⊎_elim
    (λ (is : s ≡ suc n). sym (ap (λ t. cond {A = ℕ} t (one (eqb s (suc n))) 0) (sym (ap is_ballot_reading (its_reading readings n r (Ballot voter ranks) s line own.1 is)))))
    (λ (other : s ≡ suc n → ⊥).
    ap one (ne_eqb s (suc n) other) ∙ sym (ap (λ t. cond {A = ℕ} (is_ballot_reading r) (one t) 0) (ne_eqb s (suc n) other) ∙ either_nothing (is_ballot_reading r)))
    (cases_eq s (suc n))

add_cond : (t : Bool) (x y : ℕ) → cond {A = ℕ} t x 0 + cond {A = ℕ} t y 0 ≡ cond {A = ℕ} t (x + y) 0
add_cond true x y = refl
add_cond false x y = refl

ballots_at : (readings : List Reading) (n : ℕ) (r : Reading) (steps : List Step) → slice_get readings n ≡ Some r → AllByRecursion (HasOwnReading readings) steps
    → count_by (is_ballot_of (suc n)) steps ≡ cond {A = ℕ} (is_ballot_reading r) (casts_of (suc n) steps) 0
ballots_at readings n r [] line own = sym (either_nothing (is_ballot_reading r))
ballots_at readings n r (step ∷ steps) line own =
    let t = is_ballot_reading r in
    let more : casts_of (suc n) (step ∷ steps) ≡ one (has_stamp (suc n) step) + casts_of (suc n) steps = count-cons (has_stamp (suc n)) step steps in
    omega (
      arith,
      count-cons (is_ballot_of (suc n)) step steps,
      ballot_at readings n r step line own.0,
      ballots_at readings n r steps line own.1,
      add_cond t (one (has_stamp (suc n) step)) (casts_of (suc n) steps),
      ap (λ k. cond {A = ℕ} t k 0) more,
    )

none_in_time : (readings : List Reading) (steps : List Step) → AllByRecursion (HasOwnReading readings) steps → count_by (is_ballot 0) steps ≡ 0
none_in_time readings [] own = refl
none_in_time readings (Close ∷ steps) own = omega (arith, count-cons (is_ballot 0) Close steps, none_in_time readings steps own.1)
none_in_time readings (Cast d s (Bad fault) p ∷ steps) own = omega (arith, count-cons (is_ballot 0) (Cast d s (Bad fault) p) steps, none_in_time readings steps own.1)
none_in_time readings (Cast d s (Ballot voter ranks) p ∷ steps) own =
    let first = own.0.0 in
    omega (arith, count-cons (is_ballot 0) (Cast d s (Ballot voter ranks) p) steps, none_in_time readings steps own.1, too_late 0 s (omega arith))

count_by-same : {X : Type 0} (P : X → Type 0) (p q : X → Bool) (xs : List X) → ((x : X) → P x → p x ≡ q x) → AllByRecursion P xs → count_by p xs ≡ count_by q xs
count_by-same P p q [] same each = refl
count_by-same P p q (x ∷ xs) same each = omega (arith, count-cons p x xs, count-cons q x xs, ap one (same x each.0), count_by-same P p q xs same each.1)

-- if the last envelope comes after all lines, no line is late
all_in_time : (last : ℕ) (readings : List Reading) (steps : List Step) → length readings ≤ last → AllByRecursion (HasOwnReading readings) steps
    → count_by (is_ballot last) steps ≡ count_by (is_ballot (length readings)) steps
all_in_time last readings steps above own = count_by-same (HasOwnReading readings) (is_ballot last) (is_ballot (length readings)) steps each own
  where
    each : (step : Step) → HasOwnReading readings step → is_ballot last step ≡ is_ballot (length readings) step
    each Close own = refl
    each (Cast d s (Bad fault) p) own = refl
    each (Cast d s (Ballot voter ranks) p) own =
        let inside = slice_get_within readings (s - 1) (Ballot voter ranks) own.1 in
        rw (le-ltb last s (omega arith), le-ltb (length readings) s (omega arith)) refl

some_within : (readings : List Reading) (n : ℕ) → n < length readings → (r : Reading) × (slice_get readings n ≡ Some r)
some_within [] n h = absurd (omega arith)
some_within (r ∷ rs) n h = (get_or (r ∷ rs) n r, slice_get-get_or (r ∷ rs) n r h)

ballots_in_time : (readings : List Reading) (steps : List Step) → AllByRecursion (HasOwnReading readings) steps → ((n : ℕ) → n < length readings → casts_of (suc n) steps ≡ 1)
    → (n : ℕ) → n ≤ length readings → count_by (is_ballot n) steps ≡ count_by is_ballot_reading (take n readings)
ballots_in_time readings steps own once zero h = none_in_time readings steps own
ballots_in_time readings steps own once (suc n) h =
    let line = some_within readings n (omega arith) in
    let t = is_ballot_reading line.0 in
    let here : count_by is_ballot_reading (take (suc n) readings) ≡ count_by is_ballot_reading (take n readings) + one t =
    ap (count_by is_ballot_reading) (take_next readings n line.0 line.1) ∙ sum_by_push (λ r. one (is_ballot_reading r)) (take n readings) line.0 in
    omega (
      arith,
      one_envelope_more n steps,
      ballots_in_time readings steps own once n (omega arith),
      ballots_at readings n line.0 steps line.1 own,
      ap (λ k. cond {A = ℕ} t k 0) (once n (omega arith)),
      here,
    )

-- the ballots that are not late, whether the last envelope is one of the lines or comes after them
valid_lines : (last : ℕ) (readings : List Reading) (steps : List Step) → AllByRecursion (HasOwnReading readings) steps → ((n : ℕ) → n < length readings → casts_of (suc n) steps ≡ 1)
    → count_by (is_ballot last) steps ≡ count_by is_ballot_reading (take last readings)
valid_lines last readings steps own once =
    ⊎_elim
    (λ (above : length readings < last).
    all_in_time last readings steps (omega arith) own ∙ ballots_in_time readings steps own once (length readings) (omega arith)
    ∙ ap (count_by is_ballot_reading) (take_all (length readings) readings (omega arith) ∙ sym (take_all last readings (omega arith))))
    (λ (within : last ≤ length readings). ballots_in_time readings steps own once last within)
    (cases_lt (length readings) last)

-- the voters

has_ranks : (o : Option Received) → is_some o ≡ is_some (option_and_then (λ (ballot : Received). Some ballot.ranks) o)
has_ranks None = refl
has_ranks (Some ballot) = refl

pub lines_are_counted_lem : LinesAreCounted
lines_are_counted_lem poll lines b held =
    let rs = readings poll lines in
    let early = take b.last_in_time rs in
    let stand : (voter : ℕ) → standing_ranks b.last_in_time b.steps voter ≡ last_ballot early voter = λ voter. last_lines_stand_lem poll lines b voter held in
    let long = as_long poll lines in
    let limit = held.sizes.2 in
    let own = recursion_from_All (HasOwnReading rs) b.steps held.own_readings in
    let once : (n : ℕ) → n < length rs → casts_of (suc n) b.steps ≡ 1 = λ n low.
    (let used = each_stamp_is_used_lem b held.legal (casts_before b.steps held.closed_last ∙ held.casts ∙ sym held.sizes.2) (suc n) (omega arith) (omega (arith, low, long, limit)) in
    omega (arith, at_most_once b held.legal (suc n) [] b.steps refl, used_is_cast (suc n) b.steps used)) in
    let before : count_by (is_ballot b.last_in_time) b.steps ≡ valid b.last_in_time b.steps =
    ap (count_by (is_ballot b.last_in_time)) held.closed_last ∙ sum_by_push (λ s. one (is_ballot b.last_in_time s)) (before_close b.steps) Close ∙ omega arith in
    let standing_there = standing b.last_in_time b.steps in
    record {
      valid_is = sym before ∙ valid_lines b.last_in_time rs b.steps own once;
      refused_is = valid-refused b.last_in_time b.steps ∙ casts_before b.steps held.closed_last ∙ held.casts ∙ sym long;
      voters_are = count_by-map_same standing_there (last_ballot early) is_some is_some (λ voter. has_ranks (standing_there voter) ∙ ap is_some (stand voter)) (range_with_len 0 b.electors);
      votes_are = λ x y. count_by-map_same standing_there (last_ballot early) (is_for x y) (entry_prefers x y) (λ voter. same_entry x y (standing_there voter) ∙ ap (entry_prefers x y) (stand voter)) (range_with_len 0 b.electors);
    }
