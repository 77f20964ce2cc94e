-- The first of all faults is reported.
use Rattle.std.proofs.Common.{◌≡◌, ◌<◌, ◌≤◌, ◌+◌, ◌∷◌, [], zero, suc, ℕ, List, Bool, true, false, filter, length, Some, None, Ok, Err, Result, refl, ap, sym, ◌∙◌, arith, slice_get, inl, inr, ◌⊎◌}
use Rattle.std.specs.List.{range_with_len}
use Rattle.std.proofs.lemmas.Bool.{cases_Bool, cases_lt}
use Rattle.toml.specs.Data.{Members}
use Rattle.vote_poll.specs.Names.{first_bad, is_bad_at}
use Rattle.vote_poll.specs.PollContent.{PollContent}
use Rattle.vote_poll_keys.specs.Keys.{◌>>=◌, Fails, document}
use Rattle.vote_poll_keys.specs.KeyFaults.{FoundKeys, found_in}
use Rattle.vote_poll.specs.PollFaults.{IsJudged, bad_places, faults_in}
use Rattle.vote_poll.specs.PollFile.{FirstIsTold, fault_told, first_or, poll_in, poll_in_table, poll_of}
use Rattle.vote_poll.proofs.FirstBad.{first_bad-some, first_bad-none}
use Rattle.vote_poll_keys.specs.declared.fault.PollFault.{PollFault}
use Rattle.vote_poll_keys.specs.declared.fault.PollFault.TheVariants as fault

-- ---- the first of the numbers that pass a test
-- no number passes, or one is the first
abbrev FirstOf : (ℕ → Bool) → ℕ → ℕ → List ℕ → Type 0
FirstOf p a n passing = ((passing ≡ []) × ((k : ℕ) → a ≤ k → k < a + n → p k ≡ false))
    ⊎ ((i : ℕ) × (rest : List ℕ) × (passing ≡ i ∷ rest) × (a ≤ i) × (i < a + n) × (p i ≡ true) × ((k : ℕ) → a ≤ k → k < i → p k ≡ false))

first_of_range : (p : ℕ → Bool) (a n : ℕ) → FirstOf p a n (filter p (range_with_len a n))
first_of_range p a zero = inl (refl, λ k least below. absurd (omega arith))
first_of_range p a (suc n) = elim (cases_Bool (p a)) [
  | inl here ↦ inr (a, filter p (range_with_len (a + 1) n), rw here, omega arith, omega arith, here, λ k least below. absurd (omega arith))
  | inr other ↦ elim (first_of_range p (a + 1) n) [
    | inl none ↦ inl (
      rw (other, none.0),
      λ k least below. elim (cases_lt a k) [
        | inl more ↦ none.1 k (omega arith) (omega arith)
        | inr same ↦ let is : k ≡ a = omega arith in rw is other
      ],
    )
    | inr found ↦ inr (
      found.0,
      found.1,
      rw (other, found.2),
      omega (arith, found.3),
      omega (arith, found.4),
      found.5,
      λ k least below. elim (cases_lt a k) [
        | inl more ↦ found.6 k (omega arith) below
        | inr same ↦ let is : k ≡ a = omega arith in rw is other
      ],
    )
  ]
]

pub first_bad_place : (has_shape : List ℕ → Bool) (names : List (List ℕ)) → slice_get (bad_places has_shape names) 0 ≡ first_bad has_shape names
first_bad_place has_shape names = elim (first_of_range (is_bad_at has_shape names) 0 (length names)) [
  | inl none ↦ ap (λ places. slice_get places 0) none.0 ∙ sym (first_bad-none has_shape names (λ k below. none.1 k (omega arith) (omega arith)))
  | inr found ↦ ap (λ places. slice_get places 0) found.2 ∙ sym (first_bad-some has_shape names found.0 (omega (arith, found.4)) (λ k below. found.6 k (omega arith) below) found.5)
]

-- ---- the law
told_first : (faults : List PollFault) (poll : PollContent) → slice_get faults 0 ≡ fault_told (first_or faults poll)
told_first [] poll = refl
told_first (e ∷ faults) poll = refl

told_file : (m : Result Members PollFault) → slice_get (faults_in m) 0 ≡ fault_told (m >>= poll_in_table)
told_file (Ok table) = told_first (faults_in (Ok table)) (poll_of (found_in table))
told_file (Err e) = refl

pub first_is_told : FirstIsTold
unfolding poll_in
first_is_told text = told_file (document text)

-- ---- a table whose faults were found
is_refused : (e : PollFault) (m : Result PollContent PollFault) → m ≡ Err e → Fails e m
is_refused fault.Memory m h = tt
is_refused e m h = h

first_is : (faults : List PollFault) (e : PollFault) (poll : PollContent) → slice_get faults 0 ≡ Some e → first_or faults poll ≡ Err e
first_is [] e poll first = cc
first_is (d ∷ faults) e poll first = let same : d ≡ e = cc in ap Err same

pub fails_first : (table : Members) (keys : FoundKeys) (faults : List PollFault) (e : PollFault) → IsJudged table keys faults → slice_get faults 0 ≡ Some e → Fails e (poll_in_table table)
fails_first table keys faults e is first =
    is_refused e (poll_in_table table) (first_is (faults_in (Ok table)) e (poll_of (found_in table)) (ap (λ es. slice_get es 0) (sym is.all) ∙ first))

none_left : (faults : List PollFault) → slice_get faults 0 ≡ None → faults ≡ []
none_left [] none = refl
none_left (e ∷ faults) none = cc

-- if there is no first fault, nothing is wrong
pub nothing_wrong : (table : Members) (keys : FoundKeys) (faults : List PollFault) → IsJudged table keys faults → slice_get faults 0 ≡ None → IsJudged table keys []
nothing_wrong table keys faults is none = record { found = is.found; all = sym (none_left faults none) ∙ is.all }

pub is_poll : (table : Members) (keys : FoundKeys) → IsJudged table keys [] → poll_in_table table ≡ Ok (poll_of keys)
is_poll table keys is = ap (λ es. first_or es (poll_of (found_in table))) (sym is.all) ∙ ap (λ k. Ok (poll_of k)) (sym is.found)
