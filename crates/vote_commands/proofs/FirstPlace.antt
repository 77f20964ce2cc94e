-- The first number below a bound for which a test holds.
use Rattle.std.proofs.Common.{◌≡◌, ◌<◌, ◌⊎◌, inl, inr, zero, suc, ℕ, Bool, true, false, length, Some, None, ap, ◌∙◌, arith, get_or}
use Rattle.std.specs.List.{position, position_or_len, range_with_len}
use Rattle.std.proofs.lemmas.Bool.{cases_Bool, cases_eq, le-ltb, lt-ltb}
use Rattle.std.proofs.lemmas.List.FromFn.{length-range_with_len, get_or-range_with_len}
use Rattle.std.proofs.lemmas.List.Sums.{position_or_len_is}

module _ (test : ℕ → Bool) (n : ℕ) where
  at_place : (k : ℕ) → k < n → get_or (range_with_len 0 n) k 0 ≡ k
  at_place k within = get_or-range_with_len 0 n k 0 within ∙ omega arith

  -- it holds here, and nowhere before
  pub first_place : (at : ℕ) → at < n → ((k : ℕ) → k < at → test k ≡ false) → test at ≡ true → position test (range_with_len 0 n) ≡ Some at
  first_place at within before here =
      let long : length (range_with_len 0 n) ≡ n = length-range_with_len 0 n in
      let first : position_or_len test (range_with_len 0 n) ≡ at =
      position_or_len_is test (range_with_len 0 n) at 0 (omega arith)
      (λ k below. ap test (at_place k (omega arith)) ∙ before k below)
      (λ _. ap test (at_place at within) ∙ here) in
      rw (first, long, lt-ltb at n within)

  -- it holds nowhere
  pub no_place : ((k : ℕ) → k < n → test k ≡ false) → position test (range_with_len 0 n) ≡ None
  no_place none =
      let long : length (range_with_len 0 n) ≡ n = length-range_with_len 0 n in
      let first : position_or_len test (range_with_len 0 n) ≡ n =
      position_or_len_is test (range_with_len 0 n) n 0 (omega arith)
      (λ k below. ap test (at_place k below) ∙ none k below)
      (λ past. absurd (omega arith)) in
      rw (first, long, le-ltb n n (omega arith))

-- the test holds for no number, or there is a first number for which it holds
pub first_or_none : (test : ℕ → Bool) (n : ℕ) → ((k : ℕ) → k < n → test k ≡ false) ⊎ ((at : ℕ) × (at < n) × ((k : ℕ) → k < at → test k ≡ false) × (test at ≡ true))
first_or_none test zero = inl (λ k below. absurd (omega arith))
first_or_none test (suc n) =
    elim (first_or_none test n) [
      | inl none ↦ elim (cases_Bool (test n)) [
        | inl here ↦ inr (n, omega arith, none, here)
        | inr fails ↦ inl (λ k below. elim (cases_eq k n) [
          | inl last ↦ ap test last ∙ fails
          | inr other ↦ none k (omega arith)
        ])
      ]
      | inr (at, within, before, here) ↦ inr (at, omega arith, before, here)
    ]
