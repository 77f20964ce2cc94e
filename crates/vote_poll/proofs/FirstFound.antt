-- A search for the first element that passes a test, and whether there is one.
use Rattle.std.proofs.Common.{◌≡◌, ◌+◌, ◌<◌, ◌≤◌, ℕ, List, [], ◌∷◌, length, take, get_or, Bool, true, false, Some, None, arith, refl, ap, sym, ◌∙◌, inl, inr}
use Rattle.std.specs.List.{position, position_or_len, list_any}
use Rattle.std.proofs.lemmas.Bool.{cases_Bool, lt-ltb, le-ltb}
use Rattle.std.proofs.lemmas.List.{get_or-take, length-take-le, take_all}
use Rattle.std.proofs.lemmas.List.Folds.{list_any_at, list_any_more}
use Rattle.std.proofs.lemmas.List.Sums.{position_or_len_is}

module _ {X : Type 0} (p : X → Bool) where
  -- none of the first elements passes
  not_before : (xs : List X) (i k : ℕ) (d : X) → i ≤ length xs → list_any p (take i xs) ≡ false → k < i → p (get_or xs k d) ≡ false
  not_before xs i k d within none below =
      elim (cases_Bool (p (get_or xs k d))) [
        | inl here ↦
            let found : list_any p (take i xs) ≡ true = list_any_at p (take i xs) k d (omega (arith, length-take-le i xs within)) (ap p (get_or-take i xs k d below) ∙ here) in
            cc
        | inr other ↦ other
      ]

  pub none-more : (xs : List X) (i : ℕ) (d : X) → i < length xs → list_any p (take i xs) ≡ false → p (get_or xs i d) ≡ false → list_any p (take (i + 1) xs) ≡ false
  none-more xs i d within none other = list_any_more p xs i d within ∙ rw (none, other)

  pub found-at : (xs : List X) (i : ℕ) (d : X) → i < length xs → list_any p (take i xs) ≡ false → p (get_or xs i d) ≡ true → position p xs ≡ Some i
  found-at xs i d within none here =
      let first : position_or_len p xs ≡ i = position_or_len_is p xs i d (omega arith) (λ k below. not_before xs i k d (omega arith) none below) (λ _. here) in
      rw (first, lt-ltb i (length xs) within)

  missing : (xs : List X) → list_any p xs ≡ false → position p xs ≡ None
  missing [] none = refl
  missing (x ∷ xs) none =
      let whole : take (length (x ∷ xs)) (x ∷ xs) ≡ x ∷ xs = take_all (length (x ∷ xs)) (x ∷ xs) (omega arith) in
      let first : position_or_len p (x ∷ xs) ≡ length (x ∷ xs) =
      position_or_len_is p (x ∷ xs) (length (x ∷ xs)) x (omega arith) (λ k below. not_before (x ∷ xs) (length (x ∷ xs)) k x (omega arith) (ap (list_any p) whole ∙ none) below) (λ past. absurd (omega arith)) in
      rw (first, le-ltb (length (x ∷ xs)) (length (x ∷ xs)) (omega arith))

  pub found-nowhere : (xs : List X) (i : ℕ) → length xs ≤ i → list_any p (take i xs) ≡ false → position p xs ≡ None
  found-nowhere xs i past none = missing xs (ap (list_any p) (sym (take_all i xs past)) ∙ none)
