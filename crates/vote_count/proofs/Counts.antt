-- The number of elements of a list that pass a test.
use Rattle.std.proofs.Common.{◌≡◌, ℕ, Bool, true, false, cond, count_by, ◌+◌, ◌≤◌, List, [], ◌∷◌, inl, inr, refl, arith}
use Rattle.std.specs.Prelude.{IsTrue}
use Rattle.std.specs.List.{All, AllZip}
use Rattle.std.proofs.lemmas.Bool.{cases_Bool}
use Rattle.std.proofs.lemmas.List.Elements.{All-nil, All-cons, All-head, All-tail}
use Rattle.std.proofs.lemmas.List.Sums.{sum_by-cons}

-- the number that an element adds to the count
abbrev pub one : Bool → ℕ
one passes = cond passes 1 0

pub count-cons : {X : Type 0} (p : X → Bool) (x : X) (xs : List X) → count_by p (x ∷ xs) ≡ one (p x) + count_by p xs
count-cons p x xs = sum_by-cons (λ y. one (p y)) x xs

pub one_at_most : (passes : Bool) → one passes ≤ 1
one_at_most true = omega arith
one_at_most false = omega arith

pub one_of : (b : Bool) → 1 ≤ one b → b ≡ true
one_of true h = refl
one_of false h = absurd (omega arith)

one_more : (b c : Bool) → (IsTrue b → IsTrue c) → one b ≤ one c
one_more false c h = omega arith
one_more true c h = rw (h refl) (omega arith)

counted : (b : Bool) → IsTrue b → one b ≡ 1
counted b h = rw h

not_counted : (b : Bool) → b ≡ false → one b ≡ 0
not_counted b h = rw h

-- two lists, index by index
module _ {X : Type 0} where
  pub flipped : (R : X → X → Type 0) (xs ys : List X) → AllZip R xs ys → AllZip (λ y x. R x y) ys xs
  flipped R [] [] h = tt
  flipped R [] (y ∷ ys) h = absurd h
  flipped R (x ∷ xs) [] h = absurd h
  flipped R (x ∷ xs) (y ∷ ys) h = (h.0, flipped R xs ys h.1)

  pub count_more : (R : X → X → Type 0) (p q : X → Bool) → ((x y : X) → R x y → IsTrue (p x) → IsTrue (q y)) → (xs ys : List X) → AllZip R xs ys → count_by p xs ≤ count_by q ys
  count_more R p q into [] [] h = omega arith
  count_more R p q into [] (y ∷ ys) h = absurd h
  count_more R p q into (x ∷ xs) [] h = absurd h
  count_more R p q into (x ∷ xs) (y ∷ ys) h =
      omega (arith, sum_by-cons (λ z. one (p z)) x xs, sum_by-cons (λ z. one (q z)) y ys, one_more (p x) (q y) (into x y h.0), count_more R p q into xs ys h.1)

  paired : (R : X → X → Type 0) (xs : List X) → All (λ x. R x x) xs → AllZip R xs xs
  paired R [] h = tt
  paired R (x ∷ xs) h = (All-head (λ z. R z z) x xs h, paired R xs (All-tail (λ z. R z z) x xs h))

module _ {X : Type 0} (p q : X → Bool) where
  abbrev Implied : X → X → Type 0
  Implied x y = IsTrue (p x) → IsTrue (q y)

  -- if each element that passes the first test passes the second, no more pass the first than the second
  pub count_implied : (xs : List X) → All (λ x. IsTrue (p x) → IsTrue (q x)) xs → count_by p xs ≤ count_by q xs
  count_implied xs h = count_more Implied p q (λ x y r. r) xs xs (paired Implied xs h)

  pub count_same : (xs : List X) → All (λ x. p x ≡ q x) xs → count_by p xs ≡ count_by q xs
  count_same [] h = refl
  count_same (x ∷ xs) h =
      let same : one (p x) ≡ one (q x) = rw (All-head (λ z. p z ≡ q z) x xs h) in
      omega (arith, sum_by-cons (λ z. one (p z)) x xs, sum_by-cons (λ z. one (q z)) x xs, count_same xs (All-tail (λ z. p z ≡ q z) x xs h))

  -- and if as many pass the first as the second, each that passes the second passes the first
  pub implied_back : (xs : List X) → All (λ x. IsTrue (p x) → IsTrue (q x)) xs → count_by q xs ≤ count_by p xs → All (λ x. IsTrue (q x) → IsTrue (p x)) xs
  implied_back [] h enough = All-nil (λ x. IsTrue (q x) → IsTrue (p x))
  implied_back (x ∷ xs) h enough =
      let head = All-head (λ z. IsTrue (p z) → IsTrue (q z)) x xs h in
      let tail = All-tail (λ z. IsTrue (p z) → IsTrue (q z)) x xs h in
      let here = sum_by-cons (λ z. one (p z)) x xs in
      let there = sum_by-cons (λ z. one (q z)) x xs in
      let more = one_more (p x) (q x) head in
      let rest = count_implied xs tail in
      All-cons (λ z. IsTrue (q z) → IsTrue (p z)) x xs
      (λ passes. elim (cases_Bool (p x)) [
        | inl also ↦ also
        | inr fails ↦ let yes = counted (q x) passes in let no = not_counted (p x) fails in absurd (omega arith)
      ])
      (implied_back xs tail (omega arith))

module _ {X : Type 0} (p : X → Bool) where
  pub count_none : (xs : List X) → All (λ x. ¬ IsTrue (p x)) xs → count_by p xs ≡ 0
  count_none [] h = refl
  count_none (x ∷ xs) h =
      elim (cases_Bool (p x)) [
        | inl passes ↦ absurd (All-head (λ z. ¬ IsTrue (p z)) x xs h passes)
        | inr fails ↦ omega (arith, not_counted (p x) fails, sum_by-cons (λ z. one (p z)) x xs, count_none xs (All-tail (λ z. ¬ IsTrue (p z)) x xs h))
      ]
