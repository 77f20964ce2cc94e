-- The order of the strengths of defeats.
use Rattle.std.proofs.Common.{◌≡◌, ℕ, zero, suc, ◌+◌, ◌-◌, ◌*◌, ◌<◌, ◌≤◌, ◌⊎◌, List, [], ◌∷◌, ◌++◌, inl, inr, refl, ap, arith}
use Rattle.std.proofs.lemmas.Bool.{cases_lt, cases_order}
use Rattle.std.proofs.Math.Nat.{mul-le-mul}
use Rattle.vote_count.specs.Rules.{EachDefeatsNext, TransitivelyDefeats, IsWeaker}
use Rattle.vote_count.specs.Votes.{Votes, votes}
use Rattle.vote_count.proofs.Closure.{monotone}

-- V votes for and W against are weaker than X votes for and Y against
abbrev pub IsBelow : ℕ → ℕ → ℕ → ℕ → Type 0
IsBelow v w x y = (v < x) ⊎ ((v ≡ x) × (y < w))

pub below_or_not : (v w x y : ℕ) → IsBelow v w x y ⊎ ¬ IsBelow v w x y
below_or_not v w x y =
    elim (cases_order v x) [
      | inl same ↦ elim (cases_lt y w) [ inl less ↦ inl (inr (same, less)) | inr more ↦ inr (λ h. omega arith) ]
      | inr (inl less) ↦ inl (inl less)
      | inr (inr more) ↦ inr (λ h. omega arith)
    ]

pub not_below_itself : (v w : ℕ) → ¬ IsBelow v w v w
not_below_itself v w h = omega arith

pub below_transitive : (v w x y t u : ℕ) → IsBelow v w x y → IsBelow x y t u → IsBelow v w t u
below_transitive v w x y t u h k =
    elim h [
      | inl less ↦ elim k [ inl less' ↦ inl (omega arith) | inr same' ↦ inl (omega arith) ]
      | inr same ↦ elim k [ inl less' ↦ inl (omega arith) | inr same' ↦ inr (omega arith, omega arith) ]
    ]

not_below : (v w x y : ℕ) → ¬ IsBelow v w x y → (x < v) ⊎ ((x ≡ v) × (w ≤ y))
not_below v w x y h =
    elim (cases_order v x) [
      | inl same ↦ elim (cases_lt y w) [ inl less ↦ absurd (h (inr (same, less))) | inr more ↦ inr (omega arith, more) ]
      | inr (inl less) ↦ absurd (h (inl less))
      | inr (inr more) ↦ inl more
    ]

-- being no weaker is transitive
pub not_below_transitive : (v w x y t u : ℕ) → ¬ IsBelow v w x y → ¬ IsBelow x y t u → ¬ IsBelow v w t u
not_below_transitive v w x y t u h k below = let h' = not_below v w x y h in let k' = not_below x y t u k in omega arith

-- a number that is smaller for weaker defeats, if each defeat has more votes for it than against it
abbrev measure : ℕ → ℕ → ℕ
measure v w = v * v + (v - w)

measure_below : (v w x y : ℕ) → w < v → y < x → IsBelow v w x y → measure v w < measure x y
measure_below v w x y won won' h =
    elim h [
      | inl less ↦ let more : suc v ≤ x = omega arith in let squares : suc v * suc v ≤ x * x = mul-le-mul more more in omega arith
      | inr same ↦ let squares : v * v ≡ x * x = ap (λ z. z * z) same.0 in omega arith
    ]

-- the defeats that are no weaker than these votes for and against
abbrev pub Strong : Votes → (ℕ → ℕ → Type 0) → ℕ → ℕ → ℕ → ℕ → Type 0
Strong m E v w a b = E a b × ¬ IsBelow (votes m a b) (votes m b a) v w

module _ (m : Votes) where
  -- a chain that is as strong as one strength is as strong as any that is no stronger
  pub as_strong : (E : ℕ → ℕ → Type 0) (v w x y : ℕ) → ¬ IsBelow v w x y → (a b : ℕ) → TransitivelyDefeats (Strong m E v w) a b → TransitivelyDefeats (Strong m E x y) a b
  as_strong E v w x y h = monotone (Strong m E v w) (Strong m E x y) (λ a b s. (s.0, not_below_transitive (votes m a b) (votes m b a) v w x y s.1 h))

  none_below : (W : ℕ → ℕ → Type 0) → ((a b : ℕ) → W a b → votes m b a < votes m a b)
      → ((a b : ℕ) → W a b → ((x y : ℕ) → W x y → ¬ IsWeaker m x y a b) → ⊥) → (k a b : ℕ) → measure (votes m a b) (votes m b a) < k → ¬ W a b
  none_below W won step zero a b less w = omega arith
  none_below W won step (suc k) a b less w =
      step a b w (λ x y w' weaker. none_below W won step k x y (let smaller = measure_below _ _ _ _ (won x y w') (won a b w) weaker in omega arith) w')

  -- if each defeat of a kind has a weaker one of the kind, there is no defeat of the kind
  pub no_weakest : (W : ℕ → ℕ → Type 0) → ((a b : ℕ) → W a b → votes m b a < votes m a b)
      → ((a b : ℕ) → W a b → ((x y : ℕ) → W x y → ¬ IsWeaker m x y a b) → ⊥) → (a b : ℕ) → ¬ W a b
  no_weakest W won step a b w = none_below W won step (suc (measure (votes m a b) (votes m b a))) a b (omega arith) w

  module _ (E : ℕ → ℕ → Type 0) where
    weakest_of : (a c : ℕ) (between : List ℕ) → EachDefeatsNext E (a ∷ between ++ c ∷ []) →
        (x : ℕ) × (y : ℕ) × E x y × ((y ≡ c) ⊎ TransitivelyDefeats E y c) × TransitivelyDefeats (λ p q. E p q × ¬ IsWeaker m p q x y) a c
    weakest_of a c [] h = (a, c, h.0, inl refl, ([], ((h.0, not_below_itself (votes m a c) (votes m c a)), tt)))
    weakest_of a c (z ∷ between) h =
        let later = weakest_of z c between h.1 in
        let x = later.0 in
        let y = later.1 in
        elim (below_or_not (votes m a z) (votes m z a) (votes m x y) (votes m y x)) [
          | inl weaker ↦ (
            a,
            z,
            h.0,
            inr (between, h.1),
            let rest = monotone (λ p q. E p q × ¬ IsWeaker m p q x y) (λ p q. E p q × ¬ IsWeaker m p q a z)
                (λ p q s. (s.0, λ below. s.1 (below_transitive (votes m p q) (votes m q p) (votes m a z) (votes m z a) (votes m x y) (votes m y x) below weaker))) z c later.4 in
                (z ∷ rest.0, ((h.0, not_below_itself (votes m a z) (votes m z a)), rest.1)),
          )
          | inr not_weaker ↦ (x, y, later.2, later.3, (z ∷ later.4.0, ((h.0, not_weaker), later.4.1)))
        ]

    -- a chain has a weakest defeat, and goes on from the end of this defeat
    pub weakest_of_chain : (a c : ℕ) → TransitivelyDefeats E a c →
        (x : ℕ) × (y : ℕ) × E x y × ((y ≡ c) ⊎ TransitivelyDefeats E y c) × TransitivelyDefeats (λ p q. E p q × ¬ IsWeaker m p q x y) a c
    weakest_of_chain a c chain = weakest_of a c chain.0 chain.1
