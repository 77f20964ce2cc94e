-- Some turns are moved, and the others stay.
use Rattle.std.proofs.Common.{◌≡◌, ◌≢◌, ℕ, ◌+◌, ◌-◌, ◌%◌, ◌<◌, List, [], length, get_or, set, take, drop, sym, subst, ap, ◌∙◌, inl, inr, arith}
use Rattle.std.proofs.lemmas.Bool.{cases_lt}
use Rattle.std.proofs.lemmas.List.{get_or-set_same, get_or-set_other, length-set}
use Rattle.std.proofs.lemmas.Simd.{get_or-chunk}
use Rattle.vote_count.specs.Changes.{AreTurns, IsMoved, Moves}
use Rattle.vote_count.proofs.Cells.{rows_with}

-- a row that has the keys twice
pub around-each : (keys once twice : List ℕ) (first : ℕ) → ((k : ℕ) → k < 16 → get_or once (0 + k) 0 ≡ get_or (take 16 (drop first keys)) k 0)
    → ((k : ℕ) → k < 16 → get_or twice (16 + k) 0 ≡ get_or (take 16 (drop first keys)) k 0) → ((k : ℕ) → k < 16 → get_or twice k 0 ≡ get_or once k 0)
    → (k : ℕ) → k < 32 → get_or twice k 0 ≡ get_or keys (first + k % 16) 0
around-each keys once twice first lower upper below k within =
    elim (cases_lt k 16) [
      | inl low ↦
          let same : k ≡ 0 + k = omega arith in
          let place : first + k ≡ first + k % 16 = omega arith in
          below k low ∙ ap (λ i. get_or once i 0) same ∙ lower k low ∙ get_or-chunk first 16 keys k 0 low ∙ ap (λ i. get_or keys i 0) place
      | inr high ↦
          let less : k - 16 < 16 = omega arith in
          let same : k ≡ 16 + (k - 16) = omega arith in
          let place : first + (k - 16) ≡ first + k % 16 = omega arith in
          ap (λ i. get_or twice i 0) same ∙ upper (k - 16) less ∙ get_or-chunk first 16 keys (k - 16) 0 less ∙ ap (λ i. get_or keys i 0) place
    ]

-- one turn is replaced
module _ (turns : List (List ℕ)) (at : ℕ) (row : List ℕ) (are : AreTurns turns) (within : at < 64) where
  pub turns-with : length row ≡ 16 → AreTurns (set turns at row)
  turns-with long =
      (length-set turns at row ∙ are.0, rows_with turns at row (omega (arith, are.0)) (λ i r. i < 64 → length r ≡ 16) (λ i _. are.1 i) (λ _. long))

  pub moved-here : (first : List (List ℕ)) (gone come : ℕ → ℕ) → get_or turns at [] ≡ get_or first at []
      → ((lane : ℕ) → lane < 16 → Moves (get_or (get_or turns at []) lane 0) (get_or row lane 0) (gone lane) (come lane)) → IsMoved first (set turns at row) at gone come
  moved-here first gone come waits moved lane lt =
      subst (λ (r : List ℕ). Moves (get_or (get_or first at []) lane 0) (get_or r lane 0) (gone lane) (come lane)) (sym (get_or-set_same turns at row [] (omega (arith, are.0))))
      (subst (λ (r : List ℕ). Moves (get_or r lane 0) (get_or row lane 0) (gone lane) (come lane)) waits (moved lane lt))

  pub moved-there : (first : List (List ℕ)) (gone come : ℕ → ℕ) (turn : ℕ) → turn ≢ at → IsMoved first turns turn gone come → IsMoved first (set turns at row) turn gone come
  moved-there first gone come turn other moved lane lt =
      subst (λ (r : List ℕ). Moves (get_or (get_or first turn []) lane 0) (get_or r lane 0) (gone lane) (come lane)) (sym (get_or-set_other turns at turn row [] other)) (moved lane lt)
