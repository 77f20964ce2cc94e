-- The votes of a running matrix: each is the sum of its settled votes and its change, and a ballot moves it by one.
use Rattle.std.proofs.Common.{◌≡◌, ℕ, ◌+◌, ◌-◌, ◌%◌, ◌<◌, ◌≤◌, Bool, cond, List, [], Option, map, length, get_or, replicate, if◌then◌else◌, nat_lt, sym, subst, ap, ap₂, ◌∙◌, inl, inr, arith}
use Rattle.std.specs.Prelude.{IsTrue}
use Rattle.std.specs.List.{range_with_len}
use Rattle.std.proofs.lemmas.Bool.{cases_lt, le-ltb, lt-ltb}
use Rattle.std.proofs.lemmas.List.{get_or-replicate, get_or_past, length-replicate}
use Rattle.std.proofs.lemmas.List.FromFn.{get_or-map-range_with_len}
use Rattle.vote_poll.specs.Options.{IsOption, at_option}
use Rattle.vote_poll.specs.Ranks.{prefers}
use Rattle.vote_poll.specs.declared.TheConstants.{MAX_OPTIONS}
use Rattle.vote_poll.proofs.OptionLaws.{at_option-next}
use Rattle.vote_count.specs.Votes.{Votes, votes}
use Rattle.vote_count.specs.Changes.{AreTurns, Moves, kept_at, key_vote, sum_at, turn_of, votes_of}
use Rattle.vote_count.specs.Rows.{vote_by}
use Rattle.vote_count.specs.declared.running_matrix.RunningMatrix.TheInside.{Inside}
use Rattle.vote_count.proofs.Cells.{AreSortKeys, preferred_by_keys, votes_at}
use Rattle.vote_count.proofs.Counts.{one_of}

pub votes-next : (m : Votes) (i j : ℕ) → votes m (i + 1) (j + 1) ≡ get_or (get_or m.rows i []) j 0
votes-next m i j = ap (λ row. at_option row (j + 1) 0) (at_option-next m.rows i []) ∙ at_option-next (get_or m.rows i []) j 0

-- a vote is the sum of its settled votes and its change
pub sum-seen : (m : Inside) (i j : ℕ) → i < 32 → j < 32 → votes (votes_of m) (i + 1) (j + 1) ≡ sum_at m.settled m.changes i j
sum-seen m i j in_i in_j =
    votes-next (votes_of m) i j
    ∙ ap (λ (row : List ℕ). get_or row j 0) (get_or-map-range_with_len (λ row. map (sum_at m.settled m.changes row) (range_with_len 0 MAX_OPTIONS)) 0 MAX_OPTIONS i i [] in_i (omega arith))
    ∙ get_or-map-range_with_len (sum_at m.settled m.changes i) 0 MAX_OPTIONS j j 0 in_j (omega arith)

pub sum-seen-at : (m : Inside) (a b : ℕ) → IsOption 32 a → IsOption 32 b → votes (votes_of m) a b ≡ sum_at m.settled m.changes (a - 1) (b - 1)
sum-seen-at m a b of_a of_b =
    votes_at (votes_of m) a b of_a.0 of_b.0
    ∙ ap (λ (row : List ℕ). get_or row (b - 1) 0) (get_or-map-range_with_len (λ row. map (sum_at m.settled m.changes row) (range_with_len 0 MAX_OPTIONS)) 0 MAX_OPTIONS (a - 1) (a - 1) [] (omega (arith, of_a)) (omega arith))
    ∙ get_or-map-range_with_len (sum_at m.settled m.changes (a - 1)) 0 MAX_OPTIONS (b - 1) (b - 1) 0 (omega (arith, of_b)) (omega arith)

-- a fact about options counted from 0 is a fact about options counted from 1
pub at-options : (P : ℕ → ℕ → Type 0) (n : ℕ) → ((i j : ℕ) → i < n → j < n → P (i + 1) (j + 1)) → (a b : ℕ) → IsOption n a → IsOption n b → P a b
at-options P n each a b of_a of_b =
    let first : a - 1 + 1 ≡ a = omega (arith, of_a.0) in
    let second : b - 1 + 1 ≡ b = omega (arith, of_b.0) in
    subst (λ (x : ℕ). P x b) first (subst (λ (y : ℕ). P (a - 1 + 1) y) second (each (a - 1) (b - 1) (omega (arith, of_a)) (omega (arith, of_b))))

pub turn-within : (i j : ℕ) → i < 32 → j < 32 → turn_of i j < 64
turn-within i j in_i in_j = omega arith

-- the entry of two options, if all lanes are the same
pub kept-same : (x i j : ℕ) → i < 32 → j < 32 → kept_at (replicate 64 (replicate 16 x)) i j ≡ x
kept-same x i j in_i in_j =
    ap (λ (row : List ℕ). get_or row (i % 16) 0) (get_or-replicate 64 (turn_of i j) (replicate 16 x) [] (turn-within i j in_i in_j))
    ∙ get_or-replicate 16 (i % 16) x 0 (omega arith)

pub same-turns : (x : ℕ) → AreTurns (replicate 64 (replicate 16 x))
same-turns x = (length-replicate 64 (replicate 16 x), λ turn within. ap length (get_or-replicate 64 turn (replicate 16 x) [] within) ∙ length-replicate 16 x)

-- the vote of a ballot, computed from its keys
pub vote-by-keys : (ranks : List (Option ℕ)) (keys : List ℕ) → AreSortKeys ranks keys → (i j : ℕ) → i < length ranks → j < length ranks
    → (if prefers ranks (i + 1) (j + 1) then 1 else 0) ≡ key_vote keys i j
vote-by-keys ranks keys are i j in_i in_j =
    let one : Bool → ℕ = λ (t : Bool). if t then 1 else 0 in
    let first : i + 1 - 1 ≡ i = omega arith in
    let second : j + 1 - 1 ≡ j = omega arith in
    ap one (preferred_by_keys ranks keys are (i + 1) (j + 1) (omega arith, omega arith) (omega arith, omega arith))
    ∙ ap (λ k. one (nat_lt (get_or keys k 0) (get_or keys (j + 1 - 1) 0))) first
    ∙ ap (λ k. one (nat_lt (get_or keys i 0) (get_or keys k 0))) second

-- a ballot whose keys are all the same prefers nothing
pub no-vote : (i j : ℕ) → key_vote (replicate 32 0) i j ≡ 0
no-vote i j = ap₂ vote_by (zero-at i) (zero-at j)
  where
    zeros : List ℕ
    zeros = replicate 32 0

    zero-at : (k : ℕ) → get_or zeros k 0 ≡ 0
    zero-at k = elim (cases_lt k 32) [ inl within ↦ get_or-replicate {A = ℕ} 32 k 0 0 within | inr past ↦ get_or_past zeros k 0 past ]

pub one-at-most : (key other : ℕ) → vote_by key other ≤ 1
one-at-most key other =
    elim (cases_lt key other) [
      | inl less ↦ let vote : vote_by key other ≡ 1 = ap (λ (t : Bool). cond t 1 0) (lt-ltb key other less) in omega arith
      | inr no_less ↦ let vote : vote_by key other ≡ 0 = ap (λ (t : Bool). cond t 1 0) (le-ltb key other no_less) in omega arith
    ]

-- if a ballot's keys give a vote, the ballot prefers the option
pub prefers-by-keys : (ranks : List (Option ℕ)) (keys : List ℕ) → AreSortKeys ranks keys → (i j : ℕ) → i < length ranks → j < length ranks → 1 ≤ key_vote keys i j → IsTrue (prefers ranks (i + 1) (j + 1))
prefers-by-keys ranks keys are i j in_i in_j some = one_of (prefers ranks (i + 1) (j + 1)) (subst (λ (v : ℕ). 1 ≤ v) (sym (vote-by-keys ranks keys are i j in_i in_j)) some)

-- one vote before and after a ballot goes and another comes: `settled` and `change` before there was room, `kept` and `even` after it, `moved` at the end
pub record IsCell (settled change kept even moved pending gone come : ℕ) : Type 0 where
  pub within : (128 ≤ moved + pending) × (moved ≤ 128 + pending)
  pub sum : (128 ≤ kept + moved) × (kept + moved < 4294967424)
  pub vote : kept + moved - 128 + gone ≡ settled + change - 128 + come

pub cell-of : (settled change kept even moved pending gone come : ℕ) → 1 ≤ pending → pending ≤ 127 → 128 ≤ even + (pending - 1) → even ≤ 128 + (pending - 1)
    → Moves even moved gone come → gone ≤ 1 → come ≤ 1 → kept + even ≡ settled + change → 128 ≤ settled + change → settled + change < 4294967424
    → gone ≤ settled + change - 128 → (1 ≤ come → settled + change - 128 < 4294967295) → IsCell settled change kept even moved pending gone come
cell-of settled change kept even moved pending gone come some most low high moves few_gone few_come same least fits counted room =
    let move : moved + gone ≡ even + come = moves (omega arith) (omega arith) in
    elim (cases_lt 0 come) [
      | inl comes ↦ let below = room (omega arith) in record { within = (omega arith, omega arith); sum = (omega arith, omega arith); vote = omega arith }
      | inr none ↦ record { within = (omega arith, omega arith); sum = (omega arith, omega arith); vote = omega arith }
    ]
