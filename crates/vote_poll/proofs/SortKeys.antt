-- The sort keys of options, and their ranks; a row of keys whose first keys are a ballot's and whose others are empty.
use Rattle.std.proofs.Common.{◌≡◌, ◌≢◌, ℕ, ◌<◌, ◌≤◌, ◌-◌, nat_eq, List, ◌++◌, map, length, get_or, take, replicate, length-take-le, Option, Some, None, refl, sym, ap, ◌∙◌, inl, inr, arith}
use Rattle.std.specs.Bool.{Decides}
use Rattle.std.specs.Cmp.{unsigned_Decides}
use Rattle.std.specs.Cmp.Lexicographic.{pointwise, pointwise_decides}
use Rattle.std.proofs.lemmas.Bool.{cases_lt, eq-eqb, ne_eqb}
use Rattle.std.proofs.lemmas.Bool.Decides.{same_from_decides}
use Rattle.std.proofs.lemmas.List.{get_or-map, get_or-take, get_or-append_right, length-map}
use Rattle.vote_poll.specs.declared.TheConstants.{MAX_OPTIONS, UNRANKED}
use Rattle.vote_poll.proofs.OptionLaws.{get_or-replicate_same}
use Rattle.vote_poll.specs.Comparisons.{are_same_ranks}
use Rattle.vote_poll.specs.SortKeys.{IsSortKey, key_of, keys_again, rank_of_key}
use Rattle.vote_poll.proofs.Equality.{same_ranks}

-- the key after all ranks has no rank
pub rank_of_key-unranked : (key : ℕ) → key ≡ UNRANKED → rank_of_key key ≡ None
rank_of_key-unranked key h = rw (eq-eqb key UNRANKED h)

-- any other key is its rank
pub rank_of_key-ranked : (key : ℕ) → key ≢ UNRANKED → rank_of_key key ≡ Some key
rank_of_key-ranked key h = rw (ne_eqb key UNRANKED h)

pub is_sort_key : (key : ℕ) → key ≤ UNRANKED → IsSortKey (rank_of_key key) key
is_sort_key key byte =
    elim (cases_lt key UNRANKED) [
      | inl below ↦ rw (rank_of_key-ranked key (λ e. absurd (omega arith))) (refl, below)
      | inr above ↦ rw (rank_of_key-unranked key (omega arith)) (omega arith)
    ]

-- ballots have equal ranks exactly when their keys are equal
same_keys : (xs ys : List ℕ) → Decides (are_same_ranks (map rank_of_key xs) (map rank_of_key ys)) (xs ≡ ys)
same_keys xs ys = (
  λ h. sym (keys_again xs) ∙ ap (map key_of) ((same_ranks (map rank_of_key xs) (map rank_of_key ys)).0 h) ∙ keys_again ys,
  λ e. (same_ranks (map rank_of_key xs) (map rank_of_key ys)).1 (ap (map rank_of_key) e),
)

pub pointwise-keys : (xs ys : List ℕ) → pointwise nat_eq xs ys ≡ are_same_ranks (map rank_of_key xs) (map rank_of_key ys)
pointwise-keys xs ys = same_from_decides (pointwise nat_eq xs ys) (are_same_ranks (map rank_of_key xs) (map rank_of_key ys)) (pointwise_decides unsigned_Decides xs ys) (same_keys xs ys)

-- the first n keys of a row are a ballot's
pub ranks_there : (ranks : List (Option ℕ)) (n : ℕ) (keys : List ℕ) → map rank_of_key (take n keys) ≡ ranks → n ≤ length keys → (k : ℕ) → k < length ranks → get_or ranks k None ≡ rank_of_key (get_or keys k 0)
ranks_there ranks n keys are few k within =
    let long : length ranks ≡ n = ap length (sym are) ∙ length-map (take n keys) rank_of_key ∙ length-take-le n keys few in
    ap (λ rs. get_or rs k None) (sym are) ∙ get_or-map rank_of_key (take n keys) k 0 None (omega (arith, length-take-le n keys few)) ∙ ap rank_of_key (get_or-take n keys k 0 (omega arith))

pub none_there : (ranks : List (Option ℕ)) (n : ℕ) (keys : List ℕ) → map rank_of_key (take n keys) ≡ ranks → n ≤ length keys → take n keys ++ replicate (MAX_OPTIONS - n) 0 ≡ keys → (k : ℕ) → length ranks ≤ k → get_or keys k 0 ≡ 0
none_there ranks n keys are few empty k past =
    let taken = length-take-le n keys few in
    let long : length ranks ≡ n = ap length (sym are) ∙ length-map (take n keys) rank_of_key ∙ taken in
    ap (λ xs. get_or xs k 0) (sym empty) ∙ get_or-append_right (take n keys) (replicate (MAX_OPTIONS - n) 0) n k 0 taken (omega arith) ∙ get_or-replicate_same (MAX_OPTIONS - n) (k - n) 0
