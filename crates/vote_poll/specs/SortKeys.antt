-- The sort key of an option, a number: of two options on a ballot the one with the smaller key is preferred.
use Rattle.std.specs.Prelude.{◌≡◌, ℕ, ◌-◌, ◌<◌, ◌≤◌, nat_eq, if◌then◌else◌, Bool, true, false, List, [], ◌∷◌, ◌++◌, length, map, take, replicate, Option, Some, None}
use Rattle.std.specs.Option.{unwrap_or}
use Rattle.std.specs.Cmp.{unsigned_Decides}
use Rattle.std.proofs.Common.{refl, sym, ap, ap₂, ◌∙◌, arith, length-take-le}
use Rattle.std.proofs.lemmas.List.{length-map}
use Rattle.vote_poll.specs.declared.TheConstants.{MAX_OPTIONS, UNRANKED}

-- the key is the option's rank, or comes after all ranks if it has none
abbrev pub IsSortKey : Option ℕ → ℕ → Type 0
IsSortKey None key = key ≡ UNRANKED
IsSortKey (Some rank) key = (key ≡ rank) × (key < UNRANKED)

-- the rank of an option with this key
abbrev pub rank_of_key : ℕ → Option ℕ
rank_of_key key = if nat_eq key UNRANKED then None else Some key

-- the key of an option with this rank, or with none
abbrev pub key_of : Option ℕ → ℕ
key_of rank = unwrap_or rank UNRANKED

-- a row of the first keys, at most as many as a poll can have options, and zeros after them
abbrev pub row_of : List ℕ → List ℕ
row_of keys = take MAX_OPTIONS keys ++ replicate (MAX_OPTIONS - length keys) 0

key_again : (key : ℕ) → key_of (rank_of_key key) ≡ key
key_again key = by_test (nat_eq key UNRANKED) refl
  where
    by_test : (b : Bool) → nat_eq key UNRANKED ≡ b → key_of (if b then None else Some key) ≡ key
    by_test true e = sym ((unsigned_Decides key UNRANKED).0 e)
    by_test false e = refl

-- the keys of the ranks of these keys are these keys
pub keys_again : (keys : List ℕ) → map key_of (map rank_of_key keys) ≡ keys
keys_again [] = refl
keys_again (key ∷ keys) = ap₂ ◌∷◌ (key_again key) (keys_again keys)

-- if the first keys of a row are those of a ballot's options and the others are 0, the ballot's ranks give the same number of options, and the same row
pub kept_options : (n : ℕ) (keys : List ℕ) → n ≤ MAX_OPTIONS → length keys ≡ MAX_OPTIONS → length (map rank_of_key (take n keys)) ≡ n
kept_options n keys few long = length-map (take n keys) rank_of_key ∙ length-take-le n keys (omega arith)

pub kept_keys : (n : ℕ) (keys : List ℕ) → n ≤ MAX_OPTIONS → length keys ≡ MAX_OPTIONS → take n keys ++ replicate (MAX_OPTIONS - n) 0 ≡ keys
    → map key_of (map rank_of_key (take n keys)) ++ replicate (MAX_OPTIONS - length (map rank_of_key (take n keys))) 0 ≡ keys
kept_keys n keys few long empty = ap₂ ◌++◌ (keys_again (take n keys)) (ap (λ k. replicate (MAX_OPTIONS - k) 0) (kept_options n keys few long)) ∙ empty
