-- The faults of keys, one key after another.
use Rattle.std.proofs.Common.{◌≡◌, ◌<◌, ◌≤◌, ◌+◌, ◌∷◌, ◌++◌, [], ℕ, List, Bool, false, take, drop, length, get_or, refl, ap, ◌∙◌, append-nil}
use Rattle.std.specs.List.{find, flat_map}
use Rattle.std.proofs.lemmas.List.{drop_more, take_all, take_more}
use Rattle.std.proofs.lemmas.List.Concat.{flat_map-append}
use Rattle.toml.specs.Data.{Members}
use Rattle.vote_poll_keys.specs.KeyFaults.{FoundKeys, fault_of_key, of_keys}
use Rattle.vote_poll_keys.specs.Keys.{all_keys}
use Rattle.vote_poll_keys.specs.declared.fault.PollFault.{PollFault}
use Rattle.vote_poll_keys.specs.declared.fault.PollKey.{PollKey}
use Rattle.vote_poll_keys.specs.declared.fault.PollKey.TheVariants as key

-- the faults of the first keys
abbrev pub of_first : Members → FoundKeys → List PollKey → ℕ → List PollFault
of_first table f keys n = flat_map (fault_of_key table f) (take n keys)

pub keys_more : (table : Members) (f : FoundKeys) (n : ℕ) (before after : List PollFault) → n < 8 → before ≡ of_first table f all_keys n
    → after ≡ before ++ fault_of_key table f (get_or all_keys n key.Title) → after ≡ of_first table f all_keys (n + 1)
keys_more table f n before after within first more =
    let here : List PollFault = fault_of_key table f (get_or all_keys n key.Title) in
    let longer : of_first table f all_keys (n + 1) ≡ of_first table f all_keys n ++ here =
    ap (flat_map (fault_of_key table f)) (take_more all_keys n key.Title within) ∙ flat_map-append (fault_of_key table f) (take n all_keys) (get_or all_keys n key.Title ∷ [])
    ∙ ap (λ t. of_first table f all_keys n ++ t) (append-nil here) in
    rw (longer, more, first) refl

pub keys_all : (table : Members) (f : FoundKeys) (n : ℕ) (faults : List PollFault) → 8 ≤ n → faults ≡ of_first table f all_keys n → faults ≡ of_keys table f
unfolding of_keys
keys_all table f n faults all are =
    are ∙ ap (flat_map (fault_of_key table f)) (take_all n all_keys all)

-- ---- the key of a name
pub found_later : {X : Type 0} (p : X → Bool) (xs : List X) (i : ℕ) (d : X) → i < length xs → p (get_or xs i d) ≡ false → find p (drop (i + 1) xs) ≡ find p (drop i xs)
found_later p xs i d within other = let next : drop i xs ≡ get_or xs i d ∷ drop (i + 1) xs = drop_more xs i d within in rw (next, other) refl
