-- Names, and look-ups of a name.
use Rattle.std.proofs.Common.{◌≡◌, ◌<◌, ◌≤◌, ℕ, Bool, true, not, List, [], ◌∷◌, map, refl, sym, length, get_or, Option, Some, None, IfSome, nat_lt, false, arith}
use Rattle.std.specs.Prelude.{IsTrue}
use Rattle.std.specs.List.{position, position_or_len, prefix_len, All, AllPass, list_all}
use Rattle.std.proofs.lemmas.List.Sums.{position_or_len_is}
use Rattle.vote_poll.specs.Names.{first_bad}
use Rattle.vote_poll.proofs.FirstBad.{first_bad_apart, first_bad_shapes}
use Rattle.std.specs.Str.{IsUtf8, bytes_eq}
use Rattle.std.specs.Cmp.Lexicographic.{bytes_decides}
use Rattle.std.proofs.lemmas.Bool.{and_parts}
use Rattle.std.proofs.lemmas.Bool.Decides.{nat_tests}
use Rattle.std.proofs.lemmas.List.Quantifiers.{position-Some}
use Rattle.std.proofs.lemmas.List.{length-map}
use Rattle.std.proofs.lemmas.List.Elements.{All-weaker}
use Rattle.std.proofs.lemmas.List.Sums.{AllPass-from_list_all}
use Rattle.std.proofs.lemmas.Str.{IsUtf8-from_ascii}
use Rattle.std.proofs.lemmas.Str.Ascii.{IsAscii-from_all}
use Rattle.vote_poll.specs.Names.{place_of}
use Rattle.vote_poll_text.specs.Names.{is_within, is_voter_byte, is_voter_name}
use Rattle.vote_poll_text.specs.declared.TheConstants.{MAX_VOTER_NAME}

pub within_bounds : (low high n : ℕ) → is_within low high n ≡ true → (low ≤ n) × (n ≤ high)
within_bounds low high n h = (grind (arith, nat_tests), grind (arith, nat_tests))

prefix_len-map : {X Y : Type 0} (p : Y → Bool) (f : X → Y) (xs : List X) → prefix_len p (map f xs) ≡ prefix_len (λ x. p (f x)) xs
prefix_len-map p f [] = refl
prefix_len-map p f (x ∷ xs) = rw (prefix_len-map p f xs)

pub position-map : {X Y : Type 0} (p : Y → Bool) (f : X → Y) (xs : List X) → position p (map f xs) ≡ position (λ x. p (f x)) xs
position-map p f xs = rw (prefix_len-map (λ y. not (p y)) f xs, length-map)

-- ---- a voter's name is text
voter_byte_is_ascii : (b : ℕ) → is_voter_byte b ≡ true → b < 128
voter_byte_is_ascii b h = grind (arith, nat_tests)

pub voter_bytes : (name : List ℕ) → is_voter_name name ≡ true → All (λ b. is_voter_byte b ≡ true) name
voter_bytes name h = AllPass-from_list_all is_voter_byte name (and_parts (is_within 1 MAX_VOTER_NAME (length name)) (list_all is_voter_byte name) h).1

voter_name_is_text : (name : List ℕ) → is_voter_name name ≡ true → IsUtf8 name
voter_name_is_text name h = IsUtf8-from_ascii name (IsAscii-from_all name (All-weaker (λ b. is_voter_byte b ≡ true) (λ b. b < 128) voter_byte_is_ascii name (voter_bytes name h)))

none_if_not_some : {X : Type 0} (o : Option X) → ((x : X) → o ≡ Some x → ⊥) → o ≡ None
none_if_not_some None h = refl
none_if_not_some (Some x) h = absurd (h x refl)

-- a name that is found among voters' names is a voter's name
pub place_of-name : (name : List ℕ) (roll : List (List ℕ)) (i : ℕ) → AllPass is_voter_name roll → place_of name roll ≡ Some i → is_voter_name name ≡ true
place_of-name name roll i names found =
    let at = position-Some (bytes_eq name) roll i [] found in
    let same : name ≡ get_or roll i [] = (bytes_decides name (get_or roll i [])).0 at.1 in
    rw same (names i [] at.0)

pub found-name : (name : List ℕ) (roll : List (List ℕ)) (o : Option ℕ) → AllPass is_voter_name roll → o ≡ place_of name roll → IfSome o (λ _. IsTrue (is_voter_name name))
found-name name roll None names found = tt
found-name name roll (Some i) names found = place_of-name name roll i names (sym found)

-- bytes that are not text are not found among voters' names
pub place_of-no_text : (name : List ℕ) (roll : List (List ℕ)) → AllPass is_voter_name roll → ¬ (IsUtf8 name) → place_of name roll ≡ None
place_of-no_text name roll names no_text = none_if_not_some (place_of name roll) (λ i found.
    let at = position-Some (bytes_eq name) roll i [] found in
    let same : name ≡ get_or roll i [] = (bytes_decides name (get_or roll i [])).0 at.1 in
    no_text (rw same (voter_name_is_text (get_or roll i []) (names i [] at.0))))

pub ruleset name_laws = (position-map)

-- ---- the names of a roll
-- the name at a position of the roll is found at this position
pub name-at : (name : List ℕ) (roll : List (List ℕ)) (i : ℕ) → first_bad is_voter_name roll ≡ None → i < length roll → name ≡ get_or roll i []
    → (place_of name roll ≡ Some i) × (is_voter_name name ≡ true)
name-at name roll i good within is =
    let shaped : is_voter_name name ≡ true = rw is (first_bad_shapes is_voter_name roll good i [] within) in
    let before : (k : ℕ) → k < i → bytes_eq name (get_or roll k []) ≡ false = rw is (λ k below. first_bad_apart is_voter_name roll good i k within below) in
    let here : bytes_eq name (get_or roll i []) ≡ true = (bytes_decides name (get_or roll i [])).1 is in
    let first : position_or_len (bytes_eq name) roll ≡ i = position_or_len_is (bytes_eq name) roll i [] (omega arith) before (λ _. here) in
    let found : nat_lt i (length roll) ≡ true = grind (arith, nat_tests) in
    (rw (first, found), shaped)
