-- Lists of names. Two names are the same exactly when they have the same bytes.
use Rattle.std.specs.Prelude.{◌≡◌, ◌<◌, Some, None, IsTrue, ℕ, List, [], Bool, ◌||◌, not, length, Option, position, take, slice_index_or}
use Rattle.std.specs.List.{list_any, range_with_len}
use Rattle.std.specs.Str.{bytes_eq}
use Rattle.vote_poll_text.specs.Names.{is_voter_name}

-- the name at an index, from 0, is malformed, or equals an earlier name
abbrev pub is_bad_at : (List ℕ → Bool) → List (List ℕ) → ℕ → Bool
is_bad_at has_shape names place =
    let name = slice_index_or names place [] in
    not (has_shape name) || list_any (bytes_eq name) (take place names)

-- the least index of such a name
abbrev pub first_bad : (List ℕ → Bool) → List (List ℕ) → Option ℕ
first_bad has_shape names = position (is_bad_at has_shape names) (range_with_len 0 (length names))

-- the first index of a name in a list of names
abbrev pub place_of : List ℕ → List (List ℕ) → Option ℕ
place_of name names = position (bytes_eq name) names

-- the name is a voter's name, and this number is the first position on the roll with this name
abbrev pub IsNameOf : List (List ℕ) → ℕ → List ℕ → Type 0
IsNameOf roll voter name = (place_of name roll ≡ Some voter) × IsTrue (is_voter_name name)

-- a law: on a roll without a bad name, each name belongs to the voter at its position, and to no earlier voter
abbrev pub NamesAreDistinct : Type 0
NamesAreDistinct = (roll : List (List ℕ)) (voter : ℕ) → first_bad is_voter_name roll ≡ None → voter < length roll → IsNameOf roll voter (slice_index_or roll voter [])
