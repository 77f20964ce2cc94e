-- A poll and its ballots in one input, with the line `%%` between them.
use Rattle.std.specs.Prelude.{◌≡◌, ◌≢◌, ◌⊎◌, ℕ, ◌-◌, ◌==◌, ◌||◌, ◌&&◌, ◌++◌, Bool, [], Option, Some, None, codes, drop, length, position, slice_index, take}
use Rattle.std.specs.List.{All, range_with_len}
use Rattle.std.specs.Str.{bytes_eq}
use Rattle.vote_poll_text.specs.Lines.{line_feed, lines_of}
use Rattle.vote_poll_text.specs.Texts.{Text}

-- none of the lines of the text is `%%`
abbrev pub LacksSeparator : Text → Type 0
LacksSeparator text = All (λ line. line ≢ codes "%%") (lines_of text)

-- the text ends where a line ends: it is empty, or its last byte is a line feed
abbrev pub EndsALine : Text → Type 0
EndsALine text = (text ≡ []) ⊎ ((front : Text) × (text ≡ front ++ line_feed))

-- the input is the poll, `%%` and a line feed, and the ballots; or it is the poll and `%%`, and there are no ballots
abbrev pub IsJoined : Text → Text → Text → Type 0
IsJoined input poll ballots = (input ≡ poll ++ codes "%%\n" ++ ballots) ⊎ ((input ≡ poll ++ codes "%%") × (ballots ≡ []))

-- the input has no line `%%`, so all of it is the poll; or the poll comes before its first line `%%`, and the ballots after it
abbrev pub AreParts : Text → Text → Text → Type 0
AreParts input poll ballots =
    (LacksSeparator input × (poll ≡ input) × (ballots ≡ [])) ⊎ (LacksSeparator poll × EndsALine poll × IsJoined input poll ballots)

-- ---- the same as a function
-- a line begins at the beginning of a text, and after each line feed
abbrev pub begins_line : Text → ℕ → Bool
begins_line text at = at == 0 || slice_index text (at - 1) == 10

-- the line `%%` begins a text
abbrev pub has_separator : Text → Bool
has_separator text = bytes_eq (take 3 text) (codes "%%\n") || bytes_eq text (codes "%%")

-- the line `%%` begins at this index
unfoldable pub is_separator_at : Text → ℕ → Bool
is_separator_at text at = begins_line text at && has_separator (drop at text)

-- the first index at which the line `%%` begins
abbrev pub separator_place : Text → Option ℕ
separator_place text = position (is_separator_at text) (range_with_len 0 (length text))

-- the texts before and after the line at this index; without an index, the whole text and nothing
abbrev pub parts_at : Text → Option ℕ → Text × Text
parts_at text None = (text, [])
parts_at text (Some at) = (take at text, drop 3 (drop at text))

-- the poll and the ballots of a joined input
abbrev pub joined_parts : Text → Text × Text
joined_parts text = parts_at text (separator_place text)

-- ---- laws
-- the function returns the parts of the input
abbrev pub InputsArePartedAtSeparator : Type 0
InputsArePartedAtSeparator = (input : Text) → AreParts input (joined_parts input).0 (joined_parts input).1

-- an input has no other parts
abbrev pub PartsAreUnique : Type 0
PartsAreUnique = (input poll ballots : Text) → AreParts input poll ballots → (poll, ballots) ≡ joined_parts input
