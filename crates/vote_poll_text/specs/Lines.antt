-- The lines of a text. Each line ends with a line feed, but the last may lack it.
use Rattle.std.specs.Prelude.{◌≡◌, ◌≢◌, ℕ, ◌-◌, ◌<◌, List, [], ◌∷◌, ◌++◌, ◌==◌, if◌then◌else◌, count_by, length, take, nat_eq}
use Rattle.std.specs.List.{All, flat_map, slice_split, ends_with}
use Rattle.vote_poll_text.specs.declared.lines.TheConstants.{MAX_LINES}

abbrev pub line_feed : List ℕ
line_feed = 10 ∷ []

-- the lines as a text, with a line feed after each
abbrev pub text_of_lines : List (List ℕ) → List ℕ
text_of_lines lines = flat_map (λ line. line ++ line_feed) lines

-- the text, with a line feed added if its last line lacks one
abbrev pub with_last_feed : List ℕ → List ℕ
with_last_feed [] = []
with_last_feed text = if ends_with nat_eq text line_feed then text else text ++ line_feed

-- no byte of the line is a line feed
abbrev pub IsUnbroken : List ℕ → Type 0
IsUnbroken line = All (λ byte. byte ≢ 10) line

-- these are the lines of the text
pub record AreLines (text : List ℕ) (lines : List (List ℕ)) : Type 0 where
  pub unbroken : All IsUnbroken lines
  pub joined : text_of_lines lines ≡ with_last_feed text

-- the text without a line feed at its end
abbrev pub without_last_feed : List ℕ → List ℕ
without_last_feed text = if ends_with nat_eq text line_feed then take (length text - 1) text else text

-- how many line feeds the text has
abbrev pub feed_count : List ℕ → ℕ
feed_count text = count_by (λ byte. byte == 10) text

-- the parts of the text before, between and after its line feeds: one more part than line feeds
abbrev pub parts_of : List ℕ → List (List ℕ)
parts_of text = slice_split (λ byte. byte == 10) text

-- the lines of the text: its parts, except that a line feed at its end begins no further part; an empty text has no lines
abbrev pub lines_of : List ℕ → List (List ℕ)
lines_of [] = []
lines_of text = parts_of (without_last_feed text)

-- the text has more lines than a ballot file can have
abbrev pub HasTooManyLines : List ℕ → Type 0
HasTooManyLines text = MAX_LINES < length (lines_of text)
