-- What is said of a poll file that is no TOML, by the place of an error in it: how many bytes stand before the error.
use Rattle.std.specs.Prelude.{◌≡◌, ◌⊎◌, ℕ, ◌+◌, ◌≤◌, not, Bool, List, [], ◌++◌, Option, Some, None, count_by, filter, length, slice_index_or, take, codes, decimal, ◌==◌, ◌||◌}
use Rattle.std.specs.List.{Contains, after_last, slice_split}
use Rattle.std.specs.Str.{byte}
use Rattle.vote_poll_text.specs.Lines.{feed_count}
use Rattle.vote_poll_text.specs.Names.{is_within}
use Rattle.vote_poll.specs.BallotLine.{IsBallotText}
use Rattle.vote_hints.specs.FileKinds.{file_kind, unmarked}
use Rattle.vote_hints.specs.Hints.{IsExcerpt, IsHintLine}

-- what stands in a text after its last line feed
abbrev pub last_line : List ℕ → List ℕ
last_line text = after_last (λ byte. byte == 10) text

-- the line after a text, from 1
abbrev pub line_number : List ℕ → ℕ
line_number before = feed_count before + 1

-- the byte is the first one of a character in UTF-8
abbrev pub begins_character : ℕ → Bool
begins_character b = not (is_within 0x80 0xBF b)

-- the column, from 1, in the last line, of which this stands before the place
abbrev pub column_number : List ℕ → ℕ
column_number before = count_by begins_character before + 1

-- the place as it is written
abbrev pub place_words : List ℕ → List ℕ
place_words before = codes "poll:" ++ decimal (line_number before) ++ codes ":" ++ decimal (column_number (last_line before)) ++ codes ": "

-- The place, a hint, and an excerpt that shows the place. Open are the place that `toml` tells and the words.
abbrev pub IsPlaceFinding : List ℕ → List ℕ → Type 0
IsPlaceFinding text finding =
    (place : ℕ) × (hint : List ℕ) × (shown : List ℕ) × (place ≤ length text) × IsHintLine hint × IsExcerpt shown × (finding ≡ place_words (take place text) ++ hint ++ shown)

-- the lines of the text that are not empty, without a mark; a carriage return ends a line as a line feed does
abbrev pub full_lines : List ℕ → List (List ℕ)
full_lines text = filter (λ line. not (length line == 0)) (slice_split (λ b. b == 10 || b == 13) (unmarked text))

-- of these lines the first is that of a ballot; or it may be a head, which has no equals sign, and the second is that of a ballot
unfoldable pub BeginAsBallots : List (List ℕ) → Type 0
BeginAsBallots lines =
    let first = slice_index_or lines 0 [] in
    IsBallotText first ⊎ (¬ Contains first (byte "=") × IsBallotText (slice_index_or lines 1 []))

-- What is said of a file that is this; and of plain text that the files may be exchanged if it begins as ballots, or else the place.
abbrev pub IsFindingOf : Option (List ℕ) → List ℕ → List ℕ → Type 0
IsFindingOf (Some kind) text finding = finding ≡ codes "the poll file is " ++ kind ++ codes "; a poll is plain text in UTF-8\n"
IsFindingOf None text finding =
    (BeginAsBallots (full_lines text) × (finding ≡ codes "the poll file looks like ballots: are the files exchanged?\n"))
    ⊎ (¬ BeginAsBallots (full_lines text) × IsPlaceFinding text finding)

-- what the file is, if it is no plain text
abbrev pub IsSyntaxFinding : List ℕ → List ℕ → Type 0
IsSyntaxFinding text finding = IsFindingOf (file_kind text) text finding
