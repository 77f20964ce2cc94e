-- Where a line leaves the grammar of ballot lines, and what a ballot line has there.
use Rattle.std.specs.Prelude.{ℕ, ◌+◌, ◌-◌, ◌<◌, ◌≤◌, List, [], ◌∷◌, ◌++◌, length, take, Bool, true, false, ◌&&◌, ◌||◌, ◌==◌, nat_lt, if◌then◌else◌, ◌↔◌, IsTrue, codes}
use Rattle.std.specs.Str.{byte}
use Rattle.vote_poll.specs.BallotLine.{IsBallotText}
use Rattle.vote_poll.specs.declared.TheConstants.{MAX_LINE}
use Rattle.vote_poll_text.specs.Names.{is_voter_byte, is_within}
use Rattle.vote_poll_text.specs.declared.TheConstants.{MAX_VOTER_NAME}
use Rattle.vote_explain_ballots.specs.declared.places.Exit.{Exit}
use Rattle.vote_explain_ballots.specs.declared.places.Part.{Part}
use Rattle.vote_explain_ballots.specs.declared.places.Part.TheVariants as part

-- a ballot line begins so: some text after it makes it one
abbrev pub IsLinePrefix : List ℕ → Type 0
IsLinePrefix prefix = (rest : List ℕ) × IsBallotText (prefix ++ rest)

-- The column of the first byte with which no ballot line goes on, from 1: the bytes before it are the prefix of a ballot line, and
-- no longer prefix of the line is. If the whole line is one, the column is the next one after it.
pub record IsColumn (line : List ℕ) (column : ℕ) : Type 0 where
  pub from_one : 1 ≤ column
  pub within : column ≤ length line + 1
  pub is_prefix : IsLinePrefix (take (column - 1) line)
  pub longest : (n : ℕ) → n ≤ length line → IsLinePrefix (take n line) → n < column

-- ---- by the part of a ballot line that comes next, after this number of bytes
-- the bytes that a ballot line may have there
abbrev pub has_byte : Part → ℕ → ℕ → Bool
has_byte part.Name count b = (nat_lt count MAX_VOTER_NAME && is_voter_byte b) || (nat_lt 0 count && b == byte " ")
has_byte part.Rank count b = is_within (byte "1") (byte "9") b || b == byte "-"
has_byte part.Digit count b = (nat_lt count MAX_LINE && is_within (byte "0") (byte "9") b) || (nat_lt count (MAX_LINE - 1) && b == byte ",")
has_byte part.RankEnd count b = nat_lt count (MAX_LINE - 1) && b == byte ","

-- whether it may end there
abbrev pub may_end : Part → Bool
may_end part.Name = false
may_end part.Rank = false
may_end part.Digit = true
may_end part.RankEnd = true

-- the same in words
abbrev pub place_words : Part → ℕ → List ℕ
place_words part.Name count =
    if count == 0 then codes "the name there: a to z, 0 to 9, . or -"
    else if nat_lt count MAX_VOTER_NAME then codes "a space there, or more of the name: a to z, 0 to 9, . or -"
    else codes "a space there: a name has at most 32 bytes"
place_words part.Rank count = codes "a rank there: a number from 1 to 99, or a hyphen for an option that is not ranked, and so last"
place_words part.Digit count =
    if nat_lt count (MAX_LINE - 1) then codes "a comma or its end there, or a second digit of the rank"
    else if nat_lt count MAX_LINE then codes "its end there, or a second digit of the rank: a line has at most 200 bytes"
    else codes "its end there: a line has at most 200 bytes"
place_words part.RankEnd count =
    if nat_lt count (MAX_LINE - 1) then codes "a comma or its end there: a rank has at most two digits, or is a hyphen"
    else codes "its end there: a line has at most 200 bytes"

-- The part after the front of a ballot line of this number of bytes: it may have a byte exactly if the front and this byte are also the
-- front of some ballot line, and it may end exactly if the front is a ballot line.
pub record IsPartAfter (front : List ℕ) (count : ℕ) (p : Part) : Type 0 where
  pub bytes : (b : ℕ) → IsTrue (has_byte p count b) ↔ IsLinePrefix (front ++ b ∷ [])
  pub end : IsTrue (may_end p) ↔ IsBallotText front

-- where the line leaves the grammar, and what a ballot line has there
pub record IsExit (line : List ℕ) (exit : Exit) : Type 0 where
  pub column : IsColumn line (exit.before + 1)
  pub place : IsPartAfter (take exit.before line) exit.before exit.part

-- the part after a byte of this part
abbrev pub next_part : Part → ℕ → Part
next_part part.Name b = if b == byte " " then part.Rank else part.Name
next_part part.Rank b = if b == byte "-" then part.RankEnd else part.Digit
next_part part.Digit b = if b == byte "," then part.Rank else part.RankEnd
next_part part.RankEnd b = part.Rank
