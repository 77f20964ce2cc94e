-- The result of comparing a text with the sheets of a poll and its lines.
use Rattle.std.specs.Prelude.{◌≡◌, ◌≢◌, ℕ, ◌+◌, ◌<◌, ◌≤◌, ◌==◌, if◌then◌else◌, List, [], ◌∷◌, ◌++◌, length, take, Ok, Option, Some, None, IfSome, slice_get, string_bytes, codes, decimal}
use Rattle.std.specs.List.{All, concat}
use Rattle.std.specs.declared.string.String.{String}
use Rattle.vote_poll_text.specs.Lines.{IsUnbroken, feed_count, lines_of, text_of_lines}
use Rattle.vote_poll_text.specs.Shown.{shown}
use Rattle.vote_poll.specs.Options.{IsOption}
use Rattle.vote_poll.specs.PollContent.{PollContent, option_count}
use Rattle.vote_poll.specs.PollFile.{poll_in}
use Rattle.vote_sheet.specs.Counted.{IsLastLine}
use Rattle.vote_sheet.specs.Sheet.{name_of}
use Rattle.vote_sheet.specs.SheetOf.{IsSheet}
use Rattle.vote_poll_text.specs.Texts.{Text, line}
use Rattle.vote_sheet.specs.declared.TheConstants.{MAX_SHOWN_OF_LINE}
use Rattle.vote_sheet.specs.declared.sheet.Count.{Count}
use Rattle.vote_sheet.specs.declared.verify.Found.{Found}
use Rattle.vote_sheet.specs.declared.verify.Found.TheVariants.{Closest, Same}
use Rattle.vote_sheet.specs.declared.verify.Verification.{Verification}
use Rattle.vote_sheet.specs.declared.verify.Verification.TheVariants.{Matches, MatchesCasting, Differs}

-- The text is the sheet without a casting vote; or it is not that sheet, but the sheet with this option as the casting vote, the first such option if there are several; or it is none of the sheets.
abbrev pub IsVerification : PollContent → List Text → Text → Verification → Type 0
IsVerification poll lines text Matches = IsSheet poll lines None text
IsVerification poll lines text (MatchesCasting o) =
    ¬ IsSheet poll lines None text × IsOption (option_count poll) o × IsSheet poll lines (Some o) text
    × ((p : ℕ) → IsOption (option_count poll) p → p < o → ¬ IsSheet poll lines (Some p) text)
IsVerification poll lines text Differs =
    ¬ IsSheet poll lines None text × ((o : ℕ) → IsOption (option_count poll) o → ¬ IsSheet poll lines (Some o) text)

-- ---- the sheet that agrees longest

-- there is no casting vote, or it is for one of the options
abbrev pub IsCasting : PollContent → Option ℕ → Type 0
IsCasting poll casting = IfSome casting (IsOption (option_count poll))

-- no casting vote comes first, then the casting votes for the options, in the order of their numbers
abbrev pub ComesBefore : Option ℕ → Option ℕ → Type 0
ComesBefore earlier None = ⊥
ComesBefore None (Some o) = Unit {0}
ComesBefore (Some p) (Some o) = p < o

-- the length in bytes of the common prefix of two texts
abbrev pub common_bytes : Text → Text → ℕ
common_bytes (b ∷ bs) (c ∷ cs) = if b == c then common_bytes bs cs + 1 else 0
common_bytes text other = 0

-- the number of lines, each with its line feed, in the common prefix of two texts
abbrev pub common_lines : Text → Text → ℕ
common_lines text other = feed_count (take (common_bytes text other) text)

-- Of the sheets without a casting vote and with each casting vote, this sheet has the most first lines in common with the text; of several such sheets it has the earliest casting vote.
pub record AgreesLongest (poll : PollContent) (IsSheetFor : Option ℕ → Text → Type 0) (text : Text) (casting : Option ℕ) (sheet : Text) : Type 0 where
  pub vote : IsCasting poll casting
  pub is_sheet : IsSheetFor casting sheet
  pub longest : (other : Option ℕ) (another : Text) → IsCasting poll other → IsSheetFor other another
      → common_lines text another ≤ common_lines text sheet
  pub first : (earlier : Option ℕ) (another : Text) → IsCasting poll earlier → ComesBefore earlier casting
      → IsSheetFor earlier another → common_lines text another < common_lines text sheet

-- ---- the search

-- the text is this line; or it is not, and the two have this many lines in common
abbrev pub IsComparison : Text → Text → Option ℕ → Type 0
IsComparison text line None = text ≡ line
IsComparison text line (Some agrees) = (text ≢ line) × (agrees ≡ common_lines text line)

-- this is the result of comparing the text with the last line of the sheet with this casting vote
abbrev pub IsComparedWith : PollContent → Count → Option ℕ → Text → Option ℕ → Type 0
IsComparedWith poll count casting text agrees = (last : Text) × IsLastLine poll count casting last × IsComparison text last agrees

-- The text is the sheet with this casting vote, and with no earlier one; or it is none of the sheets, and the sheet with this casting vote agrees longest.
abbrev pub IsFound : PollContent → (Option ℕ → Text → Type 0) → Text → Found → Type 0
IsFound poll IsSheetFor text (Same casting) =
    IsCasting poll casting × IsSheetFor casting text × ((earlier : Option ℕ) → IsCasting poll earlier → ComesBefore earlier casting → ¬ IsSheetFor earlier text)
IsFound poll IsSheetFor text (Closest casting) =
    ((other : Option ℕ) → IsCasting poll other → ¬ IsSheetFor other text) × ((sheet : Text) → IsSheetFor casting sheet → AgreesLongest poll IsSheetFor text casting sheet)

-- ---- the words

-- the verification of a text that is the sheet with this casting vote
abbrev pub matching : Option ℕ → Verification
matching None = Matches
matching (Some o) = MatchesCasting o

unfoldable pub verified_text : List Text → Option ℕ → Text
verified_text names None = codes "verified\n"
verified_text names (Some o) = line (codes "verified, casting vote " ∷ decimal o ∷ codes " " ∷ name_of names o ∷ [])

-- the first bytes of a line, or a note that the text has ended
abbrev pub shown_line : Option Text → Text
shown_line None = codes "(end)"
shown_line (Some text) = shown MAX_SHOWN_OF_LINE text

-- the number, from 1, of the first line in which the text differs from the sheet, and this line of both; a last line without its line feed differs from the same line with it
unfoldable pub difference_text : Text → Text → Text
difference_text published counted =
    let before = common_lines published counted in
    concat (
    line (codes "differs at line " ∷ decimal (before + 1) ∷ [])
    ∷ line (codes "sheet: " ∷ shown_line (slice_get (lines_of published) before) ∷ [])
    ∷ line (codes "count: " ∷ shown_line (slice_get (lines_of counted) before) ∷ [])
    ∷ [])

-- the first line of a text, with its line feed if it has one
abbrev pub first_line : Text → Text
first_line [] = []
first_line (b ∷ bs) = if b == 10 then b ∷ [] else b ∷ first_line bs

-- The common prefix of two texts has this many lines, and their next lines differ: in a byte, or because one lacks its line feed or is not there.
pub record DifferFirstAfter (text sheet : Text) (before : ℕ) : Type 0 where
  pub lines : List Text
  pub unbroken : All IsUnbroken lines
  pub count : length lines ≡ before
  pub rest : Text
  pub other : Text
  pub is_text : text ≡ text_of_lines lines ++ rest
  pub is_sheet : sheet ≡ text_of_lines lines ++ other
  pub differ : first_line rest ≢ first_line other

-- a law: the lines that two texts have in common are all lines before the first line in which they differ
abbrev pub NamesTheFirstLine : Type 0
NamesTheFirstLine = (text sheet : Text) → text ≢ sheet → DifferFirstAfter text sheet (common_lines text sheet)

-- the words that are printed for this verification; if the text is none of the sheets, they say how it differs from the sheet that agrees longest with it
abbrev pub AreVerificationWords : PollContent → List Text → Text → Verification → Text → Type 0
AreVerificationWords poll lines text Matches words = words ≡ verified_text poll.options None
AreVerificationWords poll lines text (MatchesCasting o) words = words ≡ verified_text poll.options (Some o)
AreVerificationWords poll lines text Differs words =
    (casting : Option ℕ) × (sheet : Text) × AgreesLongest poll (IsSheet poll lines) text casting sheet × (words ≡ difference_text text sheet)

-- a law: a poll, its lines and a text determine what is said about the text, and its words
abbrev pub VerificationsAreDetermined : Type 0
VerificationsAreDetermined =
    (poll : PollContent) (lines : List Text) (text words others : Text) (said other : Verification) →
    IsVerification poll lines text said → AreVerificationWords poll lines text said words →
    IsVerification poll lines text other → AreVerificationWords poll lines text other others → (said ≡ other) × (words ≡ others)

-- a law: of each text something is said in words, for each poll that is read from a poll file and any lines
abbrev pub VerificationsExist : Type 0
VerificationsExist =
    (file : Text) (poll : PollContent) (lines : List Text) (text : Text) → poll_in file ≡ Ok poll
    → (said : Verification) × (words : Text) × IsVerification poll lines text said × AreVerificationWords poll lines text said words

-- the words are those of this verification of the text
abbrev pub SaysInWords : {Z : Type 0} → PollContent → List Text → Text → String Z × Verification → Type 0
SaysInWords poll lines text said = AreVerificationWords poll lines text said.1 (string_bytes said.0)
