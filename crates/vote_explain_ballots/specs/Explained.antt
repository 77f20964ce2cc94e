-- What `explain` says of the lines of a ballot file. Which lines are listed, where each leaves the grammar, what a ballot has there, and
-- what looks like a table, what the ranks of a ballot are of, and all numbers are fixed here. What a remark says is open.
use Rattle.std.specs.Prelude.{◌≡◌, ℕ, zero, suc, ◌+◌, ◌-◌, ◌==◌, ◌&&◌, if◌then◌else◌, nat_le, nat_lt, slice_get, slice_index_or, Bool, true, false, option_map, unwrap_or, List, [], ◌∷◌, ◌++◌, count_by, drop, length, codes, decimal}
use Rattle.std.specs.List.{All, before_first, concat, flat_map}
use Rattle.std.specs.Str.{byte}
use Rattle.vote_poll.specs.PollContent.{PollContent, elector_count, last_in_time, option_count}
use Rattle.vote_poll.specs.Readings.{is_ballot, is_space, reading}
use Rattle.vote_poll.specs.declared.LineFault.TheVariants.{Shape, RankCount, Roll}
use Rattle.vote_poll_text.specs.Lines.{line_feed}
use Rattle.vote_poll_text.specs.Shown.{shown}
use Rattle.vote_steps.specs.declared.Reply.{Reply}
use Rattle.vote_steps.specs.declared.Reply.TheVariants.{BadLine, Late}
use Rattle.vote_steps.specs.declared.Totals.{Totals}
use Rattle.vote_steps.specs.LastBallots.{refused_count, valid_count, voter_count}
use Rattle.vote_steps.specs.ReplyWords.{reply_words}
use Rattle.vote_poll_text.specs.Texts.{Text, line}
use Rattle.vote_hints.specs.Hints.{AreLinesFor, IsExcerpt}
use Rattle.vote_hints.specs.declared.TheConstants.{MAX_SHOWN}
use Rattle.vote_explain_ballots.specs.Places.{IsExit, place_words}
use Rattle.vote_hints.specs.Near.{IsNearest}
use Rattle.vote_explain_ballots.specs.Remarks.{IsFileText, IsRemark, can_be_ballots}
use Rattle.vote_explain_ballots.specs.declared.TheConstants.{MOST_REMARK}
use Rattle.vote_explain_ballots.specs.Tables.{table_text}
use Rattle.vote_explain_ballots.specs.Refusals.{Refusal, refusals}
use Rattle.vote_explain_ballots.specs.declared.places.Exit.{Exit}

-- what a ballot has where a line leaves the grammar, said of a file that can be ballots
unfoldable pub sentence : Bool → Exit → Text
sentence true exit = codes "; a ballot has " ++ place_words exit.part exit.before
sentence false exit = []

-- the column in which a line leaves the grammar, the character there, and what a ballot has there
abbrev pub IsShapeHint : Bool → Text → Text → Type 0
IsShapeHint is_text bytes hint =
    (exit : Exit) × (character : Text) × IsExit bytes exit × IsRemark character
    × (hint ≡ codes "column " ++ decimal (exit.before + 1) ++ codes ": " ++ character ++ sentence is_text exit)

-- how many ranks a ballot line has, one more than commas, and how many it is to have
abbrev pub rank_count : Text → ℕ
rank_count bytes = count_by (λ b. b == byte ",") bytes + 1

unfoldable pub rank_count_words : ℕ → ℕ → Text
rank_count_words ranks options = concat (decimal ranks ∷ (if ranks == 1 then codes " rank" else codes " ranks") ∷ codes ", the poll has " ∷ decimal options ∷ codes " options" ∷ [])

-- the question whether one of these names was meant, where there are some
abbrev pub question : List Text → Text
question [] = []
question (name ∷ others) =
    codes "; did you mean " ++ shown MAX_SHOWN name ++ flat_map (λ other. codes " or " ++ shown MAX_SHOWN other) others ++ codes "?"

-- a name that is not on the roll, and the names on it that are suggested
abbrev pub stranger_words : Text → List Text → Text
stranger_words name near = shown MAX_SHOWN name ++ codes " is not on the roll" ++ question near

-- a name that is not on the roll, the names on it that are suggested, and a remark on their ballots
abbrev pub IsStrangerHint : List Text → Text → Text → Type 0
IsStrangerHint roll name hint =
    (near : List Text) × (remark : Text) × All (IsNearest name roll) near × IsRemark remark × (hint ≡ stranger_words name near ++ remark)

-- What is said after the words of the reply: where a line leaves the grammar; its number of ranks; its name, and those that are near;
-- the last envelope. No other reply refuses a line.
abbrev pub IsLineHint : Bool → PollContent → Text → Reply → Text → Type 0
IsLineHint is_text poll bytes (BadLine Shape) hint = IsShapeHint is_text bytes hint
IsLineHint is_text poll bytes (BadLine RankCount) hint = hint ≡ rank_count_words (rank_count bytes) (option_count poll)
IsLineHint is_text poll bytes (BadLine Roll) hint = IsStrangerHint poll.roll (before_first is_space bytes) hint
IsLineHint is_text poll bytes Late hint = hint ≡ codes "the last envelope is " ++ decimal (last_in_time poll)
IsLineHint is_text poll bytes other hint = hint ≡ []

-- the line of a refusal, up to its hint
unfoldable pub finding_head : ℕ → Reply → Text
finding_head number reply = concat (codes "ballots:" ∷ decimal number ∷ codes ": " ∷ reply_words reply ∷ codes ": " ∷ [])

-- nothing of a file that can't be ballots
abbrev pub IsIfText : Bool → (Text → Type 0) → Text → Type 0
IsIfText true Says text = Says text
IsIfText false Says text = text ≡ []

-- what is said of a refusal, and its line
abbrev pub SaysRefusal : Bool → PollContent → Refusal → Text → Type 0
SaysRefusal is_text poll refusal text =
    (hint : Text) × (shown : Text) × IsLineHint is_text poll refusal.bytes refusal.reply hint × IsIfText is_text IsExcerpt shown
    × (text ≡ finding_head refusal.number refusal.reply ++ hint ++ (line_feed ++ shown))

-- ---- a ballot line of the poll, and what each of its ranks is of
-- the texts of 1 to n, in their order
abbrev pub each : ℕ → (ℕ → Text) → Text
each zero text = []
each (suc n) text = each n text ++ text (suc n)

-- the first elector, who ranks the last option first, and each other option one below its number: with the numbers as ranks, who takes
-- them for an order of choice sees no fault
unfoldable pub own_ballot : PollContent → Text
own_ballot poll = concat (
    shown MAX_SHOWN (slice_index_or poll.roll 0 []) ∷ codes " " ∷ each (option_count poll - 1) (λ option. decimal (option + 1) ++ codes ",") ∷ codes "1" ∷ [])

-- an option with its number, parted from the one before it
unfoldable pub numbered : List Text → ℕ → Text
numbered names option = concat ((if option == 1 then codes " " else codes ", ") ∷ decimal option ∷ codes " " ∷ unwrap_or (slice_get names (option - 1)) [] ∷ [])

-- the options in their order, each with its number, as far as they have room in a remark
abbrev pub own_options : PollContent → Text
own_options poll = shown MOST_REMARK (each (option_count poll) (numbered poll.options))

-- a ballot, and the options that its ranks are of
abbrev pub order_words : Text → Text → Text
order_words ballot options = line (codes "a ballot line of this poll: `" ∷ ballot ∷ codes "`: the ranks of" ∷ options ∷ codes "; 1 is the best" ∷ [])

-- a line is refused that is not late
abbrev pub has_bad_line : PollContent → List Text → Bool
has_bad_line poll lines = nat_lt (length (drop (last_in_time poll) lines)) (refused_count poll lines)

-- the poll reads a ballot in the line
unfoldable pub reads_ballot : PollContent → Text → Bool
reads_ballot poll bytes = is_ballot (reading poll bytes)

-- said of a file that can be ballots, where a line is refused that is not late
abbrev pub example_text : Bool → PollContent → List Text → Text
example_text is_text poll lines =
    if is_text && has_bad_line poll lines && reads_ballot poll (own_ballot poll) then order_words (own_ballot poll) (own_options poll) else []

-- what a box that holds the lines counts, in the words of the result sheet
pub record AreTotals (poll : PollContent) (lines : List Text) (totals : Totals) : Type 0 where
  pub valid : totals.valid ≡ valid_count poll lines
  pub refused : totals.refused ≡ refused_count poll lines
  pub voters : totals.voters ≡ voter_count poll lines

-- how many lines there are, valid, refused and late, and how many electors have a ballot
abbrev pub numbers_text : PollContent → List Text → Text
numbers_text poll lines = line (
    decimal (length lines) ∷ codes " lines: " ∷ decimal (valid_count poll lines) ∷ codes " valid, " ∷ decimal (refused_count poll lines)
    ∷ codes " refused, " ∷ decimal (length (drop (last_in_time poll) lines)) ∷ codes " of them late; " ∷ decimal (voter_count poll lines) ∷ codes " of "
    ∷ decimal (elector_count poll) ∷ codes " electors have a ballot; refused lines count for nothing" ∷ [])

-- that lines are counted, if the line with the number of the last envelope is there, and a line is refused that is not late
abbrev pub counted_text : PollContent → List Text → Text
counted_text poll lines =
    unwrap_or (option_map (λ last.
    if nat_le last (length lines) && has_bad_line poll lines
    then line (codes "lines are counted: taking one out, or adding one above line " ∷ decimal last ∷ codes ", changes which ballots are late" ∷ []) else []) poll.last_envelope) []

-- what is said before the lines of a file that can be ballots
abbrev pub warnings_text : Bool → PollContent → List Text → Text
warnings_text is_text poll lines = if is_text then table_text poll lines ++ counted_text poll lines else []

-- what is said of the file, a line for each line that is refused, a ballot line of the poll, and the numbers
pub record IsExplained (poll : PollContent) (file : Text) (lines : List Text) (text : Text) : Type 0 where
  pub of_file : Text
  pub is_of_file : IsFileText of_file
  pub findings : Text
  pub are_findings : AreLinesFor (SaysRefusal (can_be_ballots file lines) poll) (refusals poll lines) findings
  pub is_said :
      text ≡ of_file ++ warnings_text (can_be_ballots file lines) poll lines ++ findings ++ example_text (can_be_ballots file lines) poll lines ++ numbers_text poll lines
