-- What the program counts before the decision, and the sheets that this count gives.
use Rattle.std.specs.Prelude.{◌≡◌, ℕ, List, [], ◌∷◌, ◌++◌, Option, length, string_bytes}
use Rattle.std.specs.List.{concat}
use Rattle.std.specs.declared.string.String.{String}
use Rattle.vote_poll.specs.Options.{IsOption}
use Rattle.vote_poll.specs.PollContent.{PollContent, elector_count, option_count}
use Rattle.vote_count.specs.Rules.{IsKept}
use Rattle.vote_count.specs.Rounds.{IsDecision, final_set}
use Rattle.vote_count.specs.Sets.{In}
use Rattle.vote_count.specs.declared.Decision.{Decision}
use Rattle.vote_count.specs.declared.Decision.TheVariants.{Winner}
use Rattle.vote_steps.specs.declared.Totals.{Totals}
use Rattle.vote_sheet.specs.Sheet.{Sheet, Text, counted_text, decision_text, head_text, options_text, totals_text}
use Rattle.vote_sheet.specs.SheetOf.{IsSheetOf}
use Rattle.vote_sheet.specs.declared.sheet.Count.{Count}

-- the sheet with this count and this decision
abbrev pub as_sheet : Count → Decision → Sheet
as_sheet count decision = record {
  quorum_votes = count.quorum_votes;
  valid = count.totals.valid;
  refused = count.totals.refused;
  voters = count.totals.voters;
  matrix = count.matrix;
  outcome = count.verdict;
  decision = decision;
}

-- this is the count of the lines: with each decision of its final set it is a sheet of the poll, the lines and the casting vote
pub record IsCountOf (poll : PollContent) (lines : List Text) (count : Count) : Type 0 where
  pub line_count : count.lines ≡ length lines
  pub sheets : (casting : Option ℕ) (decision : Decision) → IsDecision (final_set count.verdict.rounds) casting decision
      → IsSheetOf poll lines casting (as_sheet count decision)

-- each option of the final set is kept
abbrev pub FinalSetIsKept : PollContent → Count → Type 0
FinalSetIsKept poll count = (o : ℕ) → In (final_set count.verdict.rounds) o → IsKept poll count.matrix o

-- if there is a winner, it is one of the options of the poll
abbrev pub WinnerIsOption : PollContent → Decision → Type 0
WinnerIsOption poll decision = (o : ℕ) → decision ≡ Winner o → IsOption (option_count poll) o

-- ---- the parts of these sheets

-- the head, in which this is the least number of votes that meets the quorum
abbrev pub head_of : PollContent → ℕ → Text
head_of poll quorum_votes = head_text poll.title (elector_count poll) poll.quorum_multiple quorum_votes poll.wording

-- the numbers of lines and of voters
abbrev pub totals_of : PollContent → ℕ → Totals → Text
totals_of poll lines totals = totals_text lines poll.last_envelope totals.valid totals.refused totals.voters

-- all lines but the last; only the last line depends on the casting vote
abbrev pub shared_text : PollContent → Count → Text
shared_text poll count = concat (
    head_of poll count.quorum_votes
    ∷ totals_of poll count.lines count.totals
    ∷ options_text poll.options poll.ratios
    ∷ counted_text (option_count poll) count.matrix count.verdict
    ∷ [])

-- the sheet with this decision
abbrev pub whole_text : PollContent → Count → Decision → Text
whole_text poll count decision = shared_text poll count ++ decision_text poll.options (final_set count.verdict.rounds) decision

-- this is the last line of the sheet with this casting vote
abbrev pub IsLastLine : PollContent → Count → Option ℕ → Text → Type 0
IsLastLine poll count casting last =
    let set = final_set count.verdict.rounds in
    (decision : Decision) × IsDecision set casting decision × (last ≡ decision_text poll.options set decision)

-- the sheet is these shared lines, and then the last line with this casting vote
abbrev pub IsWhole : PollContent → Count → Text → Option ℕ → Text → Type 0
IsWhole poll count shared casting sheet = (last : Text) × IsLastLine poll count casting last × (sheet ≡ shared ++ last)

-- the last line of the sheet with this casting vote was appended to the text
abbrev pub AddsLastLine : {Z : Type 0} → PollContent → Count → Option ℕ → String Z → String Z → Type 0
AddsLastLine poll count casting before after = IsWhole poll count (string_bytes before) casting (string_bytes after)
