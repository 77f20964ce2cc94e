-- The sheet of a poll, its lines and the casting vote. Its definition names no history, desk or reply.
use Rattle.std.specs.Prelude.{◌≡◌, ℕ, List, Ok, Option, string_bytes}
use Rattle.std.specs.declared.string.String.{String}
use Rattle.vote_poll.specs.Options.{IsOption}
use Rattle.vote_poll.specs.PollContent.{PollContent, option_count}
use Rattle.vote_poll.specs.PollFile.{poll_in}
use Rattle.vote_count.specs.Votes.{votes}
use Rattle.vote_count.specs.Rules.{IsQuorum}
use Rattle.vote_count.specs.Rounds.{IsDecision, IsOutcome, final_set}
use Rattle.vote_count.specs.declared.Decision.{Decision}
use Rattle.vote_steps.specs.LastBallots.{refused_count, valid_count, voter_count, votes_for}
use Rattle.vote_sheet.specs.Sheet.{Sheet, Text, sheet_text}

-- the sheet has the least number of votes that meets the quorum, the numbers of valid and refused lines and of voters, the votes over each elector's last valid ballot, and their outcome and decision
pub record IsSheetOf (poll : PollContent) (lines : List (List ℕ)) (casting : Option ℕ) (s : Sheet) : Type 0 where
  pub quorum : IsQuorum poll s.quorum_votes
  pub valid : s.valid ≡ valid_count poll lines
  pub refused : s.refused ≡ refused_count poll lines
  pub voters : s.voters ≡ voter_count poll lines
  pub size : s.matrix.options ≡ option_count poll
  pub counted : (a b : ℕ) → IsOption (option_count poll) a → IsOption (option_count poll) b → votes s.matrix a b ≡ votes_for poll lines a b
  pub outcome : IsOutcome poll s.matrix s.outcome
  pub decision : IsDecision (final_set s.outcome.rounds) casting s.decision

-- the text is a sheet of the poll, the lines and the casting vote, and this is the decision of the sheet
abbrev pub IsSheetAndDecision : PollContent → List Text → Option ℕ → Text → Decision → Type 0
IsSheetAndDecision poll lines casting text decision =
    (s : Sheet) × IsSheetOf poll lines casting s × (text ≡ sheet_text poll lines s) × (decision ≡ s.decision)

-- a sheet of the poll, the lines and the casting vote was printed, and this is its decision
abbrev pub PrintsSheet : {Z : Type 0} → PollContent → List Text → Option ℕ → String Z × Decision → Type 0
PrintsSheet poll lines casting printed = IsSheetAndDecision poll lines casting (string_bytes printed.0) printed.1

-- the text is a sheet of the poll, the lines and the casting vote
abbrev pub IsSheet : PollContent → List Text → Option ℕ → Text → Type 0
IsSheet poll lines casting text = (s : Sheet) × IsSheetOf poll lines casting s × (text ≡ sheet_text poll lines s)

-- a poll, its lines and the casting vote have at most one sheet
abbrev pub SheetIsUnique : Type 0
SheetIsUnique =
    (poll : PollContent) (lines : List Text) (casting : Option ℕ) (text other : Text) → IsSheet poll lines casting text → IsSheet poll lines casting other → text ≡ other

-- each poll that is read from a poll file has a sheet, for any lines and any casting vote
abbrev pub SheetExists : Type 0
SheetExists = (file : Text) (poll : PollContent) (lines : List Text) (casting : Option ℕ) → poll_in file ≡ Ok poll → (text : Text) × IsSheet poll lines casting text
