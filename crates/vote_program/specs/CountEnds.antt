-- How a count ends whose files tell their bytes: as these bytes and the casting vote call for, unless it is stopped.
use Rattle.std.specs.Prelude.{◌≡◌, ◌<◌, ◌⊎◌, ℕ, List, Ok, Err, Option, Result, length}
use Rattle.vote_poll_text.specs.Lines.{HasTooManyLines, lines_of}
use Rattle.vote_poll.specs.PollContent.{PollContent}
use Rattle.vote_poll.specs.PollFile.{poll_in}
use Rattle.vote_poll.specs.declared.PollFault.{PollFault}
use Rattle.vote_count.specs.declared.Decision.{Decision}
use Rattle.vote_audit.specs.declared.VoteFault.{VoteFault}
use Rattle.vote_sheet.specs.SheetOf.{IsSheetAndDecision}
use Rattle.vote_poll_text.specs.Texts.{Text}
use Rattle.vote_commands.specs.Counting.{NamesNoOption, casting_option, ended_by_decision}
use Rattle.vote_commands.specs.Status.{fault_status, status}
use Rattle.vote_commands.specs.TakingVotes.{StopsVotes, Taking}
use Rattle.vote_commands.specs.declared.RunFault.TheVariants as run
use Rattle.vote_program.specs.SheetOfFiles.{AskForSheet}
use Rattle.vote_program.specs.declared.inputs.TheConstants.{BALLOTS_LIMIT, POLL_LIMIT}

-- with this exit status if this is so, and else as comes next
abbrev pub EndsWhere : Type 0 → ℕ → (ℕ → Type 0) → ℕ → Type 0
EndsWhere IsSo with Next answered = (IsSo × (answered ≡ with)) ⊎ ((¬ IsSo) × Next answered)

-- as the sheet of these lines decides: with 0 for a winner, 1 for a tie, 8 for a casting vote for an option that is not in the tie
abbrev pub EndsAsDecided : PollContent → List Text → Option Text → ℕ → Type 0
EndsAsDecided poll lines casting answered =
    (sheet : Text) × (decision : Decision) × IsSheetAndDecision poll lines (casting_option poll casting) sheet decision
    × (answered ≡ status (Ok (ended_by_decision decision)))

-- with 3 for a poll file that is refused, 8 for a casting vote that names no option, 4 for too many lines, and else as the sheet decides
abbrev pub EndsAsCounted : Result PollContent PollFault → Text → Option Text → ℕ → Type 0
EndsAsCounted (Err fault) ballots casting answered = answered ≡ 3
EndsAsCounted (Ok poll) ballots casting answered =
    EndsWhere (NamesNoOption poll casting) 8 (EndsWhere (HasTooManyLines ballots) 4 (EndsAsDecided poll (lines_of ballots) casting)) answered

-- with 3 for a poll file of more bytes than its limit, 4 for such a ballot file, and else as the two are counted
abbrev pub IsDue : Text → Text → Option Text → ℕ → Type 0
IsDue poll ballots casting =
    EndsWhere (POLL_LIMIT < length poll) 3 (EndsWhere (BALLOTS_LIMIT < length ballots) 4 (EndsAsCounted (poll_in poll) ballots casting))

-- the call that takes the votes stops them by a fault that it may return for this poll and these lines: with 5 for want of memory or of a thread, else with 6
abbrev pub EndsWithVotes : Taking → Text → Text → ℕ → Type 0
EndsWithVotes Takes poll_text ballots answered =
    (poll : PollContent) × (desks : ℕ) × (fault : VoteFault) × (poll_in poll_text ≡ Ok poll) × StopsVotes Takes poll (lines_of ballots) desks fault
    × (answered ≡ fault_status (run.Vote fault))

-- the run is stopped: with 5 for want of memory, with 7 if its output fails, or by the call that takes its votes
abbrev pub IsStopped : Taking → Text → Text → ℕ → Type 0
IsStopped Takes poll ballots answered = (answered ≡ 5) ⊎ ((answered ≡ 7) ⊎ EndsWithVotes Takes poll ballots answered)

-- the run ends as these two files and this casting vote call for, or it is stopped
abbrev pub IsDueOrStopped : Taking → Text → Text → Option Text → ℕ → Type 0
IsDueOrStopped Takes poll ballots casting answered = IsDue poll ballots casting answered ⊎ IsStopped Takes poll ballots answered

-- If words ask for the sheet of files that tell their bytes, the run ends as these bytes and the casting vote call for, or it is stopped.
abbrev pub EndsAsDue : (Text → Option Text) → Taking → List Text → ℕ → Type 0
EndsAsDue file_bytes Takes words answered =
    (poll ballots : Text) (casting : Option Text) → AskForSheet file_bytes words poll ballots casting → IsDueOrStopped Takes poll ballots casting answered
