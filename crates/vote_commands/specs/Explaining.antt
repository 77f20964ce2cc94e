-- What `explain` writes, and how it ends.
use Rattle.std.specs.Prelude.{◌≡◌, ℕ, ◌==◌, ◌&&◌, if◌then◌else◌, List, ◌++◌, length, Option, Some, None, Result, Ok, Err}
use Rattle.std.specs.Result.{result_err}
use Rattle.vote_explain_poll.specs.Findings.{AreFindingsOf}
use Rattle.vote_poll_text.specs.Lines.{lines_of}
use Rattle.vote_poll.specs.PollContent.{PollContent}
use Rattle.vote_poll_keys.specs.Keys.{document}
use Rattle.vote_poll.specs.PollFile.{poll_in}
use Rattle.vote_poll.specs.declared.PollFault.{PollFault}
use Rattle.vote_explain_ballots.specs.Explained.{IsExplained}
use Rattle.vote_steps.specs.LastBallots.{refused_count}
use Rattle.vote_sheet.specs.Steps.{check_text}
use Rattle.vote_poll_text.specs.Texts.{Text}
use Rattle.vote_commands.specs.Runs.{GoesThrough, Runs, StopsAtLines, Tells}
use Rattle.vote_commands.specs.TextAndEnd.{TextAndEnd}
use Rattle.vote_commands.specs.declared.fault.Ended.{Ended}
use Rattle.vote_commands.specs.declared.fault.Ended.TheVariants as ended
use Rattle.vote_commands.specs.declared.fault.RunFault.{RunFault}

-- done, if there is no finding and no refused line
abbrev pub ended_by_findings : Text → ℕ → Ended
ended_by_findings findings refused = if (length findings == 0) && (refused == 0) then ended.Done else ended.Found

-- the findings of a poll, and then all that is said about its ballots and their lines
abbrev pub IsSaidOfLines : PollContent → Text → List Text → Text → TextAndEnd → Type 0
IsSaidOfLines poll ballots lines findings told =
    (rest : Text) × IsExplained poll ballots lines rest × (told.text ≡ findings ++ rest) × (told.end ≡ ended_by_findings findings (refused_count poll lines))

-- the findings of a poll, and then nothing if it is refused; else all that is said about its ballots, or the line of `check` if no ballots are given
abbrev pub IsSaid : Result PollContent PollFault → Option Text → Text → TextAndEnd → Type 0
IsSaid (Err fault) ballots findings told = (told.text ≡ findings) × (told.end ≡ ended.PollRefused)
IsSaid (Ok poll) None findings told = (told.text ≡ findings ++ check_text poll) × (told.end ≡ ended_by_findings findings 0)
IsSaid (Ok poll) (Some ballots) findings told = IsSaidOfLines poll ballots (lines_of ballots) findings told

-- all that is wrong with a poll file and, if the poll is valid and ballots are given, with its ballots
abbrev pub IsExplanation : Text → Option Text → TextAndEnd → Type 0
IsExplanation poll_text ballots told =
    (findings : Text) × AreFindingsOf poll_text (document poll_text) findings × IsSaid (poll_in poll_text) ballots findings told

-- too many lines stop it, if the poll is valid and ballots are given
abbrev pub StopsExplanation : Result PollContent PollFault → Option Text → Option RunFault → Type 0
StopsExplanation (Ok poll) (Some ballots) stop = StopsAtLines ballots GoesThrough stop
StopsExplanation meaning ballots stop = GoesThrough stop

-- the explanation of these bytes is written, and the run ends as it says
abbrev pub Explains : Text → Option Text → Option Text → Option Text → Result Ended RunFault → Type 0
Explains poll_text ballots old new result =
    Runs (StopsExplanation (poll_in poll_text) ballots) (Tells (IsExplanation poll_text ballots) result) old new (result_err result)
