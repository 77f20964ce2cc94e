-- What the program does with the bytes of its inputs, for each kind of request.
use Rattle.std.specs.Prelude.{◌≡◌, Option, None, option_copied, Result, IfOk, IsSomeAnd, OnErr, OnOk}
use Rattle.std.proofs.Common.{Bor}
use Rattle.std.specs.Result.{result_err}
use Rattle.vote_poll.specs.PollFile.{poll_in}
use Rattle.vote_poll_text.specs.Texts.{Text}
use Rattle.vote_commands.specs.Counting.{IsCountFor, IsCountedIn, StopsCount}
use Rattle.vote_commands.specs.Explaining.{Explains}
use Rattle.vote_commands.specs.Inputs.{Inputs, inputs_at}
use Rattle.vote_commands.specs.Runs.{GoesThrough, IsCheck, IsListing, Runs, StopsAtLines, StopsAtPoll, Tells}
use Rattle.vote_commands.specs.TakingVotes.{Taking}
use Rattle.vote_request.specs.declared.Listing.{Listing}
use Rattle.vote_request.specs.declared.Purpose.{Purpose}
use Rattle.vote_request.specs.declared.Request.{Request}
use Rattle.vote_request.specs.declared.Request.TheVariants as request
use Rattle.vote_commands.specs.declared.fault.Ended.{Ended}
use Rattle.vote_commands.specs.declared.fault.Ended.TheVariants as ended
use Rattle.vote_commands.specs.declared.fault.RunFault.{RunFault}
use Rattle.vote_commands.specs.declared.finished_run.FinishedRun.{FinishedRun}

-- a request with the bytes of its files
abbrev pub LoadedRequest : Type 0
LoadedRequest = Request (Bor Text)

-- no box is returned
abbrev pub TellsNoBox : FinishedRun → Type 0
TellsNoBox finished = finished.audited ≡ None

-- The result of counting these inputs for this purpose is written, and the run ends as it says. The box in which the votes were counted is returned if the run comes to its end, otherwise no box.
pub record Counts (Takes : Taking) (made_for : Purpose (Bor Text)) (inputs : Inputs) (old new : Option Text) (finished : FinishedRun) : Type 0 where
  pub runs : Runs (StopsCount Takes inputs) (Tells (IsCountFor made_for inputs) finished.end) old new (result_err finished.end)
  pub counted_in : OnOk finished.end (IsSomeAnd finished.audited (IsCountedIn inputs))
  pub uncounted : OnErr finished.end (TellsNoBox finished)

-- the listing of a poll file and a ballot file is written
abbrev pub Lists : Listing → Text → Text → Option Text → Option Text → Option RunFault → Type 0
Lists listed poll_text ballots = Runs (StopsAtPoll (poll_in poll_text) (λ poll. StopsAtLines ballots GoesThrough)) (IsListing listed poll_text ballots)

-- the sizes of the poll in these bytes are written
abbrev pub Checks : Text → Option Text → Option Text → Option RunFault → Type 0
Checks poll_text = Runs (StopsAtPoll (poll_in poll_text) (λ poll. GoesThrough)) (IsCheck poll_text)

-- a run that comes to its end ends as `Done`
abbrev pub EndsDone : Result Ended RunFault → Type 0
EndsDone result = IfOk result (λ end. end ≡ ended.Done)

-- what a run of a request appends to the sink, and how it ends; only a count returns a box
abbrev pub Performs : Taking → LoadedRequest → Option Text → Option Text → FinishedRun → Type 0
Performs Takes (request.Count poll ballots desks casting made_for) old new finished = Counts Takes made_for (inputs_at poll ballots desks casting) old new finished
Performs Takes (request.List poll ballots listed) old new finished = Lists listed poll.now ballots.now old new (result_err finished.end) × EndsDone finished.end × TellsNoBox finished
Performs Takes (request.Check poll) old new finished = Checks poll.now old new (result_err finished.end) × EndsDone finished.end × TellsNoBox finished
Performs Takes (request.Explain poll ballots file poll_name) old new finished = Explains poll.now (option_copied ballots) old new finished.end × TellsNoBox finished
