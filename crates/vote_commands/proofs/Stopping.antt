-- Which fault stops a run. The tests before it do not stop the run.
use Rattle.std.proofs.Common.{◌≡◌, ◌≢◌, Bor, List, Option, Some, None, Result, Ok, Err, inl, inr, refl, subst, sym, ◌∙◌}
use Rattle.std.specs.Result.{result_err}
use Rattle.vote_poll.specs.PollContent.{PollContent}
use Rattle.vote_poll.specs.PollFile.{poll_in}
use Rattle.vote_poll_keys.specs.Keys.{Fails}
use Rattle.vote_poll_keys.specs.declared.fault.PollFault.{PollFault}
use Rattle.vote_poll_keys.specs.declared.fault.PollFault.TheVariants as poll_fault
use Rattle.vote_poll_text.specs.Lines.{HasTooManyLines, lines_of}
use Rattle.vote_poll_text.specs.declared.lines.LinesFault.{LinesFault}
use Rattle.vote_poll_text.specs.declared.lines.LinesFault.TheVariants as lines_fault
use Rattle.vote_audit.specs.declared.VoteFault.{VoteFault}
use Rattle.vote_audit.specs.declared.VoteFault.TheVariants as vote
use Rattle.vote_poll_text.specs.Texts.{Text}
use Rattle.vote_commands.specs.Counting.{NamesNoOption, StopsCount}
use Rattle.vote_commands.specs.Inputs.{Inputs}
use Rattle.vote_commands.specs.Reading.{AsksForNoVotes, GivesNoLines, GivesNoPoll}
use Rattle.vote_commands.specs.Runs.{Runs, Stops, StopsAtLines, StopsAtPoll, Tells, Writes}
use Rattle.vote_commands.specs.TakenVotes.{AreTaken, StopsTaking}
use Rattle.vote_commands.specs.TakingVotes.{StopsVotes, Taking}
use Rattle.vote_commands.specs.TextAndEnd.{TextAndEnd}
use Rattle.vote_commands.specs.Words.{lines_refused, poll_refused, votes_stopped}
use Rattle.vote_commands.specs.declared.fault.Ended.{Ended}
use Rattle.vote_commands.specs.declared.fault.RunFault.{RunFault}
use Rattle.vote_commands.specs.declared.fault.RunFault.TheVariants as run
use Rattle.vote_commands.specs.declared.votes.TakenVotes.{TakenVotes}

-- ---- a file that gives no poll or no lines
pub no_poll : (meaning : Result PollContent PollFault) (fault : PollFault) → Fails fault meaning → GivesNoPoll meaning (poll_refused fault)
no_poll meaning poll_fault.Memory failed = refl
no_poll meaning fault failed = failed

pub no_lines : (ballots : Text) (fault : LinesFault) → (fault ≡ lines_fault.TooMany → HasTooManyLines ballots) → GivesNoLines ballots (lines_refused fault)
no_lines ballots lines_fault.TooMany many = many refl
no_lines ballots lines_fault.Memory many = refl

-- ---- the run that it stops
pub stops_at_poll : (Next : PollContent → Option RunFault → Type 0) (meaning : Result PollContent PollFault) (fault : RunFault) → GivesNoPoll meaning fault
    → Stops (StopsAtPoll meaning Next) (Some fault) × (fault ≢ run.Output)
stops_at_poll Next meaning (run.Poll fault) refused = (rw refused refl, λ same. cc)
stops_at_poll Next meaning run.Memory refused = (tt, λ same. cc)
stops_at_poll Next meaning other refused = cc

pub stops_at_lines : (Next : Option RunFault → Type 0) (ballots : Text) (fault : RunFault) → GivesNoLines ballots fault
    → Stops (StopsAtLines ballots Next) (Some fault) × (fault ≢ run.Output)
stops_at_lines Next ballots run.TooManyLines many = (inl (many, refl), λ same. cc)
stops_at_lines Next ballots run.Memory many = (tt, λ same. cc)
stops_at_lines Next ballots other many = cc

-- ---- a poll file and a casting vote that ask for no votes
pub without_poll : (inputs : Inputs) (fault : RunFault) → GivesNoPoll (poll_in inputs.poll) fault → AsksForNoVotes inputs fault
without_poll inputs run.NoSuchOption refused = cc
without_poll inputs fault refused = refused

pub without_option : (inputs : Inputs) (poll : PollContent) → poll_in inputs.poll ≡ Ok poll → NamesNoOption poll inputs.casting → AsksForNoVotes inputs run.NoSuchOption
without_option inputs poll meant none = (poll, meant, none)

-- ---- a count that it stops
at_poll : (Takes : Taking) (inputs : Inputs) (fault : RunFault) → GivesNoPoll (poll_in inputs.poll) fault → StopsTaking Takes inputs fault
at_poll Takes inputs fault refused =
    let (stops, unwritten) = stops_at_poll _ (poll_in inputs.poll) fault refused in
    record { stops = stops; unwritten = unwritten }

pub count_without_votes_asked : (Takes : Taking) (inputs : Inputs) (fault : RunFault) → AsksForNoVotes inputs fault → StopsTaking Takes inputs fault
count_without_votes_asked Takes inputs run.NoSuchOption (poll, meant, none) = record { stops = rw meant (inl (none, refl)); unwritten = λ same. cc }
count_without_votes_asked Takes inputs fault refused = at_poll Takes inputs fault refused

-- each fault of the votes except running out of memory stops the run as a fault of votes
stopped_by : (Takes : Taking) (inputs : Inputs) (poll : PollContent) (fault : VoteFault) → poll_in inputs.poll ≡ Ok poll → ¬ NamesNoOption poll inputs.casting → ¬ HasTooManyLines inputs.ballots
    → StopsVotes Takes poll (lines_of inputs.ballots) inputs.desks fault → StopsTaking Takes inputs (votes_stopped fault)
stopped_by Takes inputs poll vote.Memory meant one few stops = record { stops = tt; unwritten = λ same. cc }
stopped_by Takes inputs poll fault meant one few stops =
    record { stops = rw meant (inr (one, inr (few, (λ same. cc, stops)))); unwritten = λ same. cc }

pub count_without_votes : (Takes : Taking) (inputs : Inputs) (poll : Bor PollContent) (lines : Bor (List Text)) (fault : VoteFault) (told : RunFault)
    → poll_in inputs.poll ≡ Ok poll.now → ¬ NamesNoOption poll.now inputs.casting → ¬ HasTooManyLines inputs.ballots → lines.now ≡ lines_of inputs.ballots
    → Takes poll lines inputs.desks (Err fault) → told ≡ votes_stopped fault → StopsTaking Takes inputs told
count_without_votes Takes inputs poll lines fault told meant one few same stops is =
    subst (StopsTaking Takes inputs) (sym is) (stopped_by Takes inputs poll.now fault meant one few (poll, lines, refl, same, stops))

-- nothing stops a count whose votes are taken
pub count_goes_through : (Takes : Taking) (inputs : Inputs) (taken : TakenVotes) → AreTaken inputs taken → StopsCount Takes inputs None
count_goes_through Takes inputs taken by = rw by.poll (inr (by.casting.is_one, inr (by.ballots.few, refl)))

-- ---- a run that only its output stops
failed_output : (MayStop : Option RunFault → Type 0) (IsTold : TextAndEnd → Type 0) (told : TextAndEnd) (bytes : Text) (old new : Option Text) → bytes ≡ told.text → Stops MayStop None → IsTold told
    → Writes (λ meant. meant ≡ bytes) old new (Some run.Output) → Runs MayStop (Tells IsTold (Err run.Output)) old new (Some run.Output)
failed_output MayStop IsTold told bytes old new same due is (text, meant, prefix) = record { stops = due; writes = (text, (told, is, meant ∙ same, tt), prefix) }

pub stops_at_output : (MayStop : Option RunFault → Type 0) (IsTold : TextAndEnd → Type 0) (told : TextAndEnd) (bytes : Text) (old new : Option Text) (result : Result Ended RunFault) (fault : RunFault)
    → result ≡ Err fault → fault ≡ run.Output → bytes ≡ told.text → Stops MayStop None → IsTold told → Writes (λ meant. meant ≡ bytes) old new (Some fault)
    → Runs MayStop (Tells IsTold result) old new (result_err result)
stops_at_output MayStop IsTold told bytes old new result fault ends is same due meant written =
    rw (ends, is) (failed_output MayStop IsTold told bytes old new same due meant (subst (λ f. Writes (λ text. text ≡ bytes) old new (Some f)) is written))
