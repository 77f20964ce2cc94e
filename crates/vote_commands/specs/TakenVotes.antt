-- The votes of the inputs after they were taken. Each run that counts begins with them.
use Rattle.std.specs.Prelude.{◌≡◌, ◌≢◌, List, All, Some, IfSome, Ok, length}
use Rattle.vote_poll_text.specs.Lines.{HasTooManyLines, lines_of}
use Rattle.vote_poll.specs.Options.{IsOption}
use Rattle.vote_poll.specs.PollContent.{PollContent, option_count}
use Rattle.vote_poll.specs.PollFile.{poll_in}
use Rattle.vote_desks_box.specs.Slips.{Rises}
use Rattle.vote_audit.specs.Audit.{IsAudited}
use Rattle.vote_audit.specs.declared.Audited.{Audited}
use Rattle.vote_poll_text.specs.Texts.{Text}
use Rattle.vote_commands.specs.Counting.{IsNamed, StopsCount}
use Rattle.vote_commands.specs.Inputs.{Inputs}
use Rattle.vote_commands.specs.Runs.{Stops}
use Rattle.vote_commands.specs.TakingVotes.{Taking}
use Rattle.vote_commands.specs.declared.fault.RunFault.{RunFault}
use Rattle.vote_commands.specs.declared.fault.RunFault.TheVariants as run
use Rattle.vote_commands.specs.declared.votes.TakenVotes.{TakenVotes}

-- the box is audited for its poll and its lines, and the casting vote is for an option of the poll
pub record CanBeCounted (taken : TakenVotes) : Type 0 where
  pub audited : IsAudited taken.poll taken.lines taken.audited.ballot_box taken.audited.slips_by_desk
  pub range : IfSome taken.casting (IsOption (option_count taken.poll))

-- the lines of the inputs, and a box that is audited for them and this poll, with a list of slips for each desk; the stamps in each list rise
pub record AreBallotsTaken (poll : PollContent) (inputs : Inputs) (taken : List Text × Audited) : Type 0 where
  pub lines : taken.0 ≡ lines_of inputs.ballots
  pub few : ¬ HasTooManyLines inputs.ballots
  pub audited : IsAudited poll taken.0 taken.1.ballot_box taken.1.slips_by_desk
  pub desks : length taken.1.slips_by_desk ≡ inputs.desks
  pub rising : All Rises taken.1.slips_by_desk

-- the poll of the inputs, its option that the casting vote names, and the ballots that were taken
pub record AreTaken (inputs : Inputs) (taken : TakenVotes) : Type 0 where
  pub poll : poll_in inputs.poll ≡ Ok taken.poll
  pub casting : IsNamed taken.poll inputs.casting taken.casting
  pub ballots : AreBallotsTaken taken.poll inputs (taken.lines, taken.audited)

-- this fault stops the taking of the inputs' votes; it is not a fault of the output
pub record StopsTaking (Takes : Taking) (inputs : Inputs) (fault : RunFault) : Type 0 where
  pub stops : Stops (StopsCount Takes inputs) (Some fault)
  pub unwritten : fault ≢ run.Output
