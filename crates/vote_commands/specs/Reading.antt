-- What private functions say about the files that are read.
use Rattle.std.specs.Prelude.{◌≡◌, Result, Ok, Err}
use Rattle.vote_poll.specs.PollContent.{PollContent}
use Rattle.vote_poll.specs.PollFile.{poll_in}
use Rattle.vote_poll.specs.declared.PollFault.{PollFault}
use Rattle.vote_poll_text.specs.Lines.{HasTooManyLines}
use Rattle.vote_poll_text.specs.Texts.{Text}
use Rattle.vote_commands.specs.Counting.{NamesNoOption}
use Rattle.vote_commands.specs.Inputs.{Inputs}
use Rattle.vote_commands.specs.declared.fault.RunFault.{RunFault}
use Rattle.vote_commands.specs.declared.fault.RunFault.TheVariants as run

-- a poll file with this meaning gives no poll: it is refused for its fault, or no memory was left
abbrev pub GivesNoPoll : Result PollContent PollFault → RunFault → Type 0
GivesNoPoll meaning (run.Poll fault) = meaning ≡ Err fault
GivesNoPoll meaning fault = fault ≡ run.Memory

-- no votes are asked for: the poll file gives no poll, or the casting vote names none of its options
abbrev pub AsksForNoVotes : Inputs → RunFault → Type 0
AsksForNoVotes inputs run.NoSuchOption = (poll : PollContent) × (poll_in inputs.poll ≡ Ok poll) × NamesNoOption poll inputs.casting
AsksForNoVotes inputs fault = GivesNoPoll (poll_in inputs.poll) fault

-- a ballot file gives no lines: it has too many, or no memory was left
abbrev pub GivesNoLines : Text → RunFault → Type 0
GivesNoLines ballots run.TooManyLines = HasTooManyLines ballots
GivesNoLines ballots fault = fault ≡ run.Memory
