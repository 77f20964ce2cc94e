-- The words of the faults of a run, as in its fault line, and the fault of a run for each fault of its parts.
use Rattle.std.specs.Prelude.{◌++◌, codes}
use Rattle.vote_poll_keys.specs.FaultWords as poll
use Rattle.vote_poll_keys.specs.declared.fault.PollFault.{PollFault}
use Rattle.vote_poll_keys.specs.declared.fault.PollFault.TheVariants as poll_fault
use Rattle.vote_poll_text.specs.declared.lines.LinesFault.{LinesFault}
use Rattle.vote_poll_text.specs.declared.lines.LinesFault.TheVariants as lines_fault
use Rattle.vote_audit.specs.Words as votes
use Rattle.vote_audit.specs.declared.VoteFault.{VoteFault}
use Rattle.vote_audit.specs.declared.VoteFault.TheVariants as vote_fault
use Rattle.vote_poll_text.specs.Texts.{Text}
use Rattle.vote_commands.specs.declared.fault.InputFault.{InputFault}
use Rattle.vote_commands.specs.declared.fault.InputFault.TheVariants as input
use Rattle.vote_commands.specs.declared.fault.InputFile.{InputFile}
use Rattle.vote_commands.specs.declared.fault.InputFile.TheVariants as file
use Rattle.vote_commands.specs.declared.fault.RunFault.{RunFault}
use Rattle.vote_commands.specs.declared.fault.RunFault.TheVariants as run

-- which file was not read
abbrev pub file_words : InputFile → Text
file_words file.Poll = codes "poll"
file_words file.Ballots = codes "ballots"
file_words file.Sheet = codes "sheet"

-- and why
abbrev pub input_words : InputFault → Text
input_words input.Unreadable = codes "unreadable"
input_words input.TooLong = codes "too long"

-- the words for a run that did not come to its end; for a poll and its votes they are the words of the crate that refuses them
abbrev pub fault_words : RunFault → Text
fault_words (run.Input file fault) = file_words file ++ codes " " ++ input_words fault
fault_words (run.Poll fault) = poll.fault_line fault
fault_words run.NoSuchOption = codes "casting option is not in the poll"
fault_words run.TooManyLines = codes "ballots refused: too many lines"
fault_words (run.Vote fault) = votes.fault_words fault
fault_words run.Memory = codes "out of memory"
fault_words run.Output = codes "output failed"

-- ---- running out of memory is one fault, wherever it comes
-- the fault of a run for a refused poll
abbrev pub poll_refused : PollFault → RunFault
poll_refused poll_fault.Memory = run.Memory
poll_refused fault = run.Poll fault

-- the fault of a run for refused lines
abbrev pub lines_refused : LinesFault → RunFault
lines_refused lines_fault.Memory = run.Memory
lines_refused lines_fault.TooMany = run.TooManyLines

-- the fault of a run for votes that are not taken
abbrev pub votes_stopped : VoteFault → RunFault
votes_stopped vote_fault.Memory = run.Memory
votes_stopped fault = run.Vote fault
