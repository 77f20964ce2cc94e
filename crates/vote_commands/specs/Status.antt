-- The exit status of a run, and the fault of a file that was not read.
use Rattle.std.specs.Prelude.{ℕ, Result, Ok, Err}
use Rattle.vote_poll_keys.specs.declared.fault.PollFault.TheVariants as poll_fault
use Rattle.vote_desks_box.specs.declared.DeskFault.TheVariants as desk
use Rattle.vote_audit.specs.declared.VoteFault.TheVariants as vote
use Rattle.vote_files.specs.declared.ReadFault.{ReadFault}
use Rattle.vote_files.specs.declared.ReadFault.TheVariants as read
use Rattle.vote_commands.specs.declared.fault.InputFile.{InputFile}
use Rattle.vote_commands.specs.declared.fault.InputFile.TheVariants as file
use Rattle.vote_commands.specs.declared.fault.InputFault.TheVariants as input
use Rattle.vote_commands.specs.declared.fault.Ended.{Ended}
use Rattle.vote_commands.specs.declared.fault.Ended.TheVariants as ended
use Rattle.vote_commands.specs.declared.fault.RunFault.{RunFault}
use Rattle.vote_commands.specs.declared.fault.RunFault.TheVariants as run

-- why this file was not read
abbrev pub unread : InputFile → ReadFault → RunFault
unread file read.Device = run.Input file input.Unreadable
unread file read.TooLong = run.Input file input.TooLong
unread file read.Memory = run.Memory

-- ---- statuses
-- the status of a run that did not come to its end; refused memory and refused threads have status 5, also in faults of polls and votes that no run returns
abbrev pub fault_status : RunFault → ℕ
fault_status (run.Input file.Poll fault) = 3
fault_status (run.Input file.Ballots fault) = 4
fault_status (run.Input file.Sheet fault) = 10
fault_status (run.Poll poll_fault.Memory) = 5
fault_status (run.Poll fault) = 3
fault_status run.NoSuchOption = 8
fault_status run.TooManyLines = 4
fault_status (run.Vote vote.Memory) = 5
fault_status (run.Vote vote.Thread) = 5
fault_status (run.Vote (vote.Desk desk.Memory)) = 5
fault_status (run.Vote fault) = 6
fault_status run.Memory = 5
fault_status run.Output = 7

-- the exit status of a run, by how it ended
abbrev pub status : Result Ended RunFault → ℕ
status (Ok (ended.Decided option)) = 0
status (Ok ended.Done) = 0
status (Ok ended.Tie) = 1
status (Ok ended.PollRefused) = 3
status (Ok (ended.CastingOutside option)) = 8
status (Ok ended.Found) = 9
status (Ok ended.Differs) = 9
status (Err fault) = fault_status fault
