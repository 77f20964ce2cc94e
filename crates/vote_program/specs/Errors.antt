-- What the program writes on standard error: nothing where a run comes to its end, and else its fault line.
use Rattle.std.specs.Prelude.{◌⊎◌, ◌++◌, Bool, true, false, Result, Ok, Err, codes, string_bytes}
use Rattle.vote_poll_text.specs.Texts.{Text}
use Rattle.vote_command_line.specs.declared.ArgsFault.{ArgsFault}
use Rattle.vote_command_line.specs.declared.ArgsFault.TheVariants as args
use Rattle.vote_commands.specs.Words.{fault_words}
use Rattle.vote_commands.specs.declared.Ended.{Ended}
use Rattle.vote_commands.specs.declared.RunFault.{RunFault}
use Rattle.vote_commands.specs.declared.RunFault.TheVariants as run
use Rattle.vote_program.specs.Outputs.{FailsWithin, WritesAll, WritesNothing, Written}

-- this text is written there, or standard error fails
abbrev pub Says : Text → Written → Type 0
Says text errors = WritesAll text errors ⊎ FailsWithin text errors

-- the line that says why a run did not come to its end
abbrev pub fault_line : RunFault → Text
fault_line fault = codes "debvote: " ++ fault_words fault ++ codes "\n"

-- that line is written, if the run did not come to its end
abbrev pub SaysEnd : Result Ended RunFault → Written → Type 0
SaysEnd (Ok end) errors = WritesNothing errors
SaysEnd (Err fault) errors = Says (fault_line fault) errors

-- the text that says why words make no request; help is no fault, and goes to standard output
abbrev pub args_text : ArgsFault → Text
args_text (args.Help text) = codes ""
args_text (args.Refused text) = string_bytes text
args_text args.NotUtf8 = codes "debvote: an argument is not UTF-8\n"
args_text args.Memory = fault_line run.Memory

-- at a terminal the program says what it waits for
abbrev pub SaysHint : Bool → Written → Type 0
SaysHint true errors = Says (codes "debvote: reading a poll and its ballots from the terminal; see debvote --help\n") errors
SaysHint false errors = WritesNothing errors
