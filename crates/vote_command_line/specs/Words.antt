-- The request that the words after the program's name make, or why they make none.
use Rattle.std.specs.Prelude.{◌≡◌, List, [], map}
use Rattle.std.proofs.Common.{Bor}
use Rattle.clap.specs.Faults.{fault_of}
use Rattle.clap.specs.Words.{Text, subcommand_of}
use Rattle.vote_command_line.specs.CommandLine.{debvote_command}
use Rattle.vote_command_line.specs.ParsedArgs.{IsArgsFault, IsSubcommandOf, NamedRequest}
use Rattle.vote_command_line.specs.declared.command_line.ArgsFault.{ArgsFault}

-- the bytes of the words
abbrev pub texts_of : List (Bor Text) → List Text
texts_of words = map (λ word. word.now) words

-- they make this request: `clap` finds no fault in them, and it finds the subcommand and the values of the request
abbrev pub AreArgsOf : List Text → NamedRequest → Type 0
AreArgsOf words request = (fault_of debvote_command words ≡ []) × IsSubcommandOf (subcommand_of debvote_command words) request

-- they have this fault, by what `clap` finds in them
abbrev pub HaveArgsFault : List Text → ArgsFault → Type 0
HaveArgsFault words fault = IsArgsFault (fault_of debvote_command words) (subcommand_of debvote_command words) fault
