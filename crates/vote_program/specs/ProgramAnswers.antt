-- What the program answers to its words: the exit status, and what is written then.
use Rattle.std.specs.Prelude.{◌≡◌, ◌⊎◌, ℕ, Bool, List, [], Option, Err, drop, map, string_bytes}
use Rattle.std.specs.declared.string.String.{String}
use Rattle.vote_files.specs.Sources.{FileReading}
use Rattle.vote_files.specs.declared.ReadFault.{ReadFault}
use Rattle.vote_command_line.specs.Words.{AreArgsOf, HaveArgsFault}
use Rattle.vote_command_line.specs.ParsedArgs.{NamedRequest}
use Rattle.vote_command_line.specs.declared.ArgsFault.{ArgsFault}
use Rattle.vote_command_line.specs.declared.ArgsFault.TheVariants.{Help}
use Rattle.vote_commands.specs.Status.{status}
use Rattle.vote_commands.specs.TakingVotes.{Taking}
use Rattle.vote_commands.specs.declared.FinishedRun.{FinishedRun}
use Rattle.vote_commands.specs.declared.RunFault.TheVariants as run
use Rattle.vote_program.specs.RequestEnds.{EndsJoined, EndsRequest}
use Rattle.vote_program.specs.ArgsStatus.{args_status}
use Rattle.vote_program.specs.Outputs.{FailsWithin, OutputState, WritesAll, WritesNothing, Written}
use Rattle.vote_program.specs.Errors.{Says, SaysEnd, SaysHint, args_text, fault_line}

-- the words that the system gives, without the first, which is the program's name
abbrev pub words_in : {Z : Type 0} → List (String Z) → List (List ℕ)
words_in given = drop 1 (map string_bytes given)

-- this text is written, or the output fails
abbrev pub AnswersHelp : List ℕ → Written → Written → ℕ → Type 0
AnswersHelp text written errors answered =
    ((answered ≡ 0) × WritesAll text written × WritesNothing errors)
    ⊎ ((answered ≡ status (Err run.Output)) × FailsWithin text written × Says (fault_line run.Output) errors)

-- help that is asked for is written; any other words that make no request are answered by their status and their text on standard error, and nothing is written
abbrev pub AnswersWords : ArgsFault → Written → Written → ℕ → Type 0
AnswersWords (Help text) written errors answered = AnswersHelp (string_bytes text) written errors answered
AnswersWords fault written errors answered = (answered ≡ args_status fault) × WritesNothing written × Says (args_text fault) errors

-- the words make a request, which ends so on the bytes known of the names of its files; or they make none, for this fault, and no file is read
abbrev pub AnswersWorded : (List ℕ → Option (List ℕ)) → (List FileReading → Type 0) → Taking → List (List ℕ) → Written → Written → ℕ → Type 0
AnswersWorded file_bytes Reads Takes words written errors answered =
    ((request : NamedRequest) × (finished : FinishedRun) × AreArgsOf words request × EndsRequest file_bytes Reads Takes request written finished
    × (answered ≡ status finished.end) × SaysEnd finished.end errors)
    ⊎ ((fault : ArgsFault) × HaveArgsFault words fault × Reads [] × AnswersWords fault written errors answered)

-- without words a joined input ends so, by the bytes known of standard input; at a terminal the hint is said before any fault line: whether before the reading, no clause says
abbrev pub AnswersJoined : Bool → Option (List ℕ) → (List (Option ReadFault) → Type 0) → Written → Written → ℕ → Type 0
AnswersJoined at_terminal standard_bytes Reads written errors answered =
    (finished : FinishedRun) × (hinted : OutputState) × EndsJoined standard_bytes Reads written finished × (answered ≡ status finished.end)
    × SaysHint at_terminal (record errors { new = hinted }) × SaysEnd finished.end (record errors { old = hinted })
