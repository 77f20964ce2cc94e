-- Which files a run reads, in which order, and why it stops at one.
use Rattle.std.specs.Prelude.{◌≡◌, ◌≤◌, ℕ, List, [], ◌∷◌, ◌++◌, All, IfSome, IsSome, None, Some, Option, length, map, option_map, option_to_list}
use Rattle.vote_files.specs.Device.{IsTooLong}
use Rattle.vote_files.specs.Sources.{FileReading}
use Rattle.vote_files.specs.declared.ReadFault.{ReadFault}
use Rattle.vote_files.specs.declared.ReadFault.TheVariants as read
use Rattle.vote_request.specs.Requests.{ballot_file, poll_file, sheet_file}
use Rattle.vote_command_line.specs.ParsedArgs.{NamedRequest}
use Rattle.vote_commands.specs.Status.{unread}
use Rattle.vote_commands.specs.declared.InputFile.{InputFile}
use Rattle.vote_commands.specs.declared.InputFile.TheVariants as file
use Rattle.vote_commands.specs.declared.RunFault.{RunFault}
use Rattle.vote_program.specs.declared.inputs.TheConstants.{BALLOTS_LIMIT, POLL_LIMIT, SHEET_LIMIT}

-- the files that a request names, each with its name: the poll, then the ballots, then the published sheet
abbrev pub named_files : NamedRequest → List (InputFile × List ℕ)
named_files request =
    (file.Poll, (poll_file request).now) ∷ option_to_list (option_map (λ name. (file.Ballots, name.now)) (ballot_file request))
    ++ option_to_list (option_map (λ name. (file.Sheet, name.now)) (sheet_file request))

-- the most bytes of each
abbrev pub limit_of : InputFile → ℕ
limit_of file.Poll = POLL_LIMIT
limit_of file.Ballots = BALLOTS_LIMIT
limit_of file.Sheet = SHEET_LIMIT

-- the reading of a file that is read
abbrev pub read_whole : List ℕ → FileReading
read_whole name = record { name = name; fault = None }

-- the readings of such files
abbrev pub all_read : List (InputFile × List ℕ) → List FileReading
all_read files = map (λ named. read_whole named.1) files

-- reading this input ends with a fault, and the run with the same one: it is too long only if it has more bytes than the limit, and its device fails only if
-- its bytes are not known
abbrev pub IsUnread : InputFile → Option (List ℕ) → ℕ → (ReadFault → Type 0) → RunFault → Type 0
IsUnread file known limit Reads told =
    (fault : ReadFault) × Reads fault × (fault ≡ read.TooLong → IsTooLong known limit) × (fault ≡ read.Device → ¬ IsSome known) × (told ≡ unread file fault)

-- if the bytes of this file are known, they are no more than its limit
abbrev pub IsWithin : (List ℕ → Option (List ℕ)) → InputFile × List ℕ → Type 0
IsWithin file_bytes named = IfSome (file_bytes named.1) (λ bytes. length bytes ≤ limit_of named.0)

-- one of the files that the request names is not read, for this fault: those before it were, and none after it is
abbrev pub IsOneUnread : (List ℕ → Option (List ℕ)) → (List FileReading → Type 0) → NamedRequest → RunFault → Type 0
IsOneUnread file_bytes Reads request told =
    (before after : List (InputFile × List ℕ)) × (file : InputFile) × (name : List ℕ) × (named_files request ≡ before ++ (file, name) ∷ after)
    × All (IsWithin file_bytes) before × IsUnread file (file_bytes name) (limit_of file) (λ fault. Reads (all_read before ++ record { name = name; fault = Some fault } ∷ [])) told
