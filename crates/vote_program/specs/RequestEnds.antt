-- How the run of a request, or of a joined input, ends, and what is written then.
use Rattle.std.specs.Prelude.{◌≡◌, ◌⊎◌, ℕ, true, List, [], ◌∷◌, None, Some, Option, Err, OnOk}
use Rattle.std.proofs.Common.{Bor}
use Rattle.vote_files.specs.Sources.{FileReading}
use Rattle.vote_files.specs.declared.ReadFault.{ReadFault}
use Rattle.vote_request.specs.Requests.{request_on}
use Rattle.vote_request.specs.declared.Listing.TheVariants as listing
use Rattle.vote_request.specs.declared.Request.TheVariants as request
use Rattle.vote_command_line.specs.ParsedArgs.{NamedRequest}
use Rattle.vote_commands.specs.Joined.{AreParts}
use Rattle.vote_commands.specs.Performing.{LoadedRequest, Performs, TellsNoBox}
use Rattle.vote_commands.specs.TakingVotes.{Taking, TakesNone}
use Rattle.vote_commands.specs.declared.InputFile.TheVariants as file
use Rattle.vote_commands.specs.declared.FinishedRun.{FinishedRun}
use Rattle.vote_commands.specs.declared.RunFault.{RunFault}
use Rattle.vote_program.specs.LoadedRequests.{AreFilesOf, IsLoadedWith, IsReadWithin}
use Rattle.vote_program.specs.Outputs.{WritesNothing, Written}
use Rattle.vote_program.specs.FileReadings.{IsOneUnread, IsUnread, all_read, named_files}
use Rattle.vote_program.specs.declared.inputs.FileBytes.{FileBytes}
use Rattle.vote_program.specs.declared.inputs.TheConstants.{JOINED_LIMIT}

-- a file was not read, for this fault; nothing is written, and no box is returned
abbrev pub StopsUnread : (RunFault → Type 0) → Written → FinishedRun → Type 0
StopsUnread IsFault written finished =
    (fault : RunFault) × (finished.end ≡ Err fault) × IsFault fault × WritesNothing written × TellsNoBox finished

-- the request is performed; if the run comes to its end, the output is flushed
abbrev pub IsDone : Taking → LoadedRequest → Written → FinishedRun → Type 0
IsDone Takes loaded written finished = Performs Takes loaded written.old.bytes written.new.bytes finished × OnOk finished.end (written.new.flushed ≡ true)

-- so is a named request, with the bytes of the files that were read
abbrev pub IsRequestDone : Taking → NamedRequest → FileBytes → Written → FinishedRun → Type 0
IsRequestDone Takes request inputs written finished = (loaded : LoadedRequest) × IsLoadedWith request inputs loaded × IsDone Takes loaded written finished

-- a file that the request names was not read; or all are read, each once, in their order, and the request is performed on the bytes known of the names
abbrev pub EndsRequest : (List ℕ → Option (List ℕ)) → (List FileReading → Type 0) → Taking → NamedRequest → Written → FinishedRun → Type 0
EndsRequest file_bytes Reads Takes request written finished =
    StopsUnread (IsOneUnread file_bytes Reads request) written finished
    ⊎ ((poll ballots sheet : Bor (List ℕ)) × Reads (all_read (named_files request)) × AreFilesOf file_bytes request poll.now ballots.now sheet.now
    × IsDone Takes (request_on request poll ballots sheet) written finished)

-- standard input, which is read once, was not read to its end; or what `steps` writes for the poll and the ballots that are joined in it is written
abbrev pub EndsJoined : Option (List ℕ) → (List (Option ReadFault) → Type 0) → Written → FinishedRun → Type 0
EndsJoined standard_bytes Reads written finished =
    StopsUnread (IsUnread file.Ballots standard_bytes JOINED_LIMIT (λ fault. Reads (Some fault ∷ []))) written finished
    ⊎ ((input : List ℕ) × (poll ballots : Bor (List ℕ)) × Reads (None ∷ []) × IsReadWithin JOINED_LIMIT standard_bytes input
    × AreParts input poll.now ballots.now × IsDone TakesNone (request.List poll ballots listing.Steps) written finished)
