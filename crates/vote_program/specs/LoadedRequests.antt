-- The files of a request, and the request with their bytes.
use Rattle.std.specs.Prelude.{◌≡◌, ◌≤◌, ℕ, List, Option, IfSome, length}
use Rattle.std.proofs.Common.{Bor}
use Rattle.vote_files.specs.Device.{IsWhole}
use Rattle.vote_request.specs.Requests.{ballot_file, poll_file, request_on, sheet_file}
use Rattle.vote_command_line.specs.ParsedArgs.{NamedRequest}
use Rattle.vote_commands.specs.Performing.{LoadedRequest}
use Rattle.vote_commands.specs.declared.InputFile.TheVariants as file
use Rattle.vote_program.specs.FileReadings.{limit_of}
use Rattle.vote_program.specs.declared.inputs.FileBytes.{FileBytes}

-- these bytes are the whole input, if that is known, and at most as many as the limit
abbrev pub IsReadWithin : ℕ → Option (List ℕ) → List ℕ → Type 0
IsReadWithin limit known bytes = IsWhole known bytes × (length bytes ≤ limit)

-- each file that the request names has just the bytes known of its name, and at most as many as its limit
pub record AreFilesOf (file_bytes : List ℕ → Option (List ℕ)) (request : NamedRequest) (poll ballots sheet : List ℕ) : Type 0 where
  pub poll_is : IsReadWithin (limit_of file.Poll) (file_bytes (poll_file request).now) poll
  pub ballots_are : IfSome (ballot_file request) (λ name. IsReadWithin (limit_of file.Ballots) (file_bytes name.now) ballots)
  pub sheet_is : IfSome (sheet_file request) (λ name. IsReadWithin (limit_of file.Sheet) (file_bytes name.now) sheet)

-- those that were read
abbrev pub AreReadOf : (List ℕ → Option (List ℕ)) → NamedRequest → FileBytes → Type 0
AreReadOf file_bytes request inputs = AreFilesOf file_bytes request inputs.poll.items inputs.ballots.items inputs.sheet.items

-- what the named request asks for, with the bytes of the files that were read
abbrev pub IsLoadedWith : NamedRequest → FileBytes → LoadedRequest → Type 0
IsLoadedWith request inputs loaded =
    (poll ballots sheet : Bor (List ℕ)) × (poll.now ≡ inputs.poll.items) × (ballots.now ≡ inputs.ballots.items) × (sheet.now ≡ inputs.sheet.items)
    × (loaded ≡ request_on request poll ballots sheet)
