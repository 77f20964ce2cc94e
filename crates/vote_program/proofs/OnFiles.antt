-- How a request ends, once its files are read.
use Rattle.std.proofs.Common.{ℕ, Bor, IfSome, List, Option, inr, subst, sym}
use Rattle.vote_files.specs.Sources.{FileReading}
use Rattle.vote_commands.specs.TakingVotes.{Taking}
use Rattle.vote_commands.specs.declared.InputFile.TheVariants as file
use Rattle.vote_commands.specs.declared.FinishedRun.{FinishedRun}
use Rattle.vote_command_line.specs.ParsedArgs.{NamedRequest}
use Rattle.vote_program.specs.Outputs.{Written}
use Rattle.vote_program.specs.RequestEnds.{EndsRequest, IsDone, IsRequestDone}
use Rattle.vote_program.specs.LoadedRequests.{AreReadOf, IsReadWithin}
use Rattle.vote_program.specs.FileReadings.{all_read, limit_of, named_files}
use Rattle.vote_program.specs.declared.inputs.FileBytes.{FileBytes}
use Rattle.vote_request.specs.Requests.{DesksFit, ballot_file, poll_file, request_on, sheet_file}
use Rattle.vote_request.specs.declared.Request.TheVariants as request

-- other files leave the number of desks
pub desks_stay : (request : NamedRequest) (poll ballots sheet : Bor (List ℕ)) → DesksFit request → DesksFit (request_on request poll ballots sheet)
desks_stay (request.Count old_poll old_ballots desks casting made_for) poll ballots sheet fit = fit
desks_stay (request.List old_poll old_ballots listed) poll ballots sheet fit = tt
desks_stay (request.Check old_poll) poll ballots sheet fit = tt
desks_stay (request.Explain old_poll given file poll_name) poll ballots sheet fit = tt

-- the files that were read are those of the request, so it ends as it does on their bytes
pub done_on_its_files : (file_bytes : List ℕ → Option (List ℕ)) (Reads : List FileReading → Type 0) (Takes : Taking) (request : NamedRequest) (inputs : FileBytes) (written : Written) (finished : FinishedRun)
    → Reads (all_read (named_files request)) → AreReadOf file_bytes request inputs → IsRequestDone Takes request inputs written finished
    → EndsRequest file_bytes Reads Takes request written finished
done_on_its_files file_bytes Reads Takes request inputs written finished read files done =
    let loaded_is = done.1 in
    inr (
      loaded_is.0,
      loaded_is.1,
      loaded_is.2,
      read,
      record {
        poll_is = subst (λ text. IsReadWithin (limit_of file.Poll) (file_bytes (poll_file request).now) text) (sym loaded_is.3) files.poll_is;
        ballots_are = subst (λ text. IfSome (ballot_file request) (λ name. IsReadWithin (limit_of file.Ballots) (file_bytes name.now) text)) (sym loaded_is.4) files.ballots_are;
        sheet_is = subst (λ text. IfSome (sheet_file request) (λ name. IsReadWithin (limit_of file.Sheet) (file_bytes name.now) text)) (sym loaded_is.5) files.sheet_is;
      },
      subst (λ loaded. IsDone Takes loaded written finished) loaded_is.6 done.2,
    )
