-- What one believes when one believes a sheet: which text a count writes, of the bytes of two files.
use Rattle.std.specs.Prelude.{◌≡◌, ◌⊎◌, ◌++◌, ℕ, true, List, [], ◌∷◌, Ok, Option, Some, option_copied}
use Rattle.std.proofs.Common.{Bor}
use Rattle.vote_files.specs.Sources.{FileReading}
use Rattle.vote_poll_text.specs.Lines.{lines_of}
use Rattle.vote_poll.specs.PollContent.{PollContent}
use Rattle.vote_poll.specs.PollFile.{poll_in}
use Rattle.vote_count.specs.declared.Decision.{Decision}
use Rattle.vote_sheet.specs.SheetOf.{IsSheetAndDecision}
use Rattle.vote_poll_text.specs.Texts.{Text}
use Rattle.vote_request.specs.declared.Purpose.TheVariants as purpose
use Rattle.vote_request.specs.declared.Request.TheVariants as request
use Rattle.vote_command_line.specs.Words.{AreArgsOf}
use Rattle.vote_commands.specs.Counting.{NamesNoOption, casting_option, ended_by_decision}
use Rattle.vote_commands.specs.Status.{status}
use Rattle.vote_program.specs.Outputs.{WritesNothing, Written}
use Rattle.vote_program.specs.FileReadings.{read_whole}

-- the words ask for the sheet of two files, of which these bytes are told, with this casting vote, if there is one, at any number of desks
pub record AskForSheet (file_bytes : Text → Option Text) (words : List Text) (poll ballots : Text) (casting : Option Text) : Type 0 where
  pub poll_name : Bor Text
  pub ballots_name : Bor Text
  pub option_name : Option (Bor Text)
  pub desks : ℕ
  pub request : AreArgsOf words (request.Count poll_name ballots_name desks option_name purpose.Sheet)
  pub poll_is : file_bytes poll_name.now ≡ Some poll
  pub ballots_are : file_bytes ballots_name.now ≡ Some ballots
  pub casting_is : option_copied option_name ≡ casting

-- The text is the sheet of a poll file and a ballot file of these bytes: of the poll that the first one means, of the lines of the second
-- one, and of the option of this poll that the casting vote names, if there is one. The exit status is that of what it decides.
pub record IsSheetOfFiles (poll_text ballots : Text) (casting : Option Text) (answered : ℕ) (sheet : Text) : Type 0 where
  pub poll : PollContent
  pub decision : Decision
  pub meant : poll_in poll_text ≡ Ok poll
  pub named : ¬ NamesNoOption poll casting
  pub is_sheet : IsSheetAndDecision poll (lines_of ballots) (casting_option poll casting) sheet decision
  pub status_is : answered ≡ status (Ok (ended_by_decision decision))

-- If words ask for the sheet of files that tell their bytes, if the output tells its bytes too, and if the exit status is 0 or 1, then
-- the output has grown by one text, which is the sheet of these files, and was flushed after it, and nothing is written on standard error.
-- The poll was read, then the ballots, each once, and no other file.
abbrev pub WritesTheSheet : (Text → Option Text) → (List FileReading → Type 0) → List Text → Written → Written → ℕ → Type 0
WritesTheSheet file_bytes Reads words written errors answered =
    (poll ballots before : Text) (casting : Option Text)
    → (asked : AskForSheet file_bytes words poll ballots casting) → written.old.bytes ≡ Some before → (answered ≡ 0) ⊎ (answered ≡ 1)
    → (sheet : Text) × IsSheetOfFiles poll ballots casting answered sheet × (written.new.bytes ≡ Some (before ++ sheet)) × (written.new.flushed ≡ true)
    × WritesNothing errors × Reads (read_whole asked.poll_name.now ∷ read_whole asked.ballots_name.now ∷ [])
