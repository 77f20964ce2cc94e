-- Laws on the fact of a sheet and on how a count ends. With a definition that promises less none of them is proved.
use Rattle.std.specs.Prelude.{◌≡◌, ◌⊎◌, ◌++◌, ℕ, true, List, [], ◌∷◌, Option, Some, option_copied}
use Rattle.std.proofs.Common.{Bor}
use Rattle.vote_files.specs.Sources.{FileReading}
use Rattle.vote_poll_text.specs.Texts.{Text}
use Rattle.vote_request.specs.declared.Purpose.TheVariants as purpose
use Rattle.vote_request.specs.declared.Request.TheVariants as request
use Rattle.vote_command_line.specs.Words.{AreArgsOf}
use Rattle.vote_commands.specs.TakingVotes.{Taking}
use Rattle.vote_program.specs.CountEnds.{EndsAsDue, IsDue, IsStopped}
use Rattle.vote_program.specs.FileReadings.{read_whole}
use Rattle.vote_program.specs.Outputs.{WritesNothing, Written}
use Rattle.vote_program.specs.SheetOfFiles.{AskForSheet, IsSheetOfFiles, WritesTheSheet}

-- a law: words of which `count` is made ask for the sheet of the two files that they name, at any number of desks, if these tell their bytes
abbrev pub CountsAskForSheet : Type 0
CountsAskForSheet = (file_bytes : Text → Option Text) (words : List Text) (poll_name ballots_name : Bor Text) (desks : ℕ) (option_name : Option (Bor Text)) (poll ballots : Text)
    → AreArgsOf words (request.Count poll_name ballots_name desks option_name purpose.Sheet) → file_bytes poll_name.now ≡ Some poll → file_bytes ballots_name.now ≡ Some ballots
    → AskForSheet file_bytes words poll ballots (option_copied option_name)

-- a law: a text that is a sheet of the files is what a count of them has written, if it ended with 0 or 1, and it has written nothing else and read no other file: a run
-- that wrote more, less or another text is none that keeps the promise
abbrev pub KnownSheetsAreWritten : Type 0
KnownSheetsAreWritten = (file_bytes : Text → Option Text) (made : List FileReading) (words : List Text) (written errors : Written) (answered : ℕ) (poll ballots before sheet : Text) (casting : Option Text)
    → (asked : AskForSheet file_bytes words poll ballots casting) → written.old.bytes ≡ Some before → (answered ≡ 0) ⊎ (answered ≡ 1)
    → IsSheetOfFiles poll ballots casting answered sheet → WritesTheSheet file_bytes (λ readings. made ≡ readings) words written errors answered
    → (written.new.bytes ≡ Some (before ++ sheet)) × (written.new.flushed ≡ true) × WritesNothing errors
    × (made ≡ read_whole asked.poll_name.now ∷ read_whole asked.ballots_name.now ∷ [])

-- a law: a count that was not stopped has the status that its files call for, and no other
abbrev pub KnownEndsAreKept : Taking → Type 0
KnownEndsAreKept Takes = (file_bytes : Text → Option Text) (words : List Text) (poll ballots : Text) (casting : Option Text) (due answered : ℕ)
    → AskForSheet file_bytes words poll ballots casting → IsDue poll ballots casting due → EndsAsDue file_bytes Takes words answered
    → (answered ≡ due) ⊎ IsStopped Takes poll ballots answered

-- a law: no status but 5, 6 and 7 is that of a count that was stopped
abbrev pub StoppedCountsEndSo : Taking → Type 0
StoppedCountsEndSo Takes = (poll ballots : Text) (answered : ℕ) → IsStopped Takes poll ballots answered → (answered ≡ 5) ⊎ (answered ≡ 6) ⊎ (answered ≡ 7)
