-- What a count of two files in memory writes.
use Rattle.std.specs.Prelude.{◌≡◌, ◌⊎◌, ◌++◌, [], ◌∷◌, Option, codes}
use Rattle.vote_poll_text.specs.Texts.{Text}
use Rattle.vote_program.specs.FileReadings.{read_whole}
use Rattle.vote_program.specs.SheetOfFiles.{IsSheetOfFiles}
use Rattle.vote_memory.specs.declared.count.MemoryCount.{MemoryCount}

-- if the exit status is 0 or 1, the output has grown by the sheet of these bytes and this casting vote, nothing else was written, and just the two files were read, the poll first
abbrev pub IsCountOf : Text → Text → Option Text → Text → MemoryCount → Type 0
IsCountOf poll ballots casting before counted =
    (counted.status ≡ 0) ⊎ (counted.status ≡ 1)
    → (sheet : Text) × IsSheetOfFiles poll ballots casting counted.status sheet × (counted.output.writer.items ≡ before ++ sheet) × (counted.errors.writer.items ≡ [])
    × (counted.files.readings ≡ read_whole (codes "poll") ∷ read_whole (codes "ballots") ∷ []) × (counted.input ≡ [])
