-- The files in memory.
use Rattle.std.specs.Prelude.{ℕ, if◌then◌else◌, List, Option, Some, None, codes}
use Rattle.std.specs.Str.{bytes_eq}
use Rattle.vote_files.specs.Sources.{FileReading}

-- the bytes of a poll file and of a ballot file, and the readings that were made, the oldest first
pub record FilesInMemory : Type 0 where
  pub poll : List ℕ
  pub ballots : List ℕ
  pub readings : List FileReading

-- the bytes of the file of this name
abbrev pub bytes_named : FilesInMemory → List ℕ → Option (List ℕ)
bytes_named files name =
    if bytes_eq name (codes "poll") then Some files.poll else (if bytes_eq name (codes "ballots") then Some files.ballots else None)
