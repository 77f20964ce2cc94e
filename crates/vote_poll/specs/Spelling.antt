-- How ranks are read, one after another.
use Rattle.std.specs.Prelude.{◌≡◌, ℕ, ◌==◌, if◌then◌else◌, List, [], ◌∷◌, ◌++◌, length, option_map}
use Rattle.std.specs.Str.{byte}
use Rattle.vote_poll.specs.PollContent.{PollContent}
use Rattle.vote_poll.specs.Readings.{IsReading, ranks_in}
use Rattle.vote_poll.specs.SortKeys.{rank_of_key, row_of}
use Rattle.vote_poll.specs.declared.reading.Reading.{Reading}

-- the bytes of a rank: the second byte is part of it, unless it is the comma after it
abbrev pub rank_bytes : ℕ → ℕ → List ℕ
rank_bytes first second = if second == byte "," then first ∷ [] else first ∷ second ∷ []

-- the text lists the rank with this sort key, and then the ranks of the rest
abbrev pub ListsFirst : List ℕ → ℕ → List ℕ → Type 0
ListsFirst text key rest = ranks_in text ≡ option_map (λ ranks. rank_of_key key ∷ ranks) (ranks_in rest)

-- a row that had `count` keys has this key too, if there was room for it
abbrev pub KeepsKey : List ℕ → ℕ → ℕ → List ℕ → Type 0
KeepsKey before count key row = (keys : List ℕ) → length keys ≡ count → before ≡ row_of keys → row ≡ row_of (keys ++ key ∷ [])

-- a poll reads a line in only one way
abbrev pub ReadingsAreUnique : Type 0
ReadingsAreUnique = (poll : PollContent) (line : List ℕ) (a b : Reading) → IsReading poll line a → IsReading poll line b → a ≡ b
