-- Which files can be ballots, and what has to hold of each remark, whatever it says.
use Rattle.std.specs.Prelude.{◌≡◌, ℕ, ◌≤◌, ◌⊎◌, Bool, ◌&&◌, not, is_none, nat_eq, List, [], ◌++◌, IsTrue, codes, length}
use Rattle.std.specs.List.{list_all, list_any, starts_with}
use Rattle.vote_poll_text.specs.Lines.{line_feed}
use Rattle.vote_poll_text.specs.Names.{is_printable}
use Rattle.vote_hints.specs.FileKinds.{file_kind, unmarked}
use Rattle.vote_explain_ballots.specs.declared.TheConstants.{MOST_REMARK}

-- the line begins as that of the title of a poll, perhaps behind a byte-order mark
abbrev pub is_title : List ℕ → Bool
is_title line = starts_with nat_eq (unmarked line) (codes "title =")

-- a file with these lines is plain text and no poll
abbrev pub can_be_ballots : List ℕ → List (List ℕ) → Bool
can_be_ballots file lines = is_none (file_kind file) && not (list_any is_title lines)

-- printable text, of which no line feed is a part, and which is not too long
pub record IsRemark (text : List ℕ) : Type 0 where
  pub printable : IsTrue (list_all is_printable text)
  pub short : length text ≤ MOST_REMARK

-- nothing, or a line with a remark on the whole file
abbrev pub IsFileText : List ℕ → Type 0
IsFileText text = (text ≡ []) ⊎ ((remark : List ℕ) × IsRemark remark × (text ≡ codes "the ballot file " ++ (remark ++ line_feed)))

-- the limit of a remark, as docs/FORMATS.md writes it
abbrev pub LimitsAreAsWritten : Type 0
LimitsAreAsWritten = MOST_REMARK ≡ 600
