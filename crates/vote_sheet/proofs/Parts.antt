-- A sheet is the lines that the sheets of a count share, and its last line.
use Rattle.std.proofs.Common.{◌≡◌, ◌∙◌, ℕ, List, [], ◌∷◌, ap, append_assoc, length, sym}
use Rattle.std.specs.List.{concat}
use Rattle.vote_poll.specs.PollContent.{PollContent}
use Rattle.vote_count.specs.declared.Decision.{Decision}
use Rattle.vote_sheet.specs.Counted.{as_sheet, head_of, whole_text}
use Rattle.vote_sheet.specs.Sheet.{Text, count_text, options_text, sheet_text, totals_text}
use Rattle.vote_sheet.specs.declared.sheet.Count.{Count}
use mathlib.Core.List.{append-nil}

-- the sheet of a count with this many lines
counted_of : PollContent → Count → Decision → ℕ → Text
counted_of poll count decision lines = concat (
    head_of poll count.quorum_votes
    ∷ totals_text lines poll.last_envelope count.totals.valid count.totals.refused count.totals.voters
    ∷ options_text poll.options poll.ratios
    ∷ count_text poll.options count.matrix count.verdict decision
    ∷ [])

is_whole : (poll : PollContent) (count : Count) (decision : Decision) → counted_of poll count decision count.lines ≡ whole_text poll count decision
unfolding counted_of count_text
is_whole poll count decision = simp (append_assoc, append-nil)

pub sheet_parts : (poll : PollContent) (lines : List Text) (count : Count) (decision : Decision) → count.lines ≡ length lines → sheet_text poll lines (as_sheet count decision) ≡ whole_text poll count decision
unfolding counted_of
sheet_parts poll lines count decision long = ap (counted_of poll count decision) (sym long) ∙ is_whole poll count decision
