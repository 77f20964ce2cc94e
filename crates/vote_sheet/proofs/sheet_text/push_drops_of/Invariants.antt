use Rattle.std.proofs.Common.{◌≡◌, ◌++◌, string_bytes}
use Rattle.vote_count.specs.Sets.{has_pair}
use Rattle.vote_sheet.specs.Sheet.{drop_line, each, when}
use Rattle.vote_sheet.proofs.sheet_text.push_drops_of.Given as goal

-- the lines of the removed defeats of the options before this one are written
abbrev pub invariant-loop-before : goal.invariant-loop-before
invariant-loop-before l = string_bytes l.text ≡ string_bytes l.initial.text ++ each l.before (λ b. when (has_pair l.removed l.a b) (drop_line l.a b))
