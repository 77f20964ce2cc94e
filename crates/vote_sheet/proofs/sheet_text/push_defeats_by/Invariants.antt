use Rattle.std.proofs.Common.{◌≡◌, ◌++◌, string_bytes}
use Rattle.vote_count.specs.Sets.{has_pair}
use Rattle.vote_sheet.specs.Sheet.{defeat_line, each, when}
use Rattle.vote_sheet.proofs.sheet_text.push_defeats_by.Given as goal

-- the lines of the defeats of the options before this one are written
abbrev pub invariant-loop-before : goal.invariant-loop-before
invariant-loop-before l = string_bytes l.text ≡ string_bytes l.initial.text ++ each l.before (λ b. when (has_pair l.defeats l.a b) (defeat_line l.matrix l.a b))
