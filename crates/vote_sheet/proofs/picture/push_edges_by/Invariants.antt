use Rattle.std.proofs.Common.{◌≡◌, ◌++◌, string_bytes}
use Rattle.vote_count.specs.Sets.{has_pair}
use Rattle.vote_sheet.specs.Picture.{edge_line}
use Rattle.vote_sheet.specs.Sheet.{each, when}
use Rattle.vote_sheet.proofs.picture.push_edges_by.Given as goal

-- the lines of the defeats of the options before this one are written
abbrev pub invariant-loop-before : goal.invariant-loop-before
invariant-loop-before l = string_bytes l.text ≡ string_bytes l.initial.text ++ each l.before (λ b. when (has_pair l.verdict.defeats l.a b) (edge_line l.matrix l.verdict.rounds l.a b))
