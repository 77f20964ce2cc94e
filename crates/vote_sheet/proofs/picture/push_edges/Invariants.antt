use Rattle.std.proofs.Common.{◌≡◌, ◌++◌, string_bytes}
use Rattle.vote_sheet.specs.Picture.{edges_by}
use Rattle.vote_sheet.specs.Sheet.{each}
use Rattle.vote_sheet.proofs.picture.push_edges.Given as goal

-- the lines of the defeats by the options before this one are written
abbrev pub invariant-loop-before : goal.invariant-loop-before
invariant-loop-before l = string_bytes l.text ≡ string_bytes l.initial.text ++ each l.before (edges_by l.matrix l.verdict)
