use Rattle.std.proofs.Common.{◌≡◌, ◌++◌, string_bytes}
use Rattle.vote_sheet.specs.Sheet.{defeats_by, each}
use Rattle.vote_sheet.proofs.sheet_text.push_defeat_lines.Given as goal

-- the lines of the defeats by the options before this one are written
abbrev pub invariant-loop-before : goal.invariant-loop-before
invariant-loop-before l = string_bytes l.text ≡ string_bytes l.initial.text ++ each l.before (defeats_by l.matrix l.defeats)
