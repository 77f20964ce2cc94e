use Rattle.std.proofs.Common.{◌≡◌, ◌++◌, string_bytes}
use Rattle.vote_sheet.specs.Sheet.{each, row_text}
use Rattle.vote_sheet.proofs.sheet_text.push_table.Given as goal

-- the rows before this one are written
abbrev pub invariant-loop-before : goal.invariant-loop-before
invariant-loop-before l = string_bytes l.text ≡ string_bytes l.initial.text ++ each l.before (row_text l.matrix)
