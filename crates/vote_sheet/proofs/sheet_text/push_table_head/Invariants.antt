use Rattle.std.proofs.Common.{◌≡◌, ◌++◌, string_bytes}
use Rattle.vote_sheet.specs.Sheet.{column_text, each}
use Rattle.vote_sheet.proofs.sheet_text.push_table_head.Given as goal

-- the columns before this one are written
abbrev pub invariant-loop-before : goal.invariant-loop-before
invariant-loop-before l = string_bytes l.text ≡ string_bytes l.initial.text ++ each l.before column_text
