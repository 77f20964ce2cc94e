use Rattle.std.proofs.Common.{◌≡◌, ◌++◌, string_bytes}
use Rattle.vote_count.specs.Rounds.{cause_of}
use Rattle.vote_sheet.specs.Sheet.{dropped_line, each}
use Rattle.vote_sheet.proofs.sheet_text.push_causes.Given as goal

-- the lines of the options before this one are written
abbrev pub invariant-loop-before : goal.invariant-loop-before
invariant-loop-before l = string_bytes l.text ≡ string_bytes l.initial.text ++ each l.before (λ o. dropped_line o (cause_of l.verdict o))
