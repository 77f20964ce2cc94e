use Rattle.std.proofs.Common.{◌≡◌, ◌++◌, codes, decimal, string_bytes}
use Rattle.vote_count.specs.Sets.{has}
use Rattle.vote_sheet.specs.Sheet.{each, when}
use Rattle.vote_sheet.proofs.sheet_text.push_numbers.Given as goal

-- the numbers before this one are written, of the options that are in the set
abbrev pub invariant-loop-before : goal.invariant-loop-before
invariant-loop-before l = string_bytes l.text ≡ string_bytes l.initial.text ++ each l.before (λ o. when (has l.set o) (codes " " ++ decimal o))
