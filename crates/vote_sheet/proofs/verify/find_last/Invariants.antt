use Rattle.std.proofs.Common.{◌+◌}
use Rattle.vote_sheet.specs.Counted.{IsLastLine}
use Rattle.vote_sheet.proofs.Verifying.{Searched}
use Rattle.vote_sheet.proofs.verify.find_last.Given as goal

-- the casting votes up to this option were tried
abbrev pub invariant-loop-before : goal.invariant-loop-before
invariant-loop-before l = Searched l.poll (IsLastLine l.poll l.count) l.text (l.before + 1) l.closest.casting l.closest.lines
