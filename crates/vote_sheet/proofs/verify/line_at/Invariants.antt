use Rattle.std.proofs.Common.{◌≡◌, ◌==◌, drop}
use Rattle.std.specs.List.{slice_split}
use Rattle.vote_poll_text.specs.Lines.{without_last_feed}
use Rattle.vote_sheet.proofs.verify.line_at.Given as goal

-- the rest has the lines after the lines that were skipped
abbrev pub invariant-loop : goal.invariant-loop
invariant-loop l = drop l.counter (slice_split (λ byte. byte == 10) (without_last_feed l.fn.text)) ≡ slice_split (λ byte. byte == 10) l.rest
