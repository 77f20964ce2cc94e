use Rattle.std.proofs.Common.{◌≡◌, ◌==◌, ◌++◌, ℕ, List, map, length, Bor}
use Rattle.std.specs.List.{slice_split}
use Rattle.vote_poll_text.proofs.lines.parts.Given as goal

abbrev pub invariant-loop-part : goal.invariant-loop-part
invariant-loop-part l = map (λ (part : Bor (List ℕ)). part.now) l.parts.items ++ slice_split (λ byte. byte == 10) l.rest ≡ slice_split (λ byte. byte == 10) l.fn.text

abbrev pub decreases-loop-part : goal.decreases-loop-part
decreases-loop-part l = length l.rest
