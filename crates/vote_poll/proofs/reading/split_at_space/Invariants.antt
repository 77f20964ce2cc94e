use Rattle.std.proofs.Common.{◌≡◌, false, take}
use Rattle.std.specs.List.{list_any}
use Rattle.vote_poll.specs.Readings.{is_space}
use Rattle.vote_poll.proofs.reading.split_at_space.Given as goal

abbrev pub invariant-loop-end : goal.invariant-loop-end
invariant-loop-end l = list_any is_space (take l.end l.line) ≡ false
