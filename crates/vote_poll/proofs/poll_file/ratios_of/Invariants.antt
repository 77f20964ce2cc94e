use Rattle.std.proofs.Common.{◌≡◌, map, take, nat_abs}
use Rattle.vote_poll.proofs.poll_file.ratios_of.Given as goal

abbrev pub invariant-loop-number : goal.invariant-loop-number
invariant-loop-number l = l.ratios.items ≡ map nat_abs (take l.number-index l.numbers)
