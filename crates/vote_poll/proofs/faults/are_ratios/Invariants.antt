use Rattle.std.proofs.Common.{◌≡◌, true, take}
use Rattle.std.specs.List.{list_all}
use Rattle.vote_poll.specs.PollValues.{is_integer_within}
use Rattle.vote_poll.specs.declared.TheConstants.{MAX_RATIO}
use Rattle.vote_poll.proofs.faults.are_ratios.Given as goal

abbrev pub invariant-loop-number : goal.invariant-loop-number
invariant-loop-number l = list_all (is_integer_within 1 MAX_RATIO) (take l.number-index l.numbers) ≡ true
