use Rattle.std.proofs.Common.{◌≡◌, ◌++◌, map, take}
use Rattle.std.specs.Option.{option_map}
use Rattle.vote_poll.specs.SortKeys.{rank_of_key}
use Rattle.vote_poll.specs.Readings.{ranks_in}
use Rattle.vote_poll.proofs.reading.lists_ranks.Given as goal

abbrev pub invariant-loop-key : goal.invariant-loop-key
invariant-loop-key l =
    ranks_in l.fn.text ≡ option_map (λ ranks. map rank_of_key (take l.key-index l.others) ++ ranks) (ranks_in l.left)
