use Rattle.std.proofs.Common.{ap₂, ◌∙◌}
use Rattle.vote_poll.specs.Comparisons.{are_same_ranks}
use Rattle.vote_poll.proofs.Equality.{same_ranks}
use Rattle.vote_poll.proofs.SortKeys.{pointwise-keys}
use Rattle.vote_poll.proofs.ranks.RanksPartialEq.eq.Goals as goal

pub returns-clause-test : goal.returns-clause-test
returns-clause-test c =
    c.eq.ensures ∙ pointwise-keys c.keys.result.now c.keys-2.result.now ∙ ap₂ are_same_ranks c.keys.ensures c.keys-2.ensures

pub returns-clause-same : goal.returns-clause-same
returns-clause-same c = rw (returns-clause-test c) (same_ranks c.args.self.now c.args.other.now)
