use Rattle.std.proofs.Common.{arith}
use Rattle.vote_poll.proofs.SortKeys.{is_sort_key, none_there, ranks_there}
use Rattle.vote_poll.proofs.ranks.Ranks.sort_keys.Goals as goal

pub returns-clause-options : goal.returns-clause-options
returns-clause-options c k within =
    rw (ranks_there c.args.self.now c.self.inside.options c.self.inside.sort_keys c.self.view_is (omega (arith, c.self.invariant.0, c.self.invariant.1)) k within)
    (is_sort_key _ (c.self.invariant.3 k))

pub returns-clause-others : goal.returns-clause-others
returns-clause-others c = none_there c.args.self.now c.self.inside.options c.self.inside.sort_keys c.self.view_is (omega (arith, c.self.invariant.0, c.self.invariant.1)) c.self.invariant.2
