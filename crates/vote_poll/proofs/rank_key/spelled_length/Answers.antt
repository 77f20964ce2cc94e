use Rattle.std.proofs.Common.{arith}
use Rattle.vote_poll.proofs.RankKeys.{pair-length, pair-rank}
use Rattle.vote_poll.proofs.rank_key.spelled_length.Goals as goal

pub returns-clause-length : goal.returns-clause-length
returns-clause-length c =
    pair-length c.args.key c.args.first c.args.second (omega arith) (omega arith) (omega arith) (omega (arith, c.from.ensures, c.from-2.ensures, c.if-from-key.false))

pub returns-clause-rank : goal.returns-clause-rank
returns-clause-rank c =
    pair-rank c.args.key c.args.first c.args.second (omega arith) (omega arith) (omega arith) (omega (arith, c.from.ensures, c.from-2.ensures, c.if-from-key.false))
