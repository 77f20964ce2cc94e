use Rattle.std.proofs.Common.{arith}
use Rattle.vote_poll.proofs.RankKeys.{key-none, key-some, kind-small}
use Rattle.vote_poll.proofs.rank_key.spelled_key.Goals as goal

pub bounds-kind_of : goal.bounds-kind_of
bounds-kind_of c = omega (arith, kind-small c.args.first, kind-small c.args.second)

pub returns-then-key-eq0 : goal.returns-then-key-eq0
returns-then-key-eq0 c = key-none c.args.first c.args.second c.kind_of.result c.kind_of-2.result c.kind_of.ensures c.kind_of-2.ensures c.if-key-eq0.true

pub returns-else-key-eq0 : goal.returns-else-key-eq0
returns-else-key-eq0 c = key-some c.args.first c.args.second c.kind_of.result c.kind_of-2.result c.kind_of.ensures c.kind_of-2.ensures c.if-key-eq0.false
