use Rattle.std.proofs.Common.{arith}
use Rattle.vote_poll.proofs.RankKeys.{kinds-at}
use Rattle.vote_poll.proofs.rank_key.kind_of.Goals as goal

pub returns : goal.returns
returns c = kinds-at c.args.byte (omega arith)
