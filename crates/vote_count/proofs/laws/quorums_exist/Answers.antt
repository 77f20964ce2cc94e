use Rattle.vote_count.proofs.Existence.{quorums_exist}
use Rattle.vote_count.proofs.laws.quorums_exist.Goals as goal

pub returns : goal.returns
returns c = quorums_exist
