use Rattle.vote_count.proofs.Existence.{decisions_exist}
use Rattle.vote_count.proofs.laws.decisions_exist.Goals as goal

pub returns : goal.returns
returns c = decisions_exist
