use Rattle.vote_count.proofs.Existence.{rounds_exist}
use Rattle.vote_count.proofs.laws.rounds_exist.Goals as goal

pub returns : goal.returns
returns c = rounds_exist
