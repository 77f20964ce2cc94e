use Rattle.vote_count.proofs.Existence.{outcomes_exist}
use Rattle.vote_count.proofs.laws.outcomes_exist.Goals as goal

pub returns : goal.returns
returns c = outcomes_exist
