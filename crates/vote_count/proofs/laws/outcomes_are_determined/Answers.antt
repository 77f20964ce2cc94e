use Rattle.vote_count.proofs.Determined.{outcomes_same}
use Rattle.vote_count.proofs.laws.outcomes_are_determined.Goals as goal

pub returns : goal.returns
returns c = outcomes_same
