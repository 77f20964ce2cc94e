use Rattle.vote_count.proofs.FinalSets.{independent}
use Rattle.vote_count.proofs.laws.clone_sets_are_independent.Goals as goal

pub returns : goal.returns
returns c = independent
