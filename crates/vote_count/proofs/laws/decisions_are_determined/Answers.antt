use Rattle.vote_count.proofs.Determined.{decisions_same}
use Rattle.vote_count.proofs.laws.decisions_are_determined.Goals as goal

pub returns : goal.returns
returns c = decisions_same
