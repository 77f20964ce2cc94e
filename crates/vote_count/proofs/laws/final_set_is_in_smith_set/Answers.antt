use Rattle.vote_count.proofs.FinalSets.{smith}
use Rattle.vote_count.proofs.laws.final_set_is_in_smith_set.Goals as goal

pub returns : goal.returns
returns c = smith
