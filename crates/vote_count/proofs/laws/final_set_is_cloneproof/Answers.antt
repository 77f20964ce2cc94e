use Rattle.vote_count.proofs.FinalSets.{cloneproof}
use Rattle.vote_count.proofs.laws.final_set_is_cloneproof.Goals as goal

pub returns : goal.returns
returns c = cloneproof
