use Rattle.vote_count.proofs.FinalSets.{is_one}
use Rattle.vote_count.proofs.laws.final_set_is_one.Goals as goal

pub returns : goal.returns
returns c = is_one
