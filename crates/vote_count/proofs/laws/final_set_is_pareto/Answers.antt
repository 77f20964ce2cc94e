use Rattle.vote_count.proofs.FinalSets.{pareto}
use Rattle.vote_count.proofs.laws.final_set_is_pareto.Goals as goal

pub returns : goal.returns
returns c = pareto
