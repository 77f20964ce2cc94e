use Rattle.vote_count.proofs.FinalSets.{schulze}
use Rattle.vote_count.proofs.laws.final_set_is_schulze.Goals as goal

pub returns : goal.returns
returns c = schulze
