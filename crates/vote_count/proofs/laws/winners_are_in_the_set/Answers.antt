use Rattle.vote_count.proofs.Winners.{winner_in_set}
use Rattle.vote_count.proofs.laws.winners_are_in_the_set.Goals as goal

pub returns : goal.returns
returns c = winner_in_set
