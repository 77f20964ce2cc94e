use Rattle.vote_count.proofs.Left.{not_empty}
use Rattle.vote_count.proofs.laws.final_set_is_not_empty.Goals as goal

pub returns : goal.returns
returns c = not_empty
