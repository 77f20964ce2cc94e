use Rattle.vote_count.proofs.Left.{one_or_several}
use Rattle.vote_count.proofs.laws.one_or_several_are_left.Goals as goal

pub returns : goal.returns
returns c = one_or_several
