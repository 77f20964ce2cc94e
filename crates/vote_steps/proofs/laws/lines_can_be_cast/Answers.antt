use Rattle.vote_steps.proofs.CastLemmas.{lines_can_be_cast}
use Rattle.vote_steps.proofs.laws.lines_can_be_cast.Goals as goal

pub returns : goal.returns
returns c = lines_can_be_cast c.each_line_is_read.ensures
