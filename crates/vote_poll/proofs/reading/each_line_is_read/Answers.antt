use Rattle.vote_poll.proofs.GrammarLaws.{reading_is}
use Rattle.vote_poll.proofs.reading.each_line_is_read.Goals as goal

pub returns : goal.returns
returns c = reading_is
