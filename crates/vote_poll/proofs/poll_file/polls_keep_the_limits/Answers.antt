use Rattle.vote_poll.proofs.MeantPolls.{keep_the_limits}
use Rattle.vote_poll.proofs.poll_file.polls_keep_the_limits.Goals as goal

pub returns : goal.returns
returns c = keep_the_limits
