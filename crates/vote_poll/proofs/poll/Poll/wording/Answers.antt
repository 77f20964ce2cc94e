use Rattle.std.proofs.Common.{rules}
use Rattle.vote_poll.proofs.poll.Poll.wording.Goals as goal

pub returns : goal.returns
returns c = search rules
