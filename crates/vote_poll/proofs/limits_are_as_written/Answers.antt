use Rattle.std.proofs.Common.{refl}
use Rattle.vote_poll.proofs.limits_are_as_written.Goals as goal

pub returns : goal.returns
returns c = record { options = refl; electors = refl; ratio = refl; quorum_multiple = refl; rank = refl; line = refl }
