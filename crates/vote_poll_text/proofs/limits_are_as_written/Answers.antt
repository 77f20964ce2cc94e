use Rattle.std.proofs.Common.{refl}
use Rattle.vote_poll_text.proofs.limits_are_as_written.Goals as goal

pub returns : goal.returns
returns c = record { title = refl; option_name = refl; voter_name = refl; lines = refl }
