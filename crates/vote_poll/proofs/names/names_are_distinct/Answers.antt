use Rattle.std.proofs.Common.{[], get_or, refl}
use Rattle.vote_poll.proofs.NamesLaws.{name-at}
use Rattle.vote_poll.proofs.names.names_are_distinct.Goals as goal

pub returns : goal.returns
returns c roll voter good within = name-at (get_or roll voter []) roll voter good within refl
