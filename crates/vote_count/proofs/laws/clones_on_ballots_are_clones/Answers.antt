use Rattle.vote_count.proofs.Clones.{ballots_make_clones}
use Rattle.vote_count.proofs.laws.clones_on_ballots_are_clones.Goals as goal

pub returns : goal.returns
returns c poll ballots matrix first second kept_first kept_second distinct each of = ballots_make_clones poll ballots matrix of first second kept_first kept_second distinct each
