use Rattle.vote_count.proofs.Clones.{ballots_make_clone_set}
use Rattle.vote_count.proofs.laws.clone_sets_on_ballots_are_clone_sets.Goals as goal

pub returns : goal.returns
returns c poll ballots matrix clones kept each of = ballots_make_clone_set poll ballots matrix of clones kept each
