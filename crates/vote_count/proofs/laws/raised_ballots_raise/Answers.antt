use Rattle.vote_count.proofs.Raising.{ballots_raise}
use Rattle.vote_count.proofs.laws.raised_ballots_raise.Goals as goal

pub returns : goal.returns
returns c options a ballots raised_ballots matrix raised option are of of' = ballots_raise options a option ballots raised_ballots matrix raised are of of'
