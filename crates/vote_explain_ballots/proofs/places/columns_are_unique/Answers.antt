use Rattle.vote_explain_ballots.proofs.Scanning.{columns_are_one}
use Rattle.vote_explain_ballots.proofs.places.columns_are_unique.Goals as goal

pub returns : goal.returns
returns c = columns_are_one
