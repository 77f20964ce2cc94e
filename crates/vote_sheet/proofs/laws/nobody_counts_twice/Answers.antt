use Rattle.vote_sheet.proofs.ElectorSums.{counts_once}
use Rattle.vote_sheet.proofs.laws.nobody_counts_twice.Goals as goal

pub returns : goal.returns
returns c = counts_once
