use Rattle.vote_sheet.proofs.ElectorLaws.{one_ballot}
use Rattle.vote_sheet.proofs.laws.one_ballot_moves_each_count_by_one.Goals as goal

pub returns : goal.returns
returns c = one_ballot
