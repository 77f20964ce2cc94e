use Rattle.vote_sheet.proofs.NormalRanks.{keep_as_they_are, keep_the_order}
use Rattle.vote_sheet.proofs.laws.normal_ranks_keep_the_order.Goals as goal

pub returns-clause-normal : goal.returns-clause-normal
returns-clause-normal c = keep_the_order

pub returns-clause-as_they_are : goal.returns-clause-as_they_are
returns-clause-as_they_are c = keep_as_they_are
