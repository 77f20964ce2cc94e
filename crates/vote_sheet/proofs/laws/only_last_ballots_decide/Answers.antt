use Rattle.vote_sheet.proofs.LastBallotsDecide.{only_last_ballots}
use Rattle.vote_sheet.proofs.laws.only_last_ballots_decide.Goals as goal

pub returns : goal.returns
returns c = only_last_ballots c.ballots_that_order_alike_count_alike.ensures
