use Rattle.vote_sheet.proofs.LastBallotsDecide.{order_alike_counts_alike}
use Rattle.vote_sheet.proofs.laws.ballots_that_order_alike_count_alike.Goals as goal

pub returns : goal.returns
returns c = order_alike_counts_alike c.sheet_is_unique.ensures
