use Rattle.vote_sheet.proofs.SheetLaws.{liked_winners}
use Rattle.vote_sheet.proofs.laws.liked_winners_stay.Goals as goal

pub returns : goal.returns
returns c = liked_winners c.liked_options_stay.ensures c.winners_are_in_the_set.ensures
