use Rattle.vote_sheet.proofs.LastBallotsDecide.{same_sheets}
use Rattle.vote_sheet.proofs.laws.standing_has_the_same_sheet.Goals as goal

pub returns : goal.returns
returns c = same_sheets c.only_last_ballots_decide.ensures c.standing_says_the_same.ensures
