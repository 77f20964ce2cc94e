use Rattle.vote_sheet.proofs.SheetLaws.{condorcet_named}
use Rattle.vote_sheet.proofs.laws.condorcet_winners_are_named.Goals as goal

pub returns : goal.returns
returns c = condorcet_named c.final_set_is_one.ensures c.condorcet_winners_win.ensures
