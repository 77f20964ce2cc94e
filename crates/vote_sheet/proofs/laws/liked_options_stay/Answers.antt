use Rattle.vote_sheet.proofs.SheetLaws.{liked_options}
use Rattle.vote_sheet.proofs.laws.liked_options_stay.Goals as goal

pub returns : goal.returns
returns c = liked_options c.final_set_is_one.ensures c.final_set_is_schulze.ensures c.raised_ballots_raise.ensures c.raised_winners_win.ensures
