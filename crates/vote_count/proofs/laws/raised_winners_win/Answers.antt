use Rattle.vote_count.proofs.FinalSets.{raised}
use Rattle.vote_count.proofs.laws.raised_winners_win.Goals as goal

pub returns : goal.returns
returns c = raised
