use Rattle.vote_count.proofs.FinalSets.{condorcet}
use Rattle.vote_count.proofs.laws.condorcet_winners_win.Goals as goal

pub returns : goal.returns
returns c = condorcet
