use Rattle.vote_steps.proofs.LineLemmas.{lines_are_counted_lem}
use Rattle.vote_steps.proofs.laws.lines_are_counted.Goals as goal

pub returns : goal.returns
returns c = lines_are_counted_lem
