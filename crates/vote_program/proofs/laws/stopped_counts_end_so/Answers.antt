use Rattle.vote_program.proofs.CountLaws.{stopped_so}
use Rattle.vote_program.proofs.laws.stopped_counts_end_so.Goals as goal

pub returns : goal.returns
returns g c = search stopped_so
