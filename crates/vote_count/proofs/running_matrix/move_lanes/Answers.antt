use Rattle.vote_count.proofs.TurnLanes.{moved-each}
use Rattle.vote_count.proofs.running_matrix.move_lanes.Goals as goal

pub returns-clause-moved : goal.returns-clause-moved
returns-clause-moved c k within = moved-each c.args.lanes.now c.args.gone c.args.come k c.requires.lanes c.requires.long.0 c.requires.long.1 within (c.requires.gone k within) (c.requires.come k within)
