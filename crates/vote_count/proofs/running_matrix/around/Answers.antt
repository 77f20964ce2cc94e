use Rattle.vote_count.proofs.Turns.{around-each}
use Rattle.vote_count.proofs.running_matrix.around.Goals as goal

pub returns-clause-around : goal.returns-clause-around
returns-clause-around c k within = around-each c.args.keys.now c.put_half.new.keys c.put_half-2.new.keys c.args.first c.put_half.ensures.half c.put_half-2.ensures.half c.put_half-2.ensures.before k within
