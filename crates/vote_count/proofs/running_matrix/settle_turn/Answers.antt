use Rattle.std.proofs.Common.{ℕ, replicate, ◌∙◌}
use Rattle.std.proofs.lemmas.Simd.{get_or-replicate, length-replicate}
use Rattle.vote_count.proofs.TurnLanes.{put-at, settled-each}
use Rattle.vote_count.proofs.running_matrix.settle_turn.Goals as goal

pub returns-clause-even : goal.returns-clause-even
returns-clause-even c k within = put-at c.args.changes.now (replicate {A = ℕ} 16 128) k c.requires.changes (length-replicate {A = ℕ} 16 128) within ∙ get_or-replicate {A = ℕ} 16 k 128 0 within

pub returns-clause-sums : goal.returns-clause-sums
returns-clause-sums c k within some fits = settled-each c.args.settled.now c.args.changes.now k c.requires.settled c.requires.changes within some fits
