use Rattle.std.proofs.Common.{arith}
use Rattle.std.proofs.lemmas.Simd.{get_or-put_chunk_at, get_or-put_chunk_below}
use Rattle.vote_count.proofs.running_matrix.put_half.Goals as goal

pub returns-clause-half : goal.returns-clause-half
returns-clause-half c k within = get_or-put_chunk_at c.args.first c.args.keys.now c.args.half k 0 (omega (arith, within, c.requires.half)) (omega (arith, c.requires.half, c.requires.keys))

pub returns-clause-before : goal.returns-clause-before
returns-clause-before c k below = get_or-put_chunk_below c.args.first c.args.keys.now c.args.half k 0 below
