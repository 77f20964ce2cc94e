use Rattle.std.proofs.Common.{◌≡◌, ◌+◌, List, Bool, nat_le, get_or, length, take, drop, sym, subst, w8}
use Rattle.std.specs.Simd.Lanes.{zip2}
use Rattle.std.proofs.lemmas.Simd.{tops_compared, length-chunk, get_or-chunk}
use Rattle.vote_count.specs.Rows.{vote_by}
use Rattle.vote_count.proofs.TurnLanes.{ones, not_over-each, not_over-long}
use Rattle.vote_count.proofs.running_matrix.not_over.Goals as goal

pub returns-clause-long : goal.returns-clause-long
returns-clause-long c =
    let met = take 16 (drop c.args.turn c.args.columns.now) in
    subst (λ (tests : List Bool). length (ones tests) ≡ 16) (sym (tops_compared w8 nat_le met c.args.rows))
    (not_over-long c.args.rows met c.requires.rows (length-chunk c.args.turn 16 c.args.columns.now c.requires.columns))

pub returns-clause-each : goal.returns-clause-each
returns-clause-each c k within =
    let met = take 16 (drop c.args.turn c.args.columns.now) in
    subst (λ (tests : List Bool). get_or (ones tests) k 0 + vote_by (get_or c.args.rows k 0) (get_or c.args.columns.now (c.args.turn + k) 0) ≡ 1)
    (sym (tops_compared w8 nat_le met c.args.rows))
    (subst (λ p. get_or (ones (zip2 nat_le met c.args.rows)) k 0 + vote_by (get_or c.args.rows k 0) p ≡ 1) (get_or-chunk c.args.turn 16 c.args.columns.now k 0 within)
    (not_over-each c.args.rows met c.requires.rows (length-chunk c.args.turn 16 c.args.columns.now c.requires.columns) k within))
