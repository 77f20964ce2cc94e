use Rattle.std.proofs.Common.{◌≤◌, ◌==◌, Bool, true, false, cond, get_or, arith}
use Rattle.vote_poll.proofs.RankRow.{first-rank}
use Rattle.vote_poll.specs.SortKeys.{rank_of_key}
use Rattle.vote_poll.proofs.reading.behind_rank.Goals as goal

-- the comma is at one of two indexes
two_at_most : (comma : Bool) → cond comma 1 2 ≤ 2
two_at_most true = omega arith
two_at_most false = omega arith

pub returns : goal.returns
returns c = first-rank c.args.text.now c.in_ok-end.end (rank_of_key c.args.key) c.if-text-lt3.false c.in_ok-end.ensures.length c.if-text-end-ne44.false c.in_ok-end.ensures.rank

pub returns-in_err-end : goal.returns-in_err-end
returns-in_err-end c = rw c.from_residual.ensures tt

pub bounds-text-end : goal.bounds-text-end
bounds-text-end c = let near = two_at_most (get_or c.args.text.now 1 0 == 44) in omega (arith, near, c.in_ok-end.ensures.length, c.if-text-lt3.false)

pub overflow_add-result : goal.overflow_add-result
overflow_add-result c = let near = two_at_most (get_or c.args.text.now 1 0 == 44) in omega (arith, near, c.in_ok-end.ensures.length)

pub slice_bounds-result-start : goal.slice_bounds-result-start
slice_bounds-result-start c = let near = two_at_most (get_or c.args.text.now 1 0 == 44) in omega (arith, near, c.in_ok-end.ensures.length, c.if-text-lt3.false)

pub slice_bounds-result-count : goal.slice_bounds-result-count
slice_bounds-result-count c = let near = two_at_most (get_or c.args.text.now 1 0 == 44) in omega (arith, near, c.in_ok-end.ensures.length, c.if-text-lt3.false)
