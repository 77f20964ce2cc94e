-- A rank has one or two characters, so its comma is at index 1 or 2. The rest of the text begins after it.
use Rattle.std.proofs.lemmas.Grind.{common_steps, elements, moves, pieces}
use Rattle.std.proofs.Common.{arith, ◌≡◌, ◌==◌, ◌+◌, Bool, true, false, not, cond, refl, sym, get_or, ◌≤◌}
use mir.Val.{bool_byte}
use Rattle.vote_poll.proofs.RankRow.{first-rank}
use Rattle.vote_poll.specs.SortKeys.{rank_of_key}
use Rattle.vote_poll.proofs.reading.first_key.Goals as goal

-- the comma is at one of two indexes
place_is : (comma : Bool) → 1 + bool_byte (not comma) ≡ cond comma 1 2
place_is true = refl
place_is false = refl

one_at_most : (b : Bool) → bool_byte b ≤ 1
one_at_most true = omega arith
one_at_most false = omega arith

pub returns-in_err-key-clause-none : goal.returns-in_err-key-clause-none
returns-in_err-key-clause-none c = grind (arith, common_steps, elements, moves, pieces)

pub returns-then-text-end-ne44-clause-none : goal.returns-then-text-end-ne44-clause-none
returns-then-text-end-ne44-clause-none c = grind (arith, common_steps, elements, moves, pieces)

pub returns-clause-first : goal.returns-clause-first
returns-clause-first c =
    first-rank c.args.text.now _ (rank_of_key c.in_ok-key.key) c.requires (place_is (get_or c.args.text.now 1 0 == 44)) c.if-text-end-ne44.false (sym c.in_ok-key.ensures)

pub returns-in_err-key-clause-first : goal.returns-in_err-key-clause-first
returns-in_err-key-clause-first c = rw c.from_residual.ensures tt

pub returns-in_err-key-clause-shorter : goal.returns-in_err-key-clause-shorter
returns-in_err-key-clause-shorter c = rw c.from_residual.ensures tt

pub overflow_add-result : goal.overflow_add-result
overflow_add-result c = let small = one_at_most (not (get_or c.args.text.now 1 0 == 44)) in omega (arith, small)

pub bounds-text-end : goal.bounds-text-end
bounds-text-end c = let small = one_at_most (not (get_or c.args.text.now 1 0 == 44)) in omega (arith, small, c.requires)

pub slice_bounds-result-start : goal.slice_bounds-result-start
slice_bounds-result-start c = let small = one_at_most (not (get_or c.args.text.now 1 0 == 44)) in omega (arith, small, c.requires)

pub slice_bounds-result-count : goal.slice_bounds-result-count
slice_bounds-result-count c = let small = one_at_most (not (get_or c.args.text.now 1 0 == 44)) in omega (arith, small, c.requires)
