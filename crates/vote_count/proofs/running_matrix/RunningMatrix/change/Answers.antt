-- A vote of the matrix is the sum of its settled part and its pending changes. One change moves each cell by one ballot out and one in, and no sum passes the end of its number.
use Rattle.std.proofs.Common.{◌≡◌, ℕ, ◌+◌, ◌<◌, ◌≤◌, ap, sym, subst, ◌∙◌, arith}
use Rattle.vote_count.specs.Votes.{Votes, votes}
use Rattle.vote_count.specs.Changes.{kept_at, key_vote, sum_at}
use Rattle.vote_count.specs.declared.running_matrix.RunningMatrix.TheInside.{Inside}
use Rattle.vote_count.proofs.RunningLemmas.{IsCell, cell-of, one-at-most, sum-seen}
use Rattle.vote_count.proofs.running_matrix.RunningMatrix.change.Goals as goal

same : (c : goal.After-change_squares) → c.self.inside.options ≡ c.args.self.now.options
same c = ap (λ (m : Votes). m.options) c.self.view_is

seen : (c : goal.After-change_squares) (i j : ℕ) → i < c.self.inside.options → j < c.self.inside.options
    → votes c.args.self.now (i + 1) (j + 1) ≡ sum_at c.self.inside.settled c.self.inside.changes i j
seen c i j in_i in_j = ap (λ (m : Votes). votes m (i + 1) (j + 1)) (sym c.self.view_is) ∙ sum-seen c.self.inside i j (omega (arith, in_i, c.self.invariant.few)) (omega (arith, in_j, c.self.invariant.few))

cell : (c : goal.After-change_squares) (i j : ℕ) → i < c.self.inside.options → j < c.self.inside.options
    → IsCell (kept_at c.self.inside.settled i j) (kept_at c.self.inside.changes i j) (kept_at c.make_room-self-inside.new.settled i j) (kept_at c.make_room-self-inside.new.changes i j)
    (kept_at c.change_squares.new.changes i j) c.make_room-self-inside.result (key_vote c.args.old.now i j) (key_vote c.args.new.now i j)
cell c i j in_i in_j =
    let near = c.make_room-self-inside.ensures.within i j in_i in_j in
    let sum = c.self.invariant.sums i j in_i in_j in
    cell-of _ _ _ _ _ _ _ _ c.make_room-self-inside.ensures.pending.0 c.make_room-self-inside.ensures.pending.1 near.0 near.1
    (c.change_squares.ensures.moved i j in_i in_j) (one-at-most _ _) (one-at-most _ _) (c.make_room-self-inside.ensures.same i j in_i in_j) sum.0 sum.1
    (subst (λ (v : ℕ). key_vote c.args.old.now i j ≤ v) (seen c i j in_i in_j) (c.requires.counted i j (omega (arith, in_i, same c)) (omega (arith, in_j, same c))))
    (λ some. subst (λ (v : ℕ). v < 4294967295) (seen c i j in_i in_j) (c.requires.room i j (omega (arith, in_i, same c)) (omega (arith, in_j, same c)) some))

pub invariant_of-self : goal.invariant_of-self
invariant_of-self c = record {
  few = c.self.invariant.few;
  pending = c.make_room-self-inside.ensures.pending.1;
  settled = c.make_room-self-inside.ensures.settled;
  changes = c.change_squares.ensures.turns;
  within = λ i j in_i in_j. (cell c i j in_i in_j).within;
  sums = λ i j in_i in_j. (cell c i j in_i in_j).sum;
}

pub returns-clause-votes : goal.returns-clause-votes
returns-clause-votes c i j in_i in_j =
    let row : i < c.self.inside.options = omega (arith, in_i, same c) in
    let column : j < c.self.inside.options = omega (arith, in_j, same c) in
    let now : Inside = record { options = c.self.inside.options; pending = c.make_room-self-inside.result; settled = c.make_room-self-inside.new.settled; changes = c.change_squares.new.changes } in
    ap (λ (v : ℕ). v + key_vote c.args.old.now i j) (sum-seen now i j (omega (arith, row, c.self.invariant.few)) (omega (arith, column, c.self.invariant.few)))
    ∙ (cell c i j row column).vote
    ∙ ap (λ (v : ℕ). v + key_vote c.args.new.now i j) (sym (seen c i j row column))
