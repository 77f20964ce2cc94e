use Rattle.std.proofs.Common.{◌≡◌, ℕ, ◌+◌, ◌*◌, ◌<◌, ◌≤◌, [], get_or}
use Rattle.vote_count.specs.Changes.{AreTurns, IsMoved, lane_vote}
use Rattle.vote_count.proofs.running_matrix.change_squares.Given as goal

-- the squares before this square are moved, and the others are as they were
abbrev pub invariant-loop-square : goal.invariant-loop-square
invariant-loop-square l = record {
  turns : AreTurns l.changes;
  moved : (square turn : ℕ) → square < l.square → turn < 16 → IsMoved l.fn.changes l.changes (16 * square + turn) (lane_vote l.old square turn) (lane_vote l.new square turn);
  waiting : (turn : ℕ) → 16 * l.square ≤ turn → get_or l.changes turn [] ≡ get_or l.fn.changes turn [];
}
