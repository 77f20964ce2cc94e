use Rattle.std.proofs.Common.{◌≡◌, ℕ, ◌+◌, ◌*◌, ◌<◌, ◌≤◌, ◌⊎◌, [], get_or}
use Rattle.vote_count.specs.Changes.{AreTurns, IsMoved, lane_vote}
use Rattle.vote_count.proofs.running_matrix.change_square.Given as goal

-- the turns of the square before this turn are moved, and the others are as they were
abbrev pub invariant-loop-turn : goal.invariant-loop-turn
invariant-loop-turn l = record {
  turns : AreTurns l.changes;
  moved : (turn : ℕ) → l.from ≤ turn → turn < l.turn → IsMoved l.fn.changes l.changes (16 * l.square + turn) (lane_vote l.old l.square turn) (lane_vote l.new l.square turn);
  waiting : (turn : ℕ) → (turn < 16 * l.square + l.from) ⊎ (16 * l.square + l.turn ≤ turn) → get_or l.changes turn [] ≡ get_or l.fn.changes turn [];
}
