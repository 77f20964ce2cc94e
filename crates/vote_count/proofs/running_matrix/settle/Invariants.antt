use Rattle.std.proofs.Common.{◌≡◌, ℕ, ◌<◌, ◌≤◌, [], get_or}
use Rattle.vote_count.specs.Changes.{AreTurns, IsSettled}
use Rattle.vote_count.proofs.running_matrix.settle.Given as goal

-- the turns before this turn are settled, and the others are as they were
abbrev pub invariant-loop-turn : goal.invariant-loop-turn
invariant-loop-turn l = record {
  settled : AreTurns l.settled;
  changes : AreTurns l.changes;
  even : (turn lane : ℕ) → turn < l.turn → lane < 16 → get_or (get_or l.changes turn []) lane 0 ≡ 128;
  sums : (turn lane : ℕ) → turn < l.turn → lane < 16 → IsSettled (get_or (get_or l.fn.settled turn []) lane 0) (get_or (get_or l.fn.changes turn []) lane 0) (get_or (get_or l.settled turn []) lane 0);
  settled_wait : (turn : ℕ) → l.turn ≤ turn → get_or l.settled turn [] ≡ get_or l.fn.settled turn [];
  changes_wait : (turn : ℕ) → l.turn ≤ turn → get_or l.changes turn [] ≡ get_or l.fn.changes turn [];
}
