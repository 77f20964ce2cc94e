use Rattle.std.proofs.Common.{◌≡◌, ℕ, ◌+◌, ◌≤◌, ◌⊎◌, [], get_or}
use Rattle.vote_count.specs.Changes.{AreTurns, IsFewTurn, IsMoved, lane_vote}
use Rattle.vote_count.proofs.running_matrix.change_few.Given as goal

-- the turns before this turn are moved, and so are the turns as far back; the others are as they were
abbrev pub invariant-loop-turn : goal.invariant-loop-turn
invariant-loop-turn l = record {
  turns : AreTurns l.changes;
  moved : (turn : ℕ) → IsFewTurn l.turn turn → IsMoved l.fn.changes l.changes turn (lane_vote l.old 0 turn) (lane_vote l.new 0 turn);
  waiting : (turn : ℕ) → (turn ≡ 0) ⊎ ((l.turn ≤ turn) × (turn + l.turn ≤ 16)) → get_or l.changes turn [] ≡ get_or l.fn.changes turn [];
}
