use Rattle.std.proofs.Common.{◌≡◌, ℕ, ◌<◌, [], get_or, length}
use Rattle.vote_poll.specs.declared.TheConstants.{MAX_OPTIONS}
use Rattle.vote_count.specs.Changes.{sum_at}
use Rattle.vote_count.proofs.running_matrix.RunningMatrix.matrix.Given as goal

-- the rows before the row of this option are filled
abbrev pub invariant-loop-row : goal.invariant-loop-row
invariant-loop-row l = record {
  long : length l.counts ≡ MAX_OPTIONS;
  wide : (i : ℕ) → i < MAX_OPTIONS → length (get_or l.counts i []) ≡ MAX_OPTIONS;
  filled : (i j : ℕ) → i < l.row → j < l.options → get_or (get_or l.counts i []) j 0 ≡ sum_at l.self-inside.settled l.self-inside.changes i j;
}
