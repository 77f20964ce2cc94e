use Rattle.std.proofs.Common.{◌≡◌, ℕ, ◌<◌, get_or, length}
use Rattle.vote_poll.specs.declared.TheConstants.{MAX_OPTIONS}
use Rattle.vote_count.specs.Changes.{sum_at}
use Rattle.vote_count.proofs.running_matrix.fill_row.Given as goal

-- the columns before this column are filled
abbrev pub invariant-loop-column : goal.invariant-loop-column
invariant-loop-column l = record {
  long : length l.counts ≡ MAX_OPTIONS;
  filled : (column : ℕ) → column < l.column → get_or l.counts column 0 ≡ sum_at l.settled l.changes l.row column;
}
