use Rattle.std.proofs.Common.{◌≡◌, ℕ, ◌<◌, ◌≤◌, ◌+◌, ◌&&◌, false, [], get_or, length}
use Rattle.vote_poll.specs.declared.TheConstants.{MAX_OPTIONS}
use Rattle.vote_count.specs.Sets.{has}
use Rattle.vote_count.proofs.pairs.Defeats.within.Given as goal

abbrev pub invariant-loop-i : goal.invariant-loop-i
invariant-loop-i l = record {
  long : length l.inside-inside.rows ≡ MAX_OPTIONS;
  done : (k o : ℕ) → k < l.i → has (get_or l.inside-inside.rows k []) o ≡ (has l.set (k + 1) && (has (get_or l.self k []) o && has l.set o));
  rest : (k o : ℕ) → l.i ≤ k → has (get_or l.inside-inside.rows k []) o ≡ false;
}
