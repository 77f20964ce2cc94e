use Rattle.std.proofs.Common.{◌≡◌, ℕ, ◌-◌, ◌*◌, ◌^◌, ◌<◌, ◌≤◌}
use Rattle.vote_poll.proofs.quorum.times_q.Given as goal

abbrev pub invariant-loop-votes : goal.invariant-loop-votes
invariant-loop-votes l = record {
  bound : l.bound ≡ l.fn.multiple ^ 2 * l.fn.electors;
  small : l.bound ≤ 1000000;
  below : (n : ℕ) → n < l.votes → (2 * n) ^ 2 < l.bound;
  within : l.votes ≤ l.bound;
}

abbrev pub decreases-loop-votes : goal.decreases-loop-votes
decreases-loop-votes l = l.bound - l.votes
