use Rattle.std.proofs.Common.{◌≡◌, ◌≢◌, ℕ, ◌<◌, ◌≤◌, ◌⊎◌, ◌↔◌}
use Rattle.vote_count.specs.Sets.{In}
use Rattle.vote_count.specs.Rules.{MeetsQuorum, MeetsMajority}
use Rattle.vote_poll.specs.PollContent.{option_count}
use Rattle.vote_count.specs.Votes.{votes}
use Rattle.vote_count.proofs.rules.kept_with.Given as goal

abbrev pub invariant-loop-option : goal.invariant-loop-option
invariant-loop-option l = record {
  start : 1 ≤ l.option;
  kept : (o : ℕ) → In l.standing o ↔ ((o ≡ option_count l.poll) ⊎ ((1 ≤ o) × (o < l.option) × (MeetsQuorum l.poll (votes l.matrix o (option_count l.poll)) × MeetsMajority l.poll l.matrix o)));
  more : (o : ℕ) → In l.standing o → o ≢ option_count l.poll → votes l.matrix (option_count l.poll) o < votes l.matrix o (option_count l.poll);
}
