use Rattle.std.proofs.Common.{◌≡◌, ◌<◌, ℕ, false}
use Rattle.vote_commands.specs.Joined.{is_separator_at}
use Rattle.vote_commands.proofs.joined.split_joined.Given as goal

-- the separator is not before this index
abbrev pub invariant-loop-at : goal.invariant-loop-at
invariant-loop-at l = (k : ℕ) → k < l.at → is_separator_at l.input k ≡ false
