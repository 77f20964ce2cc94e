-- One of the weakest defeats, and the defeats that are no stronger.
use Rattle.std.specs.Prelude.{◌≡◌, ℕ, ◌⊎◌, Option, Some, None}
use Rattle.vote_poll.specs.Options.{IsOption}
use Rattle.vote_count.specs.Rules.{IsWeaker}
use Rattle.vote_count.specs.Votes.{Votes}

-- the weaker of two defeats: this one, and the weakest so far
abbrev pub IsWeakerOf : Votes → ℕ × ℕ → Option (ℕ × ℕ) → ℕ × ℕ → Type 0
IsWeakerOf matrix defeat None result = result ≡ defeat
IsWeakerOf matrix defeat (Some other) result =
    ((result ≡ defeat) × IsWeaker matrix defeat.0 defeat.1 other.0 other.1) ⊎ ((result ≡ other) × ¬ IsWeaker matrix defeat.0 defeat.1 other.0 other.1)

-- one of the weakest defeats, or None if there is no defeat
abbrev pub IsOneWeakest : Votes → (ℕ → ℕ → Type 0) → Option (ℕ × ℕ) → Type 0
IsOneWeakest matrix defeats None = (a b : ℕ) → ¬ defeats a b
IsOneWeakest matrix defeats (Some weakest) = defeats weakest.0 weakest.1 × ((a b : ℕ) → defeats a b → ¬ IsWeaker matrix a b weakest.0 weakest.1)

-- both are options
abbrev pub AreOptions : ℕ → ℕ × ℕ → Type 0
AreOptions options pair = IsOption options pair.0 × IsOption options pair.1

-- each defeat is between options
abbrev pub AreBetween : ℕ → (ℕ → ℕ → Type 0) → Type 0
AreBetween options defeats = (a b : ℕ) → defeats a b → IsOption options a × IsOption options b

-- (A,B) is a defeat, and the given defeat is not weaker than it
abbrev pub IsNoStronger : Votes → (ℕ → ℕ → Type 0) → ℕ × ℕ → ℕ → ℕ → Type 0
IsNoStronger matrix defeats weakest a b = defeats a b × ¬ IsWeaker matrix weakest.0 weakest.1 a b
