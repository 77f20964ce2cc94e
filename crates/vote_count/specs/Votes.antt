-- V(A,B), the number of voters who prefer A to B (Constitution, Appendix A, Vote Counting).
use Rattle.std.specs.Prelude.{◌≡◌, ℕ, ◌<◌, List, [], length, slice_index_or}
use Rattle.vote_poll.specs.declared.TheConstants.{MAX_OPTIONS}
use Rattle.vote_poll.specs.Options.{at_option}

-- a matrix of votes: it has a row for each option, and a row has a number for each option
pub record Votes : Type 0 where
  pub options : ℕ
  pub rows : List (List ℕ)

-- A.5.3: "Given two options A and B, V(A,B) is the number of voters who prefer option A over option B."
abbrev pub votes : Votes → ℕ → ℕ → ℕ
votes matrix a b = at_option (at_option matrix.rows a []) b 0

-- each row has as many entries as a poll can have options
abbrev pub AreRows : List (List ℕ) → Type 0
AreRows rows = (a : ℕ) → a < MAX_OPTIONS → length (slice_index_or rows a []) ≡ MAX_OPTIONS
