-- What `==` compares of two ballots, and of two readings.
use Rattle.std.specs.Prelude.{ℕ, List, [], Bool, nat_eq, Option, Some, None}
use Rattle.std.specs.Option.{option_eq}
use Rattle.std.specs.Ordering.{on, eq_of_both}
use Rattle.std.specs.Cmp.Lexicographic.{pointwise}
use Rattle.vote_poll.specs.declared.reading.Reading.{Reading}
use Rattle.vote_poll.specs.declared.reading.Reading.TheVariants.{Ballot, Bad}
use Rattle.vote_poll.specs.declared.reading.LineFault.TheVariants.{Shape, RankCount, Roll}

-- the same number of ranks, and each rank the same
abbrev pub are_same_ranks : List (Option ℕ) → List (Option ℕ) → Bool
are_same_ranks = pointwise (option_eq nat_eq)

-- the voter of a ballot
abbrev pub voter_in : Reading → Option ℕ
voter_in (Ballot voter ranks) = Some voter
voter_in (Bad fault) = None

-- the ranks of a ballot
abbrev pub ranks_read : Reading → List (Option ℕ)
ranks_read (Ballot voter ranks) = ranks
ranks_read (Bad fault) = []

-- the number of the fault in the order in which faults are tested, or 0 for a ballot
abbrev pub fault_number : Reading → ℕ
fault_number (Ballot voter ranks) = 0
fault_number (Bad Shape) = 1
fault_number (Bad RankCount) = 2
fault_number (Bad Roll) = 3

-- the same voter, the same ranks and the same fault
abbrev pub is_same_reading : Reading → Reading → Bool
is_same_reading = eq_of_both (on voter_in (option_eq nat_eq)) (eq_of_both (on ranks_read are_same_ranks) (on fault_number nat_eq))
