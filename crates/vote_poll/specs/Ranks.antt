-- What a ballot says: for each option its rank, or none. By A.5 of the Constitution's Appendix A ranked options are preferred
-- to unranked options, and unranked options are equal. That a rank is a number, and the smaller is preferred, is this project's own.
use Rattle.std.specs.Prelude.{ℕ, List, Bool, true, false, nat_lt, Option, Some, None}
use Rattle.vote_poll.specs.Options.{at_option}

-- The rank that a ballot gives an option, or none.
-- A.5.1: "Each voter's ballot ranks the options being voted on. Not all options need be ranked."
abbrev pub rank_of : List (Option ℕ) → ℕ → Option ℕ
rank_of ranks option = at_option ranks option None

-- Whether one rank is preferred to another: any rank is preferred to none, and of two ranks the smaller one.
-- A.5.1: "Ranked options are considered preferred to all unranked options. Voters may rank options equally. Unranked options are considered to be ranked equally with one another."
abbrev pub is_preferred : Option ℕ → Option ℕ → Bool
is_preferred None other = false
is_preferred (Some rank) None = true
is_preferred (Some rank) (Some other) = nat_lt rank other

-- whether a ballot with these ranks prefers option a to option b
abbrev pub prefers : List (Option ℕ) → ℕ → ℕ → Bool
prefers ranks a b = is_preferred (rank_of ranks a) (rank_of ranks b)
