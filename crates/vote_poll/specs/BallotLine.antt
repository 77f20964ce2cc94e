-- The ballot line: a voter's name, a space, and the ranks of the options with a comma between each two.
use Rattle.std.specs.Prelude.{◌≡◌, ℕ, ◌≤◌, List, ◌++◌, map, length, Option, Some, None, IfSome, IsTrue, codes}
use Rattle.std.specs.List.{All, join_with_byte}
use Rattle.std.specs.Fmt.{decimal}
use Rattle.std.specs.Str.{byte}
use Rattle.vote_poll_text.specs.Names.{is_voter_name}
use Rattle.vote_poll.specs.declared.TheConstants.{MAX_LINE, MAX_RANK}

-- there is no rank, or it is a number from 1 to the greatest rank
abbrev pub IsRank : Option ℕ → Type 0
IsRank rank = IfSome rank (λ number. (1 ≤ number) × (number ≤ MAX_RANK))

-- a rank is written in decimal digits, and a hyphen leaves the option unranked
abbrev pub rank_text : Option ℕ → List ℕ
rank_text None = codes "-"
rank_text (Some number) = decimal number

abbrev pub line_text : List ℕ → List (Option ℕ) → List ℕ
line_text voter ranks = voter ++ codes " " ++ join_with_byte (byte ",") (map rank_text ranks)

-- the line is a ballot line that is not too long, with this voter and these ranks
pub record IsBallotLine (line voter : List ℕ) (ranks : List (Option ℕ)) : Type 0 where
  pub is_text : line ≡ line_text voter ranks
  pub is_name : IsTrue (is_voter_name voter)
  pub are_ranks : All IsRank ranks
  pub has_rank : 1 ≤ length ranks
  pub is_short : length line ≤ MAX_LINE

-- the text is a ballot line that is not too long, of some voter and with some ranks
abbrev pub IsBallotText : List ℕ → Type 0
IsBallotText text = (voter : List ℕ) × (ranks : List (Option ℕ)) × IsBallotLine text voter ranks
