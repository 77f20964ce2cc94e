-- `==` on ballots and readings is equality.
use Rattle.std.proofs.Common.{◌≡◌, ◌==◌, ◌&&◌, ℕ, List, true, nat_eq, Option, Some, None, refl, ap}
use Rattle.std.specs.Bool.{Decides}
use Rattle.std.specs.Option.{option_eq}
use Rattle.std.specs.Cmp.{unsigned_Decides}
use Rattle.std.specs.Cmp.Lexicographic.{pointwise_decides}
use Rattle.std.proofs.lemmas.Bool.{and_parts}
use Rattle.vote_poll.specs.Comparisons.{are_same_ranks, is_same_reading}
use Rattle.vote_poll.specs.declared.reading.Reading.{Reading}
use Rattle.vote_poll.specs.declared.reading.Reading.TheVariants.{Ballot, Bad}
use Rattle.vote_poll.specs.declared.reading.LineFault.TheVariants.{Shape, RankCount, Roll}

same_rank : (a b : Option ℕ) → Decides (option_eq nat_eq a b) (a ≡ b)
same_rank None None = (λ _. refl, λ _. refl)
same_rank None (Some y) = (λ h. cc, λ h. cc)
same_rank (Some x) None = (λ h. cc, λ h. cc)
same_rank (Some x) (Some y) = (λ h. ap Some ((unsigned_Decides x y).0 h), λ h. (unsigned_Decides x y).1 (cc))

pub same_ranks : (a b : List (Option ℕ)) → Decides (are_same_ranks a b) (a ≡ b)
same_ranks = pointwise_decides same_rank

same_ballot : (voter other : ℕ) (ranks others : List (Option ℕ)) → Decides ((voter == other) && (are_same_ranks ranks others && true)) (Ballot voter ranks ≡ Ballot other others)
same_ballot voter other ranks others = (
  λ h. let parts = and_parts (voter == other) (are_same_ranks ranks others && true) h in
      let voters : voter ≡ other = (unsigned_Decides voter other).0 parts.0 in
      let ballots : ranks ≡ others = (same_ranks ranks others).0 (and_parts (are_same_ranks ranks others) true parts.1).0 in
      cc,
  λ h. let voters : (voter == other) ≡ true = (unsigned_Decides voter other).1 (cc) in
      let ballots : are_same_ranks ranks others ≡ true = (same_ranks ranks others).1 (cc) in
      rw (voters, ballots),
)

pub same_reading : (a b : Reading) → Decides (is_same_reading a b) (a ≡ b)
same_reading (Ballot voter ranks) (Ballot other others) = same_ballot voter other ranks others
same_reading (Ballot voter ranks) (Bad fault) = (λ h. cc, λ h. cc)
same_reading (Bad fault) (Ballot voter ranks) = (λ h. cc, λ h. cc)
same_reading (Bad Shape) (Bad Shape) = (λ _. refl, λ _. refl)
same_reading (Bad RankCount) (Bad RankCount) = (λ _. refl, λ _. refl)
same_reading (Bad Roll) (Bad Roll) = (λ _. refl, λ _. refl)
same_reading (Bad Shape) (Bad RankCount) = (λ h. cc, λ h. cc)
same_reading (Bad Shape) (Bad Roll) = (λ h. cc, λ h. cc)
same_reading (Bad RankCount) (Bad Shape) = (λ h. cc, λ h. cc)
same_reading (Bad RankCount) (Bad Roll) = (λ h. cc, λ h. cc)
same_reading (Bad Roll) (Bad Shape) = (λ h. cc, λ h. cc)
same_reading (Bad Roll) (Bad RankCount) = (λ h. cc, λ h. cc)
