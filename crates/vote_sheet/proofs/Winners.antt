-- The options of the final set are options of the poll.
use Rattle.std.proofs.Common.{◌≤◌, ℕ, zero, suc, Bool, List, arith, inl, inr}
use Rattle.std.proofs.lemmas.Bool.{false≢true}
use Rattle.vote_poll.specs.Options.{IsOption, at_option}
use Rattle.vote_poll.specs.PollContent.{PollContent, option_count}
use Rattle.vote_count.specs.Rounds.{final_set}
use Rattle.vote_count.specs.Sets.{In}
use Rattle.vote_sheet.specs.Counted.{FinalSetIsKept}
use Rattle.vote_sheet.specs.declared.sheet.Count.{Count}

-- no option has the number 0
least_in : (set : List Bool) (o : ℕ) → In set o → 1 ≤ o
unfolding at_option
least_in set zero is = absurd (false≢true is)
least_in set (suc o) is = omega arith

-- an option of the final set is kept, so it is an option of the poll
pub final_is_option : (poll : PollContent) (count : Count) → FinalSetIsKept poll count → (o : ℕ) → In (final_set count.verdict.rounds) o → IsOption (option_count poll) o
final_is_option poll count kept o in_set =
    elim (kept o in_set) [
      | inl default ↦ (least_in (final_set count.verdict.rounds) o in_set, omega (arith, default))
      | inr other ↦ (other.0, omega (arith, other.1))
    ]
