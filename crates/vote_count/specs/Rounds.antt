-- The rounds of the count and its decision, from Appendix A of the Constitution, Vote Counting.
use Rattle.std.specs.Prelude.{◌≡◌, ℕ, ◌<◌, ◌⊎◌, ◌↔◌, Bool, List, [], ◌∷◌, Option, None, Some, ⊤}
use Rattle.vote_poll.specs.PollContent.{PollContent, option_count}
use Rattle.vote_count.specs.declared.rounds.Round.{Round}
use Rattle.vote_count.specs.declared.rounds.Cause.{Cause}
use Rattle.vote_count.specs.declared.rounds.Cause.TheVariants.{Quorum, Majority}
use Rattle.vote_count.specs.declared.rounds.Decision.{Decision}
use Rattle.vote_count.specs.declared.rounds.Decision.TheVariants.{Winner, Tie, CastingOutside}
use Rattle.vote_poll.specs.Options.{IsOption, at_option}
use Rattle.vote_count.specs.Rules.{MeetsQuorum, MeetsMajority, IsKept, PairwiseDefeats, TransitivelyDefeats, InSchwartzSet, IsWeakest}
use Rattle.vote_count.specs.Sets.{In, IsAlone, Pairs}
use Rattle.vote_count.specs.Votes.{Votes, votes}

-- One round over the defeats that are left: its set is the Schwartz set, and it removes, or drops, the weakest defeats within that set.
-- A.5.6: "We construct the Schwartz set from the set of transitive defeats."
-- A.5.7: "If there are defeats between options in the Schwartz set, we drop the weakest such defeats from the list of pairwise defeats, and return to step 5."
pub record IsRound (options : ℕ → Type 0) (matrix : Votes) (defeats : ℕ → ℕ → Type 0) (round : Round) : Type 0 where
  pub set : (a : ℕ) → In round.set a ↔ InSchwartzSet options (TransitivelyDefeats defeats) a
  pub removed : (a b : ℕ) → Pairs round.removed a b ↔ IsWeakest matrix (In round.set) defeats a b

-- The rounds of a count, by A.5.7: each round but the last removes a defeat, and the next round goes on without the removed defeats; the last round removes none.
abbrev pub AreRounds : (ℕ → Type 0) → Votes → (ℕ → ℕ → Type 0) → List Round → Type 0
AreRounds options matrix defeats [] = ⊥
AreRounds options matrix defeats (round ∷ []) = IsRound options matrix defeats round × ((a b : ℕ) → ¬ Pairs round.removed a b)
AreRounds options matrix defeats (round ∷ next ∷ rest) =
    IsRound options matrix defeats round × ((a : ℕ) × (b : ℕ) × Pairs round.removed a b)
    × AreRounds options matrix (λ a b. defeats a b × ¬ Pairs round.removed a b) (next ∷ rest)

-- The set of the last round.
-- A.5.8: "If there are no defeats within the Schwartz set, then the winner is chosen from the options in the Schwartz set."
abbrev pub final_set : List Round → List Bool
final_set [] = []
final_set (round ∷ []) = round.set
final_set (round ∷ next ∷ rest) = final_set (next ∷ rest)

-- A count of these options leaves A: A is in the final set of its rounds. There are rounds, and only one list of them, by the laws `Laws.RoundsExist` and `RoundsAreDetermined`.
abbrev pub IsInFinalSet : (ℕ → Type 0) → Votes → ℕ → Type 0
IsInFinalSet options matrix a = (rounds : List Round) × AreRounds options matrix (PairwiseDefeats options matrix) rounds × In (final_set rounds) a

-- Why an option is dropped, if it is: by A.5.2 if it misses the quorum, whether or not it has its majority; else by A.5.3.
abbrev pub HasCause : PollContent → Votes → ℕ → Option Cause → Type 0
HasCause poll matrix o None = IsKept poll matrix o
HasCause poll matrix o (Some Quorum) = (o < option_count poll) × ¬ MeetsQuorum poll (votes matrix o (option_count poll))
HasCause poll matrix o (Some Majority) = (o < option_count poll) × MeetsQuorum poll (votes matrix o (option_count poll)) × ¬ MeetsMajority poll matrix o

-- two rounds have the same options in their sets and remove the same defeats
pub record IsSameRound (round other : Round) : Type 0 where
  pub set : (a : ℕ) → In round.set a ↔ In other.set a
  pub removed : (a b : ℕ) → Pairs round.removed a b ↔ Pairs other.removed a b

abbrev pub AreSameRounds : List Round → List Round → Type 0
AreSameRounds [] [] = ⊤
AreSameRounds [] (other ∷ others) = ⊥
AreSameRounds (round ∷ rounds) [] = ⊥
AreSameRounds (round ∷ rounds) (other ∷ others) = IsSameRound round other × AreSameRounds rounds others

-- the rounds of a count are determined: two lists of them are the same
abbrev pub RoundsAreDetermined : Type 0
RoundsAreDetermined =
    (poll : PollContent) (matrix : Votes) (rounds others : List Round) →
    let defeats = PairwiseDefeats (IsKept poll matrix) matrix in
    AreRounds (IsKept poll matrix) matrix defeats rounds → AreRounds (IsKept poll matrix) matrix defeats others → AreSameRounds rounds others

-- A.5.8: "If there are multiple options, the elector with the casting vote chooses which of those options wins."
abbrev pub IsByCasting : List Bool → Option ℕ → Decision → Type 0
IsByCasting set None decision = decision ≡ Tie
IsByCasting set (Some choice) decision = (In set choice × (decision ≡ Winner choice)) ⊎ (¬ In set choice × (decision ≡ CastingOutside choice))

-- the result of a count
pub record VerdictState : Type 0 where
  pub causes : List (Option Cause)
  pub defeats : List (List Bool)
  pub rounds : List Round

abbrev pub cause_of : VerdictState → ℕ → Option Cause
cause_of outcome o = at_option outcome.causes o None

-- The result of a count of the matrix, by A.5.2 to A.5.7: which options are dropped and why, the defeats between the options that are kept, and the rounds.
pub record IsOutcome (poll : PollContent) (matrix : Votes) (outcome : VerdictState) : Type 0 where
  pub causes : (o : ℕ) → IsOption (option_count poll) o → HasCause poll matrix o (at_option outcome.causes o None)
  pub defeats : (a b : ℕ) → Pairs outcome.defeats a b ↔ PairwiseDefeats (IsKept poll matrix) matrix a b
  pub rounds : AreRounds (IsKept poll matrix) matrix (PairwiseDefeats (IsKept poll matrix) matrix) outcome.rounds

-- An option that is alone in the set wins. If no option is alone, the casting vote decides. No final set is empty, by the law `Laws.FinalSetIsNotEmpty`.
-- A.5.8: "If there is only one such option, it is the winner."
pub record IsDecision (set : List Bool) (casting : Option ℕ) (decision : Decision) : Type 0 where
  pub alone : (o : ℕ) → IsAlone set o → decision ≡ Winner o
  pub several : ((o : ℕ) → ¬ IsAlone set o) → IsByCasting set casting decision

-- each option of the final set is kept
abbrev pub IsFinalSetKept : PollContent → Votes → VerdictState → Type 0
IsFinalSetKept poll matrix verdict = (o : ℕ) → In (final_set verdict.rounds) o → IsKept poll matrix o

-- the default option is in the final set exactly when no other option is kept
abbrev pub IsDefaultFinalAlone : PollContent → Votes → VerdictState → Type 0
IsDefaultFinalAlone poll matrix verdict =
    let default = option_count poll in
    In (final_set verdict.rounds) default ↔ ((o : ℕ) → IsKept poll matrix o → o ≡ default)

-- if the default option is in the final set, it is alone there
abbrev pub IsDefaultAlone : PollContent → VerdictState → Type 0
IsDefaultAlone poll verdict = In (final_set verdict.rounds) (option_count poll) → IsAlone (final_set verdict.rounds) (option_count poll)
