-- Laws of the count, in the words of the literature on voting.
use Rattle.std.specs.Prelude.{◌≡◌, ◌≢◌, ℕ, ◌≤◌, ◌⊎◌, ◌↔◌, Bool, List, Option, IfSome, IsTrue, count_by}
use Rattle.std.specs.List.{All, AllZip}
use Rattle.std.specs.List.Sorted.{IsPermutation}
use Rattle.vote_poll.specs.Options.{IsOption}
use Rattle.vote_poll.specs.PollContent.{PollContent, IsPoll, option_count}
use Rattle.vote_poll.specs.Ranks.{prefers}
use Rattle.vote_count.specs.declared.rounds.Round.{Round}
use Rattle.vote_count.specs.Ballots.{entry_prefers}
use Rattle.vote_count.specs.declared.rounds.Decision.{Decision}
use Rattle.vote_count.specs.declared.rounds.Decision.TheVariants.{Winner}
use Rattle.vote_count.specs.Rounds.{AreRounds, AreSameRounds, IsByCasting, IsDecision, IsInFinalSet, IsOutcome, VerdictState, cause_of, final_set}
use Rattle.vote_count.specs.Rules.{IsKept, IsQuorum, PairwiseDefeats, TransitivelyDefeats, IsWeaker}
use Rattle.vote_count.specs.Sets.{In, IsAlone, Pairs, size}
use Rattle.vote_count.specs.Votes.{Votes, votes}

-- A count has rounds. Each round but the last drops a defeat, so they end.
abbrev pub RoundsExist : Type 0
RoundsExist =
    (poll : PollContent) (matrix : Votes) → 1 ≤ option_count poll →
    let kept = IsKept poll matrix in
    (rounds : List Round) × AreRounds kept matrix (PairwiseDefeats kept matrix) rounds

-- A count has an outcome: each matrix of votes has one by each poll that has an option.
abbrev pub OutcomesExist : Type 0
OutcomesExist = (poll : PollContent) (matrix : Votes) → 1 ≤ option_count poll → (outcome : VerdictState) × IsOutcome poll matrix outcome

-- There is a decision, whatever the final set and the casting vote.
abbrev pub DecisionsExist : Type 0
DecisionsExist = (set : List Bool) (casting : Option ℕ) → (decision : Decision) × IsDecision set casting decision

-- Some number of votes is the smallest that meets the quorum.
abbrev pub QuorumsExist : Type 0
QuorumsExist = (poll : PollContent) → (votes : ℕ) × IsQuorum poll votes

-- All rounds of a count have the same final set: the options that the count leaves.
abbrev pub FinalSetIsOne : Type 0
FinalSetIsOne =
    (poll : PollContent) (matrix : Votes) (rounds : List Round) →
    let kept = IsKept poll matrix in
    AreRounds kept matrix (PairwiseDefeats kept matrix) rounds → (o : ℕ) → In (final_set rounds) o ↔ IsInFinalSet kept matrix o

-- two matrices have the same votes between this many options
abbrev pub HaveSameVotes : ℕ → Votes → Votes → Type 0
HaveSameVotes options matrix other = (a b : ℕ) → IsOption options a → IsOption options b → votes matrix a b ≡ votes other a b

-- two outcomes of this many options drop the same options for the same causes, and have the same defeats and the same rounds
pub record AreSameOutcomes (options : ℕ) (outcome other : VerdictState) : Type 0 where
  pub causes : (o : ℕ) → IsOption options o → cause_of outcome o ≡ cause_of other o
  pub defeats : (a b : ℕ) → Pairs outcome.defeats a b ↔ Pairs other.defeats a b
  pub rounds : AreSameRounds outcome.rounds other.rounds

-- The votes between the options determine the outcome: matrices with the same votes have the same outcome.
abbrev pub OutcomesAreDetermined : Type 0
OutcomesAreDetermined =
    (poll : PollContent) (matrix other : Votes) (first second : VerdictState) →
    HaveSameVotes (option_count poll) matrix other → IsOutcome poll matrix first → IsOutcome poll other second → AreSameOutcomes (option_count poll) first second

-- The options of the final set and the casting vote determine the decision: sets with the same options have the same size and the same decision.
abbrev pub DecisionsAreDetermined : Type 0
DecisionsAreDetermined =
    (set other : List Bool) (casting : Option ℕ) (first second : Decision) → ((o : ℕ) → In set o ↔ In other o) →
    IsDecision set casting first → IsDecision other casting second → (size set ≡ size other) × (first ≡ second)

-- A count always leaves an option: the final set is not empty.
abbrev pub FinalSetIsNotEmpty : Type 0
FinalSetIsNotEmpty = (poll : PollContent) (matrix : Votes) → 1 ≤ option_count poll → (o : ℕ) × IsInFinalSet (IsKept poll matrix) matrix o

-- the set has exactly the options that a count leaves
abbrev pub IsFinalSet : (ℕ → Type 0) → Votes → List Bool → Type 0
IsFinalSet options matrix set = (o : ℕ) → In set o ↔ IsInFinalSet options matrix o

-- So one option is left, and wins; or two or more are left, and the casting vote decides, or there is a tie.
abbrev pub OneOrSeveralAreLeft : Type 0
OneOrSeveralAreLeft =
    (poll : PollContent) (matrix : Votes) (set : List Bool) (casting : Option ℕ) (decision : Decision) →
    1 ≤ option_count poll → IsFinalSet (IsKept poll matrix) matrix set → IsDecision set casting decision →
    ((o : ℕ) × IsAlone set o × (decision ≡ Winner o)) ⊎ ((2 ≤ size set) × IsByCasting set casting decision)

-- A winner is one of the options of the set: it is alone there, or the casting vote chose it.
abbrev pub WinnersAreInTheSet : Type 0
WinnersAreInTheSet = (set : List Bool) (casting : Option ℕ) (winner : ℕ) → IsDecision set casting (Winner winner) → In set winner

-- Anonymity: the votes do not depend on the order of the ballots.
abbrev pub BallotsAreAnonymous : Type 0
BallotsAreAnonymous =
    (ballots others : List (Option (List (Option ℕ)))) → IsPermutation ballots others →
    (a b : ℕ) → count_by (entry_prefers a b) ballots ≡ count_by (entry_prefers a b) others

-- A is a Condorcet winner: it is one of the options, and defeats each other option
abbrev pub IsCondorcetWinner : (ℕ → Type 0) → Votes → ℕ → Type 0
IsCondorcetWinner options matrix a = options a × ((b : ℕ) → options b → b ≢ a → PairwiseDefeats options matrix a b)

-- A Condorcet winner of the options that are not dropped is alone in the final set.
abbrev pub CondorcetWinnersWin : Type 0
CondorcetWinnersWin =
    (poll : PollContent) (matrix : Votes) (winner : ℕ) →
    let kept = IsKept poll matrix in
    1 ≤ option_count poll → IsCondorcetWinner kept matrix winner → (o : ℕ) → IsInFinalSet kept matrix o ↔ (o ≡ winner)

-- A set of options dominates: it is not empty, and each of its options defeats each option outside it.
pub record IsDominant (options : ℕ → Type 0) (matrix : Votes) (set : List Bool) : Type 0 where
  pub members : (a : ℕ) → In set a → options a
  pub some : (a : ℕ) × In set a
  pub defeats : (a b : ℕ) → In set a → options b → ¬ In set b → PairwiseDefeats options matrix a b

-- A is in the Smith set, the smallest set that dominates: it is in each set that dominates
abbrev pub InSmithSet : (ℕ → Type 0) → Votes → ℕ → Type 0
InSmithSet options matrix a = (set : List Bool) → IsDominant options matrix set → In set a

-- Each option of the final set is in the Smith set of the options that are not dropped.
abbrev pub FinalSetIsInSmithSet : Type 0
FinalSetIsInSmithSet =
    (poll : PollContent) (matrix : Votes) (a : ℕ) →
    let kept = IsKept poll matrix in
    IsInFinalSet kept matrix a → InSmithSet kept matrix a

-- A has a chain of defeats to B, and no defeat of the chain is weaker than the defeat (X,Y)
abbrev pub ReachesBy : Votes → (ℕ → ℕ → Type 0) → ℕ → ℕ → ℕ → ℕ → Type 0
ReachesBy matrix defeats x y a b = TransitivelyDefeats (λ c d. defeats c d × ¬ IsWeaker matrix c d x y) a b

-- A wins by Schulze's method: it is one of the options, and if another option has a chain of defeats to it, it has a chain to that option that is as strong
abbrev pub IsSchulzeWinner : (ℕ → Type 0) → Votes → (ℕ → ℕ → Type 0) → ℕ → Type 0
IsSchulzeWinner options matrix defeats a =
    options a × ((b : ℕ) → options b → (x y : ℕ) → defeats x y → ReachesBy matrix defeats x y b a → ReachesBy matrix defeats x y a b)

-- The final set has exactly the options that win by Schulze's method, among those that are not dropped.
abbrev pub FinalSetIsSchulze : Type 0
FinalSetIsSchulze =
    (poll : PollContent) (matrix : Votes) (a : ℕ) →
    let kept = IsKept poll matrix in
    1 ≤ option_count poll → IsInFinalSet kept matrix a ↔ IsSchulzeWinner kept matrix (PairwiseDefeats kept matrix) a

-- A is liked no less in the second matrix than in the first, and nothing else has changed: A has no fewer votes over each other option, each other option has no more over A, and the votes between other options are the same.
pub record IsRaised (options : ℕ) (a : ℕ) (matrix raised : Votes) : Type 0 where
  pub for : (b : ℕ) → IsOption options b → b ≢ a → votes matrix a b ≤ votes raised a b
  pub against : (b : ℕ) → IsOption options b → b ≢ a → votes raised b a ≤ votes matrix b a
  pub same : (b c : ℕ) → IsOption options b → IsOption options c → b ≢ a → c ≢ a → votes raised b c ≡ votes matrix b c

-- Monotonicity: if an option of the final set is liked more and nothing else changes, it stays in the final set.
abbrev pub RaisedWinnersWin : Type 0
RaisedWinnersWin =
    (poll : PollContent) (matrix raised : Votes) (a : ℕ) →
    IsPoll poll → IsRaised (option_count poll) a matrix raised → IsInFinalSet (IsKept poll matrix) matrix a → IsInFinalSet (IsKept poll raised) raised a

-- The second entry prefers A to each option to which the first prefers it. It prefers an option to A only if the first does. Between other options both prefer the same.
pub record IsRaisedEntry (options : ℕ) (a : ℕ) (entry raised : Option (List (Option ℕ))) : Type 0 where
  pub for : (b : ℕ) → IsOption options b → b ≢ a → IsTrue (entry_prefers a b entry) → IsTrue (entry_prefers a b raised)
  pub against : (b : ℕ) → IsOption options b → b ≢ a → IsTrue (entry_prefers b a raised) → IsTrue (entry_prefers b a entry)
  pub same : (b c : ℕ) → IsOption options b → IsOption options c → b ≢ a → c ≢ a → entry_prefers b c raised ≡ entry_prefers b c entry

-- the matrix has the votes of these ballots, between this many options
abbrev pub IsMatrixOf : ℕ → List (Option (List (Option ℕ))) → Votes → Type 0
IsMatrixOf options ballots matrix =
    (a b : ℕ) → IsOption options a → IsOption options b → votes matrix a b ≡ count_by (entry_prefers a b) ballots

-- If each entry of a second list of ballots raises A in this way over the entry of the first list at the same index, the matrix of the second list raises A over the matrix of the first.
abbrev pub RaisedBallotsRaise : Type 0
RaisedBallotsRaise =
    (options a : ℕ) (ballots raised_ballots : List (Option (List (Option ℕ)))) (matrix raised : Votes) →
    IsOption options a → AllZip (IsRaisedEntry options a) ballots raised_ballots → IsMatrixOf options ballots matrix → IsMatrixOf options raised_ballots raised →
    IsRaised options a matrix raised

-- Two of the options are clones: each further option has the same votes over both, and both have the same votes over it.
pub record AreClones (options : ℕ → Type 0) (matrix : Votes) (c d : ℕ) : Type 0 where
  pub first : options c
  pub second : options d
  pub distinct : c ≢ d
  pub for : (x : ℕ) → options x → x ≢ c → x ≢ d → votes matrix c x ≡ votes matrix d x
  pub against : (x : ℕ) → options x → x ≢ c → x ≢ d → votes matrix x c ≡ votes matrix x d

-- the options without one of them
abbrev pub Except : (ℕ → Type 0) → ℕ → ℕ → Type 0
Except options d a = options a × (a ≢ d)

-- Independence of clones: if one of two clones is taken out of the options that are not dropped, the final set has the same further options, and has the other clone exactly when it had one of the two.
abbrev pub FinalSetIsCloneproof : Type 0
FinalSetIsCloneproof =
    (poll : PollContent) (matrix : Votes) (c d : ℕ) →
    let all = IsInFinalSet (IsKept poll matrix) matrix in
    let fewer = IsInFinalSet (Except (IsKept poll matrix) d) matrix in
    AreClones (IsKept poll matrix) matrix c d → ((x : ℕ) → x ≢ c → x ≢ d → all x ↔ fewer x) × (fewer c ↔ (all c ⊎ all d))

-- Two of these options are clones on an entry: it ranks no further option between the two, or equal to only one of them.
pub record AreClonesOn (options : ℕ) (c d : ℕ) (entry : Option (List (Option ℕ))) : Type 0 where
  pub for : (x : ℕ) → IsOption options x → x ≢ c → x ≢ d → entry_prefers c x entry ≡ entry_prefers d x entry
  pub against : (x : ℕ) → IsOption options x → x ≢ c → x ≢ d → entry_prefers x c entry ≡ entry_prefers x d entry

-- If two options that are not dropped are clones on each entry of a list of ballots, they are clones in the matrix of the ballots.
abbrev pub ClonesOnBallotsAreClones : Type 0
ClonesOnBallotsAreClones =
    (poll : PollContent) (ballots : List (Option (List (Option ℕ)))) (matrix : Votes) (c d : ℕ) →
    let kept = IsKept poll matrix in
    kept c → kept d → c ≢ d → All (AreClonesOn (option_count poll) c d) ballots → IsMatrixOf (option_count poll) ballots matrix →
    AreClones kept matrix c d

-- The options of a set are clones: each option outside the set has the same votes over each of them, and each of them has the same votes over it.
pub record IsCloneSet (options : ℕ → Type 0) (matrix : Votes) (clones : List Bool) : Type 0 where
  pub members : (c : ℕ) → In clones c → options c
  pub for : (c d x : ℕ) → In clones c → In clones d → options x → ¬ In clones x → votes matrix c x ≡ votes matrix d x
  pub against : (c d x : ℕ) → In clones c → In clones d → options x → ¬ In clones x → votes matrix x c ≡ votes matrix x d

-- the options without those of a set
abbrev pub Outside : (ℕ → Type 0) → List Bool → ℕ → Type 0
Outside options set a = options a × ¬ In set a

-- two sets have an option in common
abbrev pub Meet : List Bool → (ℕ → Type 0) → Type 0
Meet set other = (a : ℕ) × In set a × other a

-- Independence of any number of clones: if some of a set of clones are taken out, but not C, the final set has the same options outside the set, and has some of the clones exactly when it had some.
abbrev pub CloneSetsAreIndependent : Type 0
CloneSetsAreIndependent =
    (poll : PollContent) (matrix : Votes) (clones removed : List Bool) (c : ℕ) →
    let all = IsInFinalSet (IsKept poll matrix) matrix in
    let fewer = IsInFinalSet (Outside (IsKept poll matrix) removed) matrix in
    IsCloneSet (IsKept poll matrix) matrix clones → ((a : ℕ) → In removed a → In clones a) → In clones c → ¬ In removed c →
    ((x : ℕ) → ¬ In clones x → all x ↔ fewer x) × (Meet clones all ↔ Meet clones fewer)

-- The options of a set are clones on an entry: it ranks no option outside the set between two of them, or equal to only one of two.
pub record IsCloneSetOn (options : ℕ) (clones : List Bool) (entry : Option (List (Option ℕ))) : Type 0 where
  pub for : (c d x : ℕ) → In clones c → In clones d → IsOption options x → ¬ In clones x → entry_prefers c x entry ≡ entry_prefers d x entry
  pub against : (c d x : ℕ) → In clones c → In clones d → IsOption options x → ¬ In clones x → entry_prefers x c entry ≡ entry_prefers x d entry

-- If options that are not dropped are clones on each entry of a list of ballots, they are clones in the matrix of the ballots.
abbrev pub CloneSetsOnBallotsAreCloneSets : Type 0
CloneSetsOnBallotsAreCloneSets =
    (poll : PollContent) (ballots : List (Option (List (Option ℕ)))) (matrix : Votes) (clones : List Bool) →
    let kept = IsKept poll matrix in
    ((c : ℕ) → In clones c → kept c) → All (IsCloneSetOn (option_count poll) clones) ballots → IsMatrixOf (option_count poll) ballots matrix →
    IsCloneSet kept matrix clones

-- each entry that is a ballot prefers A to B
abbrev pub IsUnanimous : ℕ → ℕ → List (Option (List (Option ℕ))) → Type 0
IsUnanimous a b ballots = All (λ entry. IfSome entry (λ ranks. IsTrue (prefers ranks a b))) ballots

-- Pareto's criterion: if each ballot prefers one option, which is not dropped, to another, the other is not in the final set.
abbrev pub FinalSetIsPareto : Type 0
FinalSetIsPareto =
    (poll : PollContent) (ballots : List (Option (List (Option ℕ)))) (matrix : Votes) (a b : ℕ) →
    let kept = IsKept poll matrix in
    IsMatrixOf (option_count poll) ballots matrix → kept a → a ≢ b → IsUnanimous a b ballots → ¬ IsInFinalSet kept matrix b

-- Examples to check by hand, with three defeats: 1 defeats 2 by 5 votes to 3, 3 defeats 4 by 5 to 2, and 5 defeats 6 by 4 to 0.
pub record AreThreeDefeats (matrix : Votes) : Type 0 where
  pub first : (votes matrix 1 2 ≡ 5) × (votes matrix 2 1 ≡ 3)
  pub second : (votes matrix 3 4 ≡ 5) × (votes matrix 4 3 ≡ 2)
  pub third : (votes matrix 5 6 ≡ 4) × (votes matrix 6 5 ≡ 0)

-- The third defeat is the weakest: it has the fewest votes for it, though none against it. The other two have as many votes for them, and the first is weaker, since it has more against it.
pub record AreOrderedByStrength (matrix : Votes) : Type 0 where
  pub third_and_first : IsWeaker matrix 5 6 1 2 × ¬ IsWeaker matrix 1 2 5 6
  pub first_and_second : IsWeaker matrix 1 2 3 4 × ¬ IsWeaker matrix 3 4 1 2
  pub itself : ¬ IsWeaker matrix 1 2 1 2

abbrev pub WeakerDefeatsAsInTheExamples : Type 0
WeakerDefeatsAsInTheExamples = (matrix : Votes) → AreThreeDefeats matrix → AreOrderedByStrength matrix
