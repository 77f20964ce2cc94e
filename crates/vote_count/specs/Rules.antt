-- The rules of the count, from Appendix A of the Constitution, Vote Counting, and for the quorum from section 4.2; that a majority can be worded as more than its ratio is this project's own. A set of options is a fact about an option, and a list of defeats is a fact about two options.
use Rattle.std.specs.Prelude.{◌≡◌, ℕ, ◌*◌, ◌<◌, ◌≤◌, ◌≢◌, ◌⊎◌, ◌↔◌, List, [], ◌∷◌, ◌++◌, ⊤}
use Rattle.vote_poll.specs.PollContent.{PollContent, elector_count, option_count, ratio_of}
use Rattle.vote_poll.specs.Quorum.{IsAtLeastTimesQ}
use Rattle.vote_poll.specs.declared.wording.Wording.{Wording}
use Rattle.vote_poll.specs.declared.wording.Wording.TheVariants.{AtLeast, MoreThan}
use Rattle.vote_count.specs.Votes.{Votes, votes}

-- `n` votes are at least the quorum R of A.5.2: the poll's multiple of Q
abbrev pub MeetsQuorum : PollContent → ℕ → Type 0
MeetsQuorum poll n = IsAtLeastTimesQ poll.quorum_multiple (elector_count poll) n

-- `n` are the fewest votes that meet the quorum
abbrev pub IsQuorum : PollContent → ℕ → Type 0
IsQuorum poll n = MeetsQuorum poll n × ((m : ℕ) → MeetsQuorum poll m → n ≤ m)

-- These numbers of votes, for an option and for the default, are a majority of this ratio. In the Constitution's wording the first is at least the ratio times the second, and strictly greater than the second; in the other wording the first is greater than the ratio times the second.
-- A.5.3: "An option A defeats the default option D by a majority ratio N, if V(A,D) is greater or equal to N * V(D,A) and V(A,D) is strictly greater than V(D,A)."
abbrev pub IsMajority : Wording → ℕ → ℕ → ℕ → Type 0
IsMajority AtLeast ratio won lost = (ratio * lost ≤ won) × (lost < won)
IsMajority MoreThan ratio won lost = ratio * lost < won

-- how many voters prefer an option to the default, and below, how many prefer the default to it
abbrev pub votes_for : PollContent → Votes → ℕ → ℕ
votes_for poll matrix o = votes matrix o (option_count poll)

abbrev pub votes_against : PollContent → Votes → ℕ → ℕ
votes_against poll matrix o = votes matrix (option_count poll) o

-- more voters prefer the option to the default than prefer the default to it
abbrev pub IsAhead : PollContent → Votes → ℕ → Type 0
IsAhead poll matrix o = votes_against poll matrix o < votes_for poll matrix o

-- each option of a set except the default is ahead of the default
abbrev pub AreAhead : PollContent → Votes → (ℕ → Type 0) → Type 0
AreAhead poll matrix set = (o : ℕ) → set o → o ≢ option_count poll → IsAhead poll matrix o

-- A defeats the default option by A's majority ratio, in the poll's wording
abbrev pub MeetsMajority : PollContent → Votes → ℕ → Type 0
MeetsMajority poll matrix a = IsMajority poll.wording (ratio_of poll a) (votes matrix a (option_count poll)) (votes matrix (option_count poll) a)

-- The option A is not dropped from consideration: it is the default option, or it meets the quorum and its majority.
-- A.5.2: "If the ballot has a quorum requirement R any options other than the default option which do not receive at least R votes ranking that option above the default option are dropped from consideration."
-- A.5.3: "Any (non-default) option which does not defeat the default option by its required majority ratio is dropped from consideration."
abbrev pub IsKept : PollContent → Votes → ℕ → Type 0
IsKept poll matrix a = let default = option_count poll in
    (a ≡ default) ⊎ ((1 ≤ a) × (a < default) × MeetsQuorum poll (votes matrix a default) × MeetsMajority poll matrix a)

-- A.5.4: "From the list of undropped options, we generate a list of pairwise defeats." "An option A defeats an option B, if V(A,B) is strictly greater than V(B,A)."
abbrev pub PairwiseDefeats : (ℕ → Type 0) → Votes → ℕ → ℕ → Type 0
PairwiseDefeats options matrix a b = options a × options b × (votes matrix b a < votes matrix a b)

-- each option of a list defeats the next option
abbrev pub EachDefeatsNext : (ℕ → ℕ → Type 0) → List ℕ → Type 0
EachDefeatsNext defeats (a ∷ b ∷ rest) = defeats a b × EachDefeatsNext defeats (b ∷ rest)
EachDefeatsNext defeats other = ⊤

-- A transitively defeats C: there is a list of options, from A to C, and each of them defeats the next.
-- A.5.5: "An option A transitively defeats an option C if A defeats C or if there is some other option B where A defeats B AND B transitively defeats C."
abbrev pub TransitivelyDefeats : (ℕ → ℕ → Type 0) → ℕ → ℕ → Type 0
TransitivelyDefeats defeats a c = (between : List ℕ) × EachDefeatsNext defeats (a ∷ between ++ c ∷ [])

-- A.5.6: "An option A is in the Schwartz set if for all options B, either A transitively defeats B, or B does not transitively defeat A."
abbrev pub InSchwartzSet : (ℕ → Type 0) → (ℕ → ℕ → Type 0) → ℕ → Type 0
InSchwartzSet options transitively_defeats a = options a × ((b : ℕ) → options b → transitively_defeats a b ⊎ ¬ transitively_defeats b a)

-- A.5.7: "A defeat (A,X) is weaker than a defeat (B,Y) if V(A,X) is less than V(B,Y). Also, (A,X) is weaker than (B,Y) if V(A,X) is equal to V(B,Y) and V(X,A) is greater than V(Y,B)."
abbrev pub IsWeaker : Votes → ℕ → ℕ → ℕ → ℕ → Type 0
IsWeaker matrix a x b y = (votes matrix a x < votes matrix b y) ⊎ ((votes matrix a x ≡ votes matrix b y) × (votes matrix y b < votes matrix x a))

-- the defeats between options of a set
abbrev pub Within : (ℕ → Type 0) → (ℕ → ℕ → Type 0) → ℕ → ℕ → Type 0
Within set defeats a b = defeats a b × set a × set b

-- (A,B) is one of the weakest defeats between options of a set.
-- A.5.7: "A weakest defeat is a defeat that has no other defeat weaker than it. There may be more than one such defeat."
abbrev pub IsWeakest : Votes → (ℕ → Type 0) → (ℕ → ℕ → Type 0) → ℕ → ℕ → Type 0
IsWeakest matrix set defeats a b = Within set defeats a b × ((x y : ℕ) → Within set defeats x y → ¬ IsWeaker matrix x y a b)

-- these are all the weakest defeats between options of a set
abbrev pub AreWeakest : Votes → (ℕ → Type 0) → (ℕ → ℕ → Type 0) → (ℕ → ℕ → Type 0) → Type 0
AreWeakest matrix set defeats weakest = (a b : ℕ) → weakest a b ↔ IsWeakest matrix set defeats a b
