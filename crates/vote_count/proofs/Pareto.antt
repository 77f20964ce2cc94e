-- If each ballot prefers one option to another, the other is not in the final set.
use Rattle.std.proofs.Common.{◌≢◌, ℕ, suc, ◌<◌, ◌≤◌, List, [], inl, inr, refl, sym, arith}
use Rattle.std.specs.Prelude.{IsTrue, Option, Some, None, IfSome}
use Rattle.std.specs.List.{All}
use Rattle.std.proofs.lemmas.Bool.{cases_lt, lt-ltb, ltb-true, true≢false}
use Rattle.std.proofs.lemmas.List.Elements.{All-weaker}
use Rattle.vote_poll.specs.declared.wording.Wording.{Wording}
use Rattle.vote_poll.specs.declared.wording.Wording.TheVariants.{AtLeast, MoreThan}
use Rattle.vote_poll.specs.Options.{IsOption}
use Rattle.vote_poll.specs.PollContent.{PollContent, option_count, ratio_of}
use Rattle.vote_poll.specs.Ranks.{is_preferred, prefers, rank_of}
use Rattle.vote_count.specs.declared.rounds.Round.{Round}
use Rattle.vote_count.specs.Ballots.{entry_prefers}
use Rattle.vote_count.specs.Votes.{Votes, votes}
use Rattle.vote_count.specs.Sets.{In}
use Rattle.vote_count.specs.Rules.{IsMajority, IsKept, PairwiseDefeats}
use Rattle.vote_count.specs.Rounds.{AreRounds, final_set}
use Rattle.vote_count.specs.Laws.{IsSchulzeWinner, IsMatrixOf, IsUnanimous}
use Rattle.vote_count.proofs.Closure.{monotone, of_transitive}
use Rattle.vote_count.proofs.Counts.{count_implied, count_none, implied_back}
use Rattle.vote_count.proofs.Strengths.{Strong, not_below_itself}
use Rattle.vote_count.proofs.Schulze.{schulze_law, kept_below, kept_option, other_kept}

-- the preferences of a ballot are an order
before_transitive : (p q r : Option ℕ) → IsTrue (is_preferred p q) → IsTrue (is_preferred q r) → IsTrue (is_preferred p r)
before_transitive None q r h k = absurd (true≢false (sym h))
before_transitive (Some x) None r h k = absurd (true≢false (sym k))
before_transitive (Some x) (Some y) None h k = refl
before_transitive (Some x) (Some y) (Some z) h k = let first = ltb-true x y h in let second = ltb-true y z k in lt-ltb x z (omega arith)

before_itself : (p : Option ℕ) → ¬ IsTrue (is_preferred p p)
before_itself None h = true≢false (sym h)
before_itself (Some x) h = let less = ltb-true x x h in omega arith

entry_transitive : (a b c : ℕ) (entry : Option (List (Option ℕ))) → IsTrue (entry_prefers a b entry) → IsTrue (entry_prefers b c entry) → IsTrue (entry_prefers a c entry)
entry_transitive a b c None h k = h
entry_transitive a b c (Some ranks) h k = before_transitive (rank_of ranks a) (rank_of ranks b) (rank_of ranks c) h k

entry_itself : (a : ℕ) (entry : Option (List (Option ℕ))) → ¬ IsTrue (entry_prefers a a entry)
entry_itself a None h = true≢false (sym h)
entry_itself a (Some ranks) h = before_itself (rank_of ranks a) h

majority_some : (wording : Wording) (ratio won lost : ℕ) → IsMajority wording ratio won lost → 1 ≤ won
majority_some AtLeast ratio won lost h = let more = h.1 in omega arith
majority_some MoreThan ratio won lost h = omega arith

module _ (poll : PollContent) (ballots : List (Option (List (Option ℕ)))) (m : Votes) (a b : ℕ) (of : IsMatrixOf (option_count poll) ballots m) (unanimous : IsUnanimous a b ballots)
    (first : IsKept poll m a) (second : IsKept poll m b) (apart : a ≢ b) where
  abbrev K : ℕ → Type 0
  K = IsKept poll m

  option : (o : ℕ) → K o → IsOption (option_count poll) o
  option = kept_option poll m (other_kept poll m a b first second apart).3

  -- each ballot prefers A to B, so an entry that prefers X to Y does, since it is a ballot
  only_ballots : (x y : ℕ) (entry : Option (List (Option ℕ))) → IfSome entry (λ ranks. IsTrue (prefers ranks a b)) → IsTrue (entry_prefers x y entry) → IsTrue (entry_prefers a b entry)
  only_ballots x y None h t = absurd (true≢false (sym t))
  only_ballots x y (Some ranks) h t = h

  all_prefer : (x y : ℕ) → All (λ entry. IsTrue (entry_prefers x y entry) → IsTrue (entry_prefers a b entry)) ballots
  all_prefer x y = All-weaker (λ entry. IfSome entry (λ ranks. IsTrue (prefers ranks a b))) _ (only_ballots x y) ballots unanimous

  -- each ballot that prefers A to B prefers X to Y
  abbrev Agreed : ℕ → ℕ → Type 0
  Agreed x y = All (λ entry. IsTrue (entry_prefers a b entry) → IsTrue (entry_prefers x y entry)) ballots

  agreed_transitive : (x y z : ℕ) → Agreed x y → Agreed y z → Agreed x z
  agreed_transitive x y z h k = λ i d within preferred. entry_transitive x y z _ (h i d within preferred) (k i d within preferred)

  -- no pair has more votes than A has over B; if a pair has as many, all ballots agree on it
  most : (x y : ℕ) → K x → K y → votes m x y ≤ votes m a b
  most x y kx ky =
      omega (arith, of x y (option x kx) (option y ky), of a b (option a first) (option b second), count_implied (entry_prefers x y) (entry_prefers a b) ballots (all_prefer x y))

  agreed : (x y : ℕ) → K x → K y → votes m a b ≤ votes m x y → Agreed x y
  agreed x y kx ky enough =
      implied_back (entry_prefers x y) (entry_prefers a b) ballots (all_prefer x y) (omega (arith, of x y (option x kx) (option y ky), of a b (option a first) (option b second)))

  some_votes : 1 ≤ votes m a b
  some_votes =
      let o = other_kept poll m a b first second apart in
      let default = option_count poll in
      elim o.1 [
        | inl same ↦ absurd (o.2 same)
        | inr h ↦ omega (arith, majority_some poll.wording (ratio_of poll o.0) (votes m o.0 default) (votes m default o.0) h.3, most o.0 default o.1 (inl refl))
      ]

  never_back : ¬ Agreed b a
  never_back h =
      omega (
        arith,
        some_votes,
        of a b (option a first) (option b second),
        count_none (entry_prefers a b) ballots (λ i d within preferred. entry_itself a _ (entry_transitive a b a _ preferred (h i d within preferred))),
      )

  beats : votes m b a < votes m a b
  beats = elim (cases_lt (votes m b a) (votes m a b)) [ inl less ↦ less | inr enough ↦ absurd (never_back (agreed b a second first enough)) ]

  pub not_a_winner : ¬ IsSchulzeWinner K m (PairwiseDefeats K m) b
  not_a_winner wins =
      let D = PairwiseDefeats K m in
      let S = Strong m D (votes m a b) (votes m b a) in
      let defeat : D a b = (first, second, beats) in
      let back = wins.1 a first a b defeat ([], ((defeat, not_below_itself (votes m a b) (votes m b a)), tt)) in
      never_back (of_transitive Agreed agreed_transitive b a (monotone S Agreed
      (λ x y s. agreed x y s.0.0 s.0.1 (elim (cases_lt (votes m x y) (votes m a b)) [ inl below ↦ absurd (s.1 (inl below)) | inr enough ↦ enough ]))
      b a back))

module _ (poll : PollContent) (ballots : List (Option (List (Option ℕ)))) (m : Votes) (rs : List Round) (a b : ℕ) (of : IsMatrixOf (option_count poll) ballots m)
    (are : AreRounds (IsKept poll m) m (PairwiseDefeats (IsKept poll m) m) rs) (first : IsKept poll m a) (apart : a ≢ b) (unanimous : IsUnanimous a b ballots) where
  pub pareto_law : ¬ In (final_set rs) b
  pareto_law i =
      let wins = (schulze_law (IsKept poll m) m (suc (option_count poll)) (kept_below poll m) rs are b).0 i in
      not_a_winner poll ballots m a b of unanimous first wins.0 apart wins
