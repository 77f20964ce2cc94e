-- The rules leave no choice of an outcome or of a decision.
use Rattle.std.proofs.Common.{◌≡◌, ◌≢◌, ℕ, ◌<◌, ◌⊎◌, ◌↔◌, Bool, List, [], ◌∷◌, Option, None, Some, refl, inl, inr, sym, ap, ◌∙◌, subst, arith}
use Rattle.std.proofs.lemmas.Bool.{cases_eq}
use Rattle.vote_poll.specs.Options.{IsOption}
use Rattle.vote_poll.specs.PollContent.{PollContent, option_count, ratio_of}
use Rattle.vote_count.specs.declared.rounds.Cause.{Cause}
use Rattle.vote_count.specs.declared.rounds.Cause.TheVariants.{Majority, Quorum}
use Rattle.vote_count.specs.declared.rounds.Decision.{Decision}
use Rattle.vote_count.specs.declared.rounds.Round.{Round}
use Rattle.vote_count.specs.Laws.{DecisionsAreDetermined, HaveSameVotes, OutcomesAreDetermined}
use Rattle.vote_count.specs.Votes.{Votes, votes}
use Rattle.vote_count.specs.Sets.{In, IsAlone, Pairs, size}
use Rattle.vote_count.specs.Rules.{IsKept, IsMajority, IsWeaker, IsWeakest, MeetsMajority, MeetsQuorum, PairwiseDefeats}
use Rattle.vote_count.proofs.Closure.{Without}
use Rattle.vote_count.specs.Rounds.{AreRounds, AreSameRounds, HasCause, IsByCasting, IsDecision, IsOutcome, IsRound, VerdictState, cause_of}
use Rattle.vote_count.proofs.RoundLemmas.{rounds_kept, rounds_same, rounds_unique}
use Rattle.vote_count.proofs.Schulze.{kept_option, other_kept}
use Rattle.vote_count.proofs.Sizes.{alone_from_size, size-alone, size_le, size_some}

turned : (n : ℕ) (m w : Votes) → HaveSameVotes n m w → HaveSameVotes n w m
turned n m w same a b is_a is_b = sym (same a b is_a is_b)

module _ (poll : PollContent) (m w : Votes) (same : HaveSameVotes (option_count poll) m w) where
  majority_same : (o : ℕ) → IsOption (option_count poll) o → IsOption (option_count poll) (option_count poll) → MeetsMajority poll m o → MeetsMajority poll w o
  majority_same o is is_default h =
      let M : ℕ → ℕ → Type 0 = IsMajority poll.wording (ratio_of poll o) in
      subst (λ (x : ℕ). M x (votes w (option_count poll) o)) (same o (option_count poll) is is_default)
      (subst (λ (y : ℕ). M (votes m o (option_count poll)) y) (same (option_count poll) o is_default is) h)

  quorum_same : (o : ℕ) → IsOption (option_count poll) o → IsOption (option_count poll) (option_count poll)
      → MeetsQuorum poll (votes m o (option_count poll)) → MeetsQuorum poll (votes w o (option_count poll))
  quorum_same o is is_default h = let Q : ℕ → Type 0 = MeetsQuorum poll in subst Q (same o (option_count poll) is is_default) h

  kept_same : (o : ℕ) → IsKept poll m o → IsKept poll w o
  kept_same o h =
      elim h [
        | inl default ↦ inl default
        | inr kept ↦
            let is : IsOption (option_count poll) o = (kept.0, omega (arith, kept.1)) in
            let is_default : IsOption (option_count poll) (option_count poll) = (omega (arith, kept.0, kept.1), omega arith) in
            inr (kept.0, kept.1, quorum_same o is is_default kept.2, majority_same o is is_default kept.3)
      ]

  -- an option that defeats another is one of the options, and so is the other
  between_options : (a b : ℕ) → PairwiseDefeats (IsKept poll m) m a b → IsOption (option_count poll) a × IsOption (option_count poll) b
  between_options a b d =
      let apart : a ≢ b = λ equal. omega (arith, d.2, ap (votes m a) equal, ap (λ x. votes m x a) equal) in
      let some = (other_kept poll m a b d.0 d.1 apart).3 in
      (kept_option poll m some a d.0, kept_option poll m some b d.1)

  defeats_same : (a b : ℕ) → PairwiseDefeats (IsKept poll m) m a b → PairwiseDefeats (IsKept poll w) w a b
  defeats_same a b d =
      let is = between_options a b d in
      (kept_same a d.0, kept_same b d.1, omega (arith, d.2, same a b is.0 is.1, same b a is.1 is.0))

cause_same : (poll : PollContent) (m w : Votes) → HaveSameVotes (option_count poll) m w → (o : ℕ) → IsOption (option_count poll) o → (c : Option Cause) → HasCause poll m o c → HasCause poll w o c
cause_same poll m w same o is None h = kept_same poll m w same o h
cause_same poll m w same o is (Some Quorum) h =
    let is_default : IsOption (option_count poll) (option_count poll) = (omega (arith, is.0, h.0), omega arith) in
    (h.0, λ met. h.1 (quorum_same poll w m (turned (option_count poll) m w same) o is is_default met))
cause_same poll m w same o is (Some Majority) h =
    let is_default : IsOption (option_count poll) (option_count poll) = (omega (arith, is.0, h.0), omega arith) in
    (h.0, quorum_same poll m w same o is is_default h.1, λ met. h.2 (majority_same poll w m (turned (option_count poll) m w same) o is is_default met))

kept_no_quorum : (poll : PollContent) (m : Votes) (o : ℕ) → IsKept poll m o → o < option_count poll → ¬ MeetsQuorum poll (votes m o (option_count poll)) → ⊥
kept_no_quorum poll m o k below fails = elim k [ inl default ↦ absurd (omega (arith, default)) | inr kept ↦ fails kept.2 ]

kept_no_majority : (poll : PollContent) (m : Votes) (o : ℕ) → IsKept poll m o → o < option_count poll → ¬ MeetsMajority poll m o → ⊥
kept_no_majority poll m o k below fails = elim k [ inl default ↦ absurd (omega (arith, default)) | inr kept ↦ fails kept.3 ]

-- an option is dropped for one cause, or not at all
one_cause : (poll : PollContent) (m : Votes) (o : ℕ) (c d : Option Cause) → HasCause poll m o c → HasCause poll m o d → c ≡ d
one_cause poll m o None None h k = refl
one_cause poll m o None (Some Quorum) h k = absurd (kept_no_quorum poll m o h k.0 k.1)
one_cause poll m o None (Some Majority) h k = absurd (kept_no_majority poll m o h k.0 k.2)
one_cause poll m o (Some Quorum) None h k = absurd (kept_no_quorum poll m o k h.0 h.1)
one_cause poll m o (Some Quorum) (Some Quorum) h k = refl
one_cause poll m o (Some Quorum) (Some Majority) h k = absurd (h.1 k.1)
one_cause poll m o (Some Majority) None h k = absurd (kept_no_majority poll m o k h.0 h.2)
one_cause poll m o (Some Majority) (Some Quorum) h k = absurd (k.1 h.1)
one_cause poll m o (Some Majority) (Some Majority) h k = refl

-- defeats between options
abbrev OfOptions : ℕ → (ℕ → ℕ → Type 0) → Type 0
OfOptions n E = (a b : ℕ) → E a b → IsOption n a × IsOption n b

weaker_counted : (n : ℕ) (m w : Votes) → HaveSameVotes n m w → (a x b y : ℕ) → IsOption n a → IsOption n x → IsOption n b → IsOption n y → IsWeaker m a x b y → IsWeaker w a x b y
weaker_counted n m w same a x b y is_a is_x is_b is_y h =
    elim h [
      | inl less ↦ inl (omega (arith, less, same a x is_a is_x, same b y is_b is_y))
      | inr equal ↦ inr (omega (arith, equal.0, same a x is_a is_x, same b y is_b is_y), omega (arith, equal.1, same y b is_y is_b, same x a is_x is_a))
    ]

weakest_counted : (n : ℕ) (m w : Votes) → HaveSameVotes n m w → (S : ℕ → Type 0) (E : ℕ → ℕ → Type 0) → OfOptions n E → (a b : ℕ) → IsWeakest m S E a b → IsWeakest w S E a b
weakest_counted n m w same S E of a b h =
    let is = of a b h.0.0 in
    (h.0, λ x y within weaker. let others = of x y within.0 in h.1 x y within (weaker_counted n w m (turned n m w same) x y a b others.0 others.1 is.0 is.1 weaker))

module _ (n : ℕ) (K : ℕ → Type 0) (m w : Votes) (same : HaveSameVotes n m w) where
  round_counted : (E : ℕ → ℕ → Type 0) → OfOptions n E → (r : Round) → IsRound K m E r → IsRound K w E r
  round_counted E of r h = record {
    set = h.set;
    removed = λ a b. (
      λ p. weakest_counted n m w same (In r.set) E of a b ((h.removed a b).0 p),
      λ k. (h.removed a b).1 (weakest_counted n w m (turned n m w same) (In r.set) E of a b k),
    );
  }

  rounds_counted : (E : ℕ → ℕ → Type 0) → OfOptions n E → (rs : List Round) → AreRounds K m E rs → AreRounds K w E rs
  rounds_counted E of [] h = h
  rounds_counted E of (r ∷ []) h = (round_counted E of r h.0, h.1)
  rounds_counted E of (r ∷ next ∷ later) h =
      (round_counted E of r h.0, h.1, rounds_counted (Without E (Pairs r.removed)) (λ a b d. of a b d.0) (next ∷ later) h.2)

-- counts of the same votes have the same rounds
same_rounds : (poll : PollContent) (m w : Votes) → HaveSameVotes (option_count poll) m w → (o u : VerdictState) → IsOutcome poll m o → IsOutcome poll w u → AreSameRounds o.rounds u.rounds
same_rounds poll m w same o u is_o is_u =
    let back = turned (option_count poll) m w same in
    let K = IsKept poll w in
    let E = PairwiseDefeats (IsKept poll m) m in
    let F = PairwiseDefeats K w in
    let kept = rounds_kept (IsKept poll m) K m (kept_same poll m w same) (kept_same poll w m back) E o.rounds is_o.rounds in
    let defeated = rounds_same K m E F (defeats_same poll m w same) (defeats_same poll w m back) o.rounds kept in
    let counted = rounds_counted (option_count poll) K m w same F (between_options poll w m back) o.rounds defeated in
    rounds_unique K w o.rounds u.rounds F counted is_u.rounds

pub outcomes_same : OutcomesAreDetermined
outcomes_same poll m w o u same is_o is_u =
    let back = turned (option_count poll) m w same in
    record {
      causes = λ a is. one_cause poll w a (cause_of o a) (cause_of u a) (cause_same poll m w same a is (cause_of o a) (is_o.causes a is)) (is_u.causes a is);
      defeats = λ a b. (
        λ p. (is_u.defeats a b).1 (defeats_same poll m w same a b ((is_o.defeats a b).0 p)),
        λ p. (is_o.defeats a b).1 (defeats_same poll w m back a b ((is_u.defeats a b).0 p)),
      );
      rounds = same_rounds poll m w same o u is_o is_u;
    }

-- it is known whether an option is alone in a set
pub alone_or_not : (set : List Bool) → ((o : ℕ) × IsAlone set o) ⊎ ((o : ℕ) → ¬ IsAlone set o)
alone_or_not set =
    elim (cases_eq (size set) 1) [
      | inl single ↦ let some = size_some set (omega arith) in inl (some.0, alone_from_size set some.0 some.1 single)
      | inr other ↦ inr (λ o alone. other (size-alone set o alone))
    ]

by_casting_same : (s t : List Bool) → ((o : ℕ) → In s o ↔ In t o) → (casting : Option ℕ) (d e : Decision) → IsByCasting s casting d → IsByCasting t casting e → d ≡ e
by_casting_same s t same None d e h k = h ∙ sym k
by_casting_same s t same (Some choice) d e h k =
    elim h [
      | inl within ↦ elim k [
        | inl within' ↦ within.1 ∙ sym within'.1
        | inr outside' ↦ absurd (outside'.0 ((same choice).0 within.0))
      ]
      | inr outside ↦ elim k [
        | inl within' ↦ absurd (outside.0 ((same choice).1 within'.0))
        | inr outside' ↦ outside.1 ∙ sym outside'.1
      ]
    ]

decision_same : (s t : List Bool) → ((o : ℕ) → In s o ↔ In t o) → (casting : Option ℕ) (d e : Decision) → IsDecision s casting d → IsDecision t casting e → d ≡ e
decision_same s t same casting d e h k =
    elim (alone_or_not s) [
      | inl single ↦
          let alone : IsAlone t single.0 = λ p. (λ i. (single.1 p).0 ((same p).1 i), λ is. (same p).0 ((single.1 p).1 is)) in
          h.alone single.0 single.1 ∙ sym (k.alone single.0 alone)
      | inr several ↦
          let several' : (o : ℕ) → ¬ IsAlone t o = λ o alone. several o (λ p. (λ i. (alone p).0 ((same p).0 i), λ is. (same p).1 ((alone p).1 is))) in
          by_casting_same s t same casting d e (h.several several) (k.several several')
    ]

pub decisions_same : DecisionsAreDetermined
decisions_same s t casting d e same h k =
    (omega (arith, size_le s t (λ o. (same o).0), size_le t s (λ o. (same o).1)), decision_same s t same casting d e h k)
