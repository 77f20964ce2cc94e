-- If ballots rank an option of the final set higher, it stays in that set.
use Rattle.std.proofs.Common.{◌≡◌, ◌≢◌, ℕ, suc, ◌∙◌, ◌*◌, ◌-◌, ◌<◌, ◌≤◌, ◌⊎◌, List, [], ◌∷◌, ◌++◌, inl, inr, refl, sym, subst, arith}
use Rattle.std.specs.Prelude.{Option}
use Rattle.std.specs.List.{AllZip}
use Rattle.std.proofs.Math.Nat.{mul-le-mul_left, mul-le-mul_right, pow-le-pow_left}
use Rattle.std.proofs.lemmas.Bool.{cases_eq, cases_lt}
use Rattle.std.proofs.lemmas.List.Elements.{All-get_or}
use Rattle.vote_poll.specs.declared.wording.Wording.{Wording}
use Rattle.vote_poll.specs.declared.wording.Wording.TheVariants.{AtLeast, MoreThan}
use Rattle.vote_poll.specs.declared.TheConstants.{MAX_RATIO}
use Rattle.vote_poll.specs.Options.{IsOption}
use Rattle.vote_poll.specs.PollContent.{PollContent, IsPoll, option_count, ratio_of}
use Rattle.vote_poll.proofs.OptionLaws.{at_option-in}
use Rattle.vote_count.specs.declared.rounds.Round.{Round}
use Rattle.vote_count.specs.Ballots.{entry_prefers}
use Rattle.vote_count.specs.Votes.{Votes, votes}
use Rattle.vote_count.specs.Sets.{In}
use Rattle.vote_count.specs.Rules.{MeetsQuorum, IsMajority, IsKept, PairwiseDefeats, EachDefeatsNext, TransitivelyDefeats}
use Rattle.vote_count.specs.Rounds.{AreRounds, final_set}
use Rattle.vote_count.specs.Laws.{IsSchulzeWinner, IsRaised, IsRaisedEntry, IsMatrixOf}
use Rattle.vote_count.proofs.Closure.{monotone, to_itself}
use Rattle.vote_count.proofs.Counts.{count_more, flipped}
use Rattle.vote_count.proofs.Strengths.{IsBelow, Strong}
use Rattle.vote_count.proofs.LawLemmas.{default_law}
use Rattle.vote_count.proofs.Schulze.{schulze_law, back_as_strong, kept_below, kept_option}

equal_more : (v w v' w' x y : ℕ) → v ≤ v' → w' ≤ w → (v' ≡ x) × (y < w') → IsBelow v w x y
equal_more v w v' w' x y more fewer h = let same = h.0 in let less = h.1 in elim (cases_lt v x) [ inl below ↦ inl below | inr at ↦ inr (omega arith, omega arith) ]

-- a defeat with more votes for it and fewer against it is no weaker
not_below_more : (v w v' w' x y : ℕ) → v ≤ v' → w' ≤ w → ¬ IsBelow v w x y → ¬ IsBelow v' w' x y
not_below_more v w v' w' x y more fewer h below = h (elim below [ inl less ↦ inl (omega arith) | inr same ↦ equal_more v w v' w' x y more fewer same ])

module _ (E : ℕ → ℕ → Type 0) (a : ℕ) where
  -- a chain to A can be cut where it first comes to A
  cut_after : (b : ℕ) (between : List ℕ) → b ≢ a → EachDefeatsNext E (b ∷ between ++ a ∷ []) → TransitivelyDefeats (λ c d. E c d × (c ≢ a)) b a
  cut_after b [] other h = ([], ((h.0, other), tt))
  cut_after b (x ∷ between) other h =
      elim (cases_eq x a) [
        | inl same ↦ ([], ((subst (E b) same h.0, other), tt))
        | inr not_yet ↦ let rest = cut_after x between not_yet h.1 in (x ∷ rest.0, ((h.0, other), rest.1))
      ]

  -- a chain does not come to A, or A has a chain to its end that does not come back to A
  cut_before : (c b : ℕ) (between : List ℕ) → b ≢ a → EachDefeatsNext E (c ∷ between ++ b ∷ []) →
      TransitivelyDefeats (λ p q. E p q × (q ≢ a)) c b ⊎ TransitivelyDefeats (λ p q. E p q × (q ≢ a)) a b
  cut_before c b [] other h = inl ([], ((h.0, other), tt))
  cut_before c b (x ∷ between) other h =
      elim (cut_before x b between other h.1) [
        | inl rest ↦ elim (cases_eq x a) [
          | inl same ↦ inr (subst (λ (z : ℕ). TransitivelyDefeats (λ p q. E p q × (q ≢ a)) z b) same rest)
          | inr not_there ↦ inl (x ∷ rest.0, ((h.0, not_there), rest.1))
        ]
        | inr rest ↦ inr rest
      ]

  chain_to : (b : ℕ) → b ≢ a → TransitivelyDefeats E b a → TransitivelyDefeats (λ c d. E c d × (c ≢ a)) b a
  chain_to b other chain = cut_after b chain.0 other chain.1

  chain_from : (b : ℕ) → b ≢ a → TransitivelyDefeats E a b → TransitivelyDefeats (λ c d. E c d × (d ≢ a)) a b
  chain_from b other chain = elim (cut_before a b chain.0 other chain.1) [ inl same ↦ same | inr same ↦ same ]

-- a winner of Schulze's method, and a matrix that raises it
module _ (K L : ℕ → Type 0) (to : (o : ℕ) → K o → L o) (from : (o : ℕ) → L o → K o) (m n : Votes) (a : ℕ)
    (less : (c d : ℕ) → K c → K d → c ≢ a → (votes n c d ≤ votes m c d) × (votes m d c ≤ votes n d c)) where
  abbrev D : ℕ → ℕ → Type 0
  D = PairwiseDefeats K m

  abbrev D' : ℕ → ℕ → Type 0
  D' = PairwiseDefeats L n

  -- the defeats of each matrix that are no weaker than these votes for and against
  abbrev S : ℕ → ℕ → ℕ → ℕ → Type 0
  S = Strong m D

  abbrev S' : ℕ → ℕ → ℕ → ℕ → Type 0
  S' = Strong n D'

  lowered : (v w c d : ℕ) → S' v w c d → c ≢ a → S v w c d
  lowered v w c d h other =
      let kc = from c h.0.0 in
      let kd = from d h.0.1 in
      let l = less c d kc kd other in
      let won = h.0.2 in
      ((kc, kd, omega arith), not_below_more (votes n c d) (votes n d c) (votes m c d) (votes m d c) v w l.0 l.1 h.1)

  lifted : (v w c d : ℕ) → S v w c d → d ≢ a → S' v w c d
  lifted v w c d h other =
      let l = less d c h.0.1 h.0.0 other in
      let won = h.0.2 in
      ((to c h.0.0, to d h.0.1, omega arith), not_below_more (votes m c d) (votes m d c) (votes n c d) (votes n d c) v w l.1 l.0 h.1)

  -- A still has a chain to another option that is as strong as the option's chain to A
  strong_back : IsSchulzeWinner K m D a → (b : ℕ) → K b → b ≢ a → (v w : ℕ) → TransitivelyDefeats (S' v w) b a → TransitivelyDefeats (S' v w) a b
  strong_back wins b k other v w chain =
      let before = monotone (λ c d. S' v w c d × (c ≢ a)) (S v w) (λ c d h. lowered v w c d h.0 h.1) b a (chain_to (S' v w) a b other chain) in
      monotone (λ c d. S v w c d × (d ≢ a)) (S' v w) (λ c d h. lifted v w c d h.0 h.1) a b (chain_from (S v w) a b other (back_as_strong K m a wins b k v w before))

  raised_winner : IsSchulzeWinner K m D a → IsSchulzeWinner L n D' a
  raised_winner wins = (
    to a wins.0,
    λ b l x y defeat chain. elim (cases_eq a b) [
      | inl same ↦ to_itself (TransitivelyDefeats (S' (votes n x y) (votes n y x))) a b same chain
      | inr other ↦ strong_back wins b (from b l) (λ same. other (sym same)) (votes n x y) (votes n y x) chain
    ],
  )

-- which options are kept
quorum_more : (poll : PollContent) (n n' : ℕ) → n ≤ n' → MeetsQuorum poll n → MeetsQuorum poll n'
quorum_more poll n n' more meets = let twice : 2 * n ≤ 2 * n' = omega arith in let squares = pow-le-pow_left twice 2 in omega arith

majority_more : (wording : Wording) (ratio won lost won' lost' : ℕ) → won ≤ won' → lost' ≤ lost → IsMajority wording ratio won lost → IsMajority wording ratio won' lost'
majority_more AtLeast ratio won lost won' lost' more fewer h =
    let product : ratio * lost' ≤ ratio * lost = mul-le-mul_left ratio fewer in let enough = h.0 in let beats = h.1 in (omega arith, omega arith)
majority_more MoreThan ratio won lost won' lost' more fewer h = let product : ratio * lost' ≤ ratio * lost = mul-le-mul_left ratio fewer in omega arith

majority_wins : (wording : Wording) (ratio won lost : ℕ) → 1 ≤ ratio → IsMajority wording ratio won lost → lost < won
majority_wins AtLeast ratio won lost some h = h.1
majority_wins MoreThan ratio won lost some h = let product : 1 * lost ≤ ratio * lost = mul-le-mul_right lost some in omega arith

module _ (poll : PollContent) (is : IsPoll poll) where
  some_ratio : (o : ℕ) → 1 ≤ o → o < option_count poll → 1 ≤ ratio_of poll o
  some_ratio o low high =
      let count = is.ratio_count in
      subst (λ (r : ℕ). 1 ≤ r) (sym (at_option-in poll.ratios o 0 low)) (All-get_or (λ ratio. (1 ≤ ratio) × (ratio ≤ MAX_RATIO)) poll.ratios (o - 1) 0 (omega arith) is.ratio_range).0

  -- a kept option has more votes than the default
  kept_more : (m : Votes) (o : ℕ) → IsKept poll m o → o ≢ option_count poll → votes m (option_count poll) o < votes m o (option_count poll)
  kept_more m o kept other =
      elim kept [
        | inl default ↦ absurd (other default)
        | inr h ↦ majority_wins poll.wording (ratio_of poll o) (votes m o (option_count poll)) (votes m (option_count poll) o) (some_ratio o h.0 h.1) h.3
      ]

  kept_one : (m : Votes) (o : ℕ) → IsKept poll m o → IsOption (option_count poll) o
  kept_one m = kept_option poll m (let some = is.options_min in omega arith)

  -- an option that has no fewer votes for it and no more against it stays
  kept_still : (m n : Votes) (o : ℕ) → (o ≢ option_count poll → (votes m o (option_count poll) ≤ votes n o (option_count poll)) × (votes n (option_count poll) o ≤ votes m (option_count poll) o))
      → IsKept poll m o → IsKept poll n o
  kept_still m n o more kept =
      let d = option_count poll in
      elim kept [
        | inl default ↦ inl default
        | inr h ↦
            let better = more (λ default. let high = h.1 in omega arith) in
            inr (h.0, h.1, quorum_more poll (votes m o d) (votes n o d) better.0 h.2, majority_more poll.wording (ratio_of poll o) (votes m o d) (votes m d o) (votes n o d) (votes n d o) better.0 better.1 h.3)
      ]

  module _ (m n : Votes) (a : ℕ) (raised : IsRaised (option_count poll) a m n) (rs ss : List Round)
      (are : AreRounds (IsKept poll m) m (PairwiseDefeats (IsKept poll m) m) rs) (so : AreRounds (IsKept poll n) n (PairwiseDefeats (IsKept poll n) n) ss) where
    -- each other option has no more votes over A, and A has no fewer over it
    less : (c d : ℕ) → IsOption (option_count poll) c → IsOption (option_count poll) d → c ≢ a → (votes n c d ≤ votes m c d) × (votes m d c ≤ votes n d c)
    less c d oc od other =
        elim (cases_eq d a) [
          | inl same ↦ subst (λ (x : ℕ). (votes n c x ≤ votes m c x) × (votes m x c ≤ votes n x c)) (sym same) (raised.against c oc other, raised.for c oc other)
          | inr another ↦ let there = raised.same c d oc od other another in let back = raised.same d c od oc another other in (omega arith, omega arith)
        ]

    default_option : IsOption (option_count poll) (option_count poll)
    default_option = kept_one m (option_count poll) (inl refl)

    -- an option other than A that is kept now was kept before
    was_kept : (o : ℕ) → o ≢ a → IsKept poll n o → IsKept poll m o
    was_kept o other kept = kept_still n m o (λ _. less o (option_count poll) (kept_one n o kept) default_option other) kept

    -- if A is not the default, an option that was kept is kept now
    is_kept : a ≢ option_count poll → (o : ℕ) → IsKept poll m o → IsKept poll n o
    is_kept other o kept =
        kept_still m n o (λ _. let l = less (option_count poll) o default_option (kept_one m o kept) (λ same. other (sym same)) in (l.1, l.0)) kept

    default_wins : a ≡ option_count poll → In (final_set rs) a → In (final_set ss) a
    default_wins default i =
        let P : List Round → ℕ → Type 0 = λ list. In (final_set list) in
        let d = option_count poll in
        let only = (default_law poll m (kept_more m) rs are).0 (subst (P rs) default i) in
        subst (P ss) (sym default) ((default_law poll n (kept_more n) ss so).1 (λ o kept. elim (cases_eq o d) [
          | inl same ↦ same
          | inr other ↦ only o (was_kept o (λ same. other (same ∙ default)) kept)
        ]))

    other_wins : a ≢ option_count poll → In (final_set rs) a → In (final_set ss) a
    other_wins other i =
        let wins = (schulze_law (IsKept poll m) m (suc (option_count poll)) (kept_below poll m) rs are a).0 i in
        (schulze_law (IsKept poll n) n (suc (option_count poll)) (kept_below poll n) ss so a).1
        (raised_winner (IsKept poll m) (IsKept poll n) (is_kept other)
        (λ o kept. elim (cases_eq o a) [ inl same ↦ subst (IsKept poll m) (sym same) wins.0 | inr another ↦ was_kept o another kept ])
        m n a (λ c d kc kd. less c d (kept_one m c kc) (kept_one m d kd)) wins)

    pub raised_wins : In (final_set rs) a → In (final_set ss) a
    raised_wins i = elim (cases_eq a (option_count poll)) [ inl default ↦ default_wins default i | inr other ↦ other_wins other i ]

module _ (options a : ℕ) (option : IsOption options a) (ballots raised : List (Option (List (Option ℕ)))) (m n : Votes)
    (h : AllZip (IsRaisedEntry options a) ballots raised) (of : IsMatrixOf options ballots m) (of' : IsMatrixOf options raised n) where
  back : AllZip (λ y x. IsRaisedEntry options a x y) raised ballots
  back = flipped (IsRaisedEntry options a) ballots raised h

  pub ballots_raise : IsRaised options a m n
  ballots_raise = record {
    for = λ b ob other. rw (of a b option ob, of' a b option ob) (count_more (IsRaisedEntry options a) (entry_prefers a b) (entry_prefers a b) (λ x y r. r.for b ob other) ballots raised h);
    against = λ b ob other. rw (of b a ob option, of' b a ob option)
        (count_more (λ y x. IsRaisedEntry options a x y) (entry_prefers b a) (entry_prefers b a) (λ y x r. r.against b ob other) raised ballots back);
    same = λ b c ob oc other another.
        let before = of b c ob oc in
        let now = of' b c ob oc in
        let up = count_more (IsRaisedEntry options a) (entry_prefers b c) (entry_prefers b c) (λ x y r t. r.same b c ob oc other another ∙ t) ballots raised h in
        let down = count_more (λ y x. IsRaisedEntry options a x y) (entry_prefers b c) (entry_prefers b c) (λ y x r t. sym (r.same b c ob oc other another) ∙ t) raised ballots back in
        omega arith;
  }
