-- The final set has exactly the winners of Schulze's method.
use Rattle.std.proofs.Common.{◌≡◌, ℕ, zero, suc, ◌≢◌, ◌<◌, ◌≤◌, ◌∙◌, ◌⊎◌, ◌↔◌, List, [], ◌∷◌, ◌++◌, inl, inr, refl, sym, subst, arith}
use Rattle.std.proofs.lemmas.Bool.{cases_eq, cases_lt, cases_Bool, both_ways}
use Rattle.vote_count.specs.declared.rounds.Round.{Round}
use Rattle.vote_poll.specs.Options.{IsOption}
use Rattle.vote_poll.specs.PollContent.{PollContent, option_count}
use Rattle.vote_count.specs.Votes.{Votes, votes}
use Rattle.vote_count.specs.Sets.{In, Pairs, has, has_pair}
use Rattle.vote_count.specs.Rules.{IsKept, PairwiseDefeats, EachDefeatsNext, TransitivelyDefeats, InSchwartzSet, IsWeaker, Within}
use Rattle.vote_count.specs.Rounds.{IsRound, AreRounds, final_set}
use Rattle.vote_count.specs.Laws.{ReachesBy, IsSchulzeWinner}
use Rattle.vote_count.proofs.Closure.{Without, transitive, monotone, first_defeat}
use Rattle.vote_count.proofs.RoundLemmas.{final_kept}
use Rattle.vote_count.proofs.Strengths.{Strong, as_strong, below_or_not, not_below_transitive, no_weakest, weakest_of_chain}

pub kept_below : (poll : PollContent) (m : Votes) (o : ℕ) → IsKept poll m o → o < suc (option_count poll)
kept_below poll m o kept = elim kept [ inl default ↦ omega arith | inr other ↦ let less = other.1 in omega arith ]

pub kept_option : (poll : PollContent) (m : Votes) → 1 ≤ option_count poll → (o : ℕ) → IsKept poll m o → IsOption (option_count poll) o
kept_option poll m some o kept = elim kept [ inl default ↦ (omega arith, omega arith) | inr other ↦ let low = other.0 in let high = other.1 in (omega arith, omega arith) ]

-- one of two kept options is not the default
pub other_kept : (poll : PollContent) (m : Votes) (a b : ℕ) → IsKept poll m a → IsKept poll m b → a ≢ b → (o : ℕ) × IsKept poll m o × (o ≢ option_count poll) × (1 ≤ option_count poll)
other_kept poll m a b first second apart =
    elim (cases_eq a (option_count poll)) [
      | inr other ↦ (a, first, other, elim first [ inl default ↦ absurd (other default) | inr h ↦ let high = h.1 in omega arith ])
      | inl default ↦ let other : b ≢ option_count poll = λ same. apart (default ∙ sym same) in (b, second, other, elim second [ inl same ↦ absurd (other same) | inr h ↦ let high = h.1 in omega arith ])
    ]

module _ (E R : ℕ → ℕ → Type 0) (known : (a b : ℕ) → R a b ⊎ ¬ R a b) where
  -- a chain has no removed defeat, or goes on from the end of its last removed defeat
  last_removed : (a c : ℕ) (between : List ℕ) → EachDefeatsNext E (a ∷ between ++ c ∷ []) →
      TransitivelyDefeats (Without E R) a c ⊎ ((p : ℕ) × (q : ℕ) × R p q × ((q ≡ c) ⊎ TransitivelyDefeats (Without E R) q c))
  last_removed a c [] h = elim (known a c) [ inl removed ↦ inr (a, c, removed, inl refl) | inr left ↦ inl ([], ((h.0, left), tt)) ]
  last_removed a c (x ∷ between) h =
      elim (last_removed x c between h.1) [
        | inl rest ↦ elim (known a x) [ inl removed ↦ inr (a, x, removed, inr rest) | inr left ↦ inl (x ∷ rest.0, ((h.0, left), rest.1)) ]
        | inr found ↦ inr found
      ]

is_removed : (r : Round) (a b : ℕ) → Pairs r.removed a b ⊎ ¬ Pairs r.removed a b
is_removed r a b = elim (cases_Bool (has_pair r.removed a b)) [ inl removed ↦ inl removed | inr left ↦ inr (λ removed. both_ways _ left removed) ]

-- one round
module _ (K : ℕ → Type 0) (m : Votes) (E : ℕ → ℕ → Type 0) (into : (a b : ℕ) → E a b → PairwiseDefeats K m a b) (r : Round) (is : IsRound K m E r) where
  -- an option that transitively defeats an option of the set is in the set
  defeater_in : (a c : ℕ) → In r.set c → TransitivelyDefeats E a c → In r.set a
  defeater_in a c inside chain =
      let first = first_defeat E a c chain in
      (is.set a).1 (
        (into a first.0 first.1).0,
        λ b k. elim (((is.set c).0 inside).1 b k) [
          | inl beats ↦ inl (transitive E a c b chain beats)
          | inr unbeaten ↦ inr (λ back. unbeaten (transitive E b a c back chain))
        ],
      )

  -- a chain to an option of the set is within the set
  chain_in : (a c : ℕ) (between : List ℕ) → In r.set c → EachDefeatsNext E (a ∷ between ++ c ∷ []) → EachDefeatsNext (Within (In r.set) E) (a ∷ between ++ c ∷ [])
  chain_in a c [] inside h = ((h.0, defeater_in a c inside ([], h), inside), tt)
  chain_in a c (x ∷ between) inside h = ((h.0, defeater_in a c inside (x ∷ between, h), defeater_in x c inside (between, h.1)), chain_in x c between inside h.1)

  chain_within : (a c : ℕ) → In r.set c → TransitivelyDefeats E a c → TransitivelyDefeats (Within (In r.set) E) a c
  chain_within a c inside chain = (chain.0, chain_in a c chain.0 inside chain.1)

  -- a round that removes nothing has no defeat within its set
  nothing_within : ((a b : ℕ) → ¬ Pairs r.removed a b) → (a b : ℕ) → ¬ Within (In r.set) E a b
  nothing_within nothing =
      no_weakest m (Within (In r.set) E) (λ a b w. (into a b w.0).2) (λ a b w none_weaker. nothing a b ((is.removed a b).1 (w, none_weaker)))

  -- a removed defeat is weaker than a defeat within the set that is left
  removed_weaker : (a b x y : ℕ) → Pairs r.removed a b → Within (In r.set) E x y → ¬ Pairs r.removed x y → IsWeaker m a b x y
  removed_weaker a b x y removed within left =
      elim (below_or_not (votes m a b) (votes m b a) (votes m x y) (votes m y x)) [
        | inl weaker ↦ weaker
        | inr not_weaker ↦
            let weakest = (is.removed a b).0 removed in
            absurd (left ((is.removed x y).1 (within, λ p q w. not_below_transitive (votes m p q) (votes m q p) (votes m a b) (votes m b a) (votes m x y) (votes m y x) (weakest.1 p q w) not_weaker)))
      ]

  -- the next set is within this set
  next_in : (a : ℕ) → InSchwartzSet K (TransitivelyDefeats (Without E (Pairs r.removed))) a → In r.set a
  next_in a next =
      let Left = Without E (Pairs r.removed) in
      elim (cases_Bool (has r.set a)) [
        | inl inside ↦ inside
        | inr outside ↦ (is.set a).1 (
          next.0,
          λ b k. elim (next.1 b k) [
            | inl beats ↦ inl (monotone Left E (λ x y left. left.0) a b beats)
            | inr unbeaten ↦ inr (λ chain. elim (last_removed E (Pairs r.removed) (is_removed r) b a chain.0 chain.1) [
              | inl left ↦ unbeaten left
              | inr found ↦
                  let q = found.1 in
                  let end_in = ((is.removed found.0 q).0 found.2).0.2 in
                  both_ways _ outside (elim found.3 [
                    | inl same ↦ let P : ℕ → Type 0 = In r.set in subst P same end_in
                    | inr on ↦ elim (next.1 q ((is.set q).0 end_in).0) [
                      | inl back ↦ defeater_in a q end_in (monotone Left E (λ x y left. left.0) a q back)
                      | inr not_back ↦ absurd (not_back on)
                    ]
                  ])
            ])
          ],
        )
      ]

module _ (K : ℕ → Type 0) (m : Votes) where
  first_is : (E : ℕ → ℕ → Type 0) (r : Round) (later : List Round) → AreRounds K m E (r ∷ later) → IsRound K m E r
  first_is E r [] h = h.0
  first_is E r (next ∷ later) h = h.0

  -- the final set is within the first set
  final_in_first : (r : Round) (later : List Round) (E : ℕ → ℕ → Type 0) → ((a b : ℕ) → E a b → PairwiseDefeats K m a b) → AreRounds K m E (r ∷ later)
      → (a : ℕ) → In (final_set (r ∷ later)) a → In r.set a
  final_in_first r [] E into h a i = i
  final_in_first r (next ∷ later) E into h a i =
      let Left = Without E (Pairs r.removed) in
      next_in K m E into r h.0 a (((first_is Left next later h.2).set a).0 (final_in_first next later Left (λ x y w. into x y w.0) h.2 a i))

  -- if an option has a chain to an option of the final set, that option has a chain back that is as strong
  reaches_back : (rs : List Round) (E : ℕ → ℕ → Type 0) → ((a b : ℕ) → E a b → PairwiseDefeats K m a b) → AreRounds K m E rs
      → (a : ℕ) → In (final_set rs) a → (b : ℕ) → K b → (x y : ℕ) → ReachesBy m E x y b a → ReachesBy m E x y a b
  reaches_back [] E into h a i b k x y chain = absurd h
  reaches_back (r ∷ []) E into h a i b k x y chain =
      let within = chain_within K m E into r h.0 b a i (monotone (λ c d. E c d × ¬ IsWeaker m c d x y) E (λ c d s. s.0) b a chain) in
      let first = first_defeat (Within (In r.set) E) b a within in
      absurd (nothing_within K m E into r h.0 h.1 b first.0 first.1)
  reaches_back (r ∷ next ∷ later) E into h a i b k x y chain =
      let Left = Without E (Pairs r.removed) in
      let p = h.1.0 in
      let q = h.1.1 in
      let weakest = (h.0.removed p q).0 h.1.2 in
      elim (below_or_not (votes m p q) (votes m q p) (votes m x y) (votes m y x)) [
        | inl weaker ↦ monotone (λ c d. Left c d × ¬ IsWeaker m c d x y) (λ c d. E c d × ¬ IsWeaker m c d x y) (λ c d s. (s.0.0, s.1)) a b
            (reaches_back (next ∷ later) Left (λ c d w. into c d w.0) h.2 a i b k x y
            (monotone (λ c d. E c d × ¬ IsWeaker m c d x y) (λ c d. Left c d × ¬ IsWeaker m c d x y)
            (λ c d s. ((s.0, λ removed. not_below_transitive (votes m p q) (votes m q p) (votes m c d) (votes m d c) (votes m x y) (votes m y x) (((h.0.removed c d).0 removed).1 p q weakest.0) s.1 weaker), s.1))
            b a chain))
        | inr not_weaker ↦
            let inside = final_in_first r (next ∷ later) E into h a i in
            let to = monotone (λ c d. E c d × ¬ IsWeaker m c d x y) E (λ c d s. s.0) b a chain in
            elim (((h.0.set a).0 inside).1 b k) [
              | inl back ↦ monotone (Within (In r.set) E) (λ c d. E c d × ¬ IsWeaker m c d x y)
                  (λ c d within. (within.0, not_below_transitive (votes m c d) (votes m d c) (votes m p q) (votes m q p) (votes m x y) (votes m y x) (weakest.1 c d within) not_weaker))
                  a b (chain_within K m E into r h.0 a b (defeater_in K m E into r h.0 b a inside to) back)
              | inr unbeaten ↦ absurd (unbeaten to)
            ]
      ]

-- if a fact is not refuted at any number below n, it is not refuted at all of them together
pub all_below : (P : ℕ → Type 0) (n : ℕ) → ((b : ℕ) → ¬ (¬ P b)) → ¬ (¬ ((b : ℕ) → b < n → P b))
all_below P zero each none = none (λ b less. absurd (omega arith))
all_below P (suc n) each none =
    all_below P n each (λ below. each n (λ here. none (λ b less. elim (cases_lt b n) [
      | inl before ↦ below b before
      | inr at ↦ let same : n ≡ b = omega arith in subst P same here
    ])))

module _ (K : ℕ → Type 0) (m : Votes) (n : ℕ) (few : (o : ℕ) → K o → o < n) (a : ℕ) (wins : IsSchulzeWinner K m (PairwiseDefeats K m) a) where
  -- the defeats that are left: each removed defeat is weaker than each defeat that is left on a chain to A
  record IsLeft (E : ℕ → ℕ → Type 0) : Type 0 where
    into : (c d : ℕ) → E c d → PairwiseDefeats K m c d
    known : (c d : ℕ) → PairwiseDefeats K m c d → E c d ⊎ ¬ E c d
    weaker : (c d : ℕ) → PairwiseDefeats K m c d → ¬ E c d → (p q : ℕ) → E p q → (q ≡ a) ⊎ TransitivelyDefeats E q a → IsWeaker m c d p q

  beats_back : (E : ℕ → ℕ → Type 0) → IsLeft E → (b : ℕ) → K b → TransitivelyDefeats E b a → TransitivelyDefeats E a b
  beats_back E left b k chain =
      let D = PairwiseDefeats K m in
      let w = weakest_of_chain m E b a chain in
      let x = w.0 in
      let y = w.1 in
      monotone (λ c d. D c d × ¬ IsWeaker m c d x y) E
      (λ c d s. elim (left.known c d s.0) [ inl stays ↦ stays | inr gone ↦ absurd (s.1 (left.weaker c d s.0 gone x y w.2 w.3)) ])
      a b (wins.1 b k x y (left.into x y w.2) (monotone (λ c d. E c d × ¬ IsWeaker m c d x y) (λ c d. D c d × ¬ IsWeaker m c d x y) (λ c d s. (left.into c d s.0, s.1)) b a w.4))

  winner_in : (E : ℕ → ℕ → Type 0) → IsLeft E → (r : Round) → IsRound K m E r → In r.set a
  winner_in E left r is =
      elim (cases_Bool (has r.set a)) [
        | inl inside ↦ inside
        | inr outside ↦ absurd (all_below (λ b. K b → TransitivelyDefeats E a b ⊎ ¬ TransitivelyDefeats E b a) n
            (λ b never. never (λ k. inr (λ chain. never (λ _. inl (beats_back E left b k chain)))))
            (λ each. both_ways _ outside ((is.set a).1 (wins.0, λ b k. each b (few b k) k))))
      ]

  left_after : (E : ℕ → ℕ → Type 0) → IsLeft E → (r : Round) → IsRound K m E r → IsLeft (Without E (Pairs r.removed))
  left_after E left r is = record {
    into = λ c d w. left.into c d w.0;
    known = λ c d defeat. elim (left.known c d defeat) [
      | inl stays ↦ elim (is_removed r c d) [ inl removed ↦ inr (λ w. w.1 removed) | inr kept ↦ inl (stays, kept) ]
      | inr gone ↦ inr (λ w. gone w.0)
    ];
    weaker = λ c d defeat gone p q w to.
        let to' : (q ≡ a) ⊎ TransitivelyDefeats E q a =
        elim to [ inl same ↦ inl same | inr chain ↦ inr (monotone (Without E (Pairs r.removed)) E (λ x y s. s.0) q a chain) ] in
        elim (left.known c d defeat) [
          | inr before ↦ left.weaker c d defeat before p q w.0 to'
          | inl stays ↦ elim (is_removed r c d) [
            | inr kept ↦ absurd (gone (stays, kept))
            | inl removed ↦
                let P : ℕ → Type 0 = In r.set in
                let inside = winner_in E left r is in
                let end_in : In r.set q = elim to' [ inl same ↦ subst P (sym same) inside | inr chain ↦ defeater_in K m E left.into r is q a inside chain ] in
                removed_weaker K m E left.into r is c d p q removed (w.0, defeater_in K m E left.into r is p q end_in ([], (w.0, tt)), end_in) w.1
          ]
        ];
  }

  -- a winner of Schulze's method stays in the set from round to round
  winner_stays : (rs : List Round) (E : ℕ → ℕ → Type 0) → IsLeft E → AreRounds K m E rs → In (final_set rs) a
  winner_stays [] E left h = absurd h
  winner_stays (r ∷ []) E left h = winner_in E left r h.0
  winner_stays (r ∷ next ∷ later) E left h = winner_stays (next ∷ later) (Without E (Pairs r.removed)) (left_after E left r h.0) h.2

  winner_final : (rs : List Round) → AreRounds K m (PairwiseDefeats K m) rs → In (final_set rs) a
  winner_final rs h =
      winner_stays rs (PairwiseDefeats K m) (record { into = λ c d defeat. defeat; known = λ c d defeat. inl defeat; weaker = λ c d defeat gone p q e to. absurd (gone defeat) }) h

module _ (K : ℕ → Type 0) (m : Votes) (n : ℕ) (few : (o : ℕ) → K o → o < n) (rs : List Round) (are : AreRounds K m (PairwiseDefeats K m) rs) where
  pub schulze_law : (a : ℕ) → In (final_set rs) a ↔ IsSchulzeWinner K m (PairwiseDefeats K m) a
  schulze_law a = (
    λ i. (final_kept K m (PairwiseDefeats K m) rs are a i, λ b k x y defeat. reaches_back K m rs (PairwiseDefeats K m) (λ x y d. d) are a i b k x y),
    λ wins. winner_final K m n few a wins rs are,
  )

-- if an option has a chain to a winner, the winner has a chain back that is as strong
module _ (K : ℕ → Type 0) (m : Votes) (a : ℕ) (wins : IsSchulzeWinner K m (PairwiseDefeats K m) a) where
  abbrev S : ℕ → ℕ → ℕ → ℕ → Type 0
  S = Strong m (PairwiseDefeats K m)

  pub back_as_strong : (b : ℕ) → K b → (v w : ℕ) → TransitivelyDefeats (S v w) b a → TransitivelyDefeats (S v w) a b
  back_as_strong b k v w chain =
      let weakest = weakest_of_chain m (S v w) b a chain in
      let x = weakest.0 in
      let y = weakest.1 in
      as_strong m (PairwiseDefeats K m) (votes m x y) (votes m y x) v w weakest.2.1 a b
      (wins.1 b k x y weakest.2.0 (monotone (λ c d. S v w c d × ¬ IsWeaker m c d x y) (S (votes m x y) (votes m y x)) (λ c d s. (s.0.0, s.1)) b a weakest.4))
