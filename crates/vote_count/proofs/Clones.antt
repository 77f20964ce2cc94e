-- Clones: options with the same votes over and against each option that is not one of them.
use Rattle.std.proofs.Common.{◌≡◌, ◌≢◌, ℕ, zero, suc, Bool, ◌<◌, ◌≤◌, ◌⊎◌, ◌↔◌, List, [], ◌∷◌, ◌++◌, inl, inr, refl, sym, ap, ◌∙◌, subst, arith}
use Rattle.std.specs.Prelude.{Option}
use Rattle.std.specs.List.{All}
use Rattle.std.proofs.lemmas.Bool.{cases_Bool, cases_eq, cases_lt, both_ways}
use Rattle.std.proofs.lemmas.List.Elements.{All-weaker}
use Rattle.vote_poll.specs.PollContent.{PollContent, option_count}
use Rattle.vote_count.specs.declared.rounds.Round.{Round}
use Rattle.vote_count.specs.Ballots.{entry_prefers}
use Rattle.vote_count.specs.Votes.{Votes, votes}
use Rattle.vote_count.specs.Sets.{In, has}
use Rattle.vote_count.specs.Rules.{IsKept, PairwiseDefeats, EachDefeatsNext, TransitivelyDefeats}
use Rattle.vote_count.specs.Rounds.{AreRounds, final_set}
use Rattle.vote_count.specs.Laws.{IsSchulzeWinner, IsMatrixOf, AreClones, AreClonesOn, Except, IsCloneSet, IsCloneSetOn, Outside, Meet}
use Rattle.vote_count.proofs.Counts.{count_same}
use Rattle.vote_count.proofs.Closure.{transitive, to_itself}
use Rattle.vote_count.proofs.Strengths.{Strong, as_strong, below_or_not, not_below_itself, below_transitive}
use Rattle.vote_count.proofs.RoundLemmas.{final_kept}
use Rattle.vote_count.proofs.Schulze.{schulze_law, back_as_strong, all_below, kept_option, other_kept}

-- a strict order cannot lack a greatest element among finitely many
module _ (P : ℕ → Type 0) (B : ℕ → ℕ → Type 0) (itself : (a : ℕ) → ¬ B a a) (along : (a b c : ℕ) → B a b → B b c → B a c) where
  abbrev Greatest : ℕ → ℕ → Type 0
  Greatest n a = P a × ((b : ℕ) → b < n → P b → ¬ B b a)

  greatest : (n o : ℕ) → P o → ¬ (¬ ((a : ℕ) × Greatest n a))
  greatest zero o p none = none (o, (p, λ b less. absurd (omega arith)))
  greatest (suc n) o p none =
      greatest n o p (λ best.
      let a = best.0 in
      let not_above : P n → ¬ B n a =
      λ k above. none (
        n,
        (
          k,
          λ b less kb over. elim (cases_lt b n) [
            | inl before ↦ best.1.1 b before kb (along b n a over above)
            | inr at ↦ let same : b ≡ n = omega arith in itself n (subst (λ (x : ℕ). B x n) same over)
          ],
        ),
      ) in
      none (
        a,
        (
          best.1.0,
          λ b less kb over. elim (cases_lt b n) [
            | inl before ↦ best.1.1 b before kb over
            | inr at ↦ let same : b ≡ n = omega arith in not_above (subst P same kb) (subst (λ (x : ℕ). B x a) same over)
          ],
        ),
      ))

-- A comes before B by Schulze's method: A has a chain to B of some strength, and B has no chain to A that is as strong
module _ (m : Votes) (D : ℕ → ℕ → Type 0) where
  abbrev Reaches : ℕ → ℕ → ℕ → ℕ → Type 0
  Reaches v w = TransitivelyDefeats (Strong m D v w)

  abbrev Before : ℕ → ℕ → Type 0
  Before a b = (v : ℕ) × (w : ℕ) × Reaches v w a b × ¬ Reaches v w b a

  before_itself : (a : ℕ) → ¬ Before a a
  before_itself a h = h.3 h.2

  before_transitive : (a b c : ℕ) → Before a b → Before b c → Before a c
  before_transitive a b c h k =
      let v = h.0 in
      let w = h.1 in
      let v' = k.0 in
      let w' = k.1 in
      elim (below_or_not v w v' w') [
        | inl below ↦
            let on = as_strong m D v' w' v w (λ above. not_below_itself v w (below_transitive v w v' w' v w below above)) b c k.2 in
            (v, w, transitive (Strong m D v w) a b c h.2 on, λ back. h.3 (transitive (Strong m D v w) b c a on back))
        | inr no_weaker ↦
            let to = as_strong m D v w v' w' no_weaker a b h.2 in
            (v', w', transitive (Strong m D v' w') a b c to k.2, λ back. k.3 (transitive (Strong m D v' w') c a b back to))
      ]

-- some options are clones
module _ (m : Votes) (X : ℕ → Type 0) (known : (a : ℕ) → X a ⊎ ¬ X a) where
  abbrev AreAlike : (ℕ → Type 0) → Type 0
  AreAlike K = (c d x : ℕ) → X c → X d → K x → ¬ X x → (votes m c x ≡ votes m d x) × (votes m x c ≡ votes m x d)

  -- E stands in for each clone, and each other option for itself
  abbrev Stands : ℕ → ℕ → ℕ → Type 0
  Stands e a a' = (¬ X a × (a' ≡ a)) ⊎ (X a × (a' ≡ e))

  stand_in : (e a : ℕ) → (a' : ℕ) × Stands e a a'
  stand_in e a = elim (known a) [ inl clone ↦ (e, inr (clone, refl)) | inr other ↦ (a, inl (other, refl)) ]

  -- two sets of options that differ only in which clones they have
  module _ (K L : ℕ → Type 0) (to : (a : ℕ) → ¬ X a → K a → L a) (alike : AreAlike K) (e : ℕ) (clone : X e) (there : L e) (v w : ℕ) where
    abbrev S : ℕ → ℕ → Type 0
    S = Strong m (PairwiseDefeats K m) v w

    abbrev S' : ℕ → ℕ → Type 0
    S' = Strong m (PairwiseDefeats L m) v w

    same_votes : (a b a' b' : ℕ) → L a' → L b' → votes m a' b' ≡ votes m a b → votes m b' a' ≡ votes m b a → S a b → S' a' b'
    same_votes a b a' b' la lb over under s = ((la, lb, let won = s.0.2 in omega arith), rw (over, under) s.1)

    stood_in : (a b a' b' : ℕ) → Stands e a a' → Stands e b b' → S a b → (a' ≡ b') ⊎ S' a' b'
    stood_in a b a' b' sa sb s =
        elim sa [
          | inl h ↦ rw h.1 (elim sb [
            | inl k ↦ rw k.1 (inr (same_votes a b a b (to a h.0 s.0.0) (to b k.0 s.0.1) refl refl s))
            | inr k ↦ let same = alike e b a clone k.0 s.0.0 h.0 in rw k.1 (inr (same_votes a b a e (to a h.0 s.0.0) there same.1 same.0 s))
          ])
          | inr h ↦ rw h.1 (elim sb [
            | inl k ↦ let same = alike e a b clone h.0 s.0.1 k.0 in rw k.1 (inr (same_votes a b e b there (to b k.0 s.0.1) same.0 same.1 s))
            | inr k ↦ inl (sym k.1)
          ])
        ]

    -- a step or no step, and then a chain or no chain
    then : (a b c : ℕ) → (a ≡ b) ⊎ S' a b → (b ≡ c) ⊎ TransitivelyDefeats S' b c → (a ≡ c) ⊎ TransitivelyDefeats S' a c
    then a b c step rest =
        elim step [
          | inl same ↦ subst (λ (x : ℕ). (x ≡ c) ⊎ TransitivelyDefeats S' x c) (sym same) rest
          | inr s ↦ inr (elim rest [ inl same ↦ subst (λ (x : ℕ). TransitivelyDefeats S' a x) same ([], (s, tt)) | inr chain ↦ (b ∷ chain.0, (s, chain.1)) ])
        ]

    chain_stood_in : (a b a' b' : ℕ) (between : List ℕ) → Stands e a a' → Stands e b b' → EachDefeatsNext S (a ∷ between ++ b ∷ []) → (a' ≡ b') ⊎ TransitivelyDefeats S' a' b'
    chain_stood_in a b a' b' [] sa sb h = then a' b' b' (stood_in a b a' b' sa sb h.0) (inl refl)
    chain_stood_in a b a' b' (x ∷ between) sa sb h =
        let x' = stand_in e x in then a' x'.0 b' (stood_in a x a' x'.0 sa x'.1 h.0) (chain_stood_in x b x'.0 b' between x'.1 sb h.1)

    -- a chain of one set gives a chain of the other, between the options that stand in for its ends
    moved : (a b a' b' : ℕ) → Stands e a a' → Stands e b b' → a' ≢ b' → TransitivelyDefeats S a b → TransitivelyDefeats S' a' b'
    moved a b a' b' sa sb apart chain =
        elim (chain_stood_in a b a' b' chain.0 sa sb chain.1) [ inl same ↦ absurd (apart same) | inr chain' ↦ chain' ]

  apart : (e x : ℕ) → X e → ¬ X x → e ≢ x
  apart e x clone other same = other (subst X same clone)

  module _ (K L : ℕ → Type 0) (to : (a : ℕ) → ¬ X a → K a → L a) (from : (a : ℕ) → ¬ X a → L a → K a) (alike : AreAlike K) (e : ℕ) (clone : X e) (here : K e) (f : ℕ) (clone' : X f) (there : L f) where
    abbrev D : ℕ → ℕ → Type 0
    D = PairwiseDefeats K m

    abbrev D' : ℕ → ℕ → Type 0
    D' = PairwiseDefeats L m

    alike' : AreAlike L
    alike' c d x cc cd l other = alike c d x cc cd (from x other l) other

    -- an option that is no clone and wins in one set wins in the other
    other_wins : (x : ℕ) → ¬ X x → IsSchulzeWinner K m D x → IsSchulzeWinner L m D' x
    other_wins x other wins = (
      to x other wins.0,
      λ b l p q defeat chain.
          let v = votes m p q in
          let w = votes m q p in
          elim (cases_eq x b) [
            | inl same ↦ to_itself (Reaches m D' v w) x b same chain
            | inr not_same ↦ elim (known b) [
              | inl b_clone ↦
                  let back = back_as_strong K m x wins e here v w (moved L K from alike' e clone here v w b x e x (inr (b_clone, refl)) (inl (other, refl)) (apart e x clone other) chain) in
                  moved K L to alike b b_clone l v w x e x b (inl (other, refl)) (inr (clone, refl)) not_same back
              | inr b_other ↦
                  let back = back_as_strong K m x wins b (from b b_other l) v w
                  (moved L K from alike' e clone here v w b x b x (inl (b_other, refl)) (inl (other, refl)) (λ same. not_same (sym same)) chain) in
                  moved K L to alike f clone' there v w x b x b (inl (other, refl)) (inl (b_other, refl)) not_same back
            ]
          ],
    )

    -- if a clone wins in one set, each clone of the other set has a chain to each other option that is as strong as the option's chain to it
    over_others : IsSchulzeWinner K m D e → (b : ℕ) → L b → ¬ X b → (v w : ℕ) → Reaches m D' v w b f → Reaches m D' v w f b
    over_others wins b l other v w chain =
        let back = back_as_strong K m e wins b (from b other l) v w
        (moved L K from alike' e clone here v w b f b e (inl (other, refl)) (inr (clone', refl)) (λ same. apart e b clone other (sym same)) chain) in
        moved K L to alike f clone' there v w e b f b (inr (clone, refl)) (inl (other, refl)) (apart f b clone' other) back

  module _ (K L : ℕ → Type 0) (to : (a : ℕ) → ¬ X a → K a → L a) (from : (a : ℕ) → ¬ X a → L a → K a) (alike : AreAlike K) (n : ℕ) (few : (o : ℕ) → L o → o < n) where
    abbrev T : ℕ → ℕ → Type 0
    T = PairwiseDefeats L m

    -- and the greatest clone of the other set wins in it
    clone_wins : (e : ℕ) → X e → K e → IsSchulzeWinner K m (PairwiseDefeats K m) e → (f : ℕ) → X f → L f → ¬ (¬ ((a : ℕ) × X a × IsSchulzeWinner L m T a))
    clone_wins e clone here wins f clone' there none =
        greatest (λ a. X a × L a) (Before m T) (before_itself m T) (before_transitive m T) n f (clone', there) (λ best.
        let a = best.0 in
        let is = best.1.0 in
        let R : ℕ → ℕ → ℕ → ℕ → Type 0 = λ x y. Reaches m T (votes m x y) (votes m y x) in
        let Back : ℕ → ℕ → ℕ → Type 0 = λ b x y. L b → T x y → R x y b a → R x y a b in
        let backs : ¬ (¬ ((b : ℕ) → b < n → (x : ℕ) → x < n → (y : ℕ) → y < n → Back b x y)) =
        all_below (λ b. (x : ℕ) → x < n → (y : ℕ) → y < n → Back b x y) n (λ b. all_below (λ x. (y : ℕ) → y < n → Back b x y) n (λ x. all_below (Back b x) n (λ y no.
        elim (known b) [
          | inl b_clone ↦ no (λ l defeat chain. absurd (best.1.1 b (few b l) (b_clone, l) (votes m x y, votes m y x, chain, λ back. no (λ _ _ _. back))))
          | inr b_other ↦ no (λ l defeat chain. over_others K L to from alike e clone here a is.0 is.1 wins b l b_other (votes m x y) (votes m y x) chain)
        ]))) in
        backs (λ all. none (a, is.0, (is.1, λ b l x y defeat chain. all b (few b l) x (few x defeat.0) y (few y defeat.1) l defeat chain))))

-- the rounds over all options, and the rounds over all but some of the clones
module _ (m : Votes) (X : ℕ → Type 0) (known : (a : ℕ) → X a ⊎ ¬ X a) (K L : ℕ → Type 0) (among : (a : ℕ) → L a → K a) (to : (a : ℕ) → ¬ X a → K a → L a) (alike : AreAlike m X known K)
    (n : ℕ) (few : (o : ℕ) → K o → o < n) (c : ℕ) (clone : X c) (there : L c) (rs ss : List Round) (rounds : AreRounds K m (PairwiseDefeats K m) rs) (fewer : AreRounds L m (PairwiseDefeats L m) ss) where
  few' : (o : ℕ) → L o → o < n
  few' o l = few o (among o l)

  wins_all : (a : ℕ) → In (final_set rs) a ↔ IsSchulzeWinner K m (PairwiseDefeats K m) a
  wins_all = schulze_law K m n few rs rounds

  wins_less : (a : ℕ) → In (final_set ss) a ↔ IsSchulzeWinner L m (PairwiseDefeats L m) a
  wins_less = schulze_law L m n few' ss fewer

  from : (a : ℕ) → ¬ X a → L a → K a
  from a _ l = among a l

  others : (x : ℕ) → ¬ X x → In (final_set rs) x ↔ In (final_set ss) x
  others x other = (
    λ i. (wins_less x).1 (other_wins m X known K L to from alike c clone (among c there) c clone there x other ((wins_all x).0 i)),
    λ i. (wins_all x).1 (other_wins m X known L K from to (λ d e y is is' l. alike d e y is is' (among y l)) c clone there c clone (among c there) x other ((wins_less x).0 i)),
  )

  one_left : (e : ℕ) → X e → In (final_set rs) e → ¬ (¬ ((a : ℕ) × X a × L a × In (final_set ss) a))
  one_left e is i none =
      let wins = (wins_all e).0 i in
      clone_wins m X known K L to from alike n few' e is wins.0 wins c clone there (λ found. none (found.0, found.1, found.2.0, (wins_less found.0).1 found.2))

  one_before : (e : ℕ) → X e → In (final_set ss) e → ¬ (¬ ((a : ℕ) × X a × In (final_set rs) a))
  one_before e is i none =
      let wins = (wins_less e).0 i in
      clone_wins m X known L K from to (λ d f y is is' l. alike d f y is is' (among y l)) n few e is wins.0 wins c clone (among c there) (λ found. none (found.0, found.1, (wins_all found.0).1 found.2))

is_in : (set : List Bool) (a : ℕ) → In set a ⊎ ¬ In set a
is_in set a = elim (cases_Bool (has set a)) [ inl inside ↦ inl inside | inr outside ↦ inr (λ i. both_ways _ outside i) ]

-- if it is not refuted that a set has an option, the set has it
stable : (set : List Bool) (a : ℕ) → ¬ (¬ In set a) → In set a
stable set a h = elim (is_in set a) [ inl inside ↦ inside | inr outside ↦ absurd (h outside) ]

-- two clones
module _ (K : ℕ → Type 0) (m : Votes) (n : ℕ) (few : (o : ℕ) → K o → o < n) (c d : ℕ) (are : AreClones K m c d) (rs ss : List Round)
    (rounds : AreRounds K m (PairwiseDefeats K m) rs) (fewer : AreRounds (Except K d) m (PairwiseDefeats (Except K d) m) ss) where
  abbrev Either : ℕ → Type 0
  Either a = (a ≡ c) ⊎ (a ≡ d)

  neither : (a : ℕ) → a ≢ c → a ≢ d → ¬ Either a
  neither a not_c not_d is = elim is [ inl same ↦ not_c same | inr same ↦ not_d same ]

  is_either : (a : ℕ) → Either a ⊎ ¬ Either a
  is_either a = elim (cases_eq a c) [ inl same ↦ inl (inl same) | inr not_c ↦ elim (cases_eq a d) [ inl same ↦ inl (inr same) | inr not_d ↦ inr (neither a not_c not_d) ] ]

  as_first : (e x : ℕ) → Either e → K x → ¬ Either x → (votes m e x ≡ votes m c x) × (votes m x e ≡ votes m x c)
  as_first e x is k other =
      elim is [
        | inl same ↦ (ap (λ z. votes m z x) same, ap (λ z. votes m x z) same)
        | inr same ↦ (
          ap (λ z. votes m z x) same ∙ sym (are.for x k (λ s. other (inl s)) (λ s. other (inr s))),
          ap (λ z. votes m x z) same ∙ sym (are.against x k (λ s. other (inl s)) (λ s. other (inr s))),
        )
      ]

  both_alike : AreAlike m Either is_either K
  both_alike p q x is_p is_q k other = let first = as_first p x is_p k other in let second = as_first q x is_q k other in (first.0 ∙ sym second.0, first.1 ∙ sym second.1)

  without : (a : ℕ) → ¬ Either a → K a → Except K d a
  without a other k = (k, λ same. other (inr same))

  pub others_same : (x : ℕ) → x ≢ c → x ≢ d → In (final_set rs) x ↔ In (final_set ss) x
  others_same x not_c not_d =
      others m Either is_either K (Except K d) (λ a l. l.0) without both_alike n few c (inl refl) (are.first, are.distinct) rs ss rounds fewer x (neither x not_c not_d)

  stays : (e : ℕ) → Either e → In (final_set rs) e → In (final_set ss) c
  stays e is i =
      let P : ℕ → Type 0 = In (final_set ss) in
      stable (final_set ss) c (λ out.
      one_left m Either is_either K (Except K d) (λ a l. l.0) without both_alike n few c (inl refl) (are.first, are.distinct) rs ss rounds fewer e is i
      (λ found. elim found.1 [ inl same ↦ out (subst P same found.3) | inr same ↦ found.2.1 same ]))

  one_of_two : In (final_set ss) c → In (final_set rs) c ⊎ In (final_set rs) d
  one_of_two i =
      let P : ℕ → Type 0 = In (final_set rs) in
      elim (is_in (final_set rs) c) [
        | inl first ↦ inl first
        | inr not_first ↦ inr (stable (final_set rs) d (λ not_second.
            one_before m Either is_either K (Except K d) (λ a l. l.0) without both_alike n few c (inl refl) (are.first, are.distinct) rs ss rounds fewer c (inl refl) i
            (λ found. elim found.1 [ inl same ↦ not_first (subst P same found.2) | inr same ↦ not_second (subst P same found.2) ])))
      ]

  pub clone_law : In (final_set ss) c ↔ (In (final_set rs) c ⊎ In (final_set rs) d)
  clone_law = (one_of_two, λ one. elim one [ inl first ↦ stays c (inl refl) first | inr second ↦ stays d (inr refl) second ])

-- some option below a number is in two sets, or there is no such option
common : (set other : List Bool) (n : ℕ) → Meet set (In other) ⊎ ((a : ℕ) → a < n → In set a → ¬ In other a)
common set other zero = inr (λ a less. absurd (omega arith))
common set other (suc n) =
    elim (common set other n) [
      | inl found ↦ inl found
      | inr none ↦ elim (is_in set n) [
        | inr out ↦ inr (λ a less i. elim (cases_lt a n) [ inl before ↦ none a before i | inr at ↦ let same : a ≡ n = omega arith in let P : ℕ → Type 0 = In set in absurd (out (subst P same i)) ])
        | inl inside ↦ elim (is_in other n) [
          | inl also ↦ inl (n, inside, also)
          | inr out ↦ inr (λ a less i j. elim (cases_lt a n) [ inl before ↦ none a before i j | inr at ↦ let same : a ≡ n = omega arith in let P : ℕ → Type 0 = In other in out (subst P same j) ])
        ]
      ]
    ]

-- a set of clones
module _ (K : ℕ → Type 0) (m : Votes) (n : ℕ) (few : (o : ℕ) → K o → o < n) (clones removed : List Bool) (are : IsCloneSet K m clones) (within : (a : ℕ) → In removed a → In clones a)
    (c : ℕ) (clone : In clones c) (left : ¬ In removed c) (rs ss : List Round) (rounds : AreRounds K m (PairwiseDefeats K m) rs) (fewer : AreRounds (Outside K removed) m (PairwiseDefeats (Outside K removed) m) ss) where
  set_alike : AreAlike m (In clones) (is_in clones) K
  set_alike p q x is_p is_q k other = (are.for p q x is_p is_q k other, are.against p q x is_p is_q k other)

  outside : (a : ℕ) → ¬ In clones a → K a → Outside K removed a
  outside a other k = (k, λ gone. other (within a gone))

  -- if it is not refuted that a set has an option in common with the clones, it has one
  meets : (set : List Bool) → ((a : ℕ) → In set a → K a) → ¬ (¬ Meet clones (In set)) → Meet clones (In set)
  meets set kept h = elim (common clones set n) [ inl found ↦ found | inr none ↦ absurd (h (λ found. none found.0 (few found.0 (kept found.0 found.2)) found.1 found.2)) ]

  pub set_others_same : (x : ℕ) → ¬ In clones x → In (final_set rs) x ↔ In (final_set ss) x
  set_others_same = others m (In clones) (is_in clones) K (Outside K removed) (λ a l. l.0) outside set_alike n few c clone (are.members c clone, left) rs ss rounds fewer

  pub set_law : Meet clones (In (final_set rs)) ↔ Meet clones (In (final_set ss))
  set_law = (
    λ one. meets (final_set ss) (λ a i. (final_kept (Outside K removed) m (PairwiseDefeats (Outside K removed) m) ss fewer a i).0) (λ none.
        one_left m (In clones) (is_in clones) K (Outside K removed) (λ a l. l.0) outside set_alike n few c clone (are.members c clone, left) rs ss rounds fewer one.0 one.1 one.2
        (λ found. none (found.0, found.1, found.3))),
    λ one. meets (final_set rs) (final_kept K m (PairwiseDefeats K m) rs rounds) (λ none.
        one_before m (In clones) (is_in clones) K (Outside K removed) (λ a l. l.0) outside set_alike n few c clone (are.members c clone, left) rs ss rounds fewer one.0 one.1 one.2 none),
  )

-- ballots
module _ (poll : PollContent) (ballots : List (Option (List (Option ℕ)))) (m : Votes) (of : IsMatrixOf (option_count poll) ballots m) where
  same_votes_of : 1 ≤ option_count poll → (a b c d : ℕ) → IsKept poll m a → IsKept poll m b → IsKept poll m c → IsKept poll m d
      → All (λ entry. entry_prefers a b entry ≡ entry_prefers c d entry) ballots → votes m a b ≡ votes m c d
  same_votes_of some a b c d ka kb kc kd same =
      let option = kept_option poll m some in
      of a b (option a ka) (option b kb) ∙ count_same (entry_prefers a b) (entry_prefers c d) ballots same ∙ sym (of c d (option c kc) (option d kd))

  pub ballots_make_clones : (c d : ℕ) → IsKept poll m c → IsKept poll m d → c ≢ d → All (AreClonesOn (option_count poll) c d) ballots → AreClones (IsKept poll m) m c d
  ballots_make_clones c d first second distinct each =
      let some = (other_kept poll m c d first second distinct).3 in
      record {
        first = first;
        second = second;
        distinct = distinct;
        for = λ x k not_c not_d. same_votes_of some c x d x first k second k
            (All-weaker (AreClonesOn (option_count poll) c d) _ (λ entry on. on.for x (kept_option poll m some x k) not_c not_d) ballots each);
        against = λ x k not_c not_d. same_votes_of some x c x d k first k second
            (All-weaker (AreClonesOn (option_count poll) c d) _ (λ entry on. on.against x (kept_option poll m some x k) not_c not_d) ballots each);
      }

  pub ballots_make_clone_set : (clones : List Bool) → ((c : ℕ) → In clones c → IsKept poll m c) → All (IsCloneSetOn (option_count poll) clones) ballots → IsCloneSet (IsKept poll m) m clones
  ballots_make_clone_set clones kept each =
      let some : (c x : ℕ) → In clones c → IsKept poll m x → ¬ In clones x → 1 ≤ option_count poll =
      λ c x clone k other. (other_kept poll m c x (kept c clone) k (apart m (In clones) (is_in clones) c x clone other)).3 in
      record {
        members = kept;
        for = λ c d x clone clone' k other. same_votes_of (some c x clone k other) c x d x (kept c clone) k (kept d clone') k
            (All-weaker (IsCloneSetOn (option_count poll) clones) _ (λ entry on. on.for c d x clone clone' (kept_option poll m (some c x clone k other) x k) other) ballots each);
        against = λ c d x clone clone' k other. same_votes_of (some c x clone k other) x c x d k (kept c clone) k (kept d clone')
            (All-weaker (IsCloneSetOn (option_count poll) clones) _ (λ entry on. on.against c d x clone clone' (kept_option poll m (some c x clone k other) x k) other) ballots each);
      }
