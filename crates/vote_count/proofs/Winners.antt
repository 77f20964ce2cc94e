-- Condorcet winners, and sets that dominate.
use Rattle.std.proofs.Common.{◌≡◌, ℕ, Bool, List, [], ◌∷◌, ◌++◌, Option, None, Some, inl, inr, sym, ap, subst, arith}
use Rattle.std.proofs.lemmas.Bool.{cases_Bool, cases_eq, both_ways}
use Rattle.vote_count.specs.declared.rounds.Round.{Round}
use Rattle.vote_count.specs.Laws.{IsCondorcetWinner, IsDominant}
use Rattle.vote_count.specs.declared.rounds.Decision.TheVariants.{Winner}
use Rattle.vote_count.specs.Rounds.{IsRound, AreRounds, IsByCasting, IsDecision, final_set}
use Rattle.vote_count.specs.Rules.{PairwiseDefeats, EachDefeatsNext, TransitivelyDefeats}
use Rattle.vote_count.specs.Sets.{has, In, Pairs, IsAlone, size}
use Rattle.vote_count.specs.Votes.{Votes, votes}
use Rattle.vote_count.proofs.Closure.{Without, last_defeat}
use Rattle.vote_count.proofs.Sizes.{alone_from_size, size-alone, size_some}

module _ (K : ℕ → Type 0) (m : Votes) (winner : ℕ) (wins : IsCondorcetWinner K m winner) where
  undefeated : (b : ℕ) → ¬ PairwiseDefeats K m b winner
  undefeated b d =
      elim (cases_eq b winner) [
        | inl same ↦ omega (arith, d.2, ap (λ x. votes m x winner) same, ap (λ x. votes m winner x) same)
        | inr other ↦ omega (arith, d.2, (wins.1 b d.0 other).2)
      ]

  not_reached : (b : ℕ) → ¬ TransitivelyDefeats (PairwiseDefeats K m) b winner
  not_reached b t = let last = last_defeat (PairwiseDefeats K m) b winner t in undefeated last.0 last.1

  in_round : (r : Round) → IsRound K m (PairwiseDefeats K m) r → In r.set winner
  in_round r h = (h.set winner).1 (wins.0, λ b k. inr (not_reached b))

  only_in_round : (r : Round) → IsRound K m (PairwiseDefeats K m) r → (a : ℕ) → In r.set a → a ≡ winner
  only_in_round r h a i =
      elim (cases_eq a winner) [
        | inl same ↦ same
        | inr other ↦
            let unbeaten = (h.set a).0 i in
            absurd (elim (unbeaten.1 winner wins.0) [
              | inl beats ↦ not_reached a beats
              | inr not_beaten ↦ not_beaten ([], (wins.1 a unbeaten.0 other, tt))
            ])
      ]

  -- the first round has the winner alone, and so is the last
  pub winner_alone : (rs : List Round) → AreRounds K m (PairwiseDefeats K m) rs → IsAlone (final_set rs) winner
  winner_alone [] h p = absurd h
  winner_alone (r ∷ []) h p = (
    only_in_round r h.0 p,
    λ same. let P : ℕ → Type 0 = In r.set in subst P (sym same) (in_round r h.0),
  )
  winner_alone (r ∷ next ∷ later) h p =
      let within = ((h.0.removed h.1.0 h.1.1).0 h.1.2).0 in
      let P : ℕ → Type 0 = PairwiseDefeats K m h.1.0 in
      absurd (undefeated h.1.0 (subst P (only_in_round r h.0 h.1.1 within.2) within.0))

module _ (K : ℕ → Type 0) (m : Votes) (S : List Bool) (dominant : IsDominant K m S) where
  -- an option that defeats an option of the set is in the set
  defeater_inside : (a b : ℕ) → PairwiseDefeats K m a b → In S b → In S a
  defeater_inside a b d inside =
      elim (cases_Bool (has S a)) [
        | inl member ↦ member
        | inr outside ↦ absurd (omega (arith, d.2, (dominant.defeats b a inside d.0 (λ member. both_ways _ outside member)).2))
      ]

  module _ (E : ℕ → ℕ → Type 0) (into : (a b : ℕ) → E a b → PairwiseDefeats K m a b) (out : (a b : ℕ) → In S a → K b → ¬ In S b → E a b) where
    start_inside : (a c : ℕ) (xs : List ℕ) → EachDefeatsNext E (a ∷ xs ++ c ∷ []) → In S c → In S a
    start_inside a c [] h inside = defeater_inside a c (into a c h.0) inside
    start_inside a c (x ∷ xs) h inside = defeater_inside a x (into a x h.0) (start_inside x c xs h.1 inside)

    round_inside : (r : Round) → IsRound K m E r → (a : ℕ) → In r.set a → In S a
    round_inside r h a i =
        elim (cases_Bool (has S a)) [
          | inl member ↦ member
          | inr outside ↦
              let unbeaten = (h.set a).0 i in
              let some = dominant.some in
              elim (unbeaten.1 some.0 (dominant.members some.0 some.1)) [
                | inl beats ↦ start_inside a some.0 beats.0 beats.1 some.1
                | inr not_beaten ↦ absurd (not_beaten ([], (out some.0 a some.1 unbeaten.0 (λ member. both_ways _ outside member), tt)))
              ]
        ]

  -- a round removes only defeats inside the set, so the set still defeats each option outside
  pub final_inside : (rs : List Round) (E : ℕ → ℕ → Type 0) → ((a b : ℕ) → E a b → PairwiseDefeats K m a b) → ((a b : ℕ) → In S a → K b → ¬ In S b → E a b)
      → AreRounds K m E rs → (a : ℕ) → In (final_set rs) a → In S a
  final_inside [] E into out h a i = absurd h
  final_inside (r ∷ []) E into out h a i = round_inside E into out r h.0 a i
  final_inside (r ∷ next ∷ later) E into out h a i =
      final_inside (next ∷ later) (Without E (Pairs r.removed)) (λ x y w. into x y w.0)
      (λ x y inside k outside. (out x y inside k outside, λ removed. outside (round_inside E into out r h.0 y ((h.0.removed x y).0 removed).0.2)))
      h.2 a i

-- ---- a winner is in the set
by_casting : (set : List Bool) (casting : Option ℕ) (winner : ℕ) → IsByCasting set casting (Winner winner) → In set winner
by_casting set None winner is = cc
by_casting set (Some choice) winner is =
    elim is [
      | inl chosen ↦ let same : winner ≡ choice = (let e = chosen.1 in cc) in subst (In set) (sym same) chosen.0
      | inr outside ↦ absurd (let e = outside.1 in cc)
    ]

pub winner_in_set : (set : List Bool) (casting : Option ℕ) (winner : ℕ) → IsDecision set casting (Winner winner) → In set winner
winner_in_set set casting winner is =
    elim (cases_eq (size set) 1) [
      | inl single ↦
          let some = size_some set (omega (arith, single)) in
          let same : winner ≡ some.0 = (let e = is.alone some.0 (alone_from_size set some.0 some.1 single) in cc) in
          subst (In set) (sym same) some.1
      | inr several ↦ by_casting set casting winner (is.several (λ o alone. several (size-alone set o alone)))
    ]
