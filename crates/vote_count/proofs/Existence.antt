-- Each count has rounds. A round is made with the tests of its rules, and it drops a defeat or is the last. So there is at most one round more than there are defeats.
use Rattle.std.proofs.Common.{◌≡◌, ℕ, zero, suc, ◌-◌, ◌*◌, ◌^◌, ◌<◌, ◌≤◌, Bool, true, false, not, ◌&&◌, List, [], ◌∷◌, Option, None, Some, map, inl, inr, refl, sym, ap, subst, ◌∙◌, arith}
use Rattle.std.specs.Prelude.{◌↔◌, ◌⊎◌, IsTrue}
use Rattle.std.specs.List.{range_with_len}
use Rattle.std.proofs.lemmas.Bool.{cases_eq, cases_lt, cases_Bool, and_parts, and_from, true≢false, not_from_true}
use Rattle.std.proofs.lemmas.List.FromFn.{get_or-map-range_with_len, length-map-range_with_len}
use Rattle.vote_poll.specs.Options.{IsOption, at_option}
use Rattle.vote_poll.proofs.OptionLaws.{at_option-in}
use Rattle.vote_poll.specs.PollContent.{PollContent, elector_count, option_count}
use Rattle.vote_count.specs.declared.rounds.Cause.{Cause}
use Rattle.vote_count.specs.declared.rounds.Cause.TheVariants.{Majority, Quorum}
use Rattle.vote_count.specs.declared.rounds.Decision.{Decision}
use Rattle.vote_count.specs.declared.rounds.Decision.TheVariants.{CastingOutside, Tie, Winner}
use Rattle.vote_count.specs.declared.rounds.Round.{Round}
use Rattle.vote_count.specs.Laws.{DecisionsExist, OutcomesExist, QuorumsExist, RoundsExist}
use Rattle.vote_count.specs.Rounds.{AreRounds, HasCause, IsByCasting, IsRound}
use Rattle.vote_count.specs.Rules.{InSchwartzSet, IsKept, IsWeaker, IsWeakest, MeetsQuorum, PairwiseDefeats, TransitivelyDefeats, Within}
use Rattle.vote_count.specs.Sets.{In, Pairs, has, has_pair, pair_count}
use Rattle.vote_count.specs.Votes.{Votes, votes}
use Rattle.vote_count.proofs.Closure.{Without, closed_by, closed_by_is}
use Rattle.vote_count.proofs.Determined.{alone_or_not}
use Rattle.vote_count.proofs.RoundLemmas.{rounds_more, rounds_same}
use Rattle.vote_count.proofs.Rows.{row_of_pair}
use Rattle.vote_count.proofs.Schulze.{kept_option}
use Rattle.vote_count.proofs.Sizes.{pair_count_at, pair_count_lt, pair_count_some, row_of_mark}
use Rattle.vote_poll.proofs.Squares.{le_double_square, square_is}
use Rattle.vote_count.proofs.Tests.{Test, all_three, at_most, both, defeat, either, implied, kept, known, like, marked, negated, of_each, quorum, weaker}

-- ---- lists with an entry for each of n options
module _ (n : ℕ) where
  -- one entry for each option
  abbrev entries : {X : Type 0} → (ℕ → X) → List X
  entries f = map f (range_with_len 1 n)

  entries_at : {X : Type 0} (f : ℕ → X) (o : ℕ) (d : X) → IsOption n o → at_option (entries f) o d ≡ f o
  entries_at f o d is = at_option-in (entries f) o d is.0 ∙ get_or-map-range_with_len f 1 n (o - 1) o d (omega (arith, is.0, is.1)) (omega (arith, is.0))

  -- the options that pass a test
  abbrev set_of : (ℕ → Bool) → List Bool
  set_of passes = entries passes

  in_set_of : (passes : ℕ → Bool) (o : ℕ) → In (set_of passes) o ↔ (IsOption n o × IsTrue (passes o))
  in_set_of passes o = (
    λ i.
        let place = row_of_mark (set_of passes) o i in
        let is : IsOption n o = (place.0, omega (arith, place.1, length-map-range_with_len passes 1 n)) in
        (is, sym (entries_at passes o false is) ∙ i),
    λ h. entries_at passes o false h.0 ∙ h.1,
  )

  -- the pairs of options that pass a test
  abbrev pairs_of : (ℕ → ℕ → Bool) → List (List Bool)
  pairs_of passes = entries (λ a. set_of (passes a))

  in_pairs_of : (passes : ℕ → ℕ → Bool) (a b : ℕ) → Pairs (pairs_of passes) a b ↔ (IsOption n a × IsOption n b × IsTrue (passes a b))
  in_pairs_of passes a b = (
    λ i.
        let place = row_of_pair (pairs_of passes) a b i in
        let is : IsOption n a = (place.0, omega (arith, place.1, length-map-range_with_len (λ x. set_of (passes x)) 1 n)) in
        let row : In (set_of (passes a)) b = sym (ap (λ r. has r b) (entries_at (λ x. set_of (passes x)) a [] is)) ∙ i in
        let inside = (in_set_of (passes a) b).0 row in
        (is, inside.0, inside.1),
    λ h. ap (λ r. has r b) (entries_at (λ x. set_of (passes x)) a [] h.0) ∙ (in_set_of (passes a) b).1 (h.1, h.2),
  )

-- ---- one round, over defeats between options that a test finds
module _ (K : ℕ → Type 0) (test : (o : ℕ) → Test (K o)) (m : Votes) (n : ℕ) (options : (o : ℕ) → K o → IsOption n o) where
  abbrev Edges : (ℕ → ℕ → Bool) → ℕ → ℕ → Type 0
  Edges e a b = IsTrue (e a b)

  -- the defeats are between options
  abbrev Between : (ℕ → ℕ → Bool) → Type 0
  Between e = (a b : ℕ) → e a b ≡ true → IsOption n a × IsOption n b

  module _ (e : ℕ → ℕ → Bool) (between : Between e) where
    abbrev Chain : ℕ → ℕ → Type 0
    Chain = TransitivelyDefeats (Edges e)

    chain : (a c : ℕ) → Test (Chain a c)
    chain a c = (closed_by e n a c, closed_by_is e n (λ x y z _ d. (between y z d).0) a c)

    schwartz : (a : ℕ) → Test (InSchwartzSet K Chain a)
    schwartz a =
        like (both (test a) (of_each n (λ b. K b → Chain a b ⊎ ¬ Chain b a) (λ b. implied (test b) (either (chain a b) (negated (chain b a))))))
        (λ h. (h.0, λ b k. h.1 b (options b k) k)) (λ h. (h.0, λ b _ k. h.1 b k))

    set : List Bool
    set = set_of n (λ a. (schwartz a).0)

    set_is : (a : ℕ) → In set a ↔ InSchwartzSet K Chain a
    unfolding set
    set_is a =
        let of = in_set_of n (λ x. (schwartz x).0) a in
        (λ i. (schwartz a).1.0 (of.0 i).1, λ s. of.1 (options a s.0, (schwartz a).1.1 s))

    abbrev Inside : ℕ → ℕ → Type 0
    Inside = Within (In set) (Edges e)

    inside : (a b : ℕ) → Test (Inside a b)
    inside a b = all_three (marked (e a b)) (marked (has set a)) (marked (has set b))

    weakest : (a b : ℕ) → Test (IsWeakest m (In set) (Edges e) a b)
    weakest a b =
        like (both (inside a b) (of_each n (λ x. (y : ℕ) → IsOption n y → Inside x y → ¬ IsWeaker m x y a b)
        (λ x. of_each n (λ y. Inside x y → ¬ IsWeaker m x y a b) (λ y. implied (inside x y) (negated (weaker m x y a b))))))
        (λ h. (h.0, λ x y within. let is = between x y within.0 in h.1 x is.0 y is.1 within))
        (λ h. (h.0, λ x _ y _ within. h.1 x y within))

    removed : List (List Bool)
    removed = pairs_of n (λ a b. (weakest a b).0)

    removed_is : (a b : ℕ) → Pairs removed a b ↔ IsWeakest m (In set) (Edges e) a b
    unfolding removed
    removed_is a b =
        let of = in_pairs_of n (λ x y. (weakest x y).0) a b in (
          λ p. (weakest a b).1.0 (of.0 p).2,
          λ w. let is = between a b w.0.0 in of.1 (is.0, is.1, (weakest a b).1.1 w),
        )

    round : Round
    round = record { set = set; removed = removed }

    round_is : IsRound K m (Edges e) round
    unfolding round
    round_is = record { set = set_is; removed = removed_is }

    -- the defeats that are left
    left : ℕ → ℕ → Bool
    left a b = e a b && not (has_pair round.removed a b)

    into : (a b : ℕ) → left a b ≡ true → e a b ≡ true × ¬ Pairs round.removed a b
    unfolding left
    into a b t = let parts = and_parts _ _ t in (parts.0, λ r. true≢false (sym parts.1 ∙ not_from_true _ r))

    back : (a b : ℕ) → e a b ≡ true → ¬ Pairs round.removed a b → left a b ≡ true
    unfolding left
    back a b d stays = and_from _ _ d (elim (cases_Bool (has_pair round.removed a b)) [ inl gone ↦ absurd (stays gone) | inr kept_on ↦ ap not kept_on ])

    left_between : Between left
    left_between a b t = between a b (into a b t).0

    fewer : (a b : ℕ) → Pairs round.removed a b → pair_count (pairs_of n left) < pair_count (pairs_of n e)
    fewer a b gone =
        let d = ((round_is.removed a b).0 gone).0.0 in
        let is = between a b d in
        pair_count_lt (pairs_of n left) (pairs_of n e)
        (λ x y p. let of = (in_pairs_of n left x y).0 p in (in_pairs_of n e x y).1 (of.0, of.1, (into x y of.2).0)) a b
        ((in_pairs_of n e a b).1 (is.0, is.1, d))
        (λ p. (into a b ((in_pairs_of n left a b).0 p).2).1 gone)

  rounds_within : (most : ℕ) (e : ℕ → ℕ → Bool) → Between e → pair_count (pairs_of n e) < most → (rs : List Round) × AreRounds K m (Edges e) rs
  rounds_within zero e between few = absurd (omega arith)
  rounds_within (suc most) e between few =
      let r = round e between in
      elim (cases_lt 0 (pair_count r.removed)) [
        | inr none ↦ (r ∷ [], (round_is e between, λ a b p. omega (arith, none, pair_count_at r.removed a b p)))
        | inl some ↦
            let one = pair_count_some r.removed some in
            let rest = rounds_within most (left e between) (left_between e between) (omega (arith, few, fewer e between one.0 one.1 one.2)) in
            let over = rounds_same K m (Edges (left e between)) (Without (Edges e) (Pairs r.removed)) (into e between) (λ a b w. back e between a b w.0 w.1) rest.0 rest.1 in
            (r ∷ rest.0, rounds_more K m (Edges e) r rest.0 (round_is e between) one over)
      ]

  -- there are rounds, whatever the defeats
  pub rounds_of_defeats : (E : ℕ → ℕ → Type 0) → ((a b : ℕ) → Test (E a b)) → ((a b : ℕ) → E a b → IsOption n a × IsOption n b) → (rs : List Round) × AreRounds K m E rs
  rounds_of_defeats E defeat between =
      let e = λ (a b : ℕ). (defeat a b).0 in
      let found = rounds_within (suc (pair_count (pairs_of n e))) e (λ a b t. between a b ((defeat a b).1.0 t)) (omega arith) in
      (found.0, rounds_same K m (Edges e) E (λ a b t. (defeat a b).1.0 t) (λ a b d. (defeat a b).1.1 d) found.0 found.1)

  -- there are rounds over the pairwise defeats
  pub rounds_of_options : (rs : List Round) × AreRounds K m (PairwiseDefeats K m) rs
  rounds_of_options =
      rounds_of_defeats (PairwiseDefeats K m) (λ a b. all_three (test a) (test b) (at_most (suc (votes m b a)) (votes m a b)))
      (λ a b d. (options a d.0, options b d.1))

-- ---- the result of a count
pub rounds_exist : RoundsExist
rounds_exist poll m some = rounds_of_options (IsKept poll m) (kept poll m) m (option_count poll) (kept_option poll m some)

cause_found : (poll : PollContent) (m : Votes) (o : ℕ) → (c : Option Cause) × (IsOption (option_count poll) o → HasCause poll m o c)
cause_found poll m o =
    elim (known (kept poll m o)) [
      | inl stays ↦ (None, λ _. stays)
      | inr dropped ↦
          let below : IsOption (option_count poll) o → o < option_count poll =
          λ is. elim (cases_eq o (option_count poll)) [ inl default ↦ absurd (dropped (inl default)) | inr other ↦ omega (arith, is.1, other) ] in
          elim (known (quorum poll (votes m o (option_count poll)))) [
            | inl met ↦ (Some Majority, λ is. (below is, met, λ ahead. dropped (inr (is.0, below is, met, ahead))))
            | inr missed ↦ (Some Quorum, λ is. (below is, missed))
          ]
    ]

pub outcomes_exist : OutcomesExist
outcomes_exist poll m some =
    let n = option_count poll in
    let rounds = rounds_exist poll m some in
    let causes : ℕ → Option Cause = λ o. (cause_found poll m o).0 in
    let passes : ℕ → ℕ → Bool = λ a b. (defeat poll m a b).0 in (
      record { causes = entries n causes; defeats = pairs_of n passes; rounds = rounds.0 },
      record {
        causes = λ o is. subst (HasCause poll m o) (sym (entries_at n causes o None is)) ((cause_found poll m o).1 is);
        defeats = λ a b. (
          λ p. (defeat poll m a b).1.0 ((in_pairs_of n passes a b).0 p).2,
          λ d. (in_pairs_of n passes a b).1 (kept_option poll m some a d.0, kept_option poll m some b d.1, (defeat poll m a b).1.1 d),
        );
        rounds = rounds.1;
      },
    )

decided_by : (set : List Bool) (casting : Option ℕ) → (decision : Decision) × IsByCasting set casting decision
decided_by set None = (Tie, refl)
decided_by set (Some choice) =
    elim (known (marked (has set choice))) [
      | inl inside ↦ (Winner choice, inl (inside, refl))
      | inr outside ↦ (CastingOutside choice, inr (outside, refl))
    ]

pub decisions_exist : DecisionsExist
decisions_exist set casting =
    elim (alone_or_not set) [
      | inl single ↦ (Winner single.0, record { alone = λ o alone. ap Winner ((alone single.0).0 ((single.1 single.0).1 refl)); several = λ several. absurd (several single.0 single.1) })
      | inr several ↦
          let by = decided_by set casting in
          (by.0, record { alone = λ o alone. absurd (several o alone); several = λ _. by.1 })
    ]

-- the least number for which a fact holds is below a number, or the fact holds for no number below it
least_below : (P : ℕ → Type 0) → ((k : ℕ) → Test (P k)) → (n : ℕ) → ((k : ℕ) × P k × ((j : ℕ) → P j → k ≤ j)) ⊎ ((j : ℕ) → j < n → ¬ P j)
least_below P test zero = inr (λ j less. absurd (omega arith))
least_below P test (suc n) =
    elim (least_below P test n) [
      | inl least ↦ inl least
      | inr none ↦ elim (known (test n)) [
        | inl here ↦ inl (n, here, λ j holds. elim (cases_lt j n) [ inl less ↦ absurd (none j less holds) | inr more ↦ more ])
        | inr fails ↦ inr (λ j less. elim (cases_lt j n) [
          | inl before ↦ none j before
          | inr at ↦ let same : n ≡ j = omega arith in λ holds. fails (subst P (sym same) holds)
        ])
      ]
    ]

pub quorums_exist : QuorumsExist
quorums_exist poll =
    let most = poll.quorum_multiple ^ 2 * elector_count poll in
    let meets : MeetsQuorum poll most = omega (arith, le_double_square most, square_is (2 * most)) in
    elim (least_below (MeetsQuorum poll) (quorum poll) (suc most)) [
      | inl least ↦ (least.0, (least.1, least.2))
      | inr none ↦ absurd (none most (omega arith) meets)
    ]
