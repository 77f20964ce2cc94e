-- If two ballots order the options alike, and give the same options a rank, their ranks in normal form are the same: a rank has as many ranks below it in one ballot as in the other, counted down rank by rank.
use Rattle.std.proofs.Common.{◌≡◌, ℕ, zero, suc, ◌+◌, ◌-◌, ◌<◌, ◌≤◌, ◌⊎◌, Bool, true, false, eqb, ltb, List, [], ◌∷◌, Option, None, Some, get_or, length, inl, inr, refl, sym, ap, ◌∙◌, subst, arith}
use Rattle.std.specs.Prelude.{◌||◌, is_some, option_map}
use Rattle.std.specs.List.{All}
use Rattle.std.proofs.lemmas.Bool.{cases_lt, eqb-true, lt-ltb, ltb-true}
use Rattle.std.proofs.lemmas.List.{get_or_default, length-map, same_lists}
use Rattle.std.proofs.Math.ListN.{get_or-eq_default, get_or-map}
use Rattle.vote_poll.specs.BallotLine.{IsRank}
use Rattle.vote_poll.specs.Ranks.{is_preferred, prefers, rank_of}
use Rattle.vote_sheet.specs.Publishing.{NormalRanksTellTheOrderAlone, SayTheSameOrder, gives_rank, normal_ranks, place_of}
use Rattle.vote_sheet.proofs.NormalRanks.{given, given-and, is_of, place-less, rank_at}
use Rattle.vote_count.proofs.Counts.{count-cons, one}

-- ---- the ranks of a ballot by their indexes
-- the ballot gives the option at this index this rank
abbrev Gives : List (Option ℕ) → ℕ → ℕ → Type 0
Gives ranks k n = get_or ranks k None ≡ Some n

in_range : (ranks : List (Option ℕ)) (k n : ℕ) → Gives ranks k n → k < length ranks
in_range ranks k n is =
    elim (cases_lt k (length ranks)) [
      | inl below ↦ below
      | inr past ↦
          let impossible : None ≡ Some n = sym (get_or-eq_default ranks None past) ∙ is in
          cc
    ]

rank_is : (ranks : List (Option ℕ)) (k n : ℕ) → Gives ranks k n → rank_of ranks (k + 1) ≡ Some n
rank_is ranks k n is =
    let here : k + 1 - 1 ≡ k = omega arith in
    rank_at ranks (k + 1) (omega arith) ∙ ap (λ i. get_or ranks i None) here ∙ is

-- a rank that the ballot gives is at some index
gives_at : (ranks : List (Option ℕ)) (n : ℕ) → gives_rank ranks n ≡ true → (k : ℕ) × Gives ranks k n
gives_at [] n gives = cc
gives_at (None ∷ ranks) n gives = let at = gives_at ranks n gives in (suc at.0, at.1)
gives_at (Some m ∷ ranks) n gives = here_or (eqb m n) refl (gives_at ranks n)
  where
    here_or : (t : Bool) → eqb m n ≡ t → (gives_rank ranks n ≡ true → (k : ℕ) × Gives ranks k n) → (k : ℕ) × Gives (Some m ∷ ranks) k n
    here_or true is later = (zero, ap Some (eqb-true m n is))
    here_or false is later =
        let P : Bool → Type 0 = λ t. (t || gives_rank ranks n) ≡ true in
        let at = later (subst P is gives) in
        (suc at.0, at.1)

-- up to this number the ballot gives no rank, or there is a greatest rank that it gives
abbrev Last : List (Option ℕ) → ℕ → Type 0
Last ranks m = (given ranks 1 m ≡ 0) ⊎ ((g : ℕ) × (1 ≤ g) × (g ≤ m) × (gives_rank ranks g ≡ true) × (given ranks 1 m ≡ given ranks 1 (g - 1) + 1))

last_given : (ranks : List (Option ℕ)) (m : ℕ) → Last ranks m
last_given ranks zero = inl refl
last_given ranks (suc m) = here_or (gives_rank ranks (m + 1)) refl (last_given ranks m)
  where
    more : given ranks 1 (suc m) ≡ given ranks 1 m + one (gives_rank ranks (m + 1))
    more =
        let parts : suc m ≡ m + 1 = omega arith in
        let next : 1 + m ≡ m + 1 = omega arith in
        let none : given ranks (m + 1 + 1) 0 ≡ 0 = refl in
        omega (
          arith,
          ap (given ranks 1) parts,
          given-and ranks 1 m 1,
          ap (λ b. given ranks b 1) next,
          count-cons (gives_rank ranks) (m + 1) [],
          none,
        )

    here_or : (t : Bool) → gives_rank ranks (m + 1) ≡ t → Last ranks m → Last ranks (suc m)
    here_or true is before_it =
        let before : m + 1 - 1 ≡ m = omega arith in
        inr (m + 1, omega arith, omega arith, is, omega (arith, more, ap one is, ap (given ranks 1) before))
    here_or false is before_it =
        elim before_it [
          | inl none ↦ inl (omega (arith, none, more, ap one is))
          | inr found ↦ inr (found.0, found.1, omega (arith, found.2), found.3, omega (arith, found.4, more, ap one is))
        ]

-- ---- one ballot beside another
-- what one ballot prefers, the other prefers; and what one ranks, the other ranks
abbrev Follows : List (Option ℕ) → List (Option ℕ) → Type 0
Follows ranks other = (j k g r h s : ℕ) → Gives ranks j g → Gives ranks k r → g < r → Gives other j h → Gives other k s → h < s

abbrev RanksAll : List (Option ℕ) → List (Option ℕ) → Type 0
RanksAll ranks other = (k r : ℕ) → Gives ranks k r → (s : ℕ) × Gives other k s

no_later : (ranks other : List (Option ℕ)) → All IsRank ranks → All IsRank other → Follows ranks other → RanksAll ranks other
    → (bound k r s : ℕ) → r ≤ bound → Gives ranks k r → Gives other k s → place_of ranks r ≤ place_of other s
no_later ranks other are are_other follows all zero k r s few is is_other = absurd (omega (arith, few, (is_of ranks k are (Some r) is).1))
no_later ranks other are are_other follows all (suc bound) k r s few is is_other =
    elim (last_given ranks (r - 1)) [
      | inl none ↦ omega (arith, none)
      | inr found ↦
          let g = found.0 in
          let at = gives_at ranks g found.3 in
          let there = all at.0 g at.1 in
          let h = there.0 in
          let least = (is_of ranks k are (Some r) is).1 in
          let less : h < s = follows at.0 k g r h s at.1 is (omega (arith, found.2, least)) there.1 is_other in
          let of = is_of other at.0 are_other (Some h) there.1 in
          omega (
            arith,
            found.4,
            no_later ranks other are are_other follows all bound at.0 g h (omega (arith, found.2, few, least)) at.1 there.1,
            place-less other h s of.0 of.1 less,
          )
    ]

-- ---- the law
follows_by : (ranks other : List (Option ℕ)) → SayTheSameOrder ranks other → Follows ranks other
follows_by ranks other same j k g r h s is_j is_k less is_h is_s =
    let below_j = in_range ranks j g is_j in
    let below_k = in_range ranks k r is_k in
    let both : prefers other (j + 1) (k + 1) ≡ prefers ranks (j + 1) (k + 1) =
    same.alike.preferred (j + 1) (k + 1) (omega arith, omega (arith, below_j)) (omega arith, omega (arith, below_k)) in
    let of : (some : List (Option ℕ)) (a b : ℕ) → Gives some j a → Gives some k b → prefers some (j + 1) (k + 1) ≡ ltb a b =
    λ some a b is_a is_b. ap (λ rank. is_preferred rank (rank_of some (k + 1))) (rank_is some j a is_a) ∙ ap (is_preferred (Some a)) (rank_is some k b is_b) in
    ltb-true h s (sym (of other h s is_h is_s) ∙ both ∙ of ranks g r is_j is_k ∙ lt-ltb g r less)

some_of : (rank : Option ℕ) → is_some rank ≡ true → (n : ℕ) × (rank ≡ Some n)
some_of None is = cc
some_of (Some n) is = (n, refl)

rank_there : (ranks : List (Option ℕ)) (k : ℕ) → rank_of ranks (k + 1) ≡ get_or ranks k None
rank_there ranks k =
    let here : k + 1 - 1 ≡ k = omega arith in
    rank_at ranks (k + 1) (omega arith) ∙ ap (λ i. get_or ranks i None) here

all_by : (ranks other : List (Option ℕ)) → SayTheSameOrder ranks other → RanksAll ranks other
all_by ranks other same k r is =
    let below = in_range ranks k r is in
    let some : is_some (get_or other k None) ≡ true =
    ap is_some (sym (rank_there other k)) ∙ same.ranked (k + 1) (omega arith, omega (arith, below)) ∙ ap is_some (rank_is ranks k r is) in
    some_of (get_or other k None) some

swapped : (ranks other : List (Option ℕ)) → SayTheSameOrder ranks other → SayTheSameOrder other ranks
swapped ranks other same = record {
  as_many = sym same.as_many;
  ranked = λ o of. sym (same.ranked o (of.0, omega (arith, of.1, same.as_many)));
  alike = record {
    voted = refl;
    preferred = λ a b of_a of_b. sym (same.alike.preferred a b (of_a.0, omega (arith, of_a.1, same.as_many)) (of_b.0, omega (arith, of_b.1, same.as_many)));
  };
}

module _ (ranks other : List (Option ℕ)) (are : All IsRank ranks) (are_other : All IsRank other) (same : SayTheSameOrder ranks other) where
  same_place : (k : ℕ) (rank again : Option ℕ) → get_or ranks k None ≡ rank → get_or other k None ≡ again → option_map (place_of other) again ≡ option_map (place_of ranks) rank
  same_place k None None is is_again = refl
  same_place k None (Some s) is is_again =
      let there = all_by other ranks (swapped ranks other same) k s is_again in
      let impossible : None ≡ Some there.0 = sym is ∙ there.1 in
      cc
  same_place k (Some r) None is is_again =
      let there = all_by ranks other same k r is in
      let impossible : None ≡ Some there.0 = sym is_again ∙ there.1 in
      cc
  same_place k (Some r) (Some s) is is_again =
      let back = swapped ranks other same in
      let one_way = no_later ranks other are are_other (follows_by ranks other same) (all_by ranks other same) r k r s (omega arith) is is_again in
      let other_way = no_later other ranks are_other are (follows_by other ranks back) (all_by other ranks back) s k s r (omega arith) is_again is in
      let equal : place_of other s ≡ place_of ranks r = omega (arith, one_way, other_way) in
      ap Some equal

  same_normal : normal_ranks other ≡ normal_ranks ranks
  same_normal =
      let f = option_map (place_of ranks) in
      let g = option_map (place_of other) in
      let long : length (normal_ranks other) ≡ length (normal_ranks ranks) = length-map other g ∙ same.as_many ∙ sym (length-map ranks f) in
      same_lists (normal_ranks other) (normal_ranks ranks) long
      (λ k d below.
      let in_other : k < length (normal_ranks other) = below in
      let in_ranks : k < length (normal_ranks ranks) = omega (arith, below, long) in
      get_or_default (normal_ranks other) k d None in_other
      ∙ get_or-map g other k None
      ∙ same_place k (get_or ranks k None) (get_or other k None) refl refl
      ∙ sym (get_or-map f ranks k None)
      ∙ sym (get_or_default (normal_ranks ranks) k d None in_ranks))

pub tell_the_order_alone : NormalRanksTellTheOrderAlone
tell_the_order_alone ranks other are are_other same = same_normal ranks other are are_other same
