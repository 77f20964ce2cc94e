-- Ranks in normal form keep the order: of two ranks of a ballot, the greater has more ranks below it: the smaller rank, and all ranks below that one.
use Rattle.std.proofs.Common.{◌≡◌, ℕ, zero, suc, ◌+◌, ◌-◌, ◌<◌, ◌≤◌, true, ltb, List, [], ◌∷◌, Option, None, Some, get_or, length, map, inl, inr, refl, sym, ap, ◌∙◌, subst, arith}
use Rattle.std.specs.Prelude.{count_by, option_map}
use Rattle.std.specs.List.{All, range_with_len}
use Rattle.std.proofs.lemmas.Bool.{cases_lt, eq-eqb, le-ltb, lt-ltb}
use Rattle.std.proofs.lemmas.List.{length-map}
use Rattle.std.proofs.lemmas.List.Elements.{All-cons, All-get_or, All-head, All-nil, All-tail}
use Rattle.std.proofs.lemmas.List.Folds.{list_any_at}
use Rattle.std.proofs.lemmas.List.FromFn.{length-range_with_len}
use Rattle.std.proofs.lemmas.List.Sums.{count_by-le-length}
use Rattle.std.proofs.Math.ListN.{get_or-eq_default, get_or-map}
use Rattle.vote_poll.specs.BallotLine.{IsRank}
use Rattle.vote_poll.specs.Options.{at_option}
use Rattle.vote_poll.specs.Ranks.{is_preferred, prefers, rank_of}
use Rattle.vote_sheet.specs.Publishing.{KeepsTheOrder, gives_rank, is_number, normal_ranks, place_of}
use Rattle.vote_count.proofs.Counts.{count-cons, one}

-- ---- how many numbers of a stretch a ballot gives
abbrev pub given : List (Option ℕ) → ℕ → ℕ → ℕ
given ranks a n = count_by (gives_rank ranks) (range_with_len a n)

pub given-and : (ranks : List (Option ℕ)) (a n k : ℕ) → given ranks a (n + k) ≡ given ranks a n + given ranks (a + n) k
given-and ranks a zero k =
    let whole : zero + k ≡ k = omega arith in
    let here : a + zero ≡ a = omega arith in
    let none : given ranks a zero ≡ 0 = refl in
    omega (arith, ap (given ranks a) whole, ap (λ b. given ranks b k) here, none)
given-and ranks a (suc n) k =
    let whole : suc n + k ≡ suc (n + k) = omega arith in
    let next : a + 1 + n ≡ a + suc n = omega arith in
    omega (
      arith,
      ap (given ranks a) whole,
      count-cons (gives_rank ranks) a (range_with_len (a + 1) (n + k)),
      count-cons (gives_rank ranks) a (range_with_len (a + 1) n),
      given-and ranks (a + 1) n k,
      ap (λ b. given ranks b k) next,
    )

-- ---- the place of a rank
-- a rank of the ballot comes before each greater rank
pub place-less : (ranks : List (Option ℕ)) (n m : ℕ) → gives_rank ranks n ≡ true → 1 ≤ n → n < m → place_of ranks n < place_of ranks m
place-less ranks n m gives least less =
    let rest = m - n - 1 in
    let parts : m - 1 ≡ n - 1 + suc rest = omega (arith, least, less) in
    let next : 1 + (n - 1) ≡ n = omega (arith, least) in
    omega (
      arith,
      ap (given ranks 1) parts,
      given-and ranks 1 (n - 1) (suc rest),
      ap (λ b. given ranks b (suc rest)) next,
      count-cons (gives_rank ranks) n (range_with_len (n + 1) rest),
      ap one gives,
    )

place-most : (ranks : List (Option ℕ)) (n : ℕ) → 1 ≤ n → place_of ranks n ≤ n
place-most ranks n least = omega (arith, least, count_by-le-length (gives_rank ranks) (range_with_len 1 (n - 1)), length-range_with_len 1 (n - 1))

place-alike : (ranks : List (Option ℕ)) (n m : ℕ) → gives_rank ranks n ≡ true → 1 ≤ n → gives_rank ranks m ≡ true → 1 ≤ m → ltb (place_of ranks n) (place_of ranks m) ≡ ltb n m
place-alike ranks n m gives_n least_n gives_m least_m =
    elim (cases_lt n m) [
      | inl less ↦ lt-ltb (place_of ranks n) (place_of ranks m) (place-less ranks n m gives_n least_n less) ∙ sym (lt-ltb n m less)
      | inr other ↦ le-ltb (place_of ranks n) (place_of ranks m) (no_less other) ∙ sym (le-ltb n m other)
    ]
  where
    no_less : m ≤ n → place_of ranks m ≤ place_of ranks n
    no_less most =
        elim (cases_lt m n) [
          | inl less ↦ omega (arith, place-less ranks m n gives_m least_m less)
          | inr other ↦
              let same : m ≡ n = omega (arith, most, other) in
              omega (arith, ap (place_of ranks) same)
        ]

-- ---- the ranks of a ballot
-- no rank, or a rank that the ballot gives
abbrev pub IsOf : List (Option ℕ) → Option ℕ → Type 0
IsOf ranks None = Unit {0}
IsOf ranks (Some n) = (gives_rank ranks n ≡ true) × (1 ≤ n)

pub is_of : (ranks : List (Option ℕ)) (k : ℕ) → All IsRank ranks → (rank : Option ℕ) → get_or ranks k None ≡ rank → IsOf ranks rank
is_of ranks k are None is = tt
is_of ranks k are (Some n) is =
    elim (cases_lt k (length ranks)) [
      | inl below ↦
          let rank : IsRank (Some n) = subst IsRank is (All-get_or IsRank ranks k None below are) in
          (list_any_at (is_number n) ranks k None below (ap (is_number n) is ∙ eq-eqb n n refl), rank.0)
      | inr past ↦
          let impossible : None ≡ Some n = sym (get_or-eq_default ranks None past) ∙ is in
          cc
    ]

preferred-alike : (ranks : List (Option ℕ)) (rank other : Option ℕ) → IsOf ranks rank → IsOf ranks other
    → is_preferred (option_map (place_of ranks) rank) (option_map (place_of ranks) other) ≡ is_preferred rank other
preferred-alike ranks None other of_rank of_other = refl
preferred-alike ranks (Some n) None of_rank of_other = refl
preferred-alike ranks (Some n) (Some m) of_rank of_other = place-alike ranks n m of_rank.0 of_rank.1 of_other.0 of_other.1

rank_there : (ranks : List (Option ℕ)) (o : ℕ) → 1 ≤ o → rank_of (normal_ranks ranks) o ≡ option_map (place_of ranks) (rank_of ranks o)
unfolding at_option
rank_there ranks o least =
    let some : ltb 0 o ≡ true = lt-ltb 0 o (omega (arith, least)) in
    rw some (get_or-map (option_map (place_of ranks)) ranks (o - 1) None)

pub rank_at : (ranks : List (Option ℕ)) (o : ℕ) → 1 ≤ o → rank_of ranks o ≡ get_or ranks (o - 1) None
unfolding at_option
rank_at ranks o least =
    let some : ltb 0 o ≡ true = lt-ltb 0 o (omega (arith, least)) in
    rw some refl

prefers_there : (ranks : List (Option ℕ)) → All IsRank ranks → (a b : ℕ) → 1 ≤ a → 1 ≤ b → prefers (normal_ranks ranks) a b ≡ prefers ranks a b
prefers_there ranks are a b least_a least_b =
    let of : (o : ℕ) → 1 ≤ o → IsOf ranks (rank_of ranks o) = λ o least. is_of ranks (o - 1) are (rank_of ranks o) (sym (rank_at ranks o least)) in
    ap (λ rank. is_preferred rank (rank_of (normal_ranks ranks) b)) (rank_there ranks a least_a)
    ∙ ap (is_preferred (option_map (place_of ranks) (rank_of ranks a))) (rank_there ranks b least_b)
    ∙ preferred-alike ranks (rank_of ranks a) (rank_of ranks b) (of a least_a) (of b least_b)

-- ---- the law
is_rank_there : (ranks : List (Option ℕ)) (rank : Option ℕ) → IsRank rank → IsRank (option_map (place_of ranks) rank)
is_rank_there ranks None is = is
is_rank_there ranks (Some n) is = (omega arith, omega (arith, place-most ranks n is.0, is.1))

are_ranks_there : (ranks some : List (Option ℕ)) → All IsRank some → All IsRank (map (option_map (place_of ranks)) some)
are_ranks_there ranks [] are = All-nil IsRank
are_ranks_there ranks (rank ∷ some) are =
    All-cons IsRank (option_map (place_of ranks) rank) (map (option_map (place_of ranks)) some)
    (is_rank_there ranks rank (All-head IsRank rank some are))
    (are_ranks_there ranks some (All-tail IsRank rank some are))

pub keep_the_order : KeepsTheOrder normal_ranks
keep_the_order = record {
  as_many = λ ranks are. length-map ranks (option_map (place_of ranks));
  are_ranks = λ ranks are. are_ranks_there ranks ranks are;
  alike = λ ranks are. record { voted = refl; preferred = λ a b of_a of_b. prefers_there ranks are a b of_a.0 of_b.0 };
}

pub keep_as_they_are : KeepsTheOrder (λ ranks. ranks)
keep_as_they_are = record {
  as_many = λ ranks are. refl;
  are_ranks = λ ranks are. are;
  alike = λ ranks are. record { voted = refl; preferred = λ a b of_a of_b. refl };
}
