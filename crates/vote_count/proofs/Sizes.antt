-- How the sizes of sets compare.
use Rattle.std.proofs.Common.{◌≡◌, ℕ, zero, suc, ◌+◌, ◌-◌, ◌<◌, ◌≤◌, Bool, true, false, not, ◌&&◌, List, [], ◌∷◌, length, get_or, set, subst, refl, inl, inr, sym, ap, ◌∙◌, arith}
use Rattle.std.specs.Prelude.{sum_by}
use Rattle.std.proofs.lemmas.Bool.{cases_lt, true≢false, and_parts, cases_Bool, cases_eq, and_from, not_from_true}
use Rattle.std.proofs.lemmas.List.Sums.{sum_by-cons, sum_by-set}
use Rattle.vote_count.specs.Sets.{has, has_pair, size, pair_count, In, Pairs, IsAlone}
use Rattle.vote_poll.proofs.OptionLaws.{at_option-in, at_option-none, at_option-past, at_option-set, at_option-set_other}
use Rattle.vote_count.proofs.Counts.{one, one_of}
use Rattle.vote_count.proofs.Rows.{has_pair-in, row_of_pair}

module _ {X : Type 0} (f : X → ℕ) (d : X) (nothing : f d ≡ 0) where
  -- one element adds no more than all of them
  sum_by_at : (xs : List X) (i : ℕ) → f (get_or xs i d) ≤ sum_by f xs
  sum_by_at [] i = omega (arith, nothing)
  sum_by_at (x ∷ xs) zero = omega (arith, sum_by-cons f x xs)
  sum_by_at (x ∷ xs) (suc i) = omega (arith, sum_by-cons f x xs, sum_by_at xs i)

  sum_by_some : (xs : List X) → 1 ≤ sum_by f xs → (i : ℕ) × (1 ≤ f (get_or xs i d))
  sum_by_some [] h = absurd (omega arith)
  sum_by_some (x ∷ xs) h =
      elim (cases_lt 0 (f x)) [
        | inl here ↦ (0, here)
        | inr none ↦ let later = sum_by_some xs (omega (arith, sum_by-cons f x xs)) in (suc later.0, later.1)
      ]

  sum_by_le : (xs ys : List X) → ((i : ℕ) → f (get_or xs i d) ≤ f (get_or ys i d)) → sum_by f xs ≤ sum_by f ys
  sum_by_le [] ys h = omega arith
  sum_by_le (x ∷ xs) [] h = omega (arith, sum_by-cons f x xs, h 0, nothing, sum_by_le xs [] (λ i. h (suc i)))
  sum_by_le (x ∷ xs) (y ∷ ys) h = omega (arith, sum_by-cons f x xs, sum_by-cons f y ys, h 0, sum_by_le xs ys (λ i. h (suc i)))

  sum_by_lt : (xs ys : List X) → ((i : ℕ) → f (get_or xs i d) ≤ f (get_or ys i d)) → (i : ℕ) → f (get_or xs i d) < f (get_or ys i d) → sum_by f xs < sum_by f ys
  sum_by_lt xs [] h i less = absurd (omega (arith, nothing))
  sum_by_lt [] (y ∷ ys) h i less = omega (arith, nothing, sum_by_at (y ∷ ys) i)
  sum_by_lt (x ∷ xs) (y ∷ ys) h zero less = omega (arith, sum_by-cons f x xs, sum_by-cons f y ys, sum_by_le xs ys (λ i. h (suc i)))
  sum_by_lt (x ∷ xs) (y ∷ ys) h (suc i) less = omega (arith, sum_by-cons f x xs, sum_by-cons f y ys, h 0, sum_by_lt xs ys (λ j. h (suc j)) i less)

one_le : (b c : Bool) → (b ≡ true → c ≡ true) → one b ≤ one c
one_le false c h = omega arith
one_le true true h = omega arith
one_le true false h = absurd (true≢false (sym (h refl)))

pub has_next : (s : List Bool) (i : ℕ) → has s (suc i) ≡ get_or s i false
has_next s i = at_option-in s (suc i) false (omega arith) ∙ ap (λ k. get_or s k false) (omega arith)

pub pair_next : (rows : List (List Bool)) (i o : ℕ) → has_pair rows (suc i) o ≡ has (get_or rows i []) o
pair_next rows i o = has_pair-in rows (suc i) o (omega arith) ∙ ap (λ k. has (get_or rows k []) o) (omega arith)

pub size_at : (s : List Bool) (o : ℕ) → In s o → 1 ≤ size s
size_at s o h = elim (cases_lt 0 o) [
  | inl some ↦ omega (arith, sum_by_at one false refl s (o - 1), ap one (sym (at_option-in s o false some) ∙ h))
  | inr none ↦ absurd (true≢false (sym h ∙ at_option-none s o false (omega arith)))
]

-- each option of a set has a mark
pub row_of_mark : (s : List Bool) (o : ℕ) → In s o → (1 ≤ o) × (o ≤ length s)
row_of_mark s o h =
    elim (cases_lt 0 o) [
      | inl some ↦ elim (cases_lt (length s) o) [ inl past ↦ absurd (true≢false (sym h ∙ at_option-past s o false past)) | inr within ↦ (some, within) ]
      | inr none ↦ absurd (true≢false (sym h ∙ at_option-none s o false (omega arith)))
    ]

pub size_some : (s : List Bool) → 1 ≤ size s → (o : ℕ) × In s o
size_some s h = let place = sum_by_some one false refl s h in (suc place.0, has_next s place.0 ∙ one_of _ place.1)

pub size_le : (s t : List Bool) → ((o : ℕ) → In s o → In t o) → size s ≤ size t
size_le s t h = sum_by_le one false refl s t (λ i. one_le _ _ (λ e. sym (has_next t i) ∙ h (suc i) (has_next s i ∙ e)))

size_lt : (s t : List Bool) → ((o : ℕ) → In s o → In t o) → (o : ℕ) → In t o → ¬ In s o → size s < size t
size_lt s t h zero in_t not_s = absurd (true≢false (sym in_t ∙ at_option-none t 0 false refl))
size_lt s t h (suc i) in_t not_s =
    sum_by_lt one false refl s t (λ j. one_le _ _ (λ e. sym (has_next t j) ∙ h (suc j) (has_next s j ∙ e))) i
    (elim (cases_Bool (get_or s i false)) [
      | inl marked ↦ absurd (not_s (has_next s i ∙ marked))
      | inr unmarked ↦ omega (arith, ap one unmarked, ap one (sym (has_next t i) ∙ in_t))
    ])

pub pair_count_at : (rows : List (List Bool)) (a b : ℕ) → Pairs rows a b → 1 ≤ pair_count rows
pair_count_at rows a b h =
    let row = row_of_pair rows a b h in
    omega (arith, sum_by_at size [] refl rows (a - 1), size_at (get_or rows (a - 1) []) b (sym (has_pair-in rows a b row.0) ∙ h))

pub pair_count_some : (rows : List (List Bool)) → 1 ≤ pair_count rows → (a : ℕ) × (b : ℕ) × Pairs rows a b
pair_count_some rows h =
    let row = sum_by_some size [] refl rows h in
    let place = size_some (get_or rows row.0 []) row.1 in
    (suc row.0, place.0, pair_next rows row.0 place.0 ∙ place.1)

-- a smaller set of pairs has fewer pairs
pub pair_count_lt : (s t : List (List Bool)) → ((a b : ℕ) → Pairs s a b → Pairs t a b) → (a b : ℕ) → Pairs t a b → ¬ Pairs s a b → pair_count s < pair_count t
pair_count_lt s t h zero b in_t not_s = absurd (omega (arith, (row_of_pair t 0 b in_t).0))
pair_count_lt s t h (suc i) b in_t not_s =
    let rows = λ (j : ℕ) (o : ℕ) (e : In (get_or s j []) o). sym (pair_next t j o) ∙ h (suc j) o (pair_next s j o ∙ e) in
    sum_by_lt size [] refl s t (λ j. size_le _ _ (rows j)) i
    (size_lt (get_or s i []) (get_or t i []) (rows i) b (sym (pair_next t i b) ∙ in_t) (λ e. not_s (pair_next s i b ∙ e)))

-- what `minus` leaves, as facts
module _ (all removed left : List (List Bool)) (is : (a b : ℕ) → has_pair left a b ≡ (has_pair all a b && not (has_pair removed a b))) where
  pub left_of_minus : (a b : ℕ) → Pairs left a b → Pairs all a b × ¬ Pairs removed a b
  left_of_minus a b h =
      let parts = and_parts _ _ (sym (is a b) ∙ h) in
      (parts.0, λ r. true≢false (sym parts.1 ∙ not_from_true _ r))

  pub minus_left : (a b : ℕ) → Pairs all a b → ¬ Pairs removed a b → Pairs left a b
  minus_left a b h not_removed =
      is a b ∙ and_from _ _ h (elim (cases_Bool (has_pair removed a b)) [ inl r ↦ absurd (not_removed r) | inr r ↦ ap not r ])

  pub fewer_left : (a b : ℕ) → Pairs all a b → Pairs removed a b → pair_count left < pair_count all
  fewer_left a b h r = pair_count_lt left all (λ x y l. (left_of_minus x y l).0) a b h (λ l. (left_of_minus a b l).1 r)

-- without one of its options, a set has one option fewer
pub size-cleared : (s : List Bool) (o : ℕ) → In s o → size (set s (o - 1) false) + 1 ≡ size s
size-cleared s o h =
    let place = row_of_mark s o h in
    let at : get_or s (o - 1) false ≡ true = sym (at_option-in s o false place.0) ∙ h in
    omega (arith, sum_by-set one s (o - 1) false false (omega (arith, place.1)), ap one at)

-- an option is alone in a set exactly when it is in the set and the set has one option
pub alone_from_size : (s : List Bool) (o : ℕ) → In s o → size s ≡ 1 → IsAlone s o
alone_from_size s o h single p = (
  λ i. elim (cases_eq p o) [
    | inl same ↦ same
    | inr other ↦ absurd (omega (arith, size-cleared s o h, size_at (set s (o - 1) false) p (at_option-set_other s p o false false (row_of_mark s o h).0 other ∙ i)))
  ],
  λ e. let P : ℕ → Type 0 = In s in subst P (sym e) h,
)

pub size-alone : (s : List Bool) (o : ℕ) → IsAlone s o → size s ≡ 1
size-alone s o alone =
    let h = (alone o).1 refl in
    let place = row_of_mark s o h in
    elim (cases_lt 0 (size (set s (o - 1) false))) [
      | inr none ↦ omega (arith, size-cleared s o h)
      | inl some ↦
          let other = size_some (set s (o - 1) false) some in
          elim (cases_eq other.0 o) [
            | inl same ↦ absurd (true≢false (sym other.1 ∙ at_option-set s other.0 o false false place.0 place.1 same))
            | inr differs ↦ absurd (differs ((alone other.0).0 (sym (at_option-set_other s other.0 o false false place.0 differs) ∙ other.1)))
          ]
    ]
