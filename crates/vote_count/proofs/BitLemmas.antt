-- The bits of a word and its marks.
use Rattle.std.proofs.Common.{◌≡◌, ℕ, zero, suc, nat_eq, ◌+◌, ◌-◌, ◌<◌, ◌≤◌, ◌^◌, ◌*◌, ◌/◌, ◌%◌, Bool, true, false, not, ◌&&◌, ◌||◌, length, map-id, refl, sym, ap, ◌∙◌, inl, inr, arith}
use Rattle.std.specs.Prelude.{◌↔◌, IsTrue}
use Rattle.std.specs.Int.{bit_at, leading_zeros}
use Rattle.std.specs.Int.RustNames.{bit_or, count_ones}
use Rattle.std.proofs.lemmas.Bool.{cases_lt, cases_eq, eq-eqb, ne_eqb}
use Rattle.std.proofs.lemmas.Nat.Bits.{bit_at_or, bit_at_and, bit_at_not, bit_at_set_same, bit_at_set_other, bit_at-zero, bit_at_above, shr_and_one}
use Rattle.std.proofs.lemmas.Nat.{ones_le_self, leading_length}
use Rattle.std.proofs.lemmas.Simd.{bit_mask_l, ones-mask_l}
use mir.Syntax.{Width, w32}
use lib.Bits.{bit_and}
use Prim.Native.Nat.{min, max}
use Rattle.vote_poll.specs.declared.TheConstants.{MAX_OPTIONS}
use Rattle.vote_count.specs.Sets.{has, size}
use Rattle.vote_count.specs.Bits.{marks_of, mask_l-marks_of, mask_l}
use Rattle.vote_count.proofs.Counts.{one, one_of}
use Rattle.vote_poll.proofs.OptionLaws.{at_option-in, at_option-none, at_option-past}

-- the width of `Word`, which has one bit for each option
abbrev pub width : Width
width = w32

same_one : (b c : Bool) → one b ≡ one c → b ≡ c
same_one true true h = refl
same_one true false h = absurd (omega arith)
same_one false true h = absurd (omega arith)
same_one false false h = refl

-- a mark is a bit of the word
pub bit_of_has : (n o : ℕ) → n < 2 ^ MAX_OPTIONS → 1 ≤ o → one (has (marks_of MAX_OPTIONS n) o) ≡ bit_at n (o - 1)
bit_of_has n o h low =
    ap one (at_option-in (marks_of MAX_OPTIONS n) o false low) ∙ sym (bit_mask_l (marks_of MAX_OPTIONS n) (o - 1)) ∙ ap (λ m. bit_at m (o - 1)) (mask_l-marks_of MAX_OPTIONS n h)

-- a bit is set exactly when the option is in the set
pub bit_is_mark : (n o : ℕ) → n < 2 ^ MAX_OPTIONS → 1 ≤ o → (bit_at n (o - 1) ≡ 1) ↔ IsTrue (has (marks_of MAX_OPTIONS n) o)
bit_is_mark n o h low = (
  λ set. one_of _ (omega (arith, bit_of_has n o h low, set)),
  λ mark. sym (bit_of_has n o h low) ∙ ap one mark,
)

one-or : (b c : Bool) → max (one b) (one c) ≡ one (b || c)
one-or true true = refl
one-or true false = refl
one-or false true = refl
one-or false false = refl

one-and_not : (b c : Bool) → min (one b) (1 - one c) ≡ one (b && not c)
one-and_not true true = refl
one-and_not true false = refl
one-and_not false true = refl
one-and_not false false = refl

pub has-bit_or : (a b : ℕ) → a < 2 ^ MAX_OPTIONS → b < 2 ^ MAX_OPTIONS → bit_or a b < 2 ^ MAX_OPTIONS → (o : ℕ) → has (marks_of MAX_OPTIONS (bit_or a b)) o ≡ (has (marks_of MAX_OPTIONS a) o || has (marks_of MAX_OPTIONS b) o)
has-bit_or a b ha hb hc o =
    elim (cases_lt 0 o) [
      | inr none ↦ rw (at_option-none (marks_of MAX_OPTIONS (bit_or a b)) o false (omega arith), at_option-none (marks_of MAX_OPTIONS a) o false (omega arith), at_option-none (marks_of MAX_OPTIONS b) o false (omega arith))
      | inl some ↦ same_one _ _
          (bit_of_has (bit_or a b) o hc some
          ∙ bit_at_or a b (o - 1)
          ∙ ap (λ x. max x (bit_at b (o - 1))) (sym (bit_of_has a o ha some))
          ∙ ap (λ x. max (one (has (marks_of MAX_OPTIONS a) o)) x) (sym (bit_of_has b o hb some))
          ∙ one-or _ _
          )
    ]

one-and : (b c : Bool) → min (one b) (one c) ≡ one (b && c)
one-and true true = refl
one-and true false = refl
one-and false true = refl
one-and false false = refl

pub has-bit_and : (a b : ℕ) → a < 2 ^ MAX_OPTIONS → b < 2 ^ MAX_OPTIONS → bit_and a b < 2 ^ MAX_OPTIONS → (o : ℕ) → has (marks_of MAX_OPTIONS (bit_and a b)) o ≡ (has (marks_of MAX_OPTIONS a) o && has (marks_of MAX_OPTIONS b) o)
has-bit_and a b ha hb hc o =
    elim (cases_lt 0 o) [
      | inr none ↦ rw (at_option-none (marks_of MAX_OPTIONS (bit_and a b)) o false (omega arith), at_option-none (marks_of MAX_OPTIONS a) o false (omega arith))
      | inl some ↦ same_one _ _
          (bit_of_has (bit_and a b) o hc some
          ∙ bit_at_and a b (o - 1)
          ∙ ap (λ x. min x (bit_at b (o - 1))) (sym (bit_of_has a o ha some))
          ∙ ap (λ x. min (one (has (marks_of MAX_OPTIONS a) o)) x) (sym (bit_of_has b o hb some))
          ∙ one-and _ _
          )
    ]

pub length-marks_of : (k n : ℕ) → length (marks_of k n) ≡ k
unfolding marks_of
length-marks_of zero n = refl
length-marks_of (suc k) n = ap suc (length-marks_of k (n / 2))

pub has-zero : (o : ℕ) → has (marks_of MAX_OPTIONS 0) o ≡ false
has-zero o =
    elim (cases_lt 0 o) [
      | inr none ↦ at_option-none (marks_of MAX_OPTIONS 0) o false (omega arith)
      | inl some ↦ same_one _ _ (bit_of_has 0 o (omega arith) some ∙ bit_at-zero (o - 1))
    ]

one_test : (b : Bool) → nat_eq (one b) 1 ≡ b
one_test true = refl
one_test false = refl

pub has-bit : (n o : ℕ) → n < 2 ^ MAX_OPTIONS → 1 ≤ o → nat_eq (bit_and (n / 2 ^ (o - 1)) 1) 1 ≡ has (marks_of MAX_OPTIONS n) o
has-bit n o h low = ap (λ x. nat_eq x 1) (shr_and_one n (o - 1) ∙ sym (bit_of_has n o h low)) ∙ one_test _

pub has-bit_not : (a b : ℕ) → a < 2 ^ MAX_OPTIONS → b < 2 ^ MAX_OPTIONS → bit_and a (2 ^ MAX_OPTIONS - 1 - b) < 2 ^ MAX_OPTIONS → (o : ℕ) → has (marks_of MAX_OPTIONS (bit_and a (2 ^ MAX_OPTIONS - 1 - b))) o ≡ (has (marks_of MAX_OPTIONS a) o && not (has (marks_of MAX_OPTIONS b) o))
has-bit_not a b ha hb hc o =
    elim (cases_lt 0 o) [
      | inr none ↦ rw (at_option-none (marks_of MAX_OPTIONS (bit_and a (2 ^ MAX_OPTIONS - 1 - b))) o false (omega arith), at_option-none (marks_of MAX_OPTIONS a) o false (omega arith))
      | inl some ↦ elim (cases_lt (o - 1) MAX_OPTIONS) [
        | inl within ↦ same_one _ _
            (bit_of_has (bit_and a (2 ^ MAX_OPTIONS - 1 - b)) o hc some
            ∙ bit_at_and a (2 ^ MAX_OPTIONS - 1 - b) (o - 1)
            ∙ ap (λ x. min (bit_at a (o - 1)) x) (bit_at_not width b (o - 1) hb within)
            ∙ ap (λ x. min x (1 - bit_at b (o - 1))) (sym (bit_of_has a o ha some))
            ∙ ap (λ x. min (one (has (marks_of MAX_OPTIONS a) o)) (1 - x)) (sym (bit_of_has b o hb some))
            ∙ one-and_not _ _
            )
        | inr out ↦ rw (at_option-past (marks_of MAX_OPTIONS (bit_and a (2 ^ MAX_OPTIONS - 1 - b))) o false (omega (arith, length-marks_of MAX_OPTIONS (bit_and a (2 ^ MAX_OPTIONS - 1 - b)))), at_option-past (marks_of MAX_OPTIONS a) o false (omega (arith, length-marks_of MAX_OPTIONS a)))
      ]
    ]

pub has-set : (n k o : ℕ) → n < 2 ^ MAX_OPTIONS → 1 ≤ k → k ≤ MAX_OPTIONS → bit_or n (1 * 2 ^ (k - 1) % 2 ^ MAX_OPTIONS) < 2 ^ MAX_OPTIONS → has (marks_of MAX_OPTIONS (bit_or n (1 * 2 ^ (k - 1) % 2 ^ MAX_OPTIONS))) o ≡ (nat_eq o k || has (marks_of MAX_OPTIONS n) o)
has-set n k o h low high fits =
    elim (cases_lt 0 o) [
      | inr none ↦ rw (at_option-none (marks_of MAX_OPTIONS (bit_or n (1 * 2 ^ (k - 1) % 2 ^ MAX_OPTIONS))) o false (omega arith), at_option-none (marks_of MAX_OPTIONS n) o false (omega arith), ne_eqb o k (omega arith))
      | inl some ↦ same_one _ _ (bit_of_has (bit_or n (1 * 2 ^ (k - 1) % 2 ^ MAX_OPTIONS)) o fits some ∙ elim (cases_eq o k) [
        | inl same ↦ rw (eq-eqb o k same) (ap (λ i. bit_at (bit_or n (1 * 2 ^ (k - 1) % 2 ^ MAX_OPTIONS)) (i - 1)) same ∙ bit_at_set_same width n (k - 1) (omega arith))
        | inr other ↦ rw (ne_eqb o k other) (bit_at_set_other width n (k - 1) (omega arith) (o - 1) (omega arith) ∙ sym (bit_of_has n o h some))
      ])
    ]

pub size-marks_of : (n : ℕ) → n < 2 ^ MAX_OPTIONS → count_ones n ≡ size (marks_of MAX_OPTIONS n)
size-marks_of n h = ap count_ones (sym (mask_l-marks_of MAX_OPTIONS n h)) ∙ ap (λ ms. count_ones (mask_l ms)) (sym (map-id (marks_of MAX_OPTIONS n))) ∙ ones-mask_l (λ mark. mark) (marks_of MAX_OPTIONS n)

pub ruleset bit_marks = (at_option-none, at_option-past, length-marks_of, has-bit)

pub some_bit : (n : ℕ) → count_ones n ≡ 1 → 0 < n
some_bit n single = omega (arith, ones_le_self n)

-- no option of the set is above the highest bit that is set
pub last_mark : (n o : ℕ) → n < 2 ^ MAX_OPTIONS → IsTrue (has (marks_of MAX_OPTIONS n) o) → o ≤ MAX_OPTIONS - leading_zeros width n
last_mark n o h member =
    let long = leading_length MAX_OPTIONS n h in
    let zeros : leading_zeros width n + long.0 ≡ MAX_OPTIONS = long.1 in
    elim (cases_lt long.0 o) [
      | inl past ↦ absurd (omega (arith, ap one member, bit_of_has n o h (omega arith), bit_at_above n long.0 (o - 1) long.2 (omega arith)))
      | inr within ↦ omega (arith, zeros)
    ]
