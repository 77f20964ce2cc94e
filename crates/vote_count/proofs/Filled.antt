-- A loop fills a set with the options that pass a test, or a set of pairs with the pairs that pass it.
use Rattle.std.proofs.Common.{◌≡◌, ℕ, ◌+◌, ◌<◌, ◌≤◌, inl, inr, sym, subst, arith}
use Rattle.std.specs.Prelude.{◌↔◌, ◌⊎◌}
use Rattle.std.proofs.lemmas.Bool.{cases_eq}

-- the options that passed before this option, and this option as well
pub option_taken : (S T P : ℕ → Type 0) (a : ℕ) → ((x : ℕ) → S x ↔ (P x × (x < a))) → ((x : ℕ) → T x ↔ ((x ≡ a) ⊎ S x)) → P a → (x : ℕ) → T x ↔ (P x × (x < a + 1))
option_taken S T P a before more passes x = (
  λ h. elim ((more x).0 h) [ inl same ↦ (subst P (sym same) passes, omega arith) | inr old ↦ (((before x).0 old).0, omega (arith, ((before x).0 old).1)) ],
  λ h. (more x).1 (elim (cases_eq x a) [ inl same ↦ inl same | inr other ↦ inr ((before x).1 (h.0, omega (arith, h.1))) ]),
)

-- the options that passed before this option, if this option does not pass
pub option_left : (S P : ℕ → Type 0) (a : ℕ) → ((x : ℕ) → S x ↔ (P x × (x < a))) → ¬ P a → (x : ℕ) → S x ↔ (P x × (x < a + 1))
option_left S P a before fails x = (
  λ h. (((before x).0 h).0, omega (arith, ((before x).0 h).1)),
  λ h. elim (cases_eq x a) [ inl same ↦ absurd (fails (subst P same h.0)) | inr other ↦ (before x).1 (h.0, omega (arith, h.1)) ],
)

-- the first option of the pair is before `a`; or it is `a`, and the second is before `b`
abbrev pub IsBefore : ℕ → ℕ → ℕ → ℕ → Type 0
IsBefore a b x y = (x < a) ⊎ ((x ≡ a) × (y < b))

pub pair_taken : (S T P : ℕ → ℕ → Type 0) (a b : ℕ) → ((x y : ℕ) → S x y ↔ (P x y × IsBefore a b x y)) → ((x y : ℕ) → T x y ↔ (((x ≡ a) × (y ≡ b)) ⊎ S x y)) → P a b
    → (x y : ℕ) → T x y ↔ (P x y × IsBefore a (b + 1) x y)
pair_taken S T P a b before more passes x y = (
  λ h. elim ((more x y).0 h) [
    | inl same ↦ (subst (λ (v : ℕ). P v y) (sym same.0) (subst (P a) (sym same.1) passes), inr (same.0, omega (arith, same.1)))
    | inr old ↦ (((before x y).0 old).0, elim ((before x y).0 old).1 [ inl above ↦ inl above | inr row ↦ inr (row.0, omega (arith, row.1)) ])
  ],
  λ h. (more x y).1 (elim h.1 [
    | inl above ↦ inr ((before x y).1 (h.0, inl above))
    | inr row ↦ elim (cases_eq y b) [ inl same ↦ inl (row.0, same) | inr other ↦ inr ((before x y).1 (h.0, inr (row.0, omega (arith, row.1)))) ]
  ]),
)

pub pair_left : (S P : ℕ → ℕ → Type 0) (a b : ℕ) → ((x y : ℕ) → S x y ↔ (P x y × IsBefore a b x y)) → ¬ P a b → (x y : ℕ) → S x y ↔ (P x y × IsBefore a (b + 1) x y)
pair_left S P a b before fails x y = (
  λ h. (((before x y).0 h).0, elim ((before x y).0 h).1 [ inl above ↦ inl above | inr row ↦ inr (row.0, omega (arith, row.1)) ]),
  λ h. (before x y).1 (
    h.0,
    elim h.1 [
      | inl above ↦ inl above
      | inr row ↦ elim (cases_eq y b) [ inl same ↦ absurd (fails (subst (P a) same (subst (λ (v : ℕ). P v y) row.0 h.0))) | inr other ↦ inr (row.0, omega (arith, row.1)) ]
    ],
  ),
)

-- the row of `a` begins
pub row_begun : (S P : ℕ → ℕ → Type 0) (a : ℕ) → ((x y : ℕ) → P x y → 1 ≤ y) → ((x y : ℕ) → S x y ↔ (P x y × (x < a))) → (x y : ℕ) → S x y ↔ (P x y × IsBefore a 1 x y)
row_begun S P a low before x y = (
  λ h. (((before x y).0 h).0, inl ((before x y).0 h).1),
  λ h. (before x y).1 (h.0, elim h.1 [ inl above ↦ above | inr row ↦ absurd (omega (arith, row.1, low x y h.0)) ]),
)

-- the row of `a` is done
pub row_done : (S P : ℕ → ℕ → Type 0) (a b end : ℕ) → end ≤ b → ((x y : ℕ) → P x y → y < end) → ((x y : ℕ) → S x y ↔ (P x y × IsBefore a b x y)) → (x y : ℕ) → S x y ↔ (P x y × (x < a + 1))
row_done S P a b end all high before x y = (
  λ h. (((before x y).0 h).0, elim ((before x y).0 h).1 [ inl above ↦ omega (arith, above) | inr row ↦ omega (arith, row.0) ]),
  λ h. (before x y).1 (h.0, elim (cases_eq x a) [ inl same ↦ inr (same, omega (arith, high x y h.0)) | inr other ↦ inl (omega (arith, h.1)) ]),
)

-- one option `d` is in the set, with the other options that passed before this option, and this option as well
pub other_taken : (S T P : ℕ → Type 0) (d a : ℕ) → ((x : ℕ) → S x ↔ ((x ≡ d) ⊎ ((1 ≤ x) × (x < a) × P x))) → ((x : ℕ) → T x ↔ ((x ≡ a) ⊎ S x)) → 1 ≤ a → P a
    → (x : ℕ) → T x ↔ ((x ≡ d) ⊎ ((1 ≤ x) × (x < a + 1) × P x))
other_taken S T P d a before more low passes x = (
  λ h. elim ((more x).0 h) [
    | inl same ↦ inr (omega arith, omega arith, subst P (sym same) passes)
    | inr old ↦ elim ((before x).0 old) [ inl first ↦ inl first | inr other ↦ inr (other.0, omega (arith, other.1), other.2) ]
  ],
  λ h. (more x).1 (elim h [
    | inl first ↦ inr ((before x).1 (inl first))
    | inr other ↦ elim (cases_eq x a) [ inl same ↦ inl same | inr differs ↦ inr ((before x).1 (inr (other.0, omega (arith, other.1), other.2))) ]
  ]),
)

-- the same, if this option does not pass
pub other_left : (S P : ℕ → Type 0) (d a : ℕ) → ((x : ℕ) → S x ↔ ((x ≡ d) ⊎ ((1 ≤ x) × (x < a) × P x))) → ¬ P a → (x : ℕ) → S x ↔ ((x ≡ d) ⊎ ((1 ≤ x) × (x < a + 1) × P x))
other_left S P d a before fails x = (
  λ h. elim ((before x).0 h) [ inl first ↦ inl first | inr other ↦ inr (other.0, omega (arith, other.1), other.2) ],
  λ h. (before x).1 (elim h [
    | inl first ↦ inl first
    | inr other ↦ elim (cases_eq x a) [ inl same ↦ absurd (fails (subst P same other.2)) | inr differs ↦ inr (other.0, omega (arith, other.1), other.2) ]
  ]),
)
