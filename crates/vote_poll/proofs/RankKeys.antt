-- The two tables by which a rank is read, and the rank that its bytes spell.
use Rattle.std.proofs.Common.{◌≡◌, ◌≢◌, ◌+◌, ◌*◌, ◌/◌, ◌%◌, ◌-◌, ◌<◌, ◌≤◌, ℕ, List, [], ◌∷◌, map, refl, ap, ap₂, sym, ◌∙◌, get_or, Option, Some, None, arith, true, false, cond, ◌==◌, ◌&&◌, inl, inr, nat_lt}
use Rattle.std.specs.List.{range_with_len}
use Rattle.std.proofs.lemmas.List.FromFn.{get_or-map-range_with_len}
use Rattle.std.proofs.lemmas.Bool.{cases_Bool}
use Rattle.std.proofs.lemmas.Bool.Decides.{nat_tests}
use Rattle.vote_poll_text.specs.Names.{is_within}
use Rattle.vote_poll.specs.Parsing.{kind_of}
use Rattle.vote_poll.specs.Readings.{rank_in}
use Rattle.vote_poll.specs.SortKeys.{rank_of_key}
use Rattle.vote_poll.specs.Spelling.{rank_bytes}
use Rattle.vote_poll.specs.declared.rank_key.TheConstants.{KEYS, KINDS, LENGTHS, PAIRS}
use Rattle.vote_poll.proofs.NamesLaws.{within_bounds}

kinds-table : KINDS ≡ map kind_of (range_with_len 0 256)
kinds-table = refl

pub kinds-at : (b : ℕ) → b < 256 → get_or KINDS b 0 ≡ kind_of b
kinds-at b fits = ap (λ (xs : List ℕ). get_or xs b 0) kinds-table ∙ get_or-map-range_with_len kind_of 0 256 b b 0 fits (omega arith)

-- the table's entry at two kinds of bytes
abbrev key_at : ℕ → ℕ → ℕ
key_at first second =
    cond (is_within 1 9 first) (cond (nat_lt second 10) (10 * first + second) (cond (second == 10) first 0))
    (cond ((first == 11) && (second == 10)) 255 0)

keys-table : KEYS ≡ map (λ k. key_at (k / 16) (k % 16)) (range_with_len 0 208)
keys-table = refl

keys-at : (first second : ℕ) → first < 13 → second < 16 → get_or KEYS (16 * first + second) 0 ≡ key_at first second
keys-at first second few small =
    let here : get_or KEYS (16 * first + second) 0 ≡ key_at ((16 * first + second) / 16) ((16 * first + second) % 16) =
    ap (λ (xs : List ℕ). get_or xs (16 * first + second) 0) keys-table ∙ get_or-map-range_with_len (λ k. key_at (k / 16) (k % 16)) 0 208 (16 * first + second) (16 * first + second) 0 (omega arith) (omega arith) in
    let row : (16 * first + second) / 16 ≡ first = omega arith in
    let column : (16 * first + second) % 16 ≡ second = omega arith in
    here ∙ rw (row, column)

-- a digit, a comma, a hyphen, or any other byte
pub kind-small : (b : ℕ) → kind_of b < 13
kind-small b = grind (arith, nat_tests)

-- the rank of a key; 0 has none
abbrev spelled : ℕ → Option (Option ℕ)
spelled key = cond (key == 0) None (Some (rank_of_key key))

spelled-number : (n : ℕ) → 1 ≤ n → n ≤ 99 → spelled n ≡ Some (Some n)
spelled-number n low high =
    let some : (n == 0) ≡ false = grind (arith, nat_tests) in
    let ranked : (n == 255) ≡ false = grind (arith, nat_tests) in
    rw (some, ranked)

some-key : (key : ℕ) → key ≢ 0 → Some (rank_of_key key) ≡ spelled key
some-key key some = let other : (key == 0) ≡ false = grind (arith, nat_tests) in rw other

digit-comma : (a : ℕ) → is_within 49 57 a ≡ true → spelled (key_at (kind_of a) 10) ≡ rank_in (a ∷ [])
digit-comma a digit =
    let kind : kind_of a ≡ a - 48 = grind (arith, nat_tests) in
    let row : is_within 1 9 (a - 48) ≡ true = grind (arith, nat_tests) in
    let other : (a == 45) ≡ false = grind (arith, nat_tests) in
    let bounds = within_bounds 49 57 a digit in
    rw (kind, row, other, digit) (spelled-number (a - 48) (omega (arith, bounds.0)) (omega (arith, bounds.1)))

other-comma : (a : ℕ) → is_within 49 57 a ≡ false → (a == 45) ≡ false → spelled (key_at (kind_of a) 10) ≡ rank_in (a ∷ [])
other-comma a digit hyphen =
    let row : is_within 1 9 (kind_of a) ≡ false = grind (arith, nat_tests) in
    let kind : (kind_of a == 11) ≡ false = grind (arith, nat_tests) in
    rw (row, kind, hyphen, digit)

two-digits : (a b : ℕ) → is_within 49 57 a ≡ true → is_within 48 57 b ≡ true → spelled (key_at (kind_of a) (kind_of b)) ≡ rank_in (a ∷ b ∷ [])
two-digits a b first second =
    let kind_a : kind_of a ≡ a - 48 = grind (arith, nat_tests) in
    let kind_b : kind_of b ≡ b - 48 = grind (arith, nat_tests) in
    let row : is_within 1 9 (a - 48) ≡ true = grind (arith, nat_tests) in
    let column : nat_lt (b - 48) 10 ≡ true = grind (arith, nat_tests) in
    let high = within_bounds 49 57 a first in
    let low = within_bounds 48 57 b second in
    rw (kind_a, kind_b, row, column, first, second) (spelled-number (10 * (a - 48) + (b - 48)) (omega (arith, high.0)) (omega (arith, high.1, low.1)))

digit-other : (a b : ℕ) → is_within 49 57 a ≡ true → is_within 48 57 b ≡ false → (b == 44) ≡ false → spelled (key_at (kind_of a) (kind_of b)) ≡ rank_in (a ∷ b ∷ [])
digit-other a b first second comma =
    let row : is_within 1 9 (kind_of a) ≡ true = grind (arith, nat_tests) in
    let digit : nat_lt (kind_of b) 10 ≡ false = grind (arith, nat_tests) in
    let kind : (kind_of b == 10) ≡ false = grind (arith, nat_tests) in
    rw (row, digit, kind, first, second)

no-digit : (a b : ℕ) → is_within 49 57 a ≡ false → (b == 44) ≡ false → spelled (key_at (kind_of a) (kind_of b)) ≡ rank_in (a ∷ b ∷ [])
no-digit a b first comma =
    let row : is_within 1 9 (kind_of a) ≡ false = grind (arith, nat_tests) in
    let kind : (kind_of b == 10) ≡ false = grind (arith, nat_tests) in
    elim (cases_Bool (kind_of a == 11)) [
      | inl hyphen ↦ rw (row, hyphen, kind, first)
      | inr other ↦ rw (row, other, first)
    ]

key-comma : (a : ℕ) → spelled (key_at (kind_of a) 10) ≡ rank_in (a ∷ [])
key-comma a =
    elim (cases_Bool (is_within 49 57 a)) [
      | inl digit ↦ digit-comma a digit
      | inr other ↦ elim (cases_Bool (a == 45)) [
        | inl hyphen ↦ let same : a ≡ 45 = grind (arith, nat_tests, hyphen) in rw same
        | inr none ↦ other-comma a other none
      ]
    ]

key-pair : (a b : ℕ) → (b == 44) ≡ false → spelled (key_at (kind_of a) (kind_of b)) ≡ rank_in (a ∷ b ∷ [])
key-pair a b comma =
    elim (cases_Bool (is_within 49 57 a)) [
      | inl first ↦ elim (cases_Bool (is_within 48 57 b)) [
        | inl second ↦ two-digits a b first second
        | inr other ↦ digit-other a b first other comma
      ]
      | inr none ↦ no-digit a b none comma
    ]

key-spells : (a b : ℕ) → spelled (key_at (kind_of a) (kind_of b)) ≡ rank_in (rank_bytes a b)
key-spells a b =
    elim (cases_Bool (b == 44)) [
      | inl comma ↦ let same : b ≡ 44 = grind (arith, nat_tests, comma) in rw same (key-comma a)
      | inr other ↦ let both : rank_bytes a b ≡ a ∷ b ∷ [] = rw other in key-pair a b other ∙ ap rank_in (sym both)
    ]

key-found : (a b i j : ℕ) → i ≡ kind_of a → j ≡ kind_of b → spelled (get_or KEYS (16 * i + j) 0) ≡ rank_in (rank_bytes a b)
key-found a b i j first second =
    let few : i < 13 = omega (arith, kind-small a) in
    let small : j < 16 = omega (arith, kind-small b) in
    ap spelled (keys-at i j few small) ∙ rw (first, second) (key-spells a b)

pub key-none : (a b i j : ℕ) → i ≡ kind_of a → j ≡ kind_of b → get_or KEYS (16 * i + j) 0 ≡ 0 → None ≡ rank_in (rank_bytes a b)
key-none a b i j first second zero = ap spelled (sym zero) ∙ key-found a b i j first second

pub key-some : (a b i j : ℕ) → i ≡ kind_of a → j ≡ kind_of b → get_or KEYS (16 * i + j) 0 ≢ 0 → Some (rank_of_key (get_or KEYS (16 * i + j) 0)) ≡ rank_in (rank_bytes a b)
key-some a b i j first second some = some-key (get_or KEYS (16 * i + j) 0) some ∙ key-found a b i j first second

-- ---- the bytes that spell the rank of a sort key
-- the rank that the two bytes of a sort key spell
abbrev spelled_at : ℕ → Option (Option ℕ)
spelled_at key = rank_in (rank_bytes (get_or PAIRS key 0 % 256) (get_or PAIRS key 0 / 256))

abbrev wanted_at : ℕ → Option (Option ℕ)
wanted_at key = cond (get_or PAIRS key 0 == 65536) (spelled_at key) (Some (rank_of_key key))

pairs-table : map spelled_at (range_with_len 0 256) ≡ map wanted_at (range_with_len 0 256)
pairs-table = refl

lengths-table : LENGTHS ≡ map (λ key. cond (get_or PAIRS key 0 / 256 == 44) 1 2) (range_with_len 0 256)
lengths-table = refl

pub pair-rank : (key first second : ℕ) → key < 256 → first < 256 → second < 256 → first + 256 * second ≡ get_or PAIRS key 0 → rank_in (rank_bytes first second) ≡ Some (rank_of_key key)
pair-rank key first second fits small few is =
    let row : get_or PAIRS key 0 % 256 ≡ first = omega arith in
    let column : get_or PAIRS key 0 / 256 ≡ second = omega arith in
    let some : (get_or PAIRS key 0 == 65536) ≡ false = grind (arith, nat_tests) in
    let same : spelled_at key ≡ wanted_at key =
    sym (get_or-map-range_with_len spelled_at 0 256 key key None fits (omega arith)) ∙ ap (λ ranks. get_or ranks key None) pairs-table ∙ get_or-map-range_with_len wanted_at 0 256 key key None fits (omega arith) in
    ap₂ (λ a b. rank_in (rank_bytes a b)) (sym row) (sym column) ∙ same ∙ ap (λ t. cond t (spelled_at key) (Some (rank_of_key key))) some

pub pair-length : (key first second : ℕ) → key < 256 → first < 256 → second < 256 → first + 256 * second ≡ get_or PAIRS key 0 → get_or LENGTHS key 0 ≡ cond (second == 44) 1 2
pair-length key first second fits small few is =
    let column : get_or PAIRS key 0 / 256 ≡ second = omega arith in
    ap (λ (xs : List ℕ). get_or xs key 0) lengths-table ∙ get_or-map-range_with_len (λ k. cond (get_or PAIRS k 0 / 256 == 44) 1 2) 0 256 key key 0 fits (omega arith) ∙ ap (λ b. cond (b == 44) 1 2) column
