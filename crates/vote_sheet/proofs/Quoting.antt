-- A name within quotes, character by character.
use Rattle.std.proofs.Common.{◌≡◌, ◌≢◌, ℕ, ◌+◌, ◌/◌, ◌%◌, ◌≤◌, List, [], ◌∷◌, ◌++◌, inl, inr, refl, map, sym, ap, ◌∙◌, arith, append_assoc}
use Rattle.std.specs.Char.{encode_utf8}
use Rattle.std.specs.Str.{chars, encode_utf8_all, IsUtf8}
use Rattle.std.proofs.lemmas.Bool.{cases_lt, le-ltb, lt-ltb, ne_eqb}
use Rattle.std.proofs.lemmas.List.Concat.{flat_map-append}
use Rattle.std.proofs.lemmas.Str.{chars-encodes, encodes-append}
use Rattle.vote_sheet.specs.Picture.{quoted, quoted_byte}
use mathlib.Core.List.{append-nil}

plain_byte : (b : ℕ) → b ≢ 34 → b ≢ 92 → quoted_byte b ≡ b ∷ []
unfolding quoted_byte
plain_byte b no_quote no_backslash = rw (ne_eqb b 34 no_quote, ne_eqb b 92 no_backslash) refl

high_byte : (b : ℕ) → 128 ≤ b → quoted_byte b ≡ b ∷ []
high_byte b high = plain_byte b (λ e. absurd (omega arith)) (λ e. absurd (omega arith))

-- the bytes of characters other than quotes and backslashes are unchanged
pub plain_char : (c : ℕ) → c ≢ 34 → c ≢ 92 → quoted (encode_utf8 c) ≡ encode_utf8 c
unfolding quoted encode_utf8
plain_char c no_quote no_backslash =
    elim (cases_lt c 128) [
      | inl ascii ↦ rw (lt-ltb c 128 ascii, plain_byte c no_quote no_backslash) refl
      | inr high ↦ elim (cases_lt c 2048) [
        | inl two ↦ rw (le-ltb c 128 high, lt-ltb c 2048 two, high_byte (192 + c / 64) (omega arith), high_byte (128 + c % 64) (omega arith)) refl
        | inr above ↦ elim (cases_lt c 65536) [
          | inl three ↦ rw (le-ltb c 128 high, le-ltb c 2048 above, lt-ltb c 65536 three, high_byte (224 + c / 4096) (omega arith), high_byte (128 + c / 64 % 64) (omega arith), high_byte (128 + c % 64) (omega arith)) refl
          | inr four ↦ rw (le-ltb c 128 high, le-ltb c 2048 above, le-ltb c 65536 four, high_byte (240 + c / 262144) (omega arith), high_byte (128 + c / 4096 % 64) (omega arith), high_byte (128 + c / 64 % 64) (omega arith), high_byte (128 + c % 64) (omega arith)) refl
        ]
      ]
    ]

-- one more character
pub one_char_more : (before : List ℕ) (cs : List ℕ) (c : ℕ) (t u : List ℕ) → t ≡ before ++ quoted (encode_utf8_all cs) → u ≡ t ++ quoted (encode_utf8 c) → u ≡ before ++ quoted (encode_utf8_all (cs ++ c ∷ []))
unfolding quoted
one_char_more before cs c t u so_far next =
    next ∙ ap (λ x. x ++ quoted (encode_utf8 c)) so_far
    ∙ append_assoc before (quoted (encode_utf8_all cs)) (quoted (encode_utf8 c))
    ∙ ap (λ x. before ++ x) (sym (flat_map-append quoted_byte (encode_utf8_all cs) (encode_utf8 c)))
    ∙ ap (λ x. before ++ quoted x) (ap (λ x. encode_utf8_all cs ++ x) (sym (append-nil (encode_utf8 c))) ∙ sym (encodes-append cs (c ∷ [])))

pub nothing_more : (before : List ℕ) → before ≡ before ++ quoted []
unfolding quoted
nothing_more before = sym (append-nil before)

pub same_list : (xs : List ℕ) → xs ≡ map (λ x. x) xs
same_list [] = refl
same_list (x ∷ xs) = ap (λ ys. x ∷ ys) (same_list xs)

-- the characters of a text spell it
pub chars_spell : (text : List ℕ) → IsUtf8 text → encode_utf8_all (chars text) ≡ text
chars_spell text is = ap (λ t. encode_utf8_all (chars t)) (sym is.1.1) ∙ ap encode_utf8_all (chars-encodes is.0 is.1.0) ∙ is.1.1

pub quote_char : (c : ℕ) → c ≡ 34 → quoted (encode_utf8 c) ≡ 92 ∷ 34 ∷ []
unfolding quoted quoted_byte encode_utf8
quote_char c is = rw is refl

pub backslash_char : (c : ℕ) → c ≡ 92 → quoted (encode_utf8 c) ≡ 92 ∷ 92 ∷ []
unfolding quoted quoted_byte encode_utf8
backslash_char c is = rw is refl

pub ruleset quoting = (quote_char, backslash_char, plain_char)
