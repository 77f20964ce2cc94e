-- What a format with a width writes, in the terms of the sheet.
use Rattle.std.proofs.Common.{◌≡◌, ◌-◌, ◌^◌, ℕ, zero, suc, [], ◌∷◌, replicate, refl, ap, decimal}
use Rattle.std.proofs.Math.Nat.{sub-zero, sub_self}
use Rattle.std.specs.List.{repeat}
use Rattle.std.specs.Char.{encode_utf8}
use Rattle.std.specs.Fmt.{char_count, format_spec, padded_integral, styled_decimal}
use Rattle.vote_sheet.specs.Sheet.{right}
use mathlib.Core.List.{append-nil}

repeat-byte : (n byte : ℕ) → repeat n (byte ∷ []) ≡ replicate n byte
repeat-byte zero byte = refl
repeat-byte (suc n) byte = ap (λ bytes. byte ∷ bytes) (repeat-byte n byte)

right_in_3 : (n : ℕ) → styled_decimal (format_spec 32 3 0 3 (2 ^ 64 - 1)) n ≡ right 3 (decimal n)
unfolding right padded_integral char_count encode_utf8
right_in_3 n = simp (sub-zero, sub_self, append-nil, repeat-byte)

right_in_6 : (n : ℕ) → styled_decimal (format_spec 32 3 0 6 (2 ^ 64 - 1)) n ≡ right 6 (decimal n)
unfolding right padded_integral char_count encode_utf8
right_in_6 n = simp (sub-zero, sub_self, append-nil, repeat-byte)

-- `{:>3}` and `{:>6}` of a number
pub number_in_3 : (spec : _) (n : ℕ) → spec ≡ format_spec 32 3 0 3 (2 ^ 64 - 1) → styled_decimal spec n ≡ right 3 (decimal n)
number_in_3 spec n e = rw e (right_in_3 n)

pub number_in_6 : (spec : _) (n : ℕ) → spec ≡ format_spec 32 3 0 6 (2 ^ 64 - 1) → styled_decimal spec n ≡ right 6 (decimal n)
number_in_6 spec n e = rw e (right_in_6 n)
