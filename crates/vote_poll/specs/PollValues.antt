-- The values that a poll's keys can have, and their meaning.
use Rattle.std.specs.Prelude.{ℕ, List, Bool, ◌&&◌, if◌then◌else◌, ℤ, nat_abs, pos, int_le, Option, Some, None, codes}
use Rattle.std.specs.Str.{bytes_eq}
use Rattle.vote_poll.specs.declared.TheConstants.{MAX_RATIO, MAX_QUORUM_MULTIPLE}
use Rattle.vote_poll_text.specs.declared.lines.TheConstants.{MAX_LINES}
use Rattle.vote_poll.specs.declared.wording.Wording.{Wording}
use Rattle.vote_poll.specs.declared.wording.Wording.TheVariants.{AtLeast, MoreThan}

-- the number is at least low and at most high
abbrev pub is_integer_within : ℕ → ℕ → ℤ → Bool
is_integer_within low high z = int_le (pos low) z && int_le z (pos high)

-- the integer as a number, if it is from low to high
abbrev pub number_within : ℕ → ℕ → ℤ → Option ℕ
number_within low high z = if is_integer_within low high z then Some (nat_abs z) else None

abbrev pub ratio_in : ℤ → Option ℕ
ratio_in z = number_within 1 MAX_RATIO z

abbrev pub quorum_in : ℤ → Option ℕ
quorum_in z = number_within 0 MAX_QUORUM_MULTIPLE z

abbrev pub last_envelope_in : ℤ → Option ℕ
last_envelope_in z = number_within 0 MAX_LINES z

-- the wording with this name
abbrev pub wording_in : List ℕ → Option Wording
wording_in text = if bytes_eq text (codes "at_least") then Some AtLeast else (if bytes_eq text (codes "more_than") then Some MoreThan else None)
