-- The names of a poll, of its options and of its voters. Two names are the same exactly when they have the same bytes.
use Rattle.std.specs.Prelude.{ℕ, ◌-◌, List, Bool, ◌&&◌, ◌||◌, ◌==◌, not, length, nat_le, slice_index}
use Rattle.std.specs.List.{list_all}
use Rattle.std.specs.Str.{byte}
use Rattle.vote_poll_text.specs.declared.TheConstants.{MAX_VOTER_NAME, MAX_TITLE, MAX_OPTION_NAME}

-- the number is at least low and at most high
abbrev pub is_within : ℕ → ℕ → ℕ → Bool
is_within low high b = nat_le low b && nat_le b high

-- a small letter, a digit, a full stop or a hyphen
abbrev pub is_voter_byte : ℕ → Bool
is_voter_byte b = is_within (byte "a") (byte "z") b || is_within (byte "0") (byte "9") b || b == byte "." || b == byte "-"

-- 1 to MAX_VOTER_NAME of these bytes
abbrev pub is_voter_name : List ℕ → Bool
is_voter_name name = is_within 1 MAX_VOTER_NAME (length name) && list_all is_voter_byte name

-- a printable ASCII character or a space
abbrev pub is_printable : ℕ → Bool
is_printable b = is_within 0x20 0x7E b

-- 1 to MAX_TITLE printable bytes
abbrev pub is_title : List ℕ → Bool
is_title text = is_within 1 MAX_TITLE (length text) && list_all is_printable text

-- the name begins or ends with a space
abbrev pub has_outer_space : List ℕ → Bool
has_outer_space name = slice_index name 0 == byte " " || slice_index name (length name - 1) == byte " "

-- 1 to MAX_OPTION_NAME printable bytes, without a space at either end
abbrev pub is_option_name : List ℕ → Bool
is_option_name name = is_within 1 MAX_OPTION_NAME (length name) && list_all is_printable name && not (has_outer_space name)
