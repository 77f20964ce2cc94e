-- How a line of text shows the bytes of a file.
use Rattle.std.specs.Prelude.{ℕ, ◌+◌, ◌-◌, ◌/◌, ◌%◌, List, [], ◌∷◌, ◌++◌, codes, if◌then◌else◌, nat_lt, take}
use Rattle.std.specs.List.{flat_map}
use Rattle.std.specs.Str.{byte}
use Rattle.vote_poll_text.specs.Names.{is_printable}

-- the hexadecimal digit with this value
abbrev pub hex_digit : ℕ → ℕ
hex_digit value = if nat_lt value 10 then byte "0" + value else byte "A" + (value - 10)

-- a printable ASCII character or a space is itself; any other byte is a backslash, an x and its two hexadecimal digits
unfoldable pub shown_byte : ℕ → List ℕ
shown_byte b = if is_printable b then b ∷ [] else codes "\\x" ++ hex_digit (b / 16) ∷ hex_digit (b % 16) ∷ []

-- at most the first `most` bytes of the text, each as it is shown
abbrev pub shown : ℕ → List ℕ → List ℕ
shown most text = flat_map shown_byte (take most text)
