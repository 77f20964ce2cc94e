-- The parts of a fault line, after `debvote: `.
use Rattle.std.specs.Prelude.{◌≤◌, ℕ, [], ◌++◌, Option, Some, None, decimal, length}
use Rattle.std.proofs.Common.{Bor}
use Rattle.vote_poll_text.specs.Texts.{Text}

-- the digits of a number, if there is one
abbrev pub number_text : Option ℕ → Text
number_text None = []
number_text (Some n) = decimal n

-- a text, a number if there is one, and the rest
abbrev pub LineParts : Type 0
LineParts = Bor Text × Option ℕ × Bor Text

abbrev pub line_text : LineParts → Text
line_text parts = parts.0.now ++ number_text parts.1 ++ parts.2.now

-- they have room in a line
abbrev pub AreShort : LineParts → Type 0
AreShort parts = (length parts.0.now ≤ 40) × (length parts.2.now ≤ 40)
