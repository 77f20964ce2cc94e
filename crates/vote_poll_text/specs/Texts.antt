-- Texts are lists of bytes.
use Rattle.std.specs.Prelude.{ℕ, List, [], ◌∷◌, ◌++◌, codes}

-- a text is its bytes
abbrev pub Text : Type 0
Text = List ℕ

-- a line of these pieces, with its line feed
abbrev pub line : List Text → Text
line [] = codes "\n"
line (piece ∷ pieces) = piece ++ line pieces
