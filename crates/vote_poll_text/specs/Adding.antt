-- The promise of a call that appends to a text.
use Rattle.std.specs.Prelude.{◌≡◌, ℕ, ◌++◌, List, Result, OnOk, string_bytes}
use Rattle.std.specs.declared.string.String.{String}

-- if the call returned Ok, it has appended these bytes to the text, and changed nothing else in it
abbrev pub Adds : {Z A F : Type 0} → Result A F → String Z → List ℕ → String Z → Type 0
Adds result before bytes after = OnOk result (string_bytes after ≡ string_bytes before ++ bytes)
