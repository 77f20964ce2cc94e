-- A shell command that mends a file.
use Rattle.std.specs.Prelude.{ℕ, ◌==◌, ◌&&◌, ◌||◌, not, if◌then◌else◌, Bool, true, false, List, ◌∷◌, ◌++◌, [], Option, Some, None, codes}
use Rattle.std.specs.List.{concat, list_any}
use Rattle.std.specs.Str.{byte}
use Rattle.vote_poll_text.specs.Names.{is_printable, is_within}

-- a shell takes the byte as it is, without quotes
abbrev pub is_plain : ℕ → Bool
is_plain b =
    is_within (byte "a") (byte "z") b || is_within (byte "A") (byte "Z") b || is_within (byte "0") (byte "9") b
    || b == byte "." || b == byte "/" || b == byte "_" || b == byte "-"

-- the byte may be in single quotes on one line: it is printable and not a single quote
abbrev pub is_tellable : ℕ → Bool
is_tellable b = is_printable b && not (b == 39)

-- the name of a file as a word for a shell, in single quotes if it needs them
unfoldable pub shell_word : List ℕ → List ℕ
shell_word name = if list_any (λ b. not (is_plain b)) name then concat (codes "'" ∷ name ∷ codes "'" ∷ []) else name

-- the command that writes a changed copy of a file: `first < name`, then `next`, then ` > name.new`
unfoldable pub command_text : List ℕ → List ℕ → List ℕ → List ℕ
command_text first next name = concat (first ∷ codes " < " ∷ shell_word name ∷ next ∷ codes " > " ∷ shell_word name ∷ codes ".new" ∷ [])

-- ` with ` and the command; nothing if the name has a byte that may not be in single quotes
abbrev pub told_command : List ℕ → List ℕ → List ℕ → Bool → List ℕ
told_command first next name true = []
told_command first next name false = codes " with " ++ command_text first next name

-- how to mend the file, and the command for it if the file has a name that single quotes can hold
unfoldable pub mending_text : List ℕ → List ℕ → List ℕ → Option (List ℕ) → List ℕ
mending_text cure first next None = cure
mending_text cure first next (Some name) = cure ++ told_command first next name (list_any (λ b. not (is_tellable b)) name)
