-- What a file is by its beginning.
use Rattle.std.specs.Prelude.{ℕ, Bool, false, List, [], ◌∷◌, ◌++◌, Option, Some, None, ◌==◌, ◌&&◌, ◌||◌, if◌then◌else◌, codes, drop, nat_eq, take}
use Rattle.std.specs.List.{list_any, starts_with}
use Rattle.vote_poll_text.specs.Names.{is_printable}

-- of the first two bytes one is printable, and the other is a zero
abbrev pub begins_as_utf_16 : List ℕ → Bool
begins_as_utf_16 (a ∷ b ∷ rest) = (is_printable a && b == 0) || (a == 0 && is_printable b)
begins_as_utf_16 other = false

-- What the file is with whose sign the text begins, or that has a zero among its first bytes. The sign of UTF-32 may begin with that of UTF-16.
abbrev pub file_kind : List ℕ → Option (List ℕ)
file_kind text =
    let begins : List ℕ → Bool = starts_with nat_eq text in
    if begins (0xFF ∷ 0xFE ∷ 0 ∷ 0 ∷ []) || begins (0 ∷ 0 ∷ 0xFE ∷ 0xFF ∷ []) then Some (codes "UTF-32")
    else if begins (0xFF ∷ 0xFE ∷ []) || begins (0xFE ∷ 0xFF ∷ []) then Some (codes "UTF-16")
    else if begins (codes "PK" ++ 3 ∷ 4 ∷ []) then Some (codes "a ZIP file, as of word processors and spreadsheets")
    else if begins (codes "%PDF") then Some (codes "a PDF file")
    else if begins (codes "{\\rtf") then Some (codes "an RTF file")
    else if begins (0xD0 ∷ 0xCF ∷ 0x11 ∷ 0xE0 ∷ []) then Some (codes "an old Word or Excel file")
    else if begins_as_utf_16 text then Some (codes "UTF-16")
    else if list_any (λ b. b == 0) (take 16 text) then Some (codes "no text")
    else None

-- the text without a byte-order mark at its beginning
abbrev pub unmarked : List ℕ → List ℕ
unmarked text = if starts_with nat_eq text (0xEF ∷ 0xBB ∷ 0xBF ∷ []) then drop 3 text else text
