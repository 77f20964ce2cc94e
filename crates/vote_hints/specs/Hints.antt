-- What a hint is, its limits, and what calls say that add to a text.
use Rattle.std.specs.Prelude.{◌≡◌, [], ◌≤◌, ◌/◌, ℕ, List, ◌∷◌, ◌++◌, Result, OnOk, length, string_bytes}
use Rattle.std.specs.declared.string.String.{String}
use Rattle.vote_poll_text.specs.Lines.{IsUnbroken, line_feed}
use Rattle.vote_poll_text.specs.Shown.{shown}
use Rattle.vote_hints.specs.declared.TheConstants.{MAX_EDITS, MAX_HINT, MAX_SHOWN}

-- the limits of what is said, as docs/FORMATS.md writes them
pub record LimitsAreAsWritten : Type 0 where
  pub shown : MAX_SHOWN ≡ 60
  pub hint : MAX_HINT ≡ 4_000
  pub edits : MAX_EDITS ≡ 2

-- a hint is what is shown of some words, so it is printable; it is one line, and not long
pub record IsHint (hint : List ℕ) : Type 0 where
  pub words : List ℕ
  pub is_shown : hint ≡ shown (MAX_HINT / 4) words
  pub unbroken : IsUnbroken hint
  pub short : length hint ≤ MAX_HINT

-- these words as a hint, and a line feed
abbrev pub hint_line : List ℕ → List ℕ
hint_line words = shown (MAX_HINT / 4) words ++ line_feed

abbrev pub IsHintLine : List ℕ → Type 0
IsHintLine line = (hint : List ℕ) × IsHint hint × (line ≡ hint ++ line_feed)

-- a line of a file, and a mark below a place in it
abbrev pub IsExcerpt : List ℕ → Type 0
IsExcerpt text = (line : List ℕ) × (mark : List ℕ) × IsHintLine line × IsHintLine mark × (text ≡ line ++ mark)

-- a text was added of which this is said, and nothing else has changed
abbrev pub Adding : (List ℕ → Type 0) → List ℕ → List ℕ → Type 0
Adding Says before after = (added : List ℕ) × Says added × (after ≡ before ++ added)

-- a call that returned Ok did so
abbrev pub Tells : {Z X E : Type 0} → Result X E → String Z → (List ℕ → Type 0) → String Z → Type 0
Tells r before Says after = OnOk r (Adding Says (string_bytes before) (string_bytes after))

-- a line that says each of these, in their order
abbrev pub AreLinesFor : {X : Type 0} → (X → List ℕ → Type 0) → List X → List ℕ → Type 0
AreLinesFor Says [] text = text ≡ []
AreLinesFor Says (x ∷ xs) text = (line : List ℕ) × (rest : List ℕ) × Says x line × AreLinesFor Says xs rest × (text ≡ line ++ rest)
