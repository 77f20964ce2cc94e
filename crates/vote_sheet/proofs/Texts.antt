-- What several writes append to a text.
use Rattle.std.proofs.Common.{◌≡◌, ◌+◌, ◌-◌, ◌≤◌, ◌++◌, ◌∙◌, ℕ, List, [], Some, add-one, refl, sym}
use Rattle.std.specs.Prelude.{slice_get}
use Rattle.std.proofs.lemmas.Option.{get_or_from_slice_get}
use Rattle.vote_poll.proofs.OptionLaws.{at_option-in}
use Rattle.vote_sheet.specs.Sheet.{Text, each, name_of}

-- the text of the next number comes after the texts up to this number
pub each_one_more : (n : ℕ) (text : ℕ → Text) → each (n + 1) text ≡ each n text ++ text (n + 1)
each_one_more n text = rw add-one refl

-- the name at the index of an option
pub name_found : (names : List Text) (o : ℕ) (name : Text) → 1 ≤ o → slice_get names (o - 1) ≡ Some name → name ≡ name_of names o
name_found names o name least h = sym (at_option-in names o [] least ∙ get_or_from_slice_get names (o - 1) name [] h)
