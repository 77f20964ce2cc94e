-- The bytes that two texts have in common, and the lines of a text one after another.
use Rattle.std.proofs.Common.{◌≡◌, ℕ, zero, suc, ◌+◌, ◌<◌, ◌≤◌, ◌==◌, Bool, false, List, [], ◌∷◌, Some, None, length, add-one, drop, refl, ◌∙◌, arith}
use Rattle.std.specs.List.{slice_split}
use Rattle.std.specs.Prelude.{slice_get}
use Rattle.std.proofs.lemmas.Bool.{true≢false}
use Rattle.std.proofs.lemmas.List.{drop_all}
use Rattle.vote_poll_text.specs.Lines.{lines_of, without_last_feed}
use Rattle.vote_sheet.specs.Verify.{common_bytes}

abbrev is_feed : ℕ → Bool
is_feed byte = byte == 10

nothing_there : (text : List ℕ) → common_bytes text [] ≡ 0
nothing_there [] = refl
nothing_there (b ∷ bs) = refl

pub over_here : (text other : List ℕ) (k : ℕ) → length other ≤ k → common_bytes text (drop k other) ≡ 0
over_here text other k over = rw (drop_all k other over) (nothing_there text)

tail_at : (parts : List (List ℕ)) (k : ℕ) (part : List ℕ) (later : List (List ℕ)) → drop k parts ≡ part ∷ later → drop (suc k) parts ≡ later
tail_at [] zero part later is = cc
tail_at [] (suc k) part later is = cc
tail_at (first ∷ parts) zero part later is = cc
tail_at (first ∷ parts) (suc k) part later is = tail_at parts k part later is

-- after k parts, the next parts
pub after_part : (parts : List (List ℕ)) (k : ℕ) (rest after part : List ℕ) → drop k parts ≡ slice_split is_feed rest → slice_split is_feed rest ≡ part ∷ slice_split is_feed after → drop (k + 1) parts ≡ slice_split is_feed after
after_part parts k rest after part so_far next = rw add-one (tail_at parts k part (slice_split is_feed after) (so_far ∙ next))

pub part_at : (parts : List (List ℕ)) (k : ℕ) (part : List ℕ) (later : List (List ℕ)) → drop k parts ≡ part ∷ later → slice_get parts k ≡ Some part
part_at [] zero part later is = cc
part_at [] (suc k) part later is = cc
part_at (first ∷ parts) zero part later is = cc
part_at (first ∷ parts) (suc k) part later is = part_at parts k part later is

-- after the last part there is no part
pub no_part : (parts : List (List ℕ)) (k n : ℕ) (part : List ℕ) → drop k parts ≡ part ∷ [] → k < n → slice_get parts n ≡ None
no_part [] zero n part is later = cc
no_part [] (suc k) n part is later = cc
no_part (first ∷ parts) zero zero part is later = absurd (omega arith)
no_part (first ∷ parts) zero (suc n) part is later = let none : parts ≡ [] = cc in rw none refl
no_part (first ∷ parts) (suc k) zero part is later = absurd (omega arith)
no_part (first ∷ parts) (suc k) (suc n) part is later = no_part parts k n part is (omega arith)

-- the lines of a text that has some
pub lines_there : (text : List ℕ) → (length text == 0) ≡ false → lines_of text ≡ slice_split is_feed (without_last_feed text)
lines_there [] some = absurd (true≢false some)
lines_there (b ∷ bs) some = refl
