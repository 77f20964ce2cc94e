-- What is shown of any words is a hint.
use Rattle.std.proofs.Common.{◌≡◌, ◌≢◌, ◌/◌, ◌∙◌, ◌≤◌, ◌*◌, ◌∷◌, ◌==◌, [], ℕ, Bool, List, not, true, take, length, refl, arith, length-append}
use Rattle.std.proofs.lemmas.List.{length-take}
use Rattle.std.specs.List.{flat_map, list_all}
use Rattle.std.proofs.lemmas.Bool.Decides.{nat_tests}
use Rattle.std.proofs.lemmas.List.Elements.{All-weaker}
use Rattle.std.proofs.lemmas.List.Folds.{list_all-append}
use Rattle.std.proofs.lemmas.List.Sums.{AllPass-from_list_all}
use Rattle.vote_poll_text.specs.Shown.{shown, shown_byte}
use Rattle.vote_hints.specs.Hints.{IsHint, IsHintLine, hint_line}
use Rattle.vote_hints.specs.declared.TheConstants.{MAX_HINT}

abbrev stays : ℕ → Bool
stays byte = not (byte == 10)

-- a byte as it is shown breaks no line, and is at most four
shown_byte_is : (b : ℕ) → (list_all stays (shown_byte b) ≡ true) × (length (shown_byte b) ≤ 4)
unfolding shown_byte
shown_byte_is b = (grind (arith, nat_tests), grind (arith, nat_tests))

shown_are : (bytes : List ℕ) → (list_all stays (flat_map shown_byte bytes) ≡ true) × (length (flat_map shown_byte bytes) ≤ 4 * length bytes)
shown_are [] = (refl, omega arith)
shown_are (b ∷ bytes) =
    let (one, few) = shown_byte_is b in
    let (others, more) = shown_are bytes in
    (list_all-append stays (shown_byte b) (flat_map shown_byte bytes) ∙ rw (one, others), omega (arith, length-append (shown_byte b) (flat_map shown_byte bytes), few, more))

pub hint_of : (words : List ℕ) → IsHint (shown (MAX_HINT / 4) words)
hint_of words =
    let part = take (MAX_HINT / 4) words in record {
      words = words;
      is_shown = refl;
      unbroken = All-weaker (λ b. stays b ≡ true) (λ b. b ≢ 10) (λ b is same. grind (arith, nat_tests)) (flat_map shown_byte part) (AllPass-from_list_all stays (flat_map shown_byte part) (shown_are part).0);
      short = omega (arith, (shown_are part).1, length-take (MAX_HINT / 4) words);
    }

pub hint_line_is : (words : List ℕ) → IsHintLine (hint_line words)
hint_line_is words = (shown (MAX_HINT / 4) words, hint_of words, refl)
