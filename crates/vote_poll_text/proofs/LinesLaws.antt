-- The lines of a text, and how many there are.
use Rattle.std.proofs.Common.{◌≡◌, ◌≢◌, ℕ, ◌+◌, ◌-◌, ◌<◌, ◌≤◌, ◌==◌, ◌++◌, Bool, true, false, cond, List, [], ◌∷◌, map, length, get_or, take, drop, nat_eq, arith, refl, ap, sym, ◌∙◌, append_assoc, append-nil, inl, inr}
use Rattle.std.specs.List.{All, slice_split, onto_first, ends_with, count_by, join_with_byte, position_or_len}
use Rattle.std.specs.Cmp.Lexicographic.{bytes_decides}
use Rattle.std.proofs.lemmas.Bool.{cases_Bool, eqb-false, false_from_ne_true, ne_eqb}
use Rattle.std.proofs.lemmas.List.{same_from_push, take-append-drop, map-append}
use Rattle.std.proofs.lemmas.List.Sums.{position_or_len_is, sum_by-append}
use Rattle.std.proofs.lemmas.List.Elements.{All-nil, All-cons, All-head, All-tail, All-weaker, All-from_get_or}
use Rattle.std.proofs.lemmas.List.Splits.{length-slice_split, join_with_byte-slice_split, slice_split-cons_yes, slice_split-cons_no, slice_split_at, slice_split_first, slice_split_none}
use Rattle.vote_poll_text.specs.Lines.{AreLines, feed_count, lines_of, without_last_feed, text_of_lines, with_last_feed, line_feed, IsUnbroken}

abbrev is_feed : ℕ → Bool
is_feed byte = byte == 10

pub length-lines_of : (text : List ℕ) → 0 < length text → length (lines_of text) ≡ count_by (λ byte. byte == 10) (without_last_feed text) + 1
length-lines_of [] some = absurd (omega arith)
length-lines_of (b ∷ bs) some = length-slice_split is_feed (without_last_feed (b ∷ bs))

-- ---- the first line feed of a text
pub feed-found : (text : List ℕ) (i : ℕ) → i < length text → ((k : ℕ) → 0 ≤ k → k < i → ¬ (is_feed (get_or text k 0) ≡ true)) → is_feed (get_or text i 0) ≡ true
    → slice_split is_feed text ≡ take i text ∷ slice_split is_feed (drop (i + 1) text)
feed-found text i within before here =
    let first : position_or_len is_feed text ≡ i = position_or_len_is is_feed text i 0 (omega arith) (λ k below. false_from_ne_true (is_feed (get_or text k 0)) (before k (omega arith) below)) (λ _. here) in
    slice_split_first is_feed text 0 (omega arith) ∙ ap (λ n. take n text ∷ slice_split is_feed (drop (n + 1) text)) first

pub feed-none : (text : List ℕ) → ((k : ℕ) → 0 ≤ k → k < length text → ¬ (is_feed (get_or text k 0) ≡ true)) → slice_split is_feed text ≡ text ∷ []
feed-none text none = slice_split_none is_feed text (All-from_get_or (λ b. is_feed b ≡ false) text 0 (λ i within. false_from_ne_true (is_feed (get_or text i 0)) (none i (omega arith) within)))

-- the line feeds of a text are those of its first n bytes and those of the rest
pub feeds_parted : (n : ℕ) (text : List ℕ) → feed_count text ≡ feed_count (take n text) + feed_count (drop n text)
feeds_parted n text =
    ap feed_count (sym (take-append-drop n text)) ∙ sum_by-append (λ byte. cond {A = ℕ} (is_feed byte) 1 0) (take n text) (drop n text)

-- one more part is found, and the rest is shorter
pub more-parts : {X : Type 0} (view : X → List ℕ) (parts : List X) (part : X) (rest after text : List ℕ) → map view parts ++ slice_split is_feed rest ≡ slice_split is_feed text
    → slice_split is_feed rest ≡ view part ∷ slice_split is_feed after → map view (parts ++ part ∷ []) ++ slice_split is_feed after ≡ slice_split is_feed text
more-parts view parts part rest after text so_far next =
    ap (λ xs. xs ++ slice_split is_feed after) (map-append view parts (part ∷ []))
    ∙ append_assoc (map view parts) (view part ∷ []) (slice_split is_feed after)
    ∙ ap (λ xs. map view parts ++ xs) (sym next)
    ∙ so_far

-- ---- no part has a line feed
unbroken-onto_first : (b : ℕ) (parts : List (List ℕ)) → b ≢ 10 → All IsUnbroken parts → All IsUnbroken (onto_first b parts)
unbroken-onto_first b [] other h =
    All-cons IsUnbroken (b ∷ []) [] (All-cons (λ x. x ≢ 10) b [] other (All-nil (λ x. x ≢ 10))) (All-nil IsUnbroken)
unbroken-onto_first b (part ∷ parts) other h =
    All-cons IsUnbroken (b ∷ part) parts (All-cons (λ x. x ≢ 10) b part other (All-head IsUnbroken part parts h)) (All-tail IsUnbroken part parts h)

unbroken-slice_split : (text : List ℕ) → All IsUnbroken (slice_split is_feed text)
unbroken-slice_split [] = All-cons IsUnbroken [] [] (All-nil (λ x. x ≢ 10)) (All-nil IsUnbroken)
unbroken-slice_split (b ∷ bs) =
    elim (cases_Bool (b == 10)) [
      | inl same ↦ rw (slice_split-cons_yes is_feed b bs same) (All-cons IsUnbroken [] _ (All-nil (λ x. x ≢ 10)) (unbroken-slice_split bs))
      | inr other ↦ rw (slice_split-cons_no is_feed b bs other) (unbroken-onto_first b (slice_split is_feed bs) (eqb-false b 10 other) (unbroken-slice_split bs))
    ]

-- ---- the parts give the text back
text-join : (line : List ℕ) (lines : List (List ℕ)) → text_of_lines (line ∷ lines) ≡ join_with_byte 10 (line ∷ lines) ++ line_feed
text-join line [] = append-nil (line ++ line_feed)
text-join line (next ∷ lines) = rw (text-join next lines) (simp append_assoc)

text-parts : (parts : List (List ℕ)) → 0 < length parts → text_of_lines parts ≡ join_with_byte 10 parts ++ line_feed
text-parts [] some = absurd (omega arith)
text-parts (line ∷ lines) some = text-join line lines

text-slice_split : (text : List ℕ) → text_of_lines (slice_split is_feed text) ≡ text ++ line_feed
text-slice_split text =
    let some : 0 < length (slice_split is_feed text) = omega (arith, length-slice_split is_feed text) in
    text-parts (slice_split is_feed text) some ∙ ap (λ t. t ++ line_feed) (join_with_byte-slice_split 10 text)

-- ---- the line feed at the end
rejoin : (text : List ℕ) (n : ℕ) → length text ≡ n + 1 → ends_with nat_eq text line_feed ≡ true → take (length text - 1) text ++ line_feed ≡ text
rejoin text n long ended =
    let last : line_feed ≡ drop (length text - 1) text = (bytes_decides line_feed (drop (length text - 1) text)).0 ended in
    ap (λ t. take (length text - 1) text ++ t) last ∙ take-append-drop (length text - 1) text

feed_again : (b : ℕ) (bs : List ℕ) → without_last_feed (b ∷ bs) ++ line_feed ≡ with_last_feed (b ∷ bs)
feed_again b bs =
    elim (cases_Bool (ends_with nat_eq (b ∷ bs) line_feed)) [
      | inl ended ↦ rw ended (rejoin (b ∷ bs) (length bs) (omega arith) ended)
      | inr open_ended ↦ rw open_ended
    ]

pub lines_are : (text : List ℕ) → AreLines text (lines_of text)
lines_are [] = record { unbroken = All-nil IsUnbroken; joined = refl }
lines_are (b ∷ bs) = record {
  unbroken = unbroken-slice_split (without_last_feed (b ∷ bs));
  joined = text-slice_split (without_last_feed (b ∷ bs)) ∙ feed_again b bs;
}

pub ruleset line_laws = (length-lines_of, lines_are)

-- ---- a text has one list of lines
split_text : (lines : List (List ℕ)) → All IsUnbroken lines → slice_split is_feed (text_of_lines lines) ≡ lines ++ [] ∷ []
split_text [] unbroken = refl
split_text (line ∷ lines) unbroken =
    let here : All (λ b. is_feed b ≡ false) line = All-weaker (λ b. b ≢ 10) (λ b. is_feed b ≡ false) (λ b. ne_eqb b 10) line (All-head IsUnbroken line lines unbroken) in
    ap (slice_split is_feed) (append_assoc line line_feed (text_of_lines lines))
    ∙ slice_split_at is_feed line 10 (text_of_lines lines) here refl
    ∙ ap (λ rest. line ∷ rest) (split_text lines (All-tail IsUnbroken line lines unbroken))

pub lines_are_one : (text : List ℕ) (a b : List (List ℕ)) → AreLines text a → AreLines text b → a ≡ b
lines_are_one text a b first second =
    (same_from_push a b [] [] (sym (split_text a first.unbroken) ∙ ap (slice_split is_feed) (first.joined ∙ sym second.joined) ∙ split_text b second.unbroken)).0
