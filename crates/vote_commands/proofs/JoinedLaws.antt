-- A text has a line `%%` exactly where the code sees a separator. So a joined input is split at its first such line.
use Rattle.std.proofs.Common.{◌≡◌, ◌≢◌, ◌<◌, ◌≤◌, ◌+◌, ◌-◌, ◌⊎◌, ◌++◌, ℕ, Bool, true, false, List, [], ◌∷◌, length, get_or, take, drop, refl, ap, sym, subst, ◌∙◌, arith, inl, inr, append_assoc, length-append, nat_eq, ◌==◌, ◌||◌, codes, zero, suc, Option}
use Rattle.std.specs.List.{All, ends_with, join_with_byte, onto_first, slice_split}
use Rattle.std.specs.Str.{bytes_eq}
use Rattle.std.proofs.lemmas.Bool.{cases_Bool, and_parts, or_cases, and_from, or_right, eqb-true, eq-eqb, cases_eq, both_ways, false_from_ne_true}
use Rattle.std.proofs.lemmas.Bool.Decides.{Decides-eqb}
use Rattle.std.proofs.lemmas.List.{drop-append-le, drop_at, get_or_append_left, get_or_at, length_push, length-take-le, take_at, take_more, take-append-drop}
use Rattle.std.proofs.lemmas.List.Elements.{All-cons, All-contains, All-from_get_or, All-nil, All-push, All-take, Contains-append_right}
use Rattle.std.proofs.lemmas.List.Splits.{join_with_byte-slice_split, length-slice_split, slice_split-cons_no, slice_split-cons_yes}
use Rattle.std.proofs.lemmas.Slice.Eq.{bytes_eq-Decides, ends_is}
use Rattle.vote_poll_text.specs.Lines.{line_feed, lines_of}
use Rattle.vote_commands.specs.Joined.{AreParts, EndsALine, InputsArePartedAtSeparator, IsJoined, LacksSeparator, PartsAreUnique, begins_line, is_separator_at, joined_parts, parts_at}
use Rattle.vote_commands.proofs.FirstPlace.{first_or_none, first_place, no_place}
use Rattle.vote_poll_text.specs.Texts.{Text}

-- the line between the poll and the ballots
abbrev separator : Text
separator = codes "%%"

-- ---- the lines of a text and its pieces between line feeds
abbrev pieces_of : Text → List Text
pieces_of text = slice_split (λ byte. byte == 10) text

abbrev IsOther : Text → Type 0
IsOther line = line ≢ separator

onto_first-append : (b : ℕ) (pieces others : List Text) → 0 < length pieces → onto_first b (pieces ++ others) ≡ onto_first b pieces ++ others
onto_first-append b [] others some = absurd (omega arith)
onto_first-append b (piece ∷ pieces) others some = refl

pieces_at_feed : (front rest : Text) → pieces_of (front ++ (line_feed ++ rest)) ≡ pieces_of front ++ pieces_of rest
pieces_at_feed [] rest = refl
pieces_at_feed (b ∷ bs) rest =
    let p = λ (byte : ℕ). byte == 10 in
    elim (cases_Bool (b == 10)) [
      | inl feed ↦ slice_split-cons_yes p b (bs ++ (line_feed ++ rest)) feed
          ∙ ap (λ pieces. [] ∷ pieces) (pieces_at_feed bs rest)
          ∙ ap (λ pieces. pieces ++ pieces_of rest) (sym (slice_split-cons_yes p b bs feed))
      | inr other ↦ slice_split-cons_no p b (bs ++ (line_feed ++ rest)) other
          ∙ ap (onto_first b) (pieces_at_feed bs rest)
          ∙ onto_first-append b (pieces_of bs) (pieces_of rest) (omega (arith, length-slice_split p bs))
          ∙ ap (λ pieces. pieces ++ pieces_of rest) (sym (slice_split-cons_no p b bs other))
    ]

-- after a line feed at the end there is an empty piece, which is no line
pieces-lines_of : (b : ℕ) (bs : Text) → (pieces_of (b ∷ bs) ≡ lines_of (b ∷ bs)) ⊎ (pieces_of (b ∷ bs) ≡ lines_of (b ∷ bs) ++ [] ∷ [])
pieces-lines_of b bs =
    elim (cases_Bool (ends_with nat_eq (b ∷ bs) line_feed)) [
      | inl ended ↦ let whole = (ends_is Decides-eqb (b ∷ bs) line_feed _ refl).0 ended in
          inr (rw ended (ap pieces_of whole ∙ pieces_at_feed (take (length (b ∷ bs) - 1) (b ∷ bs)) []))
      | inr open_ended ↦ inl (rw open_ended refl)
    ]

nothing_is_other : IsOther []
nothing_is_other same = omega (arith, ap length same)

other_pieces : (text : Text) → LacksSeparator text → All IsOther (pieces_of text)
other_pieces [] lacks = All-cons IsOther [] [] nothing_is_other (All-nil IsOther)
other_pieces (b ∷ bs) lacks =
    elim (pieces-lines_of b bs) [
      | inl same ↦ subst (All IsOther) (sym same) lacks
      | inr more ↦ subst (All IsOther) (sym more) (All-push IsOther (lines_of (b ∷ bs)) [] lacks nothing_is_other)
    ]

other_lines : (text : Text) → All IsOther (pieces_of text) → LacksSeparator text
other_lines [] other = All-nil IsOther
other_lines (b ∷ bs) other =
    let lines : List Text = lines_of (b ∷ bs) in
    elim (pieces-lines_of b bs) [
      | inl same ↦ subst (All IsOther) same other
      | inr more ↦ subst (All IsOther) (take_at lines ([] ∷ []) (length lines) refl) (All-take IsOther (length lines) (lines ++ [] ∷ []) (subst (All IsOther) more other))
    ]

-- ---- a line `%%` in a text
-- the text begins with `%%`, and then it ends, or a line feed comes
abbrev BeginsWithSeparator : Text → Type 0
BeginsWithSeparator text = (rest : Text) × (text ≡ separator ++ rest) × ((rest ≡ []) ⊎ ((more : Text) × (rest ≡ line_feed ++ more)))

record HasSeparator (text : Text) : Type 0 where
  before : Text
  behind : Text
  joined : text ≡ before ++ behind
  at_line : EndsALine before
  begins : BeginsWithSeparator behind

-- a piece that is `%%` is such a line
ends_after : (front text : Text) → EndsALine text → EndsALine (front ++ (line_feed ++ text))
ends_after front text (inl none) = inr (front, ap (λ t. front ++ (line_feed ++ t)) none)
ends_after front text (inr (lines, ends)) = inr (front ++ (line_feed ++ lines), ap (λ t. front ++ (line_feed ++ t)) ends ∙ simp append_assoc)

piece_is_line : (pieces : List Text) (k : ℕ) → k < length pieces → get_or pieces k [] ≡ separator → HasSeparator (join_with_byte 10 pieces)
piece_is_line [] k within same = absurd (omega arith)
piece_is_line (piece ∷ []) zero within same = record { before = []; behind = piece; joined = refl; at_line = inl refl; begins = ([], same, inl refl) }
piece_is_line (piece ∷ []) (suc k) within same = absurd (omega arith)
piece_is_line (piece ∷ next ∷ pieces) zero within same =
    let rest : Text = join_with_byte 10 (next ∷ pieces) in
    record { before = []; behind = piece ++ (10 ∷ rest); joined = refl; at_line = inl refl; begins = (10 ∷ rest, ap (λ t. t ++ (10 ∷ rest)) same, inr (rest, refl)) }
piece_is_line (piece ∷ next ∷ pieces) (suc k) within same =
    let later = piece_is_line (next ∷ pieces) k (omega arith) same in
    record {
      before = piece ++ (line_feed ++ later.before);
      behind = later.behind;
      joined = ap (λ t. piece ++ (10 ∷ t)) later.joined ∙ simp append_assoc;
      at_line = ends_after piece later.before later.at_line;
      begins = later.begins;
    }

-- such a line is a piece that is `%%`
first_piece : (text : Text) → BeginsWithSeparator text → (pieces : List Text) × (pieces_of text ≡ separator ∷ pieces)
first_piece text (rest, begins, inl none) = ([], ap pieces_of (begins ∙ ap (λ t. separator ++ t) none))
first_piece text (rest, begins, inr (more, feed)) = (pieces_of more, ap pieces_of (begins ∙ ap (λ t. separator ++ t) feed))

pieces_around : (before behind : Text) → EndsALine before → (pieces : List Text) × (pieces_of (before ++ behind) ≡ pieces ++ pieces_of behind)
pieces_around before behind (inl none) = ([], ap (λ t. pieces_of (t ++ behind)) none)
pieces_around before behind (inr (front, ends)) = (pieces_of front, ap (λ t. pieces_of (t ++ behind)) ends ∙ ap pieces_of (append_assoc front line_feed behind) ∙ pieces_at_feed front behind)

line_is_piece : (text : Text) → HasSeparator text → ¬ All IsOther (pieces_of text)
line_is_piece text h other =
    let around = pieces_around h.before h.behind h.at_line in
    let here = first_piece h.behind h.begins in
    let pieces : pieces_of text ≡ around.0 ++ (separator ∷ here.0) = ap pieces_of h.joined ∙ around.1 ∙ ap (λ rest. around.0 ++ rest) here.1 in
    All-contains IsOther (around.0 ++ (separator ∷ here.0)) separator (subst (All IsOther) pieces other)
    (Contains-append_right around.0 (separator ∷ here.0) separator (0, omega arith, refl)) refl

-- ---- a separator that the code sees
abbrev begins_with_separator : Text → Bool
begins_with_separator text = bytes_eq (take 3 text) (codes "%%\n") || bytes_eq text (codes "%%")

-- a line `%%` is seen
begins_line-before : (before behind : Text) → EndsALine before → begins_line (before ++ behind) (length before) ≡ true
begins_line-before before behind (inl none) = rw none refl
begins_line-before before behind (inr (front, ends)) =
    let n : ℕ = length before - 1 in
    let place : length front ≡ n = omega (arith, ap length ends, length_push front 10) in
    let longer : before ++ behind ≡ front ++ (10 ∷ behind) = ap (λ t. t ++ behind) ends ∙ append_assoc front line_feed behind in
    or_right (length before == 0) _ (eq-eqb _ 10 (ap (λ t. get_or t n 0) longer ∙ get_or_at front 10 behind 0 n place))

begins-seen : (text : Text) → BeginsWithSeparator text → begins_with_separator text ≡ true
begins-seen text (rest, joined, inl none) = rw (joined, none) refl
begins-seen text (rest, joined, inr (more, feed)) = rw (joined, feed) refl

line_is_seen : (text : Text) (h : HasSeparator text) → is_separator_at text (length h.before) ≡ true
unfolding is_separator_at
line_is_seen text h =
    let rest : drop (length h.before) text ≡ h.behind = ap (drop (length h.before)) h.joined ∙ drop_at h.before h.behind (length h.before) refl in
    and_from (begins_line text (length h.before)) _
    (subst (λ t. begins_line t (length h.before) ≡ true) (sym h.joined) (begins_line-before h.before h.behind h.at_line))
    (subst (λ t. begins_with_separator t ≡ true) (sym rest) (begins-seen h.behind h.begins))

-- an index before the end: `%%` has two bytes
line_is_within : (text : Text) (h : HasSeparator text) → length h.before < length text
line_is_within text h = omega (arith, ap length h.joined, length-append h.before h.behind, ap length h.begins.1)

-- what is seen is a line `%%`
ends_before : (text : Text) (at : ℕ) → at < length text → begins_line text at ≡ true → EndsALine (take at text)
ends_before text at within here =
    elim (cases_eq at 0) [
      | inl first ↦ inl (ap (λ n. take n text) first)
      | inr later ↦ elim (or_cases (at == 0) _ here) [
        | inl first ↦ absurd (later (eqb-true at 0 first))
        | inr feed ↦ let back : at ≡ at - 1 + 1 = omega arith in
            inr (take (at - 1) text, ap (λ n. take n text) back ∙ take_more text (at - 1) 0 (omega arith) ∙ ap (λ b. take (at - 1) text ++ b ∷ []) (eqb-true _ 10 feed))
      ]
    ]

begins-from_seen : (text : Text) → begins_with_separator text ≡ true → BeginsWithSeparator text
begins-from_seen text seen =
    elim (or_cases (bytes_eq (take 3 text) (codes "%%\n")) _ seen) [
      | inl feed ↦ (10 ∷ drop 3 text, sym (take-append-drop 3 text) ∙ ap (λ t. t ++ drop 3 text) ((bytes_eq-Decides (take 3 text) (codes "%%\n")).0 feed), inr (drop 3 text, refl))
      | inr last ↦ ([], (bytes_eq-Decides text (codes "%%")).0 last, inl refl)
    ]

seen_is_line : (text : Text) (at : ℕ) → at < length text → is_separator_at text at ≡ true → HasSeparator text
unfolding is_separator_at
seen_is_line text at within here =
    let (line, rest) = and_parts (begins_line text at) _ here in
    record {
      before = take at text;
      behind = drop at text;
      joined = sym (take-append-drop at text);
      at_line = ends_before text at within line;
      begins = begins-from_seen (drop at text) rest;
    }

-- if no separator is seen, no line is `%%`; and the other way round
lacks_from_nowhere : (text : Text) → ((at : ℕ) → at < length text → is_separator_at text at ≡ false) → LacksSeparator text
lacks_from_nowhere text nowhere =
    other_lines text (All-from_get_or IsOther (pieces_of text) [] (λ k within same.
    let found = subst HasSeparator (join_with_byte-slice_split 10 text) (piece_is_line (pieces_of text) k within same) in
    both_ways _ (nowhere (length found.before) (line_is_within text found)) (line_is_seen text found)))

nowhere_from_lacks : (text : Text) → LacksSeparator text → (at : ℕ) → at < length text → is_separator_at text at ≡ false
nowhere_from_lacks text lacks at within = false_from_ne_true _ (λ here. line_is_piece text (seen_is_line text at within here) (other_pieces text lacks))

-- ---- what is seen in a prefix of whole lines
seen_before_feed : (text behind : Text) → begins_with_separator (text ++ (line_feed ++ behind)) ≡ begins_with_separator (text ++ line_feed)
seen_before_feed [] behind = refl
seen_before_feed (a ∷ []) behind = refl
seen_before_feed (a ∷ b ∷ []) behind = refl
seen_before_feed (a ∷ b ∷ c ∷ text) behind = refl

seen_in_front : (front behind : Text) (k : ℕ) → k < length front → EndsALine front → is_separator_at (front ++ behind) k ≡ is_separator_at front k
unfolding is_separator_at
seen_in_front front behind k within (inl none) = absurd (omega (arith, ap length none))
seen_in_front front behind k within (inr (lines, ends)) =
    let short : k ≤ length lines = omega (arith, ap length ends, length_push lines 10) in
    let byte : get_or (front ++ behind) (k - 1) 0 ≡ get_or front (k - 1) 0 = get_or_append_left front behind 0 (k - 1) (omega arith) in
    let longer : drop k (front ++ behind) ≡ drop k lines ++ (line_feed ++ behind) =
    ap (λ t. drop k (t ++ behind)) ends ∙ ap (drop k) (append_assoc lines line_feed behind) ∙ drop-append-le k lines (line_feed ++ behind) short in
    let rest : drop k front ≡ drop k lines ++ line_feed = ap (drop k) ends ∙ drop-append-le k lines line_feed short in
    rw (byte, longer, rest, seen_before_feed (drop k lines) behind) refl

-- ---- the parts of a joined input
joined_at : (poll behind : Text) → BeginsWithSeparator behind → IsJoined (poll ++ behind) poll (drop 3 behind)
joined_at poll behind (rest, begins, inl none) =
    inr (ap (λ t. poll ++ t) (begins ∙ ap (λ t. separator ++ t) none), ap (drop 3) (begins ∙ ap (λ t. separator ++ t) none))
joined_at poll behind (rest, begins, inr (more, feed)) =
    let whole : behind ≡ separator ++ (line_feed ++ more) = begins ∙ ap (λ t. separator ++ t) feed in
    inl (ap (λ t. poll ++ t) (whole ∙ ap (λ t. separator ++ (line_feed ++ t)) (sym (ap (drop 3) whole))) ∙ sym (append_assoc poll (codes "%%\n") (drop 3 behind)))

pub inputs_are_parted : InputsArePartedAtSeparator
unfolding seen_is_line
inputs_are_parted input =
    let AtPlace = λ (place : Option ℕ). AreParts input (parts_at input place).0 (parts_at input place).1 in
    elim (first_or_none (is_separator_at input) (length input)) [
      | inl nowhere ↦ subst AtPlace (sym (no_place (is_separator_at input) (length input) nowhere))
          (inl (lacks_from_nowhere input nowhere, refl, refl))
      | inr (at, within, before, here) ↦ subst AtPlace (sym (first_place (is_separator_at input) (length input) at within before here))
          (let found = seen_is_line input at within here in
          let long : length (take at input) ≡ at = length-take-le at input (omega arith) in
          inr (
            lacks_from_nowhere (take at input) (λ k inside.
                sym (seen_in_front (take at input) (drop at input) k inside found.at_line) ∙ ap (λ t. is_separator_at t k) (take-append-drop at input) ∙ before k (omega arith)),
            found.at_line,
            subst (λ t. IsJoined t (take at input) (drop 3 (drop at input))) (take-append-drop at input) (joined_at (take at input) (drop at input) found.begins),
          ))
    ]

behind_poll : (input poll ballots : Text) → IsJoined input poll ballots → (behind : Text) × (input ≡ poll ++ behind) × BeginsWithSeparator behind × (drop 3 behind ≡ ballots)
behind_poll input poll ballots (inl joined) = (separator ++ (line_feed ++ ballots), joined ∙ append_assoc poll (codes "%%\n") ballots, (line_feed ++ ballots, refl, inr (ballots, refl)), refl)
behind_poll input poll ballots (inr (joined, none)) = (separator, joined, ([], refl, inl refl), sym none)

parted_at : (poll behind : Text) → LacksSeparator poll → EndsALine poll → BeginsWithSeparator behind → joined_parts (poll ++ behind) ≡ (poll, drop 3 behind)
parted_at poll behind lacks at_line begins =
    let input : Text = poll ++ behind in
    let here : HasSeparator input = record { before = poll; behind = behind; joined = refl; at_line = at_line; begins = begins } in
    let before = λ (k : ℕ) (within : k < length poll). seen_in_front poll behind k within at_line ∙ nowhere_from_lacks poll lacks k within in
    let found = first_place (is_separator_at input) (length input) (length poll) (line_is_within input here) before (line_is_seen input here) in
    let front : take (length poll) input ≡ poll = take_at poll behind (length poll) refl in
    let rest : drop (length poll) input ≡ behind = drop_at poll behind (length poll) refl in
    ap (parts_at input) found ∙ rw (front, rest) refl

pub parts_are_one : PartsAreUnique
parts_are_one input poll ballots (inl (lacks, all_poll, no_ballots)) =
    rw (all_poll, no_ballots) (ap (parts_at input) (sym (no_place (is_separator_at input) (length input) (nowhere_from_lacks input lacks))))
parts_are_one input poll ballots (inr (first, at_line, parted)) =
    let (behind, joined, begins, same) = behind_poll input poll ballots parted in
    sym (ap joined_parts joined ∙ parted_at poll behind first at_line begins ∙ ap (λ (t : Text). let pair : Text × Text = (poll, t) in pair) same)
