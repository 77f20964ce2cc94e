-- The function that reads a line agrees with the grammar of a ballot line.
use Rattle.std.proofs.Common.{◌≡◌, ◌+◌, ◌-◌, ◌*◌, ◌/◌, ◌%◌, ◌^◌, ◌<◌, ◌≤◌, ◌++◌, ℕ, List, [], ◌∷◌, map, refl, ap, sym, subst, ◌∙◌, length, take, drop, get_or, Option, Some, None, arith, Bool, true, false, cond, ◌==◌, ◌&&◌, ◌⊎◌, inl, inr, nat_le, nat_lt, append_assoc, length-append}
use Rattle.std.specs.Prelude.{unwrap_or}
use Rattle.std.specs.Option.{option_map}
use Rattle.std.specs.Fmt.{decimal}
use Rattle.std.specs.List.{All, slice_split, join_with_byte, before_first, after_first, position_or_len}
use Rattle.std.proofs.lemmas.Fmt.{decimal_digit, decimal_step}
use Rattle.std.proofs.lemmas.Bool.{cases_Bool, and_parts}
use Rattle.std.proofs.lemmas.Option.{cond_some, same_Some}
use Rattle.std.proofs.lemmas.Bool.Decides.{nat_tests}
use Rattle.std.proofs.lemmas.List.{length-map, drop_all, take_at, drop_at}
use Rattle.std.proofs.lemmas.List.Sums.{split_at_first, passes_at_first}
use Rattle.vote_poll.specs.PollContent.{PollContent, elector_count, option_count}
use Rattle.vote_poll.specs.declared.reading.Reading.{Reading}
use Rattle.vote_poll.specs.declared.reading.Reading.TheVariants.{Bad, Ballot}
use Rattle.std.specs.Str.{bytes_eq}
use Rattle.std.proofs.lemmas.List.Quantifiers.{position-Some}
use Rattle.vote_poll.specs.declared.reading.LineFault.TheVariants.{RankCount, Roll}
use Rattle.std.proofs.lemmas.List.Elements.{All-nil, All-cons, All-head, All-tail, All-weaker}
use Rattle.std.proofs.lemmas.List.Splits.{length-slice_split, join_with_byte-slice_split, slice_split_none, slice_split_at}
use Rattle.vote_poll.specs.Names.{place_of}
use Rattle.vote_poll_text.specs.Names.{is_within, is_voter_byte, is_voter_name}
use Rattle.vote_poll.proofs.NamesLaws.{voter_bytes, within_bounds}
use Rattle.vote_poll.specs.BallotLine.{IsRank, rank_text, line_text, IsBallotLine}
use Rattle.vote_poll_keys.specs.Lists.{all_some}
use Rattle.vote_poll.specs.Readings.{rank_in, ranks_in, ballot_in, reading, reading_of, IsReading, ReadingFits, is_space}
use Rattle.vote_poll.specs.declared.TheConstants.{MAX_LINE}

-- ---- a rank
one_digit : (d : ℕ) → 1 ≤ d → d ≤ 9 → rank_in ((48 + d) ∷ []) ≡ Some (Some d)
one_digit d low high =
    let other : (48 + d == 45) ≡ false = grind (arith, nat_tests) in
    let within : is_within 49 57 (48 + d) ≡ true = grind (arith, nat_tests) in
    let back : 48 + d - 48 ≡ d = omega arith in
    rw (other, within, back)

two_digits : (a b : ℕ) → 1 ≤ a → a ≤ 9 → b ≤ 9 → rank_in ((48 + a) ∷ (48 + b) ∷ []) ≡ Some (Some (10 * a + b))
two_digits a b low high small =
    let first : is_within 49 57 (48 + a) ≡ true = grind (arith, nat_tests) in
    let second : is_within 48 57 (48 + b) ≡ true = grind (arith, nat_tests) in
    let back_a : 48 + a - 48 ≡ a = omega arith in
    let back_b : 48 + b - 48 ≡ b = omega arith in
    rw (first, second, back_a, back_b)

pub rank_in-rank_text : (r : Option ℕ) → IsRank r → rank_in (rank_text r) ≡ Some r
rank_in-rank_text None h = refl
rank_in-rank_text (Some n) h =
    elim (cases_Bool (nat_le n 9)) [
      | inl small ↦ let below : n < 10 = grind (arith, nat_tests) in
          rw (decimal_digit n below) (one_digit n h.0 (omega arith))
      | inr large ↦ let from_ten : 10 ≤ n = grind (arith, nat_tests) in
          let fits : n < 2 ^ 64 = omega (arith, h.1) in
          let tens : decimal (n / 10) ≡ (48 + n / 10) ∷ [] = decimal_digit (n / 10) (omega (arith, h.1)) in
          let same : 10 * (n / 10) + n % 10 ≡ n = omega arith in
          rw (decimal_step n from_ten fits, tens) (two_digits (n / 10) (n % 10) (omega arith) (omega (arith, h.1)) (omega arith) ∙ ap (λ k. Some (Some k)) same)
    ]

-- which branch was taken
chosen : {X : Type 0} (b : Bool) (x y z : X) → cond b x y ≡ z → ((b ≡ true) × (x ≡ z)) ⊎ ((b ≡ false) × (y ≡ z))
chosen true x y z h = inl (refl, h)
chosen false x y z h = inr (refl, h)

-- the text spells the rank
abbrev Spells : List ℕ → Option ℕ → Type 0
Spells text r = IsRank r × (text ≡ rank_text r)

spells_digit : (a : ℕ) → is_within 49 57 a ≡ true → Spells (a ∷ []) (Some (a - 48))
spells_digit a within =
    let bounds = within_bounds 49 57 a within in
    let back : 48 + (a - 48) ≡ a = omega (arith, bounds.0) in
    ((omega (arith, bounds.0), omega (arith, bounds.1)), ap (λ x. x ∷ []) (sym back) ∙ sym (decimal_digit (a - 48) (omega (arith, bounds.1))))

from_one : (a : ℕ) (r : Option ℕ) → rank_in (a ∷ []) ≡ Some r → Spells (a ∷ []) r
from_one a r h =
    elim (chosen (a == 45) _ _ _ h) [
      | inl hyphen ↦ let same : a ≡ 45 = grind (arith, nat_tests, hyphen.0) in
          subst (Spells (a ∷ [])) (same_Some None r hyphen.1) (tt, ap (λ x. x ∷ []) same)
      | inr digit ↦ let within = cond_some (is_within 49 57 a) (Some (a - 48)) r digit.1 in
          subst (Spells (a ∷ [])) within.1 (spells_digit a within.0)
    ]

spells_number : (a b n : ℕ) → is_within 49 57 a ≡ true → is_within 48 57 b ≡ true → n ≡ 10 * (a - 48) + (b - 48) → Spells (a ∷ b ∷ []) (Some n)
spells_number a b n first second same =
    let high = within_bounds 49 57 a first in
    let low = within_bounds 48 57 b second in
    let h0 : 49 ≤ a = high.0 in
    let h1 : a ≤ 57 = high.1 in
    let l0 : 48 ≤ b = low.0 in
    let l1 : b ≤ 57 = low.1 in
    let tens : n / 10 ≡ a - 48 = omega arith in
    let ones : n % 10 ≡ b - 48 = omega arith in
    let back_a : 48 + (n / 10) ≡ a = omega arith in
    let back_b : 48 + n % 10 ≡ b = omega arith in
    let digit : decimal (n / 10) ≡ (48 + n / 10) ∷ [] = decimal_digit (n / 10) (omega arith) in
    ((omega arith, omega arith), sym (decimal_step n (omega arith) (omega arith) ∙ rw (digit, back_a, back_b)))

from_two : (a b : ℕ) (r : Option ℕ) → rank_in (a ∷ b ∷ []) ≡ Some r → Spells (a ∷ b ∷ []) r
from_two a b r h =
    let digits = cond_some (is_within 49 57 a && is_within 48 57 b) (Some (10 * (a - 48) + (b - 48))) r h in
    let (first, second) = and_parts (is_within 49 57 a) (is_within 48 57 b) digits.0 in
    subst (Spells (a ∷ b ∷ [])) digits.1 (spells_number a b (10 * (a - 48) + (b - 48)) first second refl)

pub rank_text-rank_in : (text : List ℕ) (r : Option ℕ) → rank_in text ≡ Some r → IsRank r × (text ≡ rank_text r)
rank_text-rank_in [] r h = cc
rank_text-rank_in (a ∷ []) r h = from_one a r h
rank_text-rank_in (a ∷ b ∷ []) r h = from_two a b r h
rank_text-rank_in (a ∷ b ∷ c ∷ rest) r h = cc

-- ---- the ranks of a line
-- the parts spell the ranks, one after another
abbrev SpellAll : List (List ℕ) → List (Option ℕ) → Type 0
SpellAll parts ranks = All IsRank ranks × (parts ≡ map rank_text ranks)

spell_more : (part : List ℕ) (parts : List (List ℕ)) (r : Option ℕ) (ranks : List (Option ℕ)) → Spells part r → SpellAll parts ranks → SpellAll (part ∷ parts) (r ∷ ranks)
spell_more part parts r ranks one more = (All-cons IsRank r ranks one.0 more.0, ap (λ x. x ∷ parts) one.1 ∙ ap (λ xs. rank_text r ∷ xs) more.1)

spell_front : (part : List ℕ) (parts : List (List ℕ)) (r : Option ℕ) (rest : Option (List (Option ℕ))) (ranks : List (Option ℕ)) → Spells part r
    → ((ys : List (Option ℕ)) → rest ≡ Some ys → SpellAll parts ys) → option_map (λ xs. r ∷ xs) rest ≡ Some ranks → SpellAll (part ∷ parts) ranks
spell_front part parts r None ranks one more h = cc
spell_front part parts r (Some ys) ranks one more h = subst (SpellAll (part ∷ parts)) (same_Some (r ∷ ys) ranks h) (spell_more part parts r ys one (more ys refl))

spell_parts : (part : List ℕ) (parts : List (List ℕ)) (o : Option (Option ℕ)) (ranks : List (Option ℕ)) → rank_in part ≡ o
    → ((ys : List (Option ℕ)) → all_some (map rank_in parts) ≡ Some ys → SpellAll parts ys) → all_some (o ∷ map rank_in parts) ≡ Some ranks → SpellAll (part ∷ parts) ranks
spell_parts part parts None ranks is more h = cc
spell_parts part parts (Some r) ranks is more h = spell_front part parts r (all_some (map rank_in parts)) ranks (rank_text-rank_in part r is) more h

spell_all : (parts : List (List ℕ)) (ranks : List (Option ℕ)) → all_some (map rank_in parts) ≡ Some ranks → SpellAll parts ranks
spell_all [] ranks h = subst (SpellAll []) (same_Some [] ranks h) (All-nil IsRank, refl)
spell_all (part ∷ parts) ranks h = spell_parts part parts (rank_in part) ranks refl (spell_all parts) h

abbrev is_comma : ℕ → Bool
is_comma b = b == 44

-- a text that lists ranks spells them
pub join-ranks_in : (text : List ℕ) (ranks : List (Option ℕ)) → ranks_in text ≡ Some ranks → All IsRank ranks × (text ≡ join_with_byte 44 (map rank_text ranks))
join-ranks_in text ranks h =
    let spelled = spell_all (slice_split is_comma text) ranks h in
    (spelled.0, sym (join_with_byte-slice_split 44 text) ∙ ap (join_with_byte 44) spelled.1)

has_rank : (text : List ℕ) (ranks : List (Option ℕ)) → ranks_in text ≡ Some ranks → 1 ≤ length ranks
has_rank text ranks h =
    let spelled = spell_all (slice_split is_comma text) ranks h in
    let long : length (slice_split is_comma text) ≡ length ranks = ap length spelled.1 ∙ length-map ranks rank_text in
    omega (arith, long, length-slice_split is_comma text)

-- ---- and back
abbrev HasNoComma : List ℕ → Type 0
HasNoComma text = All (λ b. is_comma b ≡ false) text

pub rank_text_has_no_comma : (r : Option ℕ) → IsRank r → HasNoComma (rank_text r)
rank_text_has_no_comma None h = All-cons (λ b. is_comma b ≡ false) 45 [] refl (All-nil (λ b. is_comma b ≡ false))
rank_text_has_no_comma (Some n) h =
    let P : ℕ → Type 0 = λ b. is_comma b ≡ false in
    elim (cases_Bool (nat_le n 9)) [
      | inl small ↦ let below : n < 10 = grind (arith, nat_tests) in
          rw (decimal_digit n below) (All-cons P (48 + n) [] (digit_is_no_comma n) (All-nil P))
      | inr large ↦ let from_ten : 10 ≤ n = grind (arith, nat_tests) in
          let fits : n < 2 ^ 64 = omega (arith, h.1) in
          let tens : decimal (n / 10) ≡ (48 + n / 10) ∷ [] = decimal_digit (n / 10) (omega (arith, h.1)) in
          rw (decimal_step n from_ten fits, tens) (All-cons P (48 + n / 10) ((48 + n % 10) ∷ []) (digit_is_no_comma (n / 10)) (All-cons P (48 + n % 10) [] (digit_is_no_comma (n % 10)) (All-nil P)))
    ]
  where
    digit_is_no_comma : (d : ℕ) → is_comma (48 + d) ≡ false
    digit_is_no_comma d = grind (arith, nat_tests)

slice_split-join : (part : List ℕ) (parts : List (List ℕ)) → All HasNoComma (part ∷ parts) → slice_split is_comma (join_with_byte 44 (part ∷ parts)) ≡ part ∷ parts
slice_split-join part [] h = slice_split_none is_comma part (All-head HasNoComma part [] h)
slice_split-join part (next ∷ parts) h =
    slice_split_at is_comma part 44 (join_with_byte 44 (next ∷ parts)) (All-head HasNoComma part (next ∷ parts) h) refl
    ∙ ap (λ xs. part ∷ xs) (slice_split-join next parts (All-tail HasNoComma part (next ∷ parts) h))

no_commas : (ranks : List (Option ℕ)) → All IsRank ranks → All HasNoComma (map rank_text ranks)
no_commas [] h = All-nil HasNoComma
no_commas (r ∷ ranks) h = All-cons HasNoComma (rank_text r) (map rank_text ranks) (rank_text_has_no_comma r (All-head IsRank r ranks h)) (no_commas ranks (All-tail IsRank r ranks h))

all_read : (ranks : List (Option ℕ)) → All IsRank ranks → all_some (map rank_in (map rank_text ranks)) ≡ Some ranks
all_read [] h = refl
all_read (r ∷ ranks) h = rw (rank_in-rank_text r (All-head IsRank r ranks h), all_read ranks (All-tail IsRank r ranks h))

pub ranks_in-join : (ranks : List (Option ℕ)) → 1 ≤ length ranks → All IsRank ranks → ranks_in (join_with_byte 44 (map rank_text ranks)) ≡ Some ranks
ranks_in-join [] some h = absurd (omega arith)
ranks_in-join (r ∷ ranks) some h = ap (λ parts. all_some (map rank_in parts)) (slice_split-join (rank_text r) (map rank_text ranks) (no_commas (r ∷ ranks) h)) ∙ all_read (r ∷ ranks) h

-- ---- the whole line
space_within : (line : List ℕ) (ranks : List (Option ℕ)) → ranks_in (after_first is_space line) ≡ Some ranks → position_or_len is_space line < length line
space_within line ranks h =
    elim (cases_Bool (nat_lt (position_or_len is_space line) (length line))) [
      | inl within ↦ grind (arith, nat_tests)
      | inr past ↦
          let all : length line ≤ position_or_len is_space line + 1 = grind (arith, nat_tests) in
          let empty : after_first is_space line ≡ [] = drop_all (position_or_len is_space line + 1) line all in
          let impossible : None ≡ Some ranks = sym (ap ranks_in empty) ∙ h in
          cc
    ]

line_is_text : (line : List ℕ) (ranks : List (Option ℕ)) → ranks_in (after_first is_space line) ≡ Some ranks → line ≡ line_text (before_first is_space line) ranks
line_is_text line ranks h =
    let within = space_within line ranks h in
    let passes : is_space (get_or line (position_or_len is_space line) 0) ≡ true = passes_at_first is_space line 0 within in
    let space : get_or line (position_or_len is_space line) 0 ≡ 32 = grind (arith, nat_tests) in
    let spelled : after_first is_space line ≡ join_with_byte 44 (map rank_text ranks) = (join-ranks_in (after_first is_space line) ranks h).1 in
    split_at_first is_space line 0 within
    ∙ ap (λ b. before_first is_space line ++ b ∷ after_first is_space line) space
    ∙ ap (λ rest. before_first is_space line ++ 32 ∷ rest) spelled
    ∙ sym (append_assoc (before_first is_space line) (32 ∷ []) (join_with_byte 44 (map rank_text ranks)))

abbrev IsBallotOf : List ℕ → List ℕ × List (Option ℕ) → Type 0
IsBallotOf line ballot = IsBallotLine line ballot.0 ballot.1

named_is_ballot : (line : List ℕ) (o : Option (List (Option ℕ))) (ballot : List ℕ × List (Option ℕ)) → nat_le (length line) MAX_LINE ≡ true → is_voter_name (before_first is_space line) ≡ true
    → ranks_in (after_first is_space line) ≡ o → option_map (λ rs. (before_first is_space line, rs)) o ≡ Some ballot → IsBallotOf line ballot
named_is_ballot line None ballot short voter is h = cc
named_is_ballot line (Some ranks) ballot short voter is h =
    subst (IsBallotOf line) (same_Some (before_first is_space line, ranks) ballot h) (record {
      is_text = line_is_text line ranks is;
      is_name = voter;
      are_ranks = (join-ranks_in (after_first is_space line) ranks is).0;
      has_rank = has_rank (after_first is_space line) ranks is;
      is_short = grind (arith, nat_tests);
    })

-- a line that is read as a ballot is in the grammar
pub ballot_in-sound : (line : List ℕ) (ballot : List ℕ × List (Option ℕ)) → ballot_in line ≡ Some ballot → IsBallotLine line ballot.0 ballot.1
ballot_in-sound line ballot h =
    elim (chosen (nat_le (length line) MAX_LINE && is_voter_name (before_first is_space line)) _ _ _ h) [
      | inl shaped ↦ let (short, voter) = and_parts (nat_le (length line) MAX_LINE) (is_voter_name (before_first is_space line)) shaped.0 in
          named_is_ballot line (ranks_in (after_first is_space line)) ballot short voter refl shaped.1
      | inr misshapen ↦ let impossible : None ≡ Some ballot = misshapen.1 in cc
    ]

-- ---- a line in the grammar is read
abbrev HasNoSpace : List ℕ → Type 0
HasNoSpace text = All (λ b. is_space b ≡ false) text

voter_byte_is_no_space : (b : ℕ) → is_voter_byte b ≡ true → is_space b ≡ false
voter_byte_is_no_space b h = grind (arith, nat_tests)

voter_name_has_no_space : (name : List ℕ) → is_voter_name name ≡ true → HasNoSpace name
voter_name_has_no_space name h = All-weaker (λ b. is_voter_byte b ≡ true) (λ b. is_space b ≡ false) voter_byte_is_no_space name (voter_bytes name h)

first_space : (name rest : List ℕ) → HasNoSpace name → position_or_len is_space (name ++ 32 ∷ rest) ≡ length name
first_space [] rest h = refl
first_space (b ∷ name) rest h =
    let more : position_or_len is_space (name ++ 32 ∷ rest) ≡ length name = first_space name rest (All-tail (λ x. is_space x ≡ false) b name h) in
    let here : is_space b ≡ false = All-head (λ x. is_space x ≡ false) b name h in
    rw here (omega arith)

pub read_parts : (name rest : List ℕ) (ranks : List (Option ℕ)) → is_voter_name name ≡ true → ranks_in rest ≡ Some ranks → length (name ++ 32 ∷ rest) ≤ MAX_LINE → ballot_in (name ++ 32 ∷ rest) ≡ Some (name, ranks)
read_parts name rest ranks voter is short =
    let line : List ℕ = name ++ 32 ∷ rest in
    let at : position_or_len is_space (name ++ 32 ∷ rest) ≡ length name = first_space name rest (voter_name_has_no_space name voter) in
    let before : before_first is_space (name ++ 32 ∷ rest) ≡ name = ap (λ n. take n (name ++ 32 ∷ rest)) at ∙ take_at name (32 ∷ rest) (length name) refl in
    let grouped : (name ++ 32 ∷ []) ++ rest ≡ name ++ 32 ∷ rest = append_assoc name (32 ∷ []) rest in
    let after : after_first is_space (name ++ 32 ∷ rest) ≡ rest =
    ap (λ n. drop (n + 1) (name ++ 32 ∷ rest)) at ∙ ap (drop (length name + 1)) (sym grouped) ∙ drop_at (name ++ 32 ∷ []) rest (length name + 1) (length-append name (32 ∷ [])) in
    let fits : nat_le (length (name ++ 32 ∷ rest)) MAX_LINE ≡ true = grind (arith, nat_tests) in
    rw (before, after, fits, voter, is)

pub ballot_in-complete : (line name : List ℕ) (ranks : List (Option ℕ)) → IsBallotLine line name ranks → ballot_in line ≡ Some (name, ranks)
ballot_in-complete line name ranks h =
    let spelled : line ≡ name ++ 32 ∷ join_with_byte 44 (map rank_text ranks) = h.is_text ∙ append_assoc name (32 ∷ []) (join_with_byte 44 (map rank_text ranks)) in
    let short : length (name ++ 32 ∷ join_with_byte 44 (map rank_text ranks)) ≤ MAX_LINE = omega (arith, ap length spelled, h.is_short) in
    ap ballot_in spelled ∙ read_parts name (join_with_byte 44 (map rank_text ranks)) ranks h.is_name (ranks_in-join ranks h.has_rank h.are_ranks) short

-- ---- the reading
-- a ballot with these ranks, if its voter is on the roll
abbrev reading_at : List (Option ℕ) → Option ℕ → Reading
reading_at ranks place = unwrap_or (option_map (λ voter. Ballot voter ranks) place) (Bad Roll)

reading_at_place : (poll : PollContent) (line : List ℕ) (ballot : List ℕ × List (Option ℕ)) (place : Option ℕ) → IsBallotLine line ballot.0 ballot.1 → length ballot.1 ≡ length poll.options
    → place_of ballot.0 poll.roll ≡ place → IsReading poll line (reading_at ballot.1 place)
reading_at_place poll line ballot None h same is = (ballot.0, ballot.1, h, same, is)
reading_at_place poll line ballot (Some place) h same is = (ballot.0, h, same, is)

reading_by_count : (poll : PollContent) (line : List ℕ) (ballot : List ℕ × List (Option ℕ)) (test : Bool) → IsBallotLine line ballot.0 ballot.1 → (length ballot.1 == length poll.options) ≡ test
    → IsReading poll line (cond test (reading_at ballot.1 (place_of ballot.0 poll.roll)) (Bad RankCount))
reading_by_count poll line ballot true h is = reading_at_place poll line ballot (place_of ballot.0 poll.roll) h (grind (arith, nat_tests)) refl
reading_by_count poll line ballot false h is = (ballot.0, ballot.1, h, grind (arith, nat_tests))

reading_by_ballot : (poll : PollContent) (line : List ℕ) (o : Option (List ℕ × List (Option ℕ))) → ballot_in line ≡ o → IsReading poll line (reading_of poll o)
reading_by_ballot poll line None none = λ name ranks h. let impossible : ◌≡◌ {A = Option (List ℕ × List (Option ℕ))} None (Some (name, ranks)) = sym none ∙ ballot_in-complete line name ranks h in cc
reading_by_ballot poll line (Some ballot) some = reading_by_count poll line ballot (length ballot.1 == length poll.options) (ballot_in-sound line ballot some) refl

pub reading_is : (poll : PollContent) (line : List ℕ) → IsReading poll line (reading poll line)
reading_is poll line = reading_by_ballot poll line (ballot_in line) refl

reading_fits : (poll : PollContent) (line : List ℕ) (r : Reading) → IsReading poll line r → ReadingFits (option_count poll) (elector_count poll) r
reading_fits poll line (Bad line_fault) h = tt
reading_fits poll line (Ballot place ranks) h = ((position-Some (bytes_eq h.0) poll.roll place [] h.3).0, h.2)

pub reading_fits_poll : (poll : PollContent) (line : List ℕ) → ReadingFits (option_count poll) (elector_count poll) (reading poll line)
reading_fits_poll poll line = reading_fits poll line (reading poll line) (reading_is poll line)

pub ruleset reading_laws = (reading_is, reading_fits_poll)
