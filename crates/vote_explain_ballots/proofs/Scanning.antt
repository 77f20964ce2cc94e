-- Reading a line from the left finds where it leaves the grammar.
use Rattle.vote_explain_ballots.proofs.Words.{◌≡◌, ◌+◌, ◌-◌, ◌<◌, ◌≤◌, ◌++◌, inl, inr, ℕ, zero, List, [], ◌∷◌, map, length, take, drop, refl, ap, sym, subst, ◌∙◌, Option, Some, None, true, false, nat_le, suc, ◌&&◌, ◌==◌, get_or, arith}
use Rattle.vote_explain_ballots.proofs.Words.{append_assoc, append-nil, take-append-drop, Bool, is_some, ◌↔◌, cond, list_all, before_first, after_first, position_or_len, slice_split, onto_first, nat_tests, common_steps, take-take, take_more}
use Rattle.vote_explain_ballots.proofs.Words.{PollContent, IsReading, ballot_in, is_space, rank_in, reading_of, is_voter_byte, is_within, IsColumn, IsExit, IsLinePrefix, IsPartAfter, has_byte, may_end, next_part}
use Rattle.std.proofs.lemmas.Bool.{cases_Bool, cases_lt, and_parts}
use Rattle.vote_poll.specs.BallotLine.{IsBallotText}
use Rattle.vote_poll.specs.declared.reading.Reading.TheVariants.{Bad}
use Rattle.vote_poll.specs.declared.reading.LineFault.TheVariants.{RankCount, Roll}
use Rattle.vote_poll.specs.declared.wording.Wording.TheVariants.{AtLeast}
use Rattle.vote_poll_keys.specs.Lists.{all_some}
use Rattle.vote_steps.proofs.CastLemmas.{EachLineIsRead}
use Rattle.vote_explain_ballots.specs.declared.places.Part.{Part}
use Rattle.vote_explain_ballots.specs.declared.places.Part.TheVariants as part

-- ---- the parts between commas are ranks
abbrev are_ranks : List (List ℕ) → Bool
are_ranks [] = true
are_ranks (text ∷ texts) = is_some (rank_in text) && are_ranks texts

ranks_are : (texts : List (List ℕ)) → is_some (all_some (map rank_in texts)) ≡ are_ranks texts
ranks_are [] = refl
ranks_are (text ∷ texts) = let more = ranks_are texts in grind arith

abbrev texts_in : List ℕ → List (List ℕ)
texts_in rest = slice_split (λ b. b == 44) rest

-- ---- what is after the front of a ballot line, in this part, after this number of bytes
abbrev named : ℕ → List ℕ → Bool
named count name = is_within 1 32 (count + length name) && list_all is_voter_byte name

abbrev pub goes_on : Part → ℕ → List ℕ → Bool
goes_on part.Name count rest = (nat_le (count + length rest) 200 && named count (before_first is_space rest)) && are_ranks (texts_in (after_first is_space rest))
goes_on part.Rank count rest = nat_le (count + length rest) 200 && are_ranks (texts_in rest)
goes_on part.Digit count rest = nat_le (count + length rest) 200 && are_ranks (onto_first 49 (texts_in rest))
goes_on part.RankEnd count rest = nat_le (count + length rest) 200 && are_ranks (onto_first 45 (texts_in rest))

some_rest : (rest : List ℕ) → are_ranks (texts_in rest) ≡ true → 1 ≤ length rest
some_rest [] is = cc
some_rest (b ∷ rest) is = omega arith

-- the most bytes before a part
abbrev pub most_before : Part → ℕ
most_before part.Name = 32
most_before part.Rank = 199
most_before part.Digit = 200
most_before part.RankEnd = 200

step : (p : Part) (count b : ℕ) (rest : List ℕ) → count ≤ most_before p → goes_on p count (b ∷ rest) ≡ has_byte p count b && goes_on (next_part p b) (count + 1) rest
step part.Name count b rest room = elim (cases_Bool (b == 32)) [
  | inl space ↦ let none : is_voter_byte b ≡ false = grind (arith, nat_tests) in rw (space, none) (grind (arith, nat_tests))
  | inr other ↦
      let before = position_or_len is_space rest in
      let next : 1 + before ≡ suc before = omega arith in
      let past : 1 + before + 1 ≡ suc (before + 1) = omega arith in
      rw (other, past, next) (grind (arith, nat_tests))
]
step part.Rank count b rest room = grind (arith, nat_tests)
step part.Digit count b rest room = grind (arith, nat_tests, some_rest rest)
step part.RankEnd count b rest room = grind (arith, nat_tests, some_rest rest)

room_kept : (p : Part) (count b : ℕ) → count ≤ most_before p → has_byte p count b ≡ true → count + 1 ≤ most_before (next_part p b)
room_kept p count b room here = grind (arith, nat_tests, common_steps)

-- what makes the front a ballot line is what goes on in this part, after this number of bytes
pub record IsAfter (front : List ℕ) (count : ℕ) (p : Part) : Type 0 where
  pub room : count ≤ most_before p
  pub left : (rest : List ℕ) → goes_on part.Name 0 (front ++ rest) ≡ goes_on p count rest

after_next : (front : List ℕ) (p : Part) (count b : ℕ) → IsAfter front count p → (rest : List ℕ) → goes_on part.Name 0 ((front ++ b ∷ []) ++ rest) ≡ has_byte p count b && goes_on (next_part p b) (count + 1) rest
after_next front p count b is rest = ap (goes_on part.Name 0) (append_assoc front (b ∷ []) rest) ∙ is.left (b ∷ rest) ∙ step p count b rest is.room

pub after_byte : (front : List ℕ) (p : Part) (count b : ℕ) → IsAfter front count p → has_byte p count b ≡ true → IsAfter (front ++ b ∷ []) (count + 1) (next_part p b)
after_byte front p count b is here = record {
  room = room_kept p count b is.room here;
  left = λ rest. after_next front p count b is rest ∙ ap (λ h. h && goes_on (next_part p b) (count + 1) rest) here;
}

-- each part goes on to a line
some_line : (p : Part) (count : ℕ) → count ≤ most_before p → (rest : List ℕ) × (goes_on p count rest ≡ true)
some_line part.Name zero room = (97 ∷ 32 ∷ 49 ∷ [], refl)
some_line part.Name (suc n) room = (32 ∷ 49 ∷ [], grind (arith, nat_tests, common_steps))
some_line part.Rank count room = (49 ∷ [], grind (arith, nat_tests))
some_line part.Digit count room = ([], grind (arith, nat_tests))
some_line part.RankEnd count room = ([], grind (arith, nat_tests))

-- a ballot line may end where what goes on may be nothing
ends : (p : Part) (count : ℕ) → count ≤ most_before p → goes_on p count [] ≡ may_end p
ends p count room = grind (arith, nat_tests, common_steps)

-- a poll without options, of which each ballot line has too many ranks
abbrev some_poll : PollContent
some_poll = record { title = []; options = []; ratios = []; quorum_multiple = 0; roll = []; last_envelope = None; wording = AtLeast }

text_from : (line : List ℕ) (test : Bool) → IsReading some_poll line (cond test (Bad Roll) (Bad RankCount)) → IsBallotText line
text_from line true is = (is.0, is.1, is.2)
text_from line false is = (is.0, is.1, is.2)

text_by : (line : List ℕ) (found : Option (List ℕ × List (Option ℕ))) → IsReading some_poll line (reading_of some_poll found) → IsBallotText line ↔ (is_some found ≡ true)
text_by line None is = (λ (name, ranks, text). absurd (is name ranks text), λ some. cc)
text_by line (Some ballot) is = (λ text. refl, λ some. text_from line (length ballot.1 == 0) is)

-- ---- where a line leaves the grammar
shorter_prefix : (m n : ℕ) (line : List ℕ) → m ≤ n → IsLinePrefix (take n line) → IsLinePrefix (take m line)
shorter_prefix m n line few (rest, is) =
    let prefix : take m (take n line) ≡ take m line = take-take m n line few in
    let whole : take m line ++ drop m (take n line) ≡ take n line = ap (λ t. t ++ drop m (take n line)) (sym prefix) ∙ take-append-drop m (take n line) in
    (drop m (take n line) ++ rest, subst IsBallotText (ap (λ t. t ++ rest) (sym whole) ∙ append_assoc (take m line) (drop m (take n line)) rest) is)

-- since each line is read by the grammar
module _ (law : EachLineIsRead) where
  text_is : (line : List ℕ) → IsBallotText line ↔ (goes_on part.Name 0 line ≡ true)
  text_is line =
      let same : is_some (ballot_in line) ≡ goes_on part.Name 0 line = grind (arith, nat_tests, ranks_are (texts_in (after_first is_space line))) in
      subst (λ b. IsBallotText line ↔ (b ≡ true)) same (text_by line (ballot_in line) (law some_poll line))

  is_front : (front : List ℕ) (p : Part) (count : ℕ) → IsAfter front count p → IsLinePrefix front
  is_front front p count is = let (rest, ok) = some_line p count is.room in (rest, (text_is (front ++ rest)).1 (is.left rest ∙ ok))

  byte_after : (front : List ℕ) (p : Part) (count b : ℕ) → IsAfter front count p → IsLinePrefix (front ++ b ∷ []) → has_byte p count b ≡ true
  byte_after front p count b is (rest, line) =
      (and_parts (has_byte p count b) (goes_on (next_part p b) (count + 1) rest) (sym (after_next front p count b is rest) ∙ (text_is ((front ++ b ∷ []) ++ rest)).0 line)).0

  part_after : (front : List ℕ) (p : Part) (count : ℕ) → IsAfter front count p → IsPartAfter front count p
  part_after front p count is =
      let ended = ap (goes_on part.Name 0) (sym (append-nil front)) ∙ is.left [] ∙ ends p count is.room in
      record {
        bytes = λ b. (λ here. is_front (front ++ b ∷ []) (next_part p b) (count + 1) (after_byte front p count b is here), byte_after front p count b is);
        end = (λ ok. (text_is front).1 (ended ∙ ok), λ line. sym ended ∙ (text_is front).0 line);
      }

  -- after this number of bytes, if no ballot line goes on with the next one
  pub exit_after : (line : List ℕ) (before : ℕ) (p : Part) → before ≤ length line → IsAfter (take before line) before p → (before < length line → has_byte p before (get_or line before 0) ≡ false)
      → IsExit line (record { before = before; part = p })
  exit_after line before p within after none = record {
    column = record {
      from_one = omega arith;
      within = omega (arith, within);
      is_prefix = subst (λ n. IsLinePrefix (take n line)) (omega arith) (is_front (take before line) p before after);
      longest = λ n most prefix. elim (cases_lt before n) [
        | inl more ↦
            let less : before < length line = omega (arith, most) in
            let longer = subst IsLinePrefix (take_more line before 0 less) (shorter_prefix (before + 1) n line (omega arith) prefix) in
            let wrong : true ≡ false = sym (byte_after (take before line) p before (get_or line before 0) after longer) ∙ none less in cc
        | inr few ↦ omega arith
      ];
    };
    place = part_after (take before line) p before after;
  }

-- of two columns neither comes after the other
pub columns_are_one : (line : List ℕ) (a b : ℕ) → IsColumn line a → IsColumn line b → a ≡ b
columns_are_one line a b one other =
    omega (arith, one.from_one, other.from_one, other.longest (a - 1) (omega (arith, one.within)) one.is_prefix, one.longest (b - 1) (omega (arith, other.within)) other.is_prefix)
