-- A line that is not refused is a ballot, whose first word is an elector, so it is no head of a table.
use Rattle.vote_explain_ballots.proofs.Words.{Bool, None, Option, Some, [], append_assoc, arith, false, length, list_all, map, nat_tests, refl, true, ℕ, ◌&&◌, ◌++◌, ◌∙◌, ◌∷◌, ◌≡◌, ap, All-weaker}
use Rattle.vote_explain_ballots.proofs.Words.{PollContent, Reading, Text, is_ballot, is_head, is_voter_byte, last_in_time, reading, refusing_reply}
use Rattle.std.specs.Char.{to_ascii_lowercase}
use Rattle.std.proofs.lemmas.List.Splits.{slice_split_at}
use Rattle.std.proofs.lemmas.List.Sums.{AllPass-from_list_all}
use Rattle.vote_poll_text.specs.Names.{is_voter_name}
use Rattle.vote_poll.specs.Names.{place_of}
use Rattle.vote_poll.specs.Readings.{IsReading}
use Rattle.vote_poll.specs.declared.reading.Reading.TheVariants.{Bad, Ballot}
use Rattle.vote_steps.proofs.CastLemmas.{EachLineIsRead}
use Rattle.std.proofs.Common.{nat_eq, not, ◌==◌}
use Rattle.std.specs.Prelude.{is_none}
use Rattle.std.specs.List.{join_with_byte, starts_with}
use Rattle.vote_poll.specs.BallotLine.{rank_text}
use Rattle.vote_poll.specs.PollContent.{option_count}
use Rattle.vote_explain_ballots.specs.Tables.{first_word, is_near_name, is_of_ranks, is_sign, may_be_head}

-- a name has no sign that parts words, and no capital
no_sign : (b : ℕ) → is_voter_byte b ≡ true → is_sign b ≡ false
no_sign b is = grind (arith, nat_tests)

is_small : (b : ℕ) → is_voter_byte b ≡ true → to_ascii_lowercase b ≡ b
is_small b is = grind (arith, nat_tests)

are_small : (name : Text) → list_all is_voter_byte name ≡ true → map to_ascii_lowercase name ≡ name
are_small [] are = refl
are_small (b ∷ name) are =
    let first : is_voter_byte b ≡ true = grind (arith, nat_tests) in
    let others : list_all is_voter_byte name ≡ true = grind (arith, nat_tests) in
    rw (is_small b first, are_small name others) refl

-- the first word of a line that begins with a name and a blank
first_is_name : (name rest : Text) → is_voter_name name ≡ true → first_word (name ++ (32 ∷ rest)) ≡ name
first_is_name [] rest is = grind (arith, nat_tests)
first_is_name (b ∷ name) rest is =
    let are : list_all is_voter_byte (b ∷ name) ≡ true = grind (arith, nat_tests) in
    let plain = All-weaker (λ b. is_voter_byte b ≡ true) (λ b. is_sign b ≡ false) no_sign (b ∷ name) (AllPass-from_list_all is_voter_byte (b ∷ name) are) in
    let parts = slice_split_at is_sign (b ∷ name) 32 rest plain refl in
    let unmarked : starts_with nat_eq ((b ∷ name) ++ (32 ∷ rest)) (0xEF ∷ 0xBB ∷ 0xBF ∷ []) ≡ false = grind (arith, nat_tests) in
    let full : not (length (b ∷ name) == 0) ≡ true = grind (arith, nat_tests) in
    rw (unmarked, parts, full) refl

no_head : (may near : Bool) (found : Option ℕ) (place : ℕ) → found ≡ Some place → (may && (is_none found && near)) ≡ false
no_head may near found place is = grind (arith, nat_tests)

not_refused : (last number : ℕ) (read : Reading) → refusing_reply last number read ≡ None → is_ballot read ≡ true
not_refused last number (Bad fault) none = grind (arith, nat_tests)
not_refused last number (Ballot voter ranks) none = refl

-- ---- since each line is read by the grammar
module _ (law : EachLineIsRead) where
  ballot_by : (poll : PollContent) (is_below : Bool) (line : Text) (read : Reading) → IsReading poll line read → is_ballot read ≡ true → is_head poll is_below line ≡ false
  ballot_by poll is_below line (Bad fault) is ballot = cc
  ballot_by poll is_below line (Ballot place ranks) is ballot =
      let name = is.0 in
      let rest = join_with_byte 44 (map rank_text ranks) in
      let text : line ≡ name ++ (32 ∷ rest) = is.1.is_text ∙ append_assoc name (32 ∷ []) rest in
      let plain : list_all is_voter_byte name ≡ true = grind (arith, nat_tests, is.1.is_name) in
      let word : map to_ascii_lowercase (first_word line) ≡ name =
      ap (λ t. map to_ascii_lowercase (first_word t)) text ∙ ap (map to_ascii_lowercase) (first_is_name name rest is.1.is_name) ∙ are_small name plain in
      no_head (may_be_head (option_count poll) is_below line) (not (is_of_ranks line && is_near_name poll.roll (map to_ascii_lowercase (first_word line)))) (place_of (map to_ascii_lowercase (first_word line)) poll.roll) place
      (ap (λ w. place_of w poll.roll) word ∙ is.3)

  pub ballot_is_no_head : (poll : PollContent) (is_below : Bool) (line : Text) (number : ℕ) → refusing_reply (last_in_time poll) number (reading poll line) ≡ None → is_head poll is_below line ≡ false
  ballot_is_no_head poll is_below line number none = ballot_by poll is_below line (reading poll line) (law poll line) (not_refused (last_in_time poll) number (reading poll line) none)
