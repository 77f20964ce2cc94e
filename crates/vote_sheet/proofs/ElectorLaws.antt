-- Files that differ in refused lines, in outdated lines, in one ballot, or in the names of the electors.
use Rattle.std.proofs.Common.{◌≡◌, ◌≢◌, ℕ, ◌<◌, ◌≤◌, ◌⊎◌, suc, zero, Bool, false, cond, eqb, List, [], ◌∷◌, ◌++◌, Option, None, Some, length, length-append, take, map, refl, sym, ap, ◌∙◌, inl, inr, arith}
use Rattle.std.specs.Prelude.{count_by, is_some, slice_get}
use Rattle.std.specs.List.{AllZip, range_with_len}
use Rattle.std.specs.Option.{option_or}
use Rattle.std.proofs.lemmas.Bool.{cases_eq, eq-eqb, ne_eqb}
use Rattle.std.proofs.lemmas.List.{take-map}
use Rattle.vote_poll.specs.PollContent.{PollContent, elector_count, last_in_time}
use Rattle.vote_poll.specs.Readings.{is_ballot, reading, readings}
use Rattle.vote_poll.specs.declared.Reading.{Reading}
use Rattle.vote_poll.specs.declared.Reading.TheVariants.{Bad, Ballot}
use Rattle.vote_count.specs.Ballots.{entry_prefers}
use Rattle.vote_count.specs.Votes.{votes}
use Rattle.vote_steps.specs.History.{ranks_read}
use Rattle.vote_steps.specs.Recasts.{last_ballot}
use Rattle.vote_sheet.specs.ElectorLaws.{AreSameOrNoBallots, IsBallotFrom, IsWithinOne, OneBallotMovesEachCountByOne, OnlyTheLastBallotCounts, RefusedLinesAreOnlyCounted, RefusedLinesHaveNoInfluence}
use Rattle.vote_steps.specs.LastBallots.{last_valid_ballots, readings_in_time, voter_count, votes_for}
use Rattle.vote_sheet.specs.Sheet.{Text}
use Rattle.vote_sheet.proofs.ElectorSums.{entry_count, valid-refused}
use Rattle.vote_sheet.proofs.SameSheets.{from_last_ballots, same_sheets_here}
use Rattle.vote_count.proofs.Counts.{count-cons, one, one_at_most}
use Rattle.vote_sheet.proofs.StandingLemmas.{Entry}

map_same : {X : Type 0} (f g : ℕ → X) (ns : List ℕ) → ((n : ℕ) → f n ≡ g n) → map f ns ≡ map g ns
map_same f g [] same = refl
map_same f g (n ∷ ns) same = ap (λ x. x ∷ map f ns) (same n) ∙ ap (λ xs. g n ∷ xs) (map_same f g ns same)

-- if each elector's last ballot is the same, so are the lists of last ballots
same_last : (rs ss : List Reading) (n : ℕ) → ((v : ℕ) → last_ballot rs v ≡ last_ballot ss v) → map (last_ballot rs) (range_with_len 0 n) ≡ map (last_ballot ss) (range_with_len 0 n)
same_last rs ss n same = map_same (last_ballot rs) (last_ballot ss) (range_with_len 0 n) same

pub no_ballot : (v : ℕ) (r : Reading) → is_ballot r ≡ false → ranks_read v r ≡ None
no_ballot v (Bad fault) no_one = refl
no_ballot v (Ballot u ranks) is = cc

-- ---- refused lines
module _ (poll : PollContent) where
  -- what a line adds to the last ballots and to the valid lines
  abbrev last_in : List Text → ℕ → Entry
  last_in lines = last_ballot (readings poll lines)

  abbrev valid_in : List Text → ℕ
  valid_in lines = count_by is_ballot (readings poll lines)

  same_ranks : (line other : Text) → AreSameOrNoBallots poll line other → (v : ℕ) → ranks_read v (reading poll line) ≡ ranks_read v (reading poll other)
  same_ranks line other same v =
      elim same [
        | inl equal ↦ ap (λ t. ranks_read v (reading poll t)) equal
        | inr neither ↦ no_ballot v (reading poll line) neither.0 ∙ sym (no_ballot v (reading poll other) neither.1)
      ]

  same_kind : (line other : Text) → AreSameOrNoBallots poll line other → is_ballot (reading poll line) ≡ is_ballot (reading poll other)
  same_kind line other same = elim same [ inl equal ↦ ap (λ t. is_ballot (reading poll t)) equal | inr neither ↦ neither.0 ∙ sym neither.1 ]

  last_but_refused : (lines others : List Text) → AllZip (AreSameOrNoBallots poll) lines others → (v : ℕ) → last_in lines v ≡ last_in others v
  last_but_refused [] [] are v = refl
  last_but_refused [] (other ∷ others) are v = absurd are
  last_but_refused (line ∷ lines) [] are v = absurd are
  last_but_refused (line ∷ lines) (other ∷ others) are v =
      ap (λ o. option_or o (ranks_read v (reading poll line))) (last_but_refused lines others are.1 v)
      ∙ ap (option_or (last_in others v)) (same_ranks line other are.0 v)

  valid_but_refused : (lines others : List Text) → AllZip (AreSameOrNoBallots poll) lines others → valid_in lines ≡ valid_in others
  valid_but_refused [] [] are = refl
  valid_but_refused [] (other ∷ others) are = absurd are
  valid_but_refused (line ∷ lines) [] are = absurd are
  valid_but_refused (line ∷ lines) (other ∷ others) are =
      omega (
        arith,
        count-cons is_ballot (reading poll line) (readings poll lines),
        count-cons is_ballot (reading poll other) (readings poll others),
        ap one (same_kind line other are.0),
        valid_but_refused lines others are.1,
      )

  -- the readings of the lines that are not late
  in_time : (n : ℕ) (lines : List Text) → take n (readings poll lines) ≡ readings poll (take n lines)
  in_time n lines = take-map (reading poll) n lines

pub refused_lines : RefusedLinesHaveNoInfluence
refused_lines poll lines others differ =
    let n = last_in_time poll in
    let here = in_time poll n lines in
    let there = in_time poll n others in
    same_sheets_here poll lines others
    (from_last_ballots poll lines others differ.as_long
    (ap (count_by is_ballot) there ∙ sym (valid_but_refused poll (take n lines) (take n others) differ.in_time) ∙ ap (count_by is_ballot) (sym here))
    (ap (λ rs. map (last_ballot rs) (range_with_len 0 (elector_count poll))) there
    ∙ same_last (readings poll (take n others)) (readings poll (take n lines)) (elector_count poll) (λ v. sym (last_but_refused poll (take n lines) (take n others) differ.in_time v))
    ∙ ap (λ rs. map (last_ballot rs) (range_with_len 0 (elector_count poll))) (sym here)))

-- ---- a refused line at the end
module _ (poll : PollContent) (line : Text) where
  -- the line is refused if n lines are in time and it comes after these lines
  abbrev IsRefused : ℕ → List Text → Type 0
  IsRefused n lines = (n ≤ length lines) ⊎ (is_ballot (reading poll line) ≡ false)

  refused_later : (n : ℕ) (first : Text) (lines : List Text) → IsRefused (suc n) (first ∷ lines) → IsRefused n lines
  refused_later n first lines refused = elim refused [ inl late ↦ inl (omega (arith, late)) | inr bad ↦ inr bad ]

  alone : (n : ℕ) → IsRefused (suc n) [] → is_ballot (reading poll line) ≡ false
  alone n refused = elim refused [ inl late ↦ absurd (omega (arith, late)) | inr bad ↦ bad ]

  last_after : (n : ℕ) (lines : List Text) → IsRefused n lines → (v : ℕ) → last_ballot (take n (readings poll (lines ++ line ∷ []))) v ≡ last_ballot (take n (readings poll lines)) v
  last_after zero lines refused v = refl
  last_after (suc zero) [] refused v = no_ballot v (reading poll line) (alone 0 refused)
  last_after (suc (suc n)) [] refused v = no_ballot v (reading poll line) (alone (suc n) refused)
  last_after (suc n) (first ∷ lines) refused v = ap (λ o. option_or o (ranks_read v (reading poll first))) (last_after n lines (refused_later n first lines refused) v)

  valid_after : (n : ℕ) (lines : List Text) → IsRefused n lines → count_by is_ballot (take n (readings poll (lines ++ line ∷ []))) ≡ count_by is_ballot (take n (readings poll lines))
  valid_after zero lines refused = refl
  valid_after (suc n) [] refused = omega (arith, count-cons is_ballot (reading poll line) (take n []), ap one (alone n refused), none_of n)
    where
      none_of : (n : ℕ) → count_by is_ballot (take n []) ≡ 0
      none_of zero = refl
      none_of (suc n) = refl
  valid_after (suc n) (first ∷ lines) refused =
      omega (
        arith,
        count-cons is_ballot (reading poll first) (take n (readings poll (lines ++ line ∷ []))),
        count-cons is_ballot (reading poll first) (take n (readings poll lines)),
        valid_after n lines (refused_later n first lines refused),
      )

pub refused_line_after : RefusedLinesAreOnlyCounted
refused_line_after poll lines line casting s refused is =
    let n = last_in_time poll in
    let long = length-append lines (line ∷ []) in
    let valid = valid_after poll line n lines refused in
    let last = same_last (readings_in_time poll (lines ++ line ∷ [])) (readings_in_time poll lines) (elector_count poll) (last_after poll line n lines refused) in
    record {
      quorum = is.quorum;
      valid = is.valid ∙ sym valid;
      refused = omega (arith, is.refused, valid, long, valid-refused poll lines, valid-refused poll (lines ++ line ∷ []));
      voters = is.voters ∙ ap (count_by is_some) (sym last);
      size = is.size;
      counted = λ a b of_a of_b. is.counted a b of_a of_b ∙ ap (count_by (entry_prefers a b)) (sym last);
      outcome = is.outcome;
      decision = is.decision;
    }

-- ---- an outdated ballot
pub some_ranks : (later : Entry) (ranks : List (Option ℕ)) → (found : List (Option ℕ)) × (option_or later (Some ranks) ≡ Some found)
some_ranks None ranks = (ranks, refl)
some_ranks (Some found) ranks = (found, refl)

-- an elector's ballot, as it is read for the elector at index v
read_of : (elector v : ℕ) (ranks : List (Option ℕ)) (r : Reading) → r ≡ Ballot elector ranks → ranks_read v r ≡ cond (eqb elector v) (Some ranks) None
read_of elector v ranks r is = ap (ranks_read v) is

covered : (later entry other : Entry) (found : List (Option ℕ)) → later ≡ Some found → option_or later entry ≡ option_or later other
covered later entry other found is = ap (λ o. option_or o entry) is ∙ sym (ap (λ o. option_or o other) is)

module _ (poll : PollContent) (elector : ℕ) (between after : List Text) (line other later : Text) (is_line : IsBallotFrom poll elector line) (is_other : IsBallotFrom poll elector other) (is_later : IsBallotFrom poll elector later) where
  -- an elector with a ballot in time has a last one
  has_later : (n : ℕ) (lines : List Text) → length lines < n → (found : List (Option ℕ)) × (last_ballot (take n (readings poll (lines ++ later ∷ after))) elector ≡ Some found)
  has_later zero lines short = absurd (omega (arith, short))
  has_later (suc n) [] short =
      let mine : ranks_read elector (reading poll later) ≡ Some is_later.0 =
      read_of elector elector is_later.0 (reading poll later) is_later.1 ∙ ap (λ t. cond t (Some is_later.0) None) (eq-eqb elector elector refl) in
      let rest = last_ballot (take n (readings poll after)) elector in
      let found = some_ranks rest is_later.0 in
      (found.0, ap (option_or rest) mine ∙ found.1)
  has_later (suc n) (first ∷ lines) short =
      let found = has_later n lines (omega (arith, short)) in
      (found.0, ap (λ o. option_or o (ranks_read elector (reading poll first))) found.1)

  same_after : (n v : ℕ) → length between < n → let rest = last_ballot (take n (readings poll (between ++ later ∷ after))) v in
      option_or rest (ranks_read v (reading poll line)) ≡ option_or rest (ranks_read v (reading poll other))
  same_after n v short =
      let rest = last_ballot (take n (readings poll (between ++ later ∷ after))) v in
      let of_line = read_of elector v is_line.0 (reading poll line) is_line.1 in
      let of_other = read_of elector v is_other.0 (reading poll other) is_other.1 in
      elim (cases_eq elector v) [
        | inl same ↦
            let found = has_later n between short in
            covered rest (ranks_read v (reading poll line)) (ranks_read v (reading poll other)) found.0 (ap (last_ballot (take n (readings poll (between ++ later ∷ after)))) (sym same) ∙ found.1)
        | inr apart ↦
            let no_line = of_line ∙ ap (λ t. cond t (Some is_line.0) None) (ne_eqb elector v apart) in
            let no_other = of_other ∙ ap (λ t. cond t (Some is_other.0) None) (ne_eqb elector v apart) in
            ap (option_or rest) (no_line ∙ sym no_other)
      ]

  last_outdated : (n v : ℕ) (before : List Text) → length (before ++ line ∷ between) < n
      → last_ballot (take n (readings poll (before ++ line ∷ between ++ later ∷ after))) v ≡ last_ballot (take n (readings poll (before ++ other ∷ between ++ later ∷ after))) v
  last_outdated zero v before short = absurd (omega (arith, short))
  last_outdated (suc n) v [] short = same_after n v (omega (arith, short))
  last_outdated (suc n) v (first ∷ before) short = ap (λ o. option_or o (ranks_read v (reading poll first))) (last_outdated n v before (omega (arith, short)))

  valid_outdated : (n : ℕ) (before : List Text)
      → count_by is_ballot (take n (readings poll (before ++ line ∷ between ++ later ∷ after))) ≡ count_by is_ballot (take n (readings poll (before ++ other ∷ between ++ later ∷ after)))
  valid_outdated zero before = refl
  valid_outdated (suc n) [] =
      let rest = take n (readings poll (between ++ later ∷ after)) in
      ap (λ r. count_by is_ballot (r ∷ rest)) is_line.1 ∙ sym (ap (λ r. count_by is_ballot (r ∷ rest)) is_other.1)
  valid_outdated (suc n) (first ∷ before) =
      omega (
        arith,
        count-cons is_ballot (reading poll first) (take n (readings poll (before ++ line ∷ between ++ later ∷ after))),
        count-cons is_ballot (reading poll first) (take n (readings poll (before ++ other ∷ between ++ later ∷ after))),
        valid_outdated n before,
      )

  as_long_outdated : (before : List Text) → length (before ++ other ∷ between ++ later ∷ after) ≡ length (before ++ line ∷ between ++ later ∷ after)
  as_long_outdated [] = refl
  as_long_outdated (first ∷ before) = ap suc (as_long_outdated before)

pub outdated_lines : OnlyTheLastBallotCounts
outdated_lines poll elector before between after line other later is_line is_other is_later short =
    let n = last_in_time poll in
    let lines = before ++ line ∷ between ++ later ∷ after in
    let others = before ++ other ∷ between ++ later ∷ after in
    same_sheets_here poll lines others
    (from_last_ballots poll lines others (as_long_outdated poll elector between after line other later is_line is_other is_later before)
    (sym (valid_outdated poll elector between after line other later is_line is_other is_later n before))
    (same_last (readings_in_time poll others) (readings_in_time poll lines) (elector_count poll)
    (λ v. sym (last_outdated poll elector between after line other later is_line is_other is_later n v before short))))

-- ---- one ballot
some_same : (a b : Entry) → Some a ≡ Some b → a ≡ b
some_same a b is = cc

count_at_all : (p : Entry → Bool) (xs ys : List Entry) → length ys ≡ length xs → ((v : ℕ) → slice_get ys v ≡ slice_get xs v) → count_by p ys ≡ count_by p xs
count_at_all p [] [] long same = refl
count_at_all p [] (y ∷ ys) long same = absurd (omega (arith, long))
count_at_all p (x ∷ xs) [] long same = absurd (omega (arith, long))
count_at_all p (x ∷ xs) (y ∷ ys) long same =
    let first : y ≡ x = some_same y x (same 0) in
    omega (arith, count-cons p x xs, count-cons p y ys, ap (λ e. one (p e)) first, count_at_all p xs ys (omega (arith, long)) (λ v. same (suc v)))

count_but_one : (p : Entry → Bool) (e : ℕ) (xs ys : List Entry) → length ys ≡ length xs → ((v : ℕ) → v ≢ e → slice_get ys v ≡ slice_get xs v) → IsWithinOne (count_by p xs) (count_by p ys)
count_but_one p e [] [] long same = (omega arith, omega arith)
count_but_one p e [] (y ∷ ys) long same = absurd (omega (arith, long))
count_but_one p e (x ∷ xs) [] long same = absurd (omega (arith, long))
count_but_one p zero (x ∷ xs) (y ∷ ys) long same =
    let rest = count_at_all p xs ys (omega (arith, long)) (λ v. same (suc v) (λ is. absurd (omega (arith, is)))) in
    let here = count-cons p x xs in
    let there = count-cons p y ys in
    let less = one_at_most (p x) in
    let more = one_at_most (p y) in
    (omega arith, omega arith)
count_but_one p (suc e) (x ∷ xs) (y ∷ ys) long same =
    let first : y ≡ x = some_same y x (same 0 (λ is. absurd (omega (arith, is)))) in
    let rest = count_but_one p e xs ys (omega (arith, long)) (λ v apart. same (suc v) (λ is. apart (omega (arith, is)))) in
    let here = count-cons p x xs in
    let there = count-cons p y ys in
    let equal = ap (λ z. one (p z)) first in
    (omega arith, omega arith)

moved : (n m k l : ℕ) → n ≡ k → m ≡ l → IsWithinOne k l → IsWithinOne n m
moved n m k l is_n is_m within = (omega (arith, within.0), omega (arith, within.1))

pub one_ballot : OneBallotMovesEachCountByOne
one_ballot poll elector lines others casting other s t differ is_s is_t =
    let long = entry_count poll others ∙ sym (entry_count poll lines) in
    let xs = last_valid_ballots poll lines in
    let ys = last_valid_ballots poll others in (
      moved s.voters t.voters (voter_count poll lines) (voter_count poll others) is_s.voters is_t.voters (count_but_one is_some elector xs ys long differ),
      λ a b of_a of_b.
          moved (votes s.matrix a b) (votes t.matrix a b) (votes_for poll lines a b) (votes_for poll others a b) (is_s.counted a b of_a of_b) (is_t.counted a b of_a of_b)
          (count_but_one (entry_prefers a b) elector xs ys long differ),
    )
