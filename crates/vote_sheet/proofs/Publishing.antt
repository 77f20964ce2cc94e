-- The published files of a secret vote say the same as the received files.
use Rattle.std.proofs.Common.{◌≡◌, ℕ, zero, suc, ◌+◌, ◌*◌, ◌<◌, ◌≤◌, ◌⊎◌, true, cond, List, [], ◌∷◌, ◌++◌, Option, Some, None, length, length-append, get_or, map, inl, inr, refl, sym, ap, ◌∙◌, subst, arith}
use Rattle.std.specs.Prelude.{count_by, is_some, option_map, slice_get}
use Rattle.std.specs.List.{All, Contains, join_with_byte, list_all, range_with_len}
use Rattle.std.specs.Option.{option_or}
use Rattle.std.proofs.lemmas.Bool.{and_parts, cases_eq, eq-eqb, ne_eqb}
use Rattle.std.proofs.lemmas.Bool.Decides.{nat_tests}
use Rattle.std.proofs.lemmas.Fmt.{length-decimal-le}
use Rattle.std.proofs.lemmas.List.{length-map, take_all}
use Rattle.std.proofs.lemmas.List.Elements.{All-head, All-tail, Contains-append_left, Contains-append_right}
use Rattle.std.proofs.lemmas.List.FromFn.{get_or-map-range_with_len, length-map-range_with_len}
use Rattle.std.proofs.lemmas.Option.{same_Some}
use Rattle.std.proofs.lemmas.Simd.{map-map}
use Rattle.std.proofs.lemmas.List.Sorted.{All-permutation, Contains-permutation, length_permutation}
use Rattle.std.proofs.lemmas.List.Sums.{count_by-le-length}
use Rattle.vote_poll.specs.BallotLine.{IsBallotLine, IsRank, line_text, rank_text}
use Rattle.vote_poll.specs.Names.{NamesAreDistinct}
use Rattle.vote_poll.specs.PollContent.{PollContent, elector_count, last_in_time, option_count}
use Rattle.vote_poll.specs.Readings.{IsReading, is_ballot, reading, readings}
use Rattle.vote_poll.specs.Spelling.{ReadingsAreUnique}
use Rattle.vote_poll.specs.declared.Reading.{Reading}
use Rattle.vote_poll.specs.declared.Reading.TheVariants.{Ballot}
use Rattle.vote_poll.specs.declared.TheConstants.{MAX_LINE, MAX_OPTIONS}
use Rattle.vote_poll_text.specs.Names.{is_voter_byte, is_voter_name, is_within}
use Rattle.vote_poll_text.specs.declared.TheConstants.{MAX_VOTER_NAME}
use Rattle.vote_steps.specs.History.{ranks_read}
use Rattle.vote_steps.specs.Recasts.{last_ballot}
use Rattle.vote_sheet.specs.ElectorLaws.{BallotsThatOrderAlikeCountAlike, HaveLastBallotsAlike, OrderAlike}
use Rattle.vote_steps.specs.LastBallots.{last_valid_ballots, readings_in_time, valid_count, voter_count}
use Rattle.vote_sheet.specs.Publishing.{ArePublished, KeepsTheOrder, PublishedFilesHaveTheSameSheet, PublishedFilesSayTheSame, other_names, renamed_lines}
use Rattle.vote_sheet.specs.Sheet.{Text}
use Rattle.vote_sheet.specs.Standing.{ballot_line, ballot_lines}
use Rattle.vote_sheet.proofs.LastBallotsDecide.{entry_at, entry_or_none}
use Rattle.vote_sheet.proofs.ElectorLaws.{some_ranks}
use Rattle.vote_sheet.proofs.Renaming.{same_order}
use Rattle.vote_sheet.proofs.ElectorSums.{entry_count, valid-refused}
use Rattle.vote_count.proofs.Counts.{count-cons, one}
use Rattle.vote_sheet.proofs.StandingLemmas.{EachLineIsRead, Entry, OfEachLine, each_line, has_line, last_of, spell}

-- ---- how long a ballot line is
rank_is_short : (rank : Option ℕ) → IsRank rank → length (rank_text rank) ≤ 2
rank_is_short None is = omega arith
rank_is_short (Some n) is = length-decimal-le 2 n (omega arith) (omega (arith, is.1)) (omega (arith, is.1))

ranks_are_short : (ranks : List (Option ℕ)) → All IsRank ranks → length (join_with_byte 44 (map rank_text ranks)) ≤ 3 * length ranks
ranks_are_short [] are = omega arith
ranks_are_short (rank ∷ []) are = omega (arith, rank_is_short rank (All-head IsRank rank [] are))
ranks_are_short (rank ∷ next ∷ ranks) are =
    omega (
      arith,
      length-append (rank_text rank) (44 ∷ join_with_byte 44 (map rank_text (next ∷ ranks))),
      rank_is_short rank (All-head IsRank rank (next ∷ ranks) are),
      ranks_are_short (next ∷ ranks) (All-tail IsRank rank (next ∷ ranks) are),
    )

line_is_short : (name : Text) (ranks : List (Option ℕ)) → is_voter_name name ≡ true → All IsRank ranks → length ranks ≤ MAX_OPTIONS → length (line_text name ranks) ≤ MAX_LINE
line_is_short name ranks is_name are few =
    let row = join_with_byte 44 (map rank_text ranks) in
    let within : is_within 1 MAX_VOTER_NAME (length name) ≡ true = (and_parts (is_within 1 MAX_VOTER_NAME (length name)) (list_all is_voter_byte name) is_name).0 in
    let most : length name ≤ MAX_VOTER_NAME = grind (arith, nat_tests) in
    omega (arith, most, few, length-append (name ++ 32 ∷ []) row, length-append name (32 ∷ []), ranks_are_short ranks are)

-- ---- the lines of the ballots that stand
has_spelled : (f : ℕ → Entry) (a : ℕ) (voters : List Text) (i : ℕ) (ranks : List (Option ℕ)) → i < length voters → f (a + i) ≡ Some ranks
    → Contains (spell f a voters) (line_text (get_or voters i []) ranks)
has_spelled f a [] i ranks below is = absurd (omega (arith, below))
has_spelled f a (voter ∷ voters) zero ranks below is =
    let here : f a ≡ Some ranks = ap f (omega arith) ∙ is in
    let P : Entry → Type 0 = λ entry. Contains (ballot_line voter entry ++ spell f (a + 1) voters) (line_text voter ranks) in
    subst P (sym here) (Contains-append_left (line_text voter ranks ∷ []) (spell f (a + 1) voters) (line_text voter ranks) (0, omega arith, refl))
has_spelled f a (voter ∷ voters) (suc i) ranks below is =
    Contains-append_right (ballot_line voter (f a)) (spell f (a + 1) voters) (line_text (get_or voters i []) ranks)
    (has_spelled f (a + 1) voters i ranks (omega (arith, below)) (ap f (omega arith) ∙ is))

line_or_none : (voter : Text) (entry : Entry) (rest : List Text) → length (ballot_line voter entry ++ rest) ≡ one (is_some entry) + length rest
line_or_none voter None rest = omega arith
line_or_none voter (Some ranks) rest = omega arith

spelled_count : (f : ℕ → Entry) (a : ℕ) (voters : List Text) → length (spell f a voters) ≡ count_by is_some (map f (range_with_len a (length voters)))
spelled_count f a [] = refl
spelled_count f a (voter ∷ voters) =
    omega (
      arith,
      line_or_none voter (f a) (spell f (a + 1) voters),
      count-cons is_some (f a) (map f (range_with_len (a + 1) (length voters))),
      spelled_count f (a + 1) voters,
    )

-- ---- the last ballot among readings
-- an elector with a ballot has a last one
has_last : (poll : PollContent) (lines : List Text) (v k : ℕ) (ranks : List (Option ℕ)) (line : Text) → reading poll line ≡ Ballot v ranks → k < length lines → get_or lines k line ≡ line
    → (found : List (Option ℕ)) × (last_ballot (readings poll lines) v ≡ Some found)
has_last poll [] v k ranks line reads below is = absurd (omega (arith, below))
has_last poll (first ∷ lines) v zero ranks line reads below is =
    let mine : ranks_read v (reading poll first) ≡ Some ranks =
    ap (λ t. ranks_read v (reading poll t)) is ∙ ap (ranks_read v) reads ∙ ap (λ t. cond t (Some ranks) None) (eq-eqb v v refl) in
    let found = some_ranks (last_ballot (readings poll lines) v) ranks in
    (found.0, ap (option_or (last_ballot (readings poll lines) v)) mine ∙ found.1)
has_last poll (first ∷ lines) v (suc k) ranks line reads below is =
    let found = has_last poll lines v k ranks line reads (omega (arith, below)) is in
    (found.0, ap (λ o. option_or o (ranks_read v (reading poll first))) found.1)

-- an entry is None, or this entry
abbrev IsNoneOr : Entry → Entry → Type 0
IsNoneOr entry o = (o ≡ None) ⊎ (o ≡ entry)

either_is : (entry later here : Entry) → IsNoneOr entry later → IsNoneOr entry here → IsNoneOr entry (option_or later here)
either_is entry None here is_later is_here = is_here
either_is entry (Some ranks) here is_later is_here = is_later

decided : (entry found : Entry) → IsNoneOr entry found → ((ranks : List (Option ℕ)) → entry ≡ Some ranks → (other : List (Option ℕ)) × (found ≡ Some other)) → found ≡ entry
decided None found is some = elim is [ inl none ↦ none | inr same ↦ same ]
decided (Some ranks) found is some =
    elim is [
      | inl none ↦
          let other = some ranks refl in
          let impossible : None ≡ Some other.0 = sym none ∙ other.1 in
          cc
      | inr same ↦ same
    ]

-- ---- a ballot that stands, and how it is written
-- the ranks are those of a ballot of a poll with this many options
record IsGiven (options : ℕ) (ranks : List (Option ℕ)) : Type 0 where
  pub are_ranks : All IsRank ranks
  pub has_rank : 1 ≤ length ranks
  pub count : length ranks ≡ options

are_given : EachLineIsRead → (poll : PollContent) (lines : List Text) (v : ℕ) (ranks : List (Option ℕ)) → last_of poll lines v ≡ Some ranks → IsGiven (option_count poll) ranks
are_given read poll lines v ranks is =
    let found = has_line poll (last_in_time poll) lines v ranks is in
    let means : IsReading poll found.0 (Ballot v ranks) = subst (IsReading poll found.0) found.1 (read poll found.0) in
    record { are_ranks = means.1.are_ranks; has_rank = means.1.has_rank; count = means.2 }

written_of : (written : List (Option ℕ) → List (Option ℕ)) (entry : Entry) (ranks : List (Option ℕ)) → option_map written entry ≡ Some ranks
    → (own : List (Option ℕ)) × (entry ≡ Some own) × (written own ≡ ranks)
written_of written None ranks is = cc
written_of written (Some own) ranks is = (own, refl, same_Some (written own) ranks is)

written_count : (written : List (Option ℕ) → List (Option ℕ)) (f : ℕ → Entry) (vs : List ℕ) → count_by is_some (map (λ v. option_map written (f v)) vs) ≡ count_by is_some (map f vs)
written_count written f [] = refl
written_count written f (v ∷ vs) =
    omega (
      arith,
      count-cons is_some (option_map written (f v)) (map (λ v. option_map written (f v)) vs),
      count-cons is_some (f v) (map f vs),
      ap one (is_there (f v)),
      written_count written f vs,
    )
  where
    is_there : (entry : Entry) → is_some (option_map written entry) ≡ is_some entry
    is_there None = refl
    is_there (Some ranks) = refl

ordered_alike : (written : List (Option ℕ) → List (Option ℕ)) → KeepsTheOrder written → (options : ℕ) (entry : Entry) → ((ranks : List (Option ℕ)) → entry ≡ Some ranks → IsGiven options ranks)
    → OrderAlike options entry (option_map written entry)
ordered_alike written keeps options None given = same_order options None None refl
ordered_alike written keeps options (Some ranks) given =
    let is = given ranks refl in
    let P : ℕ → Type 0 = λ n. OrderAlike n (Some ranks) (Some (written ranks)) in
    subst P is.count (keeps.alike ranks is.are_ranks)

-- ---- the published lines
module _ (read : EachLineIsRead) (unique : ReadingsAreUnique) (distinct : NamesAreDistinct) (written : List (Option ℕ) → List (Option ℕ)) (mapped : ℕ → ℕ) (poll : PollContent) (lines : List Text) (again : PollContent) (others : List Text) (are : ArePublished written mapped poll lines again others) where
  -- the ballot that stands, as it is written
  abbrev entry_of : ℕ → Entry
  entry_of v = option_map written (last_of poll lines v)

  -- each ballot that stands is read under the other name
  reads_there : (v : ℕ) (ranks : List (Option ℕ)) → v < elector_count poll → entry_of v ≡ Some ranks
      → reading again (line_text (get_or again.roll (mapped v) []) ranks) ≡ Ballot (mapped v) ranks
  reads_there v ranks below is =
      let name = get_or again.roll (mapped v) [] in
      let line = line_text name ranks in
      let own = written_of written (last_of poll lines v) ranks is in
      let given = are_given read poll lines v own.0 own.1 in
      let P : List (Option ℕ) → Type 0 = All IsRank in
      let are_ranks : All IsRank ranks = subst P own.2 (are.keeps.are_ranks own.0 given.are_ranks) in
      let count : length ranks ≡ option_count poll = sym (ap length own.2) ∙ are.keeps.as_many own.0 given.are_ranks ∙ given.count in
      let options : option_count again ≡ option_count poll = ap option_count are.all_else.all_else in
      let at = distinct again.roll (mapped v) are.is_poll.voter_names (omega (arith, are.all_else.electors, are.one_to_one.on_roll v below)) in
      let is_line : IsBallotLine line name ranks = record {
        is_text = refl;
        is_name = at.1;
        are_ranks = are_ranks;
        has_rank = omega (arith, given.has_rank, given.count, count);
        is_short = line_is_short name ranks at.1 are_ranks (omega (arith, count, options, are.is_poll.options_max));
      } in
      unique again line (reading again line) (Ballot (mapped v) ranks) (read again line) (name, is_line, count ∙ sym options, at.0)

  -- a reading is the ballot that stands of some elector
  abbrev Stands : Reading → Type 0
  Stands r = (v : ℕ) × (ranks : List (Option ℕ)) × (v < elector_count poll) × (entry_of v ≡ Some ranks) × (r ≡ Ballot (mapped v) ranks)

  many : length (other_names mapped poll again) ≡ elector_count poll
  many = length-map-range_with_len (λ v. get_or again.roll (mapped v) []) 0 (elector_count poll)

  spelled_there : spell entry_of 0 (other_names mapped poll again) ≡ renamed_lines written mapped poll lines again
  spelled_there =
      ap (λ n. ballot_lines (other_names mapped poll again) (map entry_of (range_with_len 0 n))) many
      ∙ sym (ap (ballot_lines (other_names mapped poll again)) (map-map (option_map written) (last_of poll lines) (range_with_len 0 (elector_count poll))))

  name_there : (v : ℕ) → v < elector_count poll → get_or (other_names mapped poll again) v [] ≡ get_or again.roll (mapped v) []
  name_there v below = get_or-map-range_with_len (λ v. get_or again.roll (mapped v) []) 0 (elector_count poll) v v [] below (omega arith)

  line_stands : OfEachLine entry_of 0 (other_names mapped poll again) (λ v ranks line. Stands (reading again line))
  line_stands v ranks below is =
      let within : v < elector_count poll = omega (arith, below, many) in
      let here : entry_of v ≡ Some ranks = ap entry_of (omega arith) ∙ is in
      (v, ranks, within, here, ap (λ name. reading again (line_text name ranks)) (name_there v within) ∙ reads_there v ranks within here)

  all_stand : All (λ line. Stands (reading again line)) others
  all_stand =
      let P : Text → Type 0 = λ line. Stands (reading again line) in
      All-permutation P (renamed_lines written mapped poll lines again) others are.ballots
      (subst (All P) spelled_there (each_line P entry_of 0 (other_names mapped poll again) line_stands))

  -- a reading that is a ballot that stands gives each elector None, or the ballot of this elector that stands
  of_one : (r : Reading) → Stands r → (v : ℕ) → v < elector_count poll → IsNoneOr (entry_of v) (ranks_read (mapped v) r)
  of_one r (u, ranks, below_u, here, is) v below =
      let read : ranks_read (mapped v) r ≡ ranks_read (mapped v) (Ballot (mapped u) ranks) = ap (ranks_read (mapped v)) is in
      elim (cases_eq u v) [
        | inl same ↦ inr (read ∙ ap (λ t. cond t (Some ranks) None) (eq-eqb (mapped u) (mapped v) (ap mapped same)) ∙ sym here ∙ ap entry_of same)
        | inr other ↦ inl (read ∙ ap (λ t. cond t (Some ranks) None) (ne_eqb (mapped u) (mapped v) (λ is_same. other (are.one_to_one.apart u v below_u below is_same))))
      ]

  of_all : (some : List Text) → All (λ line. Stands (reading again line)) some → (v : ℕ) → v < elector_count poll → IsNoneOr (entry_of v) (last_ballot (readings again some) (mapped v))
  of_all [] stand v below = inl refl
  of_all (line ∷ some) stand v below =
      let P : Text → Type 0 = λ line. Stands (reading again line) in
      either_is (entry_of v) (last_ballot (readings again some) (mapped v)) (ranks_read (mapped v) (reading again line))
      (of_all some (All-tail P line some stand) v below)
      (of_one (reading again line) (All-head P line some stand) v below)

  -- if an elector's ballot stands, the published lines have a ballot of this elector
  is_there : (v : ℕ) (ranks : List (Option ℕ)) → v < elector_count poll → entry_of v ≡ Some ranks
      → (other : List (Option ℕ)) × (last_ballot (readings again others) (mapped v) ≡ Some other)
  is_there v ranks below is =
      let line = line_text (get_or (other_names mapped poll again) v []) ranks in
      let P : List Text → Type 0 = λ ls. Contains ls line in
      let at = Contains-permutation (renamed_lines written mapped poll lines again) others line are.ballots
      (subst P spelled_there (has_spelled entry_of 0 (other_names mapped poll again) v ranks (omega (arith, below, many)) (ap entry_of (omega arith) ∙ is))) in
      has_last again others (mapped v) at.0 ranks line (ap (λ name. reading again (line_text name ranks)) (name_there v below) ∙ reads_there v ranks below is) at.1 at.2

  as_many : length others ≡ voter_count poll lines
  as_many =
      length_permutation (renamed_lines written mapped poll lines again) others are.ballots
      ∙ sym (ap length spelled_there)
      ∙ spelled_count entry_of 0 (other_names mapped poll again)
      ∙ ap (λ n. count_by is_some (map entry_of (range_with_len 0 n))) many
      ∙ written_count written (last_of poll lines) (range_with_len 0 (elector_count poll))

  none_late : readings_in_time again others ≡ readings again others
  none_late =
      take_all (last_in_time again) (readings again others)
      (omega (
        arith,
        length-map others (reading again),
        as_many,
        count_by-le-length is_some (last_valid_ballots poll lines),
        entry_count poll lines,
        are.all_else.electors,
        are.is_poll.electors_max,
        ap (λ last. last_in_time (record again { last_envelope = last })) are.no_last,
      ))

  all_ballots : (some : List Text) → All (λ line. Stands (reading again line)) some → count_by is_ballot (readings again some) ≡ length some
  all_ballots [] stand = refl
  all_ballots (line ∷ some) stand =
      let P : Text → Type 0 = λ line. Stands (reading again line) in
      let here = All-head P line some stand in
      omega (
        arith,
        count-cons is_ballot (reading again line) (readings again some),
        ap (λ r. one (is_ballot r)) here.4,
        all_ballots some (All-tail P line some stand),
      )

  all_valid : valid_count again others ≡ length others
  all_valid = ap (count_by is_ballot) none_late ∙ all_ballots others all_stand

  same_last : (v : ℕ) → v < elector_count poll → last_ballot (readings_in_time again others) (mapped v) ≡ entry_of v
  same_last v below =
      ap (λ rs. last_ballot rs (mapped v)) none_late
      ∙ decided (entry_of v) (last_ballot (readings again others) (mapped v)) (of_all others all_stand v below) (λ ranks is. is_there v ranks below is)

pub say_the_same : EachLineIsRead → ReadingsAreUnique → NamesAreDistinct → PublishedFilesSayTheSame
say_the_same read unique distinct written poll again lines others mapped are =
    let within : (v : ℕ) → v < elector_count poll → mapped v < elector_count again = λ v below. omega (arith, are.all_else.electors, are.one_to_one.on_roll v below) in
    let many = as_many read unique distinct written mapped poll lines again others are in
    let valid = all_valid read unique distinct written mapped poll lines again others are in
    record {
      count = many;
      valid = valid ∙ many;
      refused = omega (arith, valid, valid-refused again others);
      last = λ v below.
          entry_at (last_ballot (readings_in_time again others)) (elector_count again) (mapped v) (within v below)
          ∙ ap Some (same_last read unique distinct written mapped poll lines again others are v below)
          ∙ sym (entry_at (λ v. option_map written (last_of poll lines v)) (elector_count poll) v below)
          ∙ sym (ap (λ entries. slice_get entries v) (map-map (option_map written) (last_of poll lines) (range_with_len 0 (elector_count poll))));
    }

pub have_the_same_sheet : EachLineIsRead → BallotsThatOrderAlikeCountAlike → PublishedFilesSayTheSame → PublishedFilesHaveTheSameSheet
have_the_same_sheet read alike say written poll again lines others mapped casting text other are =
    let g = last_ballot (readings_in_time again others) in
    let order : HaveLastBallotsAlike mapped poll lines again others = λ v below.
    let within : mapped v < elector_count again = omega (arith, are.all_else.electors, are.one_to_one.on_roll v below) in
    let is : g (mapped v) ≡ option_map written (last_of poll lines v) =
    same_Some (g (mapped v)) (option_map written (last_of poll lines v))
    (sym (entry_at g (elector_count again) (mapped v) within)
    ∙ (say written poll again lines others mapped are).last v below
    ∙ ap (λ entries. slice_get entries v) (map-map (option_map written) (last_of poll lines) (range_with_len 0 (elector_count poll)))
    ∙ entry_at (λ v. option_map written (last_of poll lines v)) (elector_count poll) v below) in
    let P : Entry → Type 0 = λ entry. OrderAlike (option_count poll) entry (get_or (last_valid_ballots again others) (mapped v) None) in
    let Q : Entry → Type 0 = λ entry. OrderAlike (option_count poll) (last_of poll lines v) entry in
    subst P (sym (entry_or_none (last_of poll lines) (elector_count poll) v below))
    (subst Q (sym (entry_or_none g (elector_count again) (mapped v) within ∙ is))
    (ordered_alike written are.keeps (option_count poll) (last_of poll lines v) (λ ranks stands. are_given read poll lines v ranks stands))) in
    alike poll again lines others mapped casting text other are.all_else are.one_to_one order
