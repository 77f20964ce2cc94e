-- The ballots that stand, as the lines of a ballot file.
use Rattle.std.proofs.Common.{◌≡◌, ◌≢◌, ℕ, zero, suc, ◌+◌, ◌-◌, ◌<◌, ◌≤◌, ◌%◌, ◌^◌, Bool, true, false, cond, eqb, not, List, [], ◌∷◌, ◌++◌, Option, Some, None, length, length-append, length-drop, get_or, take, drop, map, inl, inr, refl, sym, ap, ap₂, ◌∙◌, subst, arith, decimal, append_assoc}
use Rattle.std.specs.Prelude.{is_some, count_by, nat_eq}
use Rattle.std.specs.List.{All, ends_with, join_with_byte, list_all, range_with_len}
use Rattle.std.specs.Option.{option_or}
use Rattle.std.specs.Str.{bytes_eq}
use Rattle.std.specs.Cmp.Lexicographic.{bytes_decides}
use Rattle.std.proofs.lemmas.Bool.{cases_eq, eq-eqb, ne_eqb, and_parts}
use Rattle.std.proofs.lemmas.Fmt.{decimal_by_steps}
use Rattle.std.proofs.lemmas.List.{length-map, take_all, drop_at}
use Rattle.std.proofs.lemmas.List.Elements.{All-nil, All-cons, All-head, All-tail, All-append, All-push, All-weaker}
use Rattle.std.proofs.lemmas.List.FromFn.{fill_by_all, length-map-range_with_len}
use Rattle.std.proofs.lemmas.List.Quantifiers.{position-Some}
use Rattle.std.proofs.lemmas.List.Sums.{AllPass-from_list_all}
use mathlib.Core.List.{append-nil}
use Rattle.vote_poll.specs.BallotLine.{IsBallotLine, IsRank, line_text, rank_text}
use Rattle.vote_poll_text.specs.Lines.{AreLines, IsUnbroken, line_feed, text_of_lines, with_last_feed}
use Rattle.vote_poll_text.specs.Names.{is_voter_byte, is_voter_name, is_within}
use Rattle.vote_poll.specs.PollContent.{PollContent, elector_count, last_in_time}
use Rattle.vote_poll.specs.Readings.{IsReading, is_ballot, reading, readings}
use Rattle.vote_poll.specs.declared.Reading.{Reading}
use Rattle.vote_poll.specs.declared.Reading.TheVariants.{Ballot, Bad}
use Rattle.vote_count.proofs.Counts.{count-cons, one}
use Rattle.vote_poll_text.specs.declared.TheConstants.{MAX_VOTER_NAME}
use Rattle.vote_steps.specs.History.{ranks_read}
use Rattle.vote_steps.specs.Recasts.{last_ballot}
use Rattle.vote_steps.specs.LastBallots.{last_valid_ballots, readings_in_time, voter_count}
use Rattle.vote_sheet.specs.Standing.{SaysTheSame, StandingSaysTheSame, ballot_line, ballot_lines, standing_text}

abbrev pub EachLineIsRead : Type 0
EachLineIsRead = (poll : PollContent) (line : List ℕ) → IsReading poll line (reading poll line)

abbrev pub Entry : Type 0
Entry = Option (List (Option ℕ))

-- ---- the readings of a list of ballots; the first ballot is that of the elector at this index
abbrev read_from : ℕ → List Entry → List Reading
read_from a [] = []
read_from a (None ∷ entries) = read_from (a + 1) entries
read_from a (Some ranks ∷ entries) = Ballot a ranks ∷ read_from (a + 1) entries

-- no ballot is from an elector before the first
read_before : (a v : ℕ) (entries : List Entry) → v < a → last_ballot (read_from a entries) v ≡ None
read_before a v [] below = refl
read_before a v (None ∷ entries) below = read_before (a + 1) v entries (omega arith)
read_before a v (Some ranks ∷ entries) below =
    let apart : eqb a v ≡ false = ne_eqb a v (omega arith) in
    rw (read_before (a + 1) v entries (omega arith), apart)

pub either_none : (o : Entry) → option_or o None ≡ o
either_none None = refl
either_none (Some ranks) = refl

-- the ballot that is read for an elector is the entry with the elector's index
read_at : (a i v : ℕ) (entries : List Entry) → v ≡ a + i → last_ballot (read_from a entries) v ≡ get_or entries i None
read_at a i v [] is = refl
read_at a zero v (None ∷ entries) is = read_before (a + 1) v entries (omega arith)
read_at a (suc i) v (None ∷ entries) is = read_at (a + 1) i v entries (omega arith)
read_at a zero v (Some ranks ∷ entries) is =
    let same : eqb a v ≡ true = eq-eqb a v (omega arith) in
    rw (read_before (a + 1) v entries (omega arith), same)
read_at a (suc i) v (Some ranks ∷ entries) is =
    let apart : eqb a v ≡ false = ne_eqb a v (omega arith) in
    rw apart (either_none (last_ballot (read_from (a + 1) entries) v) ∙ read_at (a + 1) i v entries (omega arith))

read_count : (a : ℕ) (entries : List Entry) → length (read_from a entries) ≡ count_by is_some entries
read_count a [] = refl
read_count a (None ∷ entries) = omega (arith, count-cons is_some None entries, read_count (a + 1) entries)
read_count a (Some ranks ∷ entries) = omega (arith, count-cons is_some (Some ranks) entries, read_count (a + 1) entries)

read_ballots : (a : ℕ) (entries : List Entry) → count_by is_ballot (read_from a entries) ≡ count_by is_some entries
read_ballots a [] = refl
read_ballots a (None ∷ entries) = omega (arith, count-cons is_some None entries, read_ballots (a + 1) entries)
read_ballots a (Some ranks ∷ entries) =
    omega (arith, count-cons is_some (Some ranks) entries, count-cons is_ballot (Ballot a ranks) (read_from (a + 1) entries), read_ballots (a + 1) entries)

read_others : (a : ℕ) (entries : List Entry) → count_by (λ r. not (is_ballot r)) (read_from a entries) ≡ 0
read_others a [] = refl
read_others a (None ∷ entries) = read_others (a + 1) entries
read_others a (Some ranks ∷ entries) =
    omega (arith, count-cons (λ r. not (is_ballot r)) (Ballot a ranks) (read_from (a + 1) entries), read_others (a + 1) entries)

-- ---- there are no more last ballots than lines
abbrev pub ballots_of : List Reading → ℕ → ℕ → ℕ
ballots_of rs a n = count_by is_some (map (last_ballot rs) (range_with_len a n))

-- the number of electors, from this index on, whose ballot a reading is
abbrev pub hits : Reading → ℕ → ℕ → ℕ
hits r a n = count_by (λ v. is_some (ranks_read v r)) (range_with_len a n)

pub bad_hits : (fault : _) (a n : ℕ) → hits (Bad fault) a n ≡ 0
bad_hits fault a zero = refl
bad_hits fault a (suc n) = omega (arith, count-cons (λ v. is_some (ranks_read v (Bad fault))) a (range_with_len (a + 1) n), bad_hits fault (a + 1) n)

some_where : (t : Bool) (ranks : List (Option ℕ)) → is_some (cond t (Some ranks) None) ≡ t
some_where true ranks = refl
some_where false ranks = refl

hits_past : (u : ℕ) (ranks : List (Option ℕ)) (a n : ℕ) → u < a → hits (Ballot u ranks) a n ≡ 0
hits_past u ranks a zero below = refl
hits_past u ranks a (suc n) below =
    let here : is_some (ranks_read a (Ballot u ranks)) ≡ false = some_where (eqb u a) ranks ∙ ne_eqb u a (omega arith) in
    omega (arith, count-cons (λ v. is_some (ranks_read v (Ballot u ranks))) a (range_with_len (a + 1) n), hits_past u ranks (a + 1) n (omega arith), ap one here)

pub hits_once : (u : ℕ) (ranks : List (Option ℕ)) (a n : ℕ) → hits (Ballot u ranks) a n ≤ 1
hits_once u ranks a zero = omega arith
hits_once u ranks a (suc n) =
    let more = count-cons (λ v. is_some (ranks_read v (Ballot u ranks))) a (range_with_len (a + 1) n) in
    elim (cases_eq u a) [
      | inl same ↦
          let here : is_some (ranks_read a (Ballot u ranks)) ≡ true = some_where (eqb u a) ranks ∙ eq-eqb u a same in
          omega (arith, more, ap one here, hits_past u ranks (a + 1) n (omega arith))
      | inr other ↦
          let here : is_some (ranks_read a (Ballot u ranks)) ≡ false = some_where (eqb u a) ranks ∙ ne_eqb u a other in
          omega (arith, more, ap one here, hits_once u ranks (a + 1) n)
    ]

hits_le : (r : Reading) (a n : ℕ) → hits r a n ≤ 1
hits_le (Bad fault) a n = omega (arith, bad_hits fault a n)
hits_le (Ballot u ranks) a n = hits_once u ranks a n

one_or : (o p : Entry) → one (is_some (option_or o p)) ≤ one (is_some o) + one (is_some p)
one_or None p = omega arith
one_or (Some ranks) p = omega arith

pub one_line_more : (r : Reading) (rs : List Reading) (a n : ℕ) → ballots_of (r ∷ rs) a n ≤ ballots_of rs a n + hits r a n
one_line_more r rs a zero = omega arith
one_line_more r rs a (suc n) =
    let range = range_with_len (a + 1) n in
    omega (
      arith,
      count-cons is_some (last_ballot (r ∷ rs) a) (map (last_ballot (r ∷ rs)) range),
      count-cons is_some (last_ballot rs a) (map (last_ballot rs) range),
      count-cons (λ v. is_some (ranks_read v r)) a range,
      one_or (last_ballot rs a) (ranks_read a r),
      one_line_more r rs (a + 1) n,
    )

pub no_lines : (a n : ℕ) → ballots_of [] a n ≡ 0
no_lines a zero = refl
no_lines a (suc n) = omega (arith, count-cons is_some (last_ballot [] a) (map (last_ballot []) (range_with_len (a + 1) n)), no_lines (a + 1) n)

as_many_lines : (rs : List Reading) (a n : ℕ) → ballots_of rs a n ≤ length rs
as_many_lines [] a n = omega (arith, no_lines a n)
as_many_lines (r ∷ rs) a n = omega (arith, one_line_more r rs a n, hits_le r a n, as_many_lines rs a n)

short_front : {X : Type 0} (n : ℕ) (xs : List X) → length (take n xs) ≤ n
short_front zero xs = omega arith
short_front (suc n) [] = omega arith
short_front (suc n) (x ∷ xs) = omega (arith, short_front n xs)

-- ---- the line of a ballot that stands
abbrev pub IsLineOf : PollContent → ℕ → List (Option ℕ) → List ℕ → Type 0
IsLineOf poll v ranks line = reading poll line ≡ Ballot v ranks

chosen_line : (poll : PollContent) (line : List ℕ) (v : ℕ) (ranks : List (Option ℕ)) (r : Reading) → reading poll line ≡ r → ranks_read v r ≡ Some ranks → IsLineOf poll v ranks line
chosen_line poll line v ranks (Bad fault) is read = cc
chosen_line poll line v ranks (Ballot u others) is read =
    elim (cases_eq u v) [
      | inl same ↦
          let test : eqb u v ≡ true = eq-eqb u v same in
          let found : ranks_read v (Ballot u others) ≡ Some others = rw test refl in
          let equal : Some others ≡ Some ranks = sym found ∙ read in
          cc
      | inr other ↦
          let test : eqb u v ≡ false = ne_eqb u v other in
          let found : ranks_read v (Ballot u others) ≡ None = rw test refl in
          let impossible : None ≡ Some ranks = sym found ∙ read in
          cc
    ]

later_line : (poll : PollContent) (line : List ℕ) (v : ℕ) (ranks : List (Option ℕ)) (later : Entry)
    → (later ≡ Some ranks → (found : List ℕ) × IsLineOf poll v ranks found)
    → option_or later (ranks_read v (reading poll line)) ≡ Some ranks → (found : List ℕ) × IsLineOf poll v ranks found
later_line poll line v ranks None rest is = (line, chosen_line poll line v ranks (reading poll line) refl is)
later_line poll line v ranks (Some others) rest is = rest is

-- the last ballot of an elector is in a line
pub has_line : (poll : PollContent) (n : ℕ) (lines : List (List ℕ)) (v : ℕ) (ranks : List (Option ℕ)) → last_ballot (take n (readings poll lines)) v ≡ Some ranks
    → (found : List ℕ) × IsLineOf poll v ranks found
has_line poll zero lines v ranks is = cc
has_line poll (suc n) [] v ranks is = cc
has_line poll (suc n) (line ∷ lines) v ranks is =
    later_line poll line v ranks (last_ballot (take n (readings poll lines)) v) (has_line poll n lines v ranks) is

-- the facts of a ballot line that reads as the ballot of this elector
pub record IsSpelled (poll : PollContent) (v : ℕ) (ranks : List (Option ℕ)) : Type 0 where
  pub line : IsBallotLine (line_text (get_or poll.roll v []) ranks) (get_or poll.roll v []) ranks
  pub reads : reading poll (line_text (get_or poll.roll v []) ranks) ≡ Ballot v ranks

spelled : EachLineIsRead → (poll : PollContent) (v : ℕ) (ranks : List (Option ℕ)) (found : List ℕ) → IsLineOf poll v ranks found → IsSpelled poll v ranks
spelled read poll v ranks found is =
    let means : IsReading poll found (Ballot v ranks) = subst (IsReading poll found) is (read poll found) in
    let voter = means.0 in
    let at = position-Some (bytes_eq voter) poll.roll v [] means.3 in
    let name : voter ≡ get_or poll.roll v [] = (bytes_decides voter (get_or poll.roll v [])).0 at.1 in
    let text : found ≡ line_text (get_or poll.roll v []) ranks = means.1.is_text ∙ ap (λ n. line_text n ranks) name in
    let P : List ℕ → Type 0 = λ t. IsBallotLine t (get_or poll.roll v []) ranks in
    let Q : List ℕ → Type 0 = λ n. IsBallotLine found n ranks in
    record {
      line = subst P text (subst Q name means.1);
      reads = ap (reading poll) (sym text) ∙ is;
    }

-- ---- the lines of the ballots that stand
abbrev pub spell : (ℕ → Entry) → ℕ → List (List ℕ) → List (List ℕ)
spell f a voters = ballot_lines voters (map f (range_with_len a (length voters)))

-- a fact about the line of each elector; the first elector has this index
abbrev pub OfEachLine : (ℕ → Entry) → ℕ → List (List ℕ) → (ℕ → List (Option ℕ) → List ℕ → Type 0) → Type 0
OfEachLine f a voters P =
    (i : ℕ) (ranks : List (Option ℕ)) → i < length voters → f (a + i) ≡ Some ranks → P (a + i) ranks (line_text (get_or voters i []) ranks)

first_line : (f : ℕ → Entry) (a : ℕ) (voter : List ℕ) (voters : List (List ℕ)) (P : ℕ → List (Option ℕ) → List ℕ → Type 0) → OfEachLine f a (voter ∷ voters) P
    → (ranks : List (Option ℕ)) → f a ≡ Some ranks → P a ranks (line_text voter ranks)
first_line f a voter voters P h ranks is =
    let here : a + 0 ≡ a = omega arith in
    let Q : ℕ → Type 0 = λ v. P v ranks (line_text voter ranks) in
    subst Q here (h 0 ranks (omega arith) (ap f here ∙ is))

later_lines : (f : ℕ → Entry) (a : ℕ) (voter : List ℕ) (voters : List (List ℕ)) (P : ℕ → List (Option ℕ) → List ℕ → Type 0) → OfEachLine f a (voter ∷ voters) P → OfEachLine f (a + 1) voters P
later_lines f a voter voters P h i ranks below is =
    let next : a + suc i ≡ a + 1 + i = omega arith in
    let Q : ℕ → Type 0 = λ v. P v ranks (line_text (get_or voters i []) ranks) in
    subst Q next (h (suc i) ranks (omega arith) (ap f next ∙ is))

read_one : (poll : PollContent) (a : ℕ) (voter : List ℕ) (entry : Entry) → ((ranks : List (Option ℕ)) → entry ≡ Some ranks → reading poll (line_text voter ranks) ≡ Ballot a ranks)
    → (rest : List (List ℕ)) (entries : List Entry) → readings poll rest ≡ read_from (a + 1) entries → readings poll (ballot_line voter entry ++ rest) ≡ read_from a (entry ∷ entries)
read_one poll a voter None h rest entries is = is
read_one poll a voter (Some ranks) h rest entries is = ap₂ ◌∷◌ (h ranks refl) is

-- the lines read as the ballots
readings_are : (poll : PollContent) (f : ℕ → Entry) (a : ℕ) (voters : List (List ℕ)) → OfEachLine f a voters (IsLineOf poll)
    → readings poll (spell f a voters) ≡ read_from a (map f (range_with_len a (length voters)))
readings_are poll f a [] h = refl
readings_are poll f a (voter ∷ voters) h =
    read_one poll a voter (f a) (first_line f a voter voters (IsLineOf poll) h) (spell f (a + 1) voters) (map f (range_with_len (a + 1) (length voters)))
    (readings_are poll f (a + 1) voters (later_lines f a voter voters (IsLineOf poll) h))

-- a fact about the line of each elector is a fact about each line
one_of_each : (P : List ℕ → Type 0) (voter : List ℕ) (entry : Entry) → ((ranks : List (Option ℕ)) → entry ≡ Some ranks → P (line_text voter ranks))
    → (rest : List (List ℕ)) → All P rest → All P (ballot_line voter entry ++ rest)
one_of_each P voter None h rest are = are
one_of_each P voter (Some ranks) h rest are = All-cons P (line_text voter ranks) rest (h ranks refl) are

pub each_line : (P : List ℕ → Type 0) (f : ℕ → Entry) (a : ℕ) (voters : List (List ℕ)) → OfEachLine f a voters (λ v ranks line. P line) → All P (spell f a voters)
each_line P f a [] h = All-nil P
each_line P f a (voter ∷ voters) h =
    one_of_each P voter (f a) (first_line f a voter voters (λ v ranks line. P line) h) (spell f (a + 1) voters)
    (each_line P f (a + 1) voters (later_lines f a voter voters (λ v ranks line. P line) h))

-- ---- a ballot line has no line feed
abbrev NoFeed : ℕ → Type 0
NoFeed b = b ≢ 10

voter_byte_is_no_feed : (b : ℕ) → is_voter_byte b ≡ true → b ≢ 10
voter_byte_is_no_feed b h is = let feed : is_voter_byte 10 ≡ true = ap is_voter_byte (sym is) ∙ h in cc

digit_is_no_feed : (n : ℕ) → 48 + n ≢ 10
digit_is_no_feed n is = absurd (omega arith)

number_has_no_feed : (n : ℕ) → n < 2 ^ 64 → All NoFeed (decimal n)
number_has_no_feed n small =
    decimal_by_steps (λ _ digits. All NoFeed digits) (λ d _. All-cons NoFeed (48 + d) [] (digit_is_no_feed d) (All-nil NoFeed)) (λ m digits _ front. All-push NoFeed digits (48 + m % 10) front (digit_is_no_feed (m % 10))) n small

rank_has_no_feed : (rank : Option ℕ) → IsRank rank → All NoFeed (rank_text rank)
rank_has_no_feed None is = All-cons NoFeed 45 [] (λ e. absurd (omega arith)) (All-nil NoFeed)
rank_has_no_feed (Some n) is = number_has_no_feed n (omega (arith, is.1))

ranks_have_no_feed : (ranks : List (Option ℕ)) → All IsRank ranks → All NoFeed (join_with_byte 44 (map rank_text ranks))
ranks_have_no_feed [] are = All-nil NoFeed
ranks_have_no_feed (rank ∷ []) are = rank_has_no_feed rank (All-head IsRank rank [] are)
ranks_have_no_feed (rank ∷ next ∷ ranks) are =
    All-append NoFeed (rank_text rank) (44 ∷ join_with_byte 44 (map rank_text (next ∷ ranks))) (rank_has_no_feed rank (All-head IsRank rank (next ∷ ranks) are))
    (All-cons NoFeed 44 (join_with_byte 44 (map rank_text (next ∷ ranks))) (λ e. absurd (omega arith)) (ranks_have_no_feed (next ∷ ranks) (All-tail IsRank rank (next ∷ ranks) are)))

name_has_no_feed : (name : List ℕ) → is_voter_name name ≡ true → All NoFeed name
name_has_no_feed name h =
    All-weaker (λ b. is_voter_byte b ≡ true) NoFeed voter_byte_is_no_feed name
    (AllPass-from_list_all is_voter_byte name (and_parts (is_within 1 MAX_VOTER_NAME (length name)) (list_all is_voter_byte name) h).1)

line_has_no_feed : (line voter : List ℕ) (ranks : List (Option ℕ)) → IsBallotLine line voter ranks → IsUnbroken (line_text voter ranks)
line_has_no_feed line voter ranks is =
    All-append NoFeed (voter ++ 32 ∷ []) (join_with_byte 44 (map rank_text ranks))
    (All-push NoFeed voter 32 (name_has_no_feed voter is.is_name) (λ e. absurd (omega arith)))
    (ranks_have_no_feed ranks is.are_ranks)

-- ---- lines with a line feed after each are the lines of their text
ends : (front : List ℕ) → ends_with nat_eq (front ++ line_feed) line_feed ≡ true
ends front =
    let long : length (front ++ line_feed) - 1 ≡ length front = omega (arith, length-append front line_feed) in
    let last : drop (length (front ++ line_feed) - 1) (front ++ line_feed) ≡ line_feed = drop_at front line_feed (length (front ++ line_feed) - 1) (sym long) in
    rw last refl

keeps_feed : (front : List ℕ) → with_last_feed (front ++ line_feed) ≡ front ++ line_feed
keeps_feed [] = refl
keeps_feed (b ∷ front) = rw (ends (b ∷ front)) refl

ended : (line : List ℕ) (lines : List (List ℕ)) → (front : List ℕ) × (text_of_lines (line ∷ lines) ≡ front ++ line_feed)
ended line [] = (line, append-nil (line ++ line_feed))
ended line (next ∷ lines) =
    let later = ended next lines in
    ((line ++ line_feed) ++ later.0, ap (λ t. (line ++ line_feed) ++ t) later.1 ∙ sym (append_assoc (line ++ line_feed) later.0 line_feed))

keeps_lines : (lines : List (List ℕ)) → with_last_feed (text_of_lines lines) ≡ text_of_lines lines
keeps_lines [] = refl
keeps_lines (line ∷ lines) =
    let last = ended line lines in
    ap with_last_feed last.1 ∙ keeps_feed last.0 ∙ sym last.1

are_lines : (lines : List (List ℕ)) → All IsUnbroken lines → AreLines (text_of_lines lines) lines
are_lines lines unbroken = record { unbroken = unbroken; joined = sym (keeps_lines lines) }

-- ---- the law
abbrev LinesAreUnique : Type 0
LinesAreUnique = (text : List ℕ) (a b : List (List ℕ)) → AreLines text a → AreLines text b → a ≡ b

abbrev pub last_of : PollContent → List (List ℕ) → ℕ → Entry
last_of poll lines = last_ballot (readings_in_time poll lines)

spelled_at : EachLineIsRead → (poll : PollContent) (lines : List (List ℕ)) (v : ℕ) (ranks : List (Option ℕ)) → last_of poll lines v ≡ Some ranks → IsSpelled poll v ranks
spelled_at read poll lines v ranks is =
    let found = has_line poll (last_in_time poll) lines v ranks is in
    spelled read poll v ranks found.0 found.1

-- the line of the elector at an index of the roll
of_place : EachLineIsRead → (poll : PollContent) (lines : List (List ℕ)) (P : ℕ → List (Option ℕ) → List ℕ → Type 0)
    → ((v : ℕ) (ranks : List (Option ℕ)) → IsSpelled poll v ranks → P v ranks (line_text (get_or poll.roll v []) ranks)) → OfEachLine (last_of poll lines) 0 poll.roll P
of_place read poll lines P each i ranks below is =
    let here : 0 + i ≡ i = omega arith in
    let Q : ℕ → Type 0 = λ v. P v ranks (line_text (get_or poll.roll i []) ranks) in
    subst Q (sym here) (each i ranks (spelled_at read poll lines i ranks (ap (last_of poll lines) (sym here) ∙ is)))

-- the lines of the text of `standing`
abbrev standing_lines : PollContent → List (List ℕ) → List (List ℕ)
standing_lines poll lines = ballot_lines poll.roll (last_valid_ballots poll lines)

standing_are_lines : EachLineIsRead → (poll : PollContent) (lines : List (List ℕ)) → AreLines (standing_text poll lines) (standing_lines poll lines)
standing_are_lines read poll lines =
    are_lines (standing_lines poll lines)
    (each_line IsUnbroken (last_of poll lines) 0 poll.roll
    (of_place read poll lines (λ v ranks line. IsUnbroken line) (λ v ranks is. line_has_no_feed (line_text (get_or poll.roll v []) ranks) (get_or poll.roll v []) ranks is.line)))

standing_readings : EachLineIsRead → (poll : PollContent) (lines : List (List ℕ)) → readings poll (standing_lines poll lines) ≡ read_from 0 (last_valid_ballots poll lines)
standing_readings read poll lines = readings_are poll (last_of poll lines) 0 poll.roll (of_place read poll lines (IsLineOf poll) (λ v ranks is. is.reads))

standing_count : EachLineIsRead → (poll : PollContent) (lines : List (List ℕ)) → length (standing_lines poll lines) ≡ voter_count poll lines
standing_count read poll lines =
    sym (length-map (standing_lines poll lines) (reading poll)) ∙ ap length (standing_readings read poll lines) ∙ read_count 0 (last_valid_ballots poll lines)

in_time : EachLineIsRead → (poll : PollContent) (lines : List (List ℕ)) → length (standing_lines poll lines) ≤ last_in_time poll
in_time read poll lines =
    omega (arith, standing_count read poll lines, as_many_lines (readings_in_time poll lines) 0 (elector_count poll), short_front (last_in_time poll) (readings poll lines))

read_in_time : EachLineIsRead → (poll : PollContent) (lines : List (List ℕ)) → readings_in_time poll (standing_lines poll lines) ≡ read_from 0 (last_valid_ballots poll lines)
read_in_time read poll lines =
    take_all (last_in_time poll) (readings poll (standing_lines poll lines)) (omega (arith, length-map (standing_lines poll lines) (reading poll), in_time read poll lines))
    ∙ standing_readings read poll lines

same_last : EachLineIsRead → (poll : PollContent) (lines : List (List ℕ)) → last_valid_ballots poll (standing_lines poll lines) ≡ last_valid_ballots poll lines
same_last read poll lines =
    let entries = last_valid_ballots poll lines in
    ap (λ rs. map (last_ballot rs) (range_with_len 0 (elector_count poll))) (read_in_time read poll lines)
    ∙ sym (fill_by_all (last_ballot (read_from 0 entries)) entries (elector_count poll) None (length-map-range_with_len (last_of poll lines) 0 (elector_count poll))
    (λ k below. sym (read_at 0 k k entries (omega arith))))

standing_says_the_same : EachLineIsRead → (poll : PollContent) (lines : List (List ℕ)) → SaysTheSame poll lines (standing_lines poll lines)
standing_says_the_same read poll lines =
    let entries = last_valid_ballots poll lines in
    let past = length-drop (last_in_time poll) (standing_lines poll lines) in
    record {
      count = standing_count read poll lines;
      valid = ap (count_by is_ballot) (read_in_time read poll lines) ∙ read_ballots 0 entries;
      refused = omega (arith, ap (count_by (λ r. not (is_ballot r))) (read_in_time read poll lines), read_others 0 entries, past, in_time read poll lines);
      last = same_last read poll lines;
    }

pub says_the_same : LinesAreUnique → EachLineIsRead → StandingSaysTheSame
says_the_same unique read poll lines again are =
    let same : again ≡ standing_lines poll lines = unique (standing_text poll lines) again (standing_lines poll lines) are (standing_are_lines read poll lines) in
    subst (SaysTheSame poll lines) (sym same) (standing_says_the_same read poll lines)
