-- From the line `Voters:` on, a sheet depends only on the poll, without its names and its last envelope, and on the orders of the last valid ballots.
use Rattle.std.proofs.Common.{◌≡◌, ℕ, ◌<◌, ◌++◌, [], ◌∷◌, List, None, Some, get_or, length, map, refl, sym, ap, ◌∙◌, subst, arith, decimal, codes, append_assoc}
use Rattle.std.specs.Prelude.{slice_get}
use Rattle.std.specs.List.{range_with_len}
use Rattle.std.proofs.lemmas.List.FromFn.{get_or-map-range_with_len, length-map-range_with_len}
use Rattle.std.proofs.lemmas.Option.{same_Some, slice_get-get_or}
use Rattle.vote_poll.specs.PollContent.{PollContent, elector_count, option_count}
use Rattle.vote_steps.specs.Recasts.{last_ballot}
use Rattle.vote_sheet.specs.ElectorLaws.{BallotsThatOrderAlikeCountAlike, HaveLastBallotsAlike, IsOneToOne, OnlyLastBallotsDecide, OrderAlike}
use Rattle.vote_steps.specs.LastBallots.{last_valid_ballots, readings_in_time, refused_count, valid_count}
use Rattle.vote_sheet.specs.Sheet.{Sheet, Text, count_text, head_text, last_text, line, options_text, sheet_text, totals_text}
use Rattle.vote_sheet.specs.SheetOf.{IsSheet, IsSheetOf, SheetIsUnique}
use Rattle.vote_sheet.specs.Standing.{StandingHasTheSameSheet, StandingSaysTheSame}
use Rattle.vote_sheet.proofs.Renaming.{AreLastAlike, same_order, vote_the_same}
use Rattle.vote_sheet.proofs.SameSheets.{VoteTheSame, sheet_there, with_lines, with_roll}
use Rattle.vote_sheet.proofs.StandingLemmas.{Entry}

-- ---- the parts of a sheet
front_of : PollContent → List Text → Sheet → Text
front_of poll lines s =
    head_text poll.title (elector_count poll) poll.quorum_multiple s.quorum_votes poll.wording
    ++ (line (codes "Lines: " ∷ decimal (length lines) ∷ []) ++ (last_text poll.last_envelope ++ (line (codes "Valid: " ∷ decimal s.valid ∷ []) ++ (codes "Refused: " ++ decimal s.refused))))

rest_of : PollContent → Sheet → Text
rest_of poll s = decimal s.voters ++ (codes "\n" ++ (options_text poll.options poll.ratios ++ (count_text poll.options s.matrix s.outcome s.decision ++ [])))

at_voters : (poll : PollContent) (lines : List Text) (s : Sheet) → sheet_text poll lines s ≡ front_of poll lines s ++ codes "\nVoters: " ++ rest_of poll s
unfolding totals_text front_of rest_of
at_voters poll lines s = simp append_assoc

-- ---- the law
pub entry_at : {X : Type 0} (f : ℕ → X) (n v : ℕ) → v < n → slice_get (map f (range_with_len 0 n)) v ≡ Some (f v)
entry_at f n v below =
    slice_get-get_or (map f (range_with_len 0 n)) v (f v) (omega (arith, below, length-map-range_with_len f 0 n))
    ∙ ap Some (get_or-map-range_with_len f 0 n v v (f v) below (omega arith))

pub entry_or_none : (f : ℕ → Entry) (n v : ℕ) → v < n → get_or (map f (range_with_len 0 n)) v None ≡ f v
entry_or_none f n v below = get_or-map-range_with_len f 0 n v v None below (omega arith)

are_last_alike : (poll again : PollContent) (lines others : List Text) (mapped : ℕ → ℕ) → elector_count again ≡ elector_count poll → IsOneToOne (elector_count poll) mapped
    → HaveLastBallotsAlike mapped poll lines again others → AreLastAlike mapped poll lines again others
are_last_alike poll again lines others mapped electors one_to_one alike v below =
    let f = last_ballot (readings_in_time poll lines) in
    let g = last_ballot (readings_in_time again others) in
    let here = entry_or_none f (elector_count poll) v below in
    let there = entry_or_none g (elector_count again) (mapped v) (omega (arith, electors, one_to_one.on_roll v below)) in
    let P : Entry → Type 0 = λ entry. OrderAlike (option_count poll) entry (get_or (last_valid_ballots again others) (mapped v) None) in
    let Q : Entry → Type 0 = λ entry. OrderAlike (option_count poll) (f v) entry in
    subst Q there (subst P here (alike v below))

pub order_alike_counts_alike : SheetIsUnique → BallotsThatOrderAlikeCountAlike
unfolding rest_of
order_alike_counts_alike unique poll again lines others mapped casting text other differ one_to_one last h k =
    let there = with_roll poll again.roll again.last_envelope in
    let alike = are_last_alike poll again lines others mapped differ.electors one_to_one last in
    let P : PollContent → Type 0 = λ q. VoteTheSame poll lines q others in
    let votes = subst P differ.all_else (vote_the_same poll again lines others mapped differ.electors one_to_one alike) in
    let s = h.0 in
    let t = with_lines s (valid_count there others) (refused_count there others) in
    let of : IsSheetOf there others casting t =
    sheet_there poll again.roll again.last_envelope (sym differ.electors) lines others votes casting s h.1
    (valid_count there others) (refused_count there others) refl refl in
    let text_there : Text = sheet_text there others t in
    let Q : PollContent → Type 0 = λ q. IsSheet q others casting text_there in (
      front_of poll lines s,
      front_of there others t,
      rest_of poll s,
      h.2 ∙ at_voters poll lines s,
      unique again others casting other text_there k (subst Q (sym differ.all_else) (t, of, refl)) ∙ at_voters there others t,
    )

-- the same ballots order the options alike
pub only_last_ballots : BallotsThatOrderAlikeCountAlike → OnlyLastBallotsDecide
only_last_ballots alike poll again lines others mapped casting text other differ one_to_one same h k =
    let f = last_ballot (readings_in_time poll lines) in
    let g = last_ballot (readings_in_time again others) in
    let order : HaveLastBallotsAlike mapped poll lines again others = λ v below.
    let within : mapped v < elector_count again = omega (arith, differ.electors, one_to_one.on_roll v below) in
    let last = same_Some (g (mapped v)) (f v) (sym (entry_at g (elector_count again) (mapped v) within) ∙ same v below ∙ entry_at f (elector_count poll) v below) in
    same_order (option_count poll) (get_or (last_valid_ballots poll lines) v None) (get_or (last_valid_ballots again others) (mapped v) None)
    (entry_or_none g (elector_count again) (mapped v) within ∙ last ∙ sym (entry_or_none f (elector_count poll) v below)) in
    alike poll again lines others mapped casting text other differ one_to_one order h k

-- `standing` has the last valid ballots of its file
pub same_sheets : OnlyLastBallotsDecide → StandingSaysTheSame → StandingHasTheSameSheet
same_sheets decide says poll lines again casting text other are h k =
    decide poll poll lines again (λ v. v) casting text other (record { electors = refl; all_else = refl })
    (record { on_roll = λ v below. below; apart = λ v w low high same. same })
    (λ v below. ap (λ ballots. slice_get ballots v) (says poll lines again are).last) h k
