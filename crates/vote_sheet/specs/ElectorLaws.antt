-- What an elector can rely on: laws of the printed sheet. It counts nobody twice and knows no names. Of a refused or outdated line it shows only that there is one. One ballot changes each of its counts by at most one.
use Rattle.std.specs.Prelude.{◌≡◌, ◌≢◌, ℕ, ◌+◌, ◌<◌, ◌≤◌, ◌⊎◌, ◌↔◌, false, is_some, List, [], ◌∷◌, ◌++◌, length, take, slice_get, slice_index_or, Option, None}
use Rattle.std.specs.List.{AllZip}
use Rattle.vote_poll.specs.Options.{IsOption}
use Rattle.vote_poll.specs.PollContent.{PollContent, elector_count, last_in_time, option_count}
use Rattle.vote_poll.specs.Readings.{is_ballot, reading}
use Rattle.vote_poll.specs.declared.Reading.{Reading}
use Rattle.vote_poll.specs.declared.Reading.TheVariants.{Bad, Ballot}
use Rattle.vote_count.specs.Ballots.{EachTwo, entry_prefers}
use Rattle.vote_count.specs.Votes.{votes}
use Rattle.vote_steps.specs.LastBallots.{last_valid_ballots, readings_in_time}
use Rattle.vote_sheet.specs.Sheet.{Sheet, Text}
use Rattle.vote_sheet.specs.SheetOf.{IsSheet, IsSheetOf}
use Rattle.vote_sheet.specs.Standing.{AreSameFromVoters}

-- ---- the sums of a sheet

-- For two options, the votes for the first over the second and for the second over the first are together at most the number of voters. There are at most as many voters as electors, and as valid lines. The valid and the refused lines together are all lines.
pub record CountsOnce (poll : PollContent) (lines : List Text) (s : Sheet) : Type 0 where
  pub of_two : (a b : ℕ) → IsOption (option_count poll) a → IsOption (option_count poll) b → votes s.matrix a b + votes s.matrix b a ≤ s.voters
  pub on_roll : s.voters ≤ elector_count poll
  pub by_lines : s.voters ≤ s.valid
  pub each_line : s.valid + s.refused ≡ length lines

-- Nobody counts twice, on any sheet.
abbrev pub NobodyCountsTwice : Type 0
NobodyCountsTwice = (poll : PollContent) (lines : List Text) (casting : Option ℕ) (s : Sheet) → IsSheetOf poll lines casting s → CountsOnce poll lines s

-- ---- files with the same sheets

-- for each casting vote, a text is a sheet of the first poll and file exactly when it is a sheet of the second
abbrev pub HaveSameSheets : PollContent → List Text → PollContent → List Text → Type 0
HaveSameSheets poll lines again others = (casting : Option ℕ) (text : Text) → IsSheet poll lines casting text ↔ IsSheet again others casting text

-- ---- refused lines

-- two lines are the same, or neither is a ballot
abbrev pub AreSameOrNoBallots : PollContent → Text → Text → Type 0
AreSameOrNoBallots poll line other = (line ≡ other) ⊎ ((is_ballot (reading poll line) ≡ false) × (is_ballot (reading poll other) ≡ false))

-- Two files have the same number of lines. If two lines with the same number are not late and differ, neither is a ballot.
pub record DifferInRefusedLines (poll : PollContent) (lines others : List Text) : Type 0 where
  pub as_long : length others ≡ length lines
  pub in_time : AllZip (AreSameOrNoBallots poll) (take (last_in_time poll) lines) (take (last_in_time poll) others)

-- Refused lines have no influence: files that differ only in refused lines have the same sheets.
abbrev pub RefusedLinesHaveNoInfluence : Type 0
RefusedLinesHaveNoInfluence = (poll : PollContent) (lines others : List Text) → DifferInRefusedLines poll lines others → HaveSameSheets poll lines poll others

-- the line is refused if it comes after these lines: it is late there, or not a ballot
abbrev pub IsRefusedAfter : PollContent → List Text → Text → Type 0
IsRefusedAfter poll lines line = (last_in_time poll ≤ length lines) ⊎ (is_ballot (reading poll line) ≡ false)

-- the sheet with one more refused line
abbrev pub with_refused_line : Sheet → Sheet
with_refused_line s = record s { refused = s.refused + 1 }

-- A refused line at the end of a file is counted as a line and as refused. It changes nothing else on the sheet.
abbrev pub RefusedLinesAreOnlyCounted : Type 0
RefusedLinesAreOnlyCounted =
    (poll : PollContent) (lines : List Text) (line : Text) (casting : Option ℕ) (s : Sheet) →
    IsRefusedAfter poll lines line → IsSheetOf poll lines casting s → IsSheetOf poll (lines ++ line ∷ []) casting (with_refused_line s)

-- ---- outdated lines

-- the line reads as a ballot of the elector with this index on the roll
abbrev pub IsBallotFrom : PollContent → ℕ → Text → Type 0
IsBallotFrom poll elector line = (ranks : List (Option ℕ)) × (reading poll line ≡ Ballot elector ranks)

-- Only the last ballot counts: if an elector has a later ballot that is not late, another ballot of this elector in place of the earlier ballot leaves the sheets the same.
abbrev pub OnlyTheLastBallotCounts : Type 0
OnlyTheLastBallotCounts =
    (poll : PollContent) (elector : ℕ) (before between after : List Text) (line other later : Text) →
    IsBallotFrom poll elector line → IsBallotFrom poll elector other → IsBallotFrom poll elector later → length (before ++ line ∷ between) < last_in_time poll →
    HaveSameSheets poll (before ++ line ∷ between ++ later ∷ after) poll (before ++ other ∷ between ++ later ∷ after)

-- ---- names

-- two polls have the same number of electors, and differ only in the names on their rolls
pub record DifferInNames (poll again : PollContent) : Type 0 where
  pub electors : elector_count again ≡ elector_count poll
  pub all_else : again ≡ record poll { roll = again.roll }

-- each index of a roll with this many electors is mapped to an index of such a roll, and no two to the same index
pub record IsOneToOne (electors : ℕ) (mapped : ℕ → ℕ) : Type 0 where
  pub on_roll : (v : ℕ) → v < electors → mapped v < electors
  pub apart : (v w : ℕ) → v < electors → w < electors → mapped v ≡ mapped w → v ≡ w

-- one line reads as a ballot of an elector, and the other as a ballot with the same ranks of the elector that this elector is mapped to; or neither reads as a ballot
abbrev pub ReadAlike : (ℕ → ℕ) → Reading → Reading → Type 0
ReadAlike mapped (Ballot elector ranks) other = other ≡ Ballot (mapped elector) ranks
ReadAlike mapped (Bad fault) other = is_ballot other ≡ false

-- two files of two polls have the same number of lines, and their lines that are not late read alike, line by line
pub record AreAlike (mapped : ℕ → ℕ) (poll : PollContent) (lines : List Text) (again : PollContent) (others : List Text) : Type 0 where
  pub as_long : length others ≡ length lines
  pub alike : AllZip (ReadAlike mapped) (readings_in_time poll lines) (readings_in_time again others)

-- Names do not matter: if the electors of a poll have other names, or are in another order on the roll, and the lines say the same about them, the sheets are the same.
abbrev pub NamesDoNotMatter : Type 0
NamesDoNotMatter =
    (poll again : PollContent) (lines others : List Text) (mapped : ℕ → ℕ) →
    DifferInNames poll again → IsOneToOne (elector_count poll) mapped → AreAlike mapped poll lines again others → HaveSameSheets poll lines again others

-- ---- the last valid ballots

-- two polls have the same number of electors, and differ only in the names on their rolls and in their last envelopes
pub record DifferInNamesAndLastEnvelope (poll again : PollContent) : Type 0 where
  pub electors : elector_count again ≡ elector_count poll
  pub all_else : again ≡ record poll { roll = again.roll; last_envelope = again.last_envelope }

-- each elector of the first poll and the elector of the second poll that this elector is mapped to have the same last valid ballot, or neither has one
abbrev pub HaveTheSameLastBallots : (ℕ → ℕ) → PollContent → List Text → PollContent → List Text → Type 0
HaveTheSameLastBallots mapped poll lines again others =
    (v : ℕ) → v < elector_count poll → slice_get (last_valid_ballots again others) (mapped v) ≡ slice_get (last_valid_ballots poll lines) v

-- Only the last valid ballots decide: if two polls differ only in names and last envelope, and two files have the same last valid ballots, then for every casting vote their sheets are the same from the line `Voters:` on, whatever else the files have, and in whatever order.
abbrev pub OnlyLastBallotsDecide : Type 0
OnlyLastBallotsDecide =
    (poll again : PollContent) (lines others : List Text) (mapped : ℕ → ℕ) (casting : Option ℕ) (text other : Text) →
    DifferInNamesAndLastEnvelope poll again → IsOneToOne (elector_count poll) mapped → HaveTheSameLastBallots mapped poll lines again others →
    IsSheet poll lines casting text → IsSheet again others casting other → AreSameFromVoters text other

-- ---- ballots that order the options alike

-- Two electors both have a ballot, or neither has one; and for each two options, one ballot prefers the first to the second exactly when the other does. The numbers that are the ranks do not matter.
pub record OrderAlike (options : ℕ) (entry other : Option (List (Option ℕ))) : Type 0 where
  pub voted : is_some other ≡ is_some entry
  pub preferred : EachTwo options (λ a b. entry_prefers a b other ≡ entry_prefers a b entry)

-- for each elector of the first poll, the elector's last valid ballot and, in the second file, the last valid ballot of the elector that this elector is mapped to order the options alike
abbrev pub HaveLastBallotsAlike : (ℕ → ℕ) → PollContent → List Text → PollContent → List Text → Type 0
HaveLastBallotsAlike mapped poll lines again others =
    (v : ℕ) → v < elector_count poll → OrderAlike (option_count poll) (slice_index_or (last_valid_ballots poll lines) v None) (slice_index_or (last_valid_ballots again others) (mapped v) None)

-- Two ballots that order the options alike count alike: if two polls differ only in names and last envelope, and the last valid ballots of two files order the options alike, then for every casting vote their sheets are the same from the line `Voters:` on.
abbrev pub BallotsThatOrderAlikeCountAlike : Type 0
BallotsThatOrderAlikeCountAlike =
    (poll again : PollContent) (lines others : List Text) (mapped : ℕ → ℕ) (casting : Option ℕ) (text other : Text) →
    DifferInNamesAndLastEnvelope poll again → IsOneToOne (elector_count poll) mapped → HaveLastBallotsAlike mapped poll lines again others →
    IsSheet poll lines casting text → IsSheet again others casting other → AreSameFromVoters text other

-- ---- one ballot

-- the last valid ballots of two files are the same for each elector but this one
abbrev pub DifferInOneBallot : PollContent → ℕ → List Text → List Text → Type 0
DifferInOneBallot poll elector lines others =
    (v : ℕ) → v ≢ elector → slice_get (last_valid_ballots poll others) v ≡ slice_get (last_valid_ballots poll lines) v

abbrev pub IsWithinOne : ℕ → ℕ → Type 0
IsWithinOne n m = (n ≤ m + 1) × (m ≤ n + 1)

-- One ballot changes each count by at most one: if one elector's last valid ballot differs in two files, or only one file has it, the votes for each option over each other option differ by at most one, and so do the numbers of voters.
abbrev pub OneBallotMovesEachCountByOne : Type 0
OneBallotMovesEachCountByOne =
    (poll : PollContent) (elector : ℕ) (lines others : List Text) (casting other : Option ℕ) (s t : Sheet) →
    DifferInOneBallot poll elector lines others → IsSheetOf poll lines casting s → IsSheetOf poll others other t →
    IsWithinOne s.voters t.voters × ((a b : ℕ) → IsOption (option_count poll) a → IsOption (option_count poll) b → IsWithinOne (votes s.matrix a b) (votes t.matrix a b))
