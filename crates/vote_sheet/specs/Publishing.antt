-- What is published of a secret vote: the poll with other names on its roll and without its last envelope, and the ballots that stand under these names, with their ranks in a form that keeps the order of the options. It says the same about the electors, and has the same sheet from the line `Voters:` on.
use Rattle.std.specs.Prelude.{is_some, ◌≡◌, ℕ, ◌+◌, ◌-◌, ◌<◌, ◌==◌, Bool, false, List, All, length, map, count_by, slice_get, Option, None, Some, option_map, IsPermutation}
use Rattle.std.specs.List.{list_any, range_with_len}
use Rattle.vote_poll.specs.BallotLine.{IsRank}
use Rattle.vote_poll.specs.Options.{IsOption}
use Rattle.vote_poll.specs.Ranks.{rank_of}
use Rattle.vote_poll.specs.PollContent.{IsPoll, PollContent, elector_count}
use Rattle.vote_sheet.specs.ElectorLaws.{DifferInNamesAndLastEnvelope, IsOneToOne, OrderAlike}
use Rattle.vote_steps.specs.LastBallots.{last_valid_ballots, refused_count, valid_count, voter_count}
use Rattle.vote_sheet.specs.SheetOf.{IsSheet}
use Rattle.vote_sheet.specs.Standing.{AreSameFromVoters, ballot_lines, voter_at}
use Rattle.vote_poll_text.specs.Texts.{Text}

-- ---- how ranks are written

-- A form of ranks keeps the order: in it a ballot has the same number of ranks, each is a valid rank or absent, and the ballot orders the options alike.
pub record KeepsTheOrder (written : List (Option ℕ) → List (Option ℕ)) : Type 0 where
  pub as_many : (ranks : List (Option ℕ)) → All IsRank ranks → length (written ranks) ≡ length ranks
  pub are_ranks : (ranks : List (Option ℕ)) → All IsRank ranks → All IsRank (written ranks)
  pub alike : (ranks : List (Option ℕ)) → All IsRank ranks → OrderAlike (length ranks) (Some ranks) (Some (written ranks))

-- whether a rank is this number
abbrev pub is_number : ℕ → Option ℕ → Bool
is_number number None = false
is_number number (Some rank) = rank == number

-- whether a ballot with these ranks gives some option this rank
abbrev pub gives_rank : List (Option ℕ) → ℕ → Bool
gives_rank ranks number = list_any (is_number number) ranks

-- the position of a rank among the ranks of a ballot: 1, and one more for each smaller rank that the ballot gives
abbrev pub place_of : List (Option ℕ) → ℕ → ℕ
place_of ranks number = 1 + count_by (gives_rank ranks) (range_with_len 1 (number - 1))

-- The ranks in normal form: 1, 2 and so on, in the same order. Equal ranks stay equal, and an option without a rank stays without.
abbrev pub normal_ranks : List (Option ℕ) → List (Option ℕ)
normal_ranks ranks = map (option_map (place_of ranks)) ranks

-- Two lists of ranks say the same: they rank the same options, and for each two options, one list prefers the first to the second exactly when the other does.
pub record SayTheSameOrder (ranks other : List (Option ℕ)) : Type 0 where
  pub as_many : length other ≡ length ranks
  pub ranked : (o : ℕ) → IsOption (length ranks) o → is_some (rank_of other o) ≡ is_some (rank_of ranks o)
  pub alike : OrderAlike (length ranks) (Some ranks) (Some other)

-- a law: normal form shows which options have a rank, and their order, and nothing else: two lists for which these are the same have the same normal form
abbrev pub NormalRanksTellTheOrderAlone : Type 0
NormalRanksTellTheOrderAlone = (ranks other : List (Option ℕ)) → All IsRank ranks → All IsRank other → SayTheSameOrder ranks other → normal_ranks other ≡ normal_ranks ranks

-- ---- what is published

-- for each elector, in the order of the roll, the name on the other roll
abbrev pub other_names : (ℕ → ℕ) → PollContent → PollContent → List Text
other_names mapped poll again = map (λ v. voter_at again (mapped v)) (range_with_len 0 (elector_count poll))

-- the last valid ballots, with their ranks in this form
abbrev pub written_ballots : (List (Option ℕ) → List (Option ℕ)) → PollContent → List Text → List (Option (List (Option ℕ)))
written_ballots written poll lines = map (option_map written) (last_valid_ballots poll lines)

-- the lines of `standing`, each with the voter's name on the other roll instead, and with its ranks in this form
abbrev pub renamed_lines : (List (Option ℕ) → List (Option ℕ)) → (ℕ → ℕ) → PollContent → List Text → PollContent → List Text
renamed_lines written mapped poll lines again = ballot_lines (other_names mapped poll again) (written_ballots written poll lines)

-- The second poll is the first with other names, in another order, and without a last envelope. The second lines are the lines of `standing`, in any order, with these names and with their ranks in a form that keeps the order.
pub record ArePublished (written : List (Option ℕ) → List (Option ℕ)) (mapped : ℕ → ℕ) (poll : PollContent) (lines : List Text) (again : PollContent) (others : List Text) : Type 0 where
  pub keeps : KeepsTheOrder written
  pub is_poll : IsPoll again
  pub all_else : DifferInNamesAndLastEnvelope poll again
  pub no_last : again.last_envelope ≡ None
  pub one_to_one : IsOneToOne (elector_count poll) mapped
  pub ballots : IsPermutation (renamed_lines written mapped poll lines again) others

-- The second lines say the same about the electors as the first, and nothing else: there are as many lines as voters, each is a ballot that is not late, and each elector's last valid ballot is the same, with its ranks in this form.
pub record SaysTheSameByOtherNames (written : List (Option ℕ) → List (Option ℕ)) (mapped : ℕ → ℕ) (poll : PollContent) (lines : List Text) (again : PollContent) (others : List Text) : Type 0 where
  pub count : length others ≡ voter_count poll lines
  pub valid : valid_count again others ≡ voter_count poll lines
  pub refused : refused_count again others ≡ 0
  pub last : (v : ℕ) → v < elector_count poll → slice_get (last_valid_ballots again others) (mapped v) ≡ slice_get (written_ballots written poll lines) v

-- a law: the published files say the same
abbrev pub PublishedFilesSayTheSame : Type 0
PublishedFilesSayTheSame =
    (written : List (Option ℕ) → List (Option ℕ)) (poll again : PollContent) (lines others : List Text) (mapped : ℕ → ℕ) →
    ArePublished written mapped poll lines again others → SaysTheSameByOtherNames written mapped poll lines again others

-- a law: for every casting vote, the sheet of the published files and the sheet of the received files are the same from the line `Voters:` on
abbrev pub PublishedFilesHaveTheSameSheet : Type 0
PublishedFilesHaveTheSameSheet =
    (written : List (Option ℕ) → List (Option ℕ)) (poll again : PollContent) (lines others : List Text) (mapped : ℕ → ℕ) (casting : Option ℕ) (text other : Text) →
    ArePublished written mapped poll lines again others → IsSheet poll lines casting text → IsSheet again others casting other → AreSameFromVoters text other
