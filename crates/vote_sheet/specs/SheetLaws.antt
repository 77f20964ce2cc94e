-- Laws of the count in terms of what people see: ballot files, and the sheets that are printed for them.
use Rattle.std.specs.Prelude.{◌≡◌, ◌≢◌, ℕ, ◌<◌, List, Option, None}
use Rattle.std.specs.List.{AllZip}
use Rattle.vote_poll.specs.Options.{IsOption}
use Rattle.vote_poll.specs.PollContent.{PollContent, IsPoll, option_count}
use Rattle.vote_count.specs.declared.Decision.TheVariants.{Winner}
use Rattle.vote_count.specs.Laws.{IsRaisedEntry, IsUnanimous}
use Rattle.vote_count.specs.Rounds.{cause_of, final_set}
use Rattle.vote_count.specs.Sets.{In}
use Rattle.vote_steps.specs.LastBallots.{last_valid_ballots, votes_for}
use Rattle.vote_sheet.specs.Sheet.{Sheet, Text}
use Rattle.vote_sheet.specs.SheetOf.{IsSheetOf}

-- the option is in the set of the last round on the sheet
abbrev pub IsLeft : Sheet → ℕ → Type 0
IsLeft s o = In (final_set s.outcome.rounds) o

-- this is an option of the poll, and the sheet does not drop it
abbrev pub IsNotDropped : PollContent → Sheet → ℕ → Type 0
IsNotDropped poll s o = IsOption (option_count poll) o × (cause_of s.outcome o ≡ None)

-- Each elector's last valid ballot in the second file likes the option no less than the elector's ballot in the first file, and says the same about all other options.
abbrev pub LikesMore : PollContent → ℕ → List Text → List Text → Type 0
LikesMore poll a lines raised = AllZip (IsRaisedEntry (option_count poll) a) (last_valid_ballots poll lines) (last_valid_ballots poll raised)

-- Monotonicity: if the electors come to like an option more and change nothing else, it stays in the last round of each sheet.
abbrev pub LikedOptionsStay : Type 0
LikedOptionsStay =
    (poll : PollContent) (lines raised : List Text) (casting other : Option ℕ) (s r : Sheet) (a : ℕ) →
    IsPoll poll → LikesMore poll a lines raised → IsSheetOf poll lines casting s → IsSheetOf poll raised other r → IsLeft s a → IsLeft r a

-- The same for the option that a sheet without a casting vote names as its winner.
abbrev pub LikedWinnersStay : Type 0
LikedWinnersStay =
    (poll : PollContent) (lines raised : List Text) (other : Option ℕ) (s r : Sheet) (a : ℕ) →
    IsPoll poll → LikesMore poll a lines raised → IsSheetOf poll lines None s → IsSheetOf poll raised other r → s.decision ≡ Winner a → IsLeft r a

-- Pareto's criterion: if each last valid ballot prefers an option that is not dropped to another option, no sheet has the other option in its last round, or as its winner.
abbrev pub UnanimityRules : Type 0
UnanimityRules =
    (poll : PollContent) (lines : List Text) (casting : Option ℕ) (s : Sheet) (a b : ℕ) →
    IsSheetOf poll lines casting s → IsNotDropped poll s a → a ≢ b → IsUnanimous a b (last_valid_ballots poll lines) → ¬ IsLeft s b × (s.decision ≢ Winner b)

-- A Condorcet winner is an option that is not dropped. For each other option that is not dropped, more electors prefer the winner to it than it to the winner, in their last valid ballots.
abbrev pub IsCondorcetWinnerOn : PollContent → List Text → Sheet → ℕ → Type 0
IsCondorcetWinnerOn poll lines s a =
    IsNotDropped poll s a × ((b : ℕ) → IsNotDropped poll s b → b ≢ a → votes_for poll lines b a < votes_for poll lines a b)

-- A Condorcet winner is the winner that the sheet names, whatever the casting vote.
abbrev pub CondorcetWinnersAreNamed : Type 0
CondorcetWinnersAreNamed =
    (poll : PollContent) (lines : List Text) (casting : Option ℕ) (s : Sheet) (a : ℕ) →
    IsSheetOf poll lines casting s → IsCondorcetWinnerOn poll lines s a → s.decision ≡ Winner a
