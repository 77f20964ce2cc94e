-- What `standing` writes: for each elector with a ballot that stands, the line that spells this ballot.
use Rattle.std.specs.Prelude.{◌≡◌, ℕ, List, [], ◌∷◌, ◌++◌, length, Option, Some, None, codes, slice_index_or}
use Rattle.vote_poll.specs.BallotLine.{line_text}
use Rattle.vote_poll_text.specs.Lines.{AreLines, text_of_lines}
use Rattle.vote_poll.specs.PollContent.{PollContent}
use Rattle.vote_steps.specs.LastBallots.{last_valid_ballots, refused_count, valid_count, voter_count}
use Rattle.vote_sheet.specs.SheetOf.{IsSheet}
use Rattle.vote_poll_text.specs.Texts.{Text}

-- the name at this index of the roll
abbrev pub voter_at : PollContent → ℕ → Text
voter_at poll voter = slice_index_or poll.roll voter []

-- the line of a voter's ballot, if there is one
abbrev pub ballot_line : Text → Option (List (Option ℕ)) → List Text
ballot_line voter None = []
ballot_line voter (Some ranks) = line_text voter ranks ∷ []

-- this line with its line feed; empty if there is no ballot
abbrev pub ballot_text : Text → Option (List (Option ℕ)) → Text
ballot_text voter ballot = text_of_lines (ballot_line voter ballot)

-- the lines of all voters with a ballot; each voter's ballot has the voter's index
abbrev pub ballot_lines : List Text → List (Option (List (Option ℕ))) → List Text
ballot_lines [] ballots = []
ballot_lines (voter ∷ voters) [] = []
ballot_lines (voter ∷ voters) (ballot ∷ ballots) = ballot_line voter ballot ++ ballot_lines voters ballots

-- the lines of the ballots that stand, in the order of the roll
abbrev pub standing_text : PollContent → List Text → Text
standing_text poll lines = text_of_lines (ballot_lines poll.roll (last_valid_ballots poll lines))

-- The second lines say the same about the voters as the first, and nothing else: there are as many lines as voters, each is a ballot
-- that is not late, and the last valid ballot of each elector is the same.
pub record SaysTheSame (poll : PollContent) (lines again : List Text) : Type 0 where
  pub count : length again ≡ voter_count poll lines
  pub valid : valid_count poll again ≡ voter_count poll lines
  pub refused : refused_count poll again ≡ 0
  pub last : last_valid_ballots poll again ≡ last_valid_ballots poll lines

-- a law: the text of `standing` is a ballot file of the same poll that says the same
abbrev pub StandingSaysTheSame : Type 0
StandingSaysTheSame = (poll : PollContent) (lines again : List Text) → AreLines (standing_text poll lines) again → SaysTheSame poll lines again

-- two texts are the same from the line `Voters:` on
abbrev pub AreSameFromVoters : Text → Text → Type 0
AreSameFromVoters text other =
    (before : Text) × (other_before : Text) × (rest : Text) × (text ≡ before ++ codes "\nVoters: " ++ rest) × (other ≡ other_before ++ codes "\nVoters: " ++ rest)

-- a law: for every casting vote the sheet of a ballot file and the sheet of its text of `standing` are the same from the line `Voters:` on
abbrev pub StandingHasTheSameSheet : Type 0
StandingHasTheSameSheet =
    (poll : PollContent) (lines again : List Text) (casting : Option ℕ) (text other : Text) →
    AreLines (standing_text poll lines) again → IsSheet poll lines casting text → IsSheet poll again casting other → AreSameFromVoters text other
