-- If a box holds the lines of a poll, what it says of the voters follows from the lines, whatever the order in which they were cast.
use Rattle.std.specs.Prelude.{◌≡◌, ℕ, ◌+◌, List, is_some, length, map, take, count_by}
use Rattle.std.specs.List.{range_with_len}
use Rattle.vote_poll.specs.PollContent.{PollContent}
use Rattle.vote_poll.specs.declared.Reading.{Reading}
use Rattle.vote_poll.specs.Readings.{is_ballot, readings}
use Rattle.vote_count.specs.Ballots.{entry_prefers}
use Rattle.vote_steps.specs.History.{standing_ranks, standing_votes, valid, refused, voters}
use Rattle.vote_steps.specs.Boxes.{BoxState}
use Rattle.vote_steps.specs.Recasts.{last_ballot}
use Rattle.vote_steps.specs.HeldLines.{HoldsLines}

-- the ranks of each voter's ballot that stands are those of the voter's last line that reads as a ballot and is not late
abbrev pub LastLinesStand : Type 0
LastLinesStand =
    (poll : PollContent) (lines : List (List ℕ)) (b : BoxState) (voter : ℕ) → HoldsLines poll lines b
    → standing_ranks b.last_in_time b.steps voter ≡ last_ballot (take b.last_in_time (readings poll lines)) voter

-- The totals and the votes of a box are those of the lines: a line is valid if it reads as a ballot and is not late, and each
-- voter's last valid line counts.
pub record CountsLines (readings : List Reading) (b : BoxState) : Type 0 where
  pub valid_is : valid b.last_in_time b.steps ≡ count_by is_ballot (take b.last_in_time readings)
  pub refused_is : valid b.last_in_time b.steps + refused b.last_in_time b.steps ≡ length readings
  pub voters_are : voters b.last_in_time b.steps b.electors ≡ count_by is_some (map (last_ballot (take b.last_in_time readings)) (range_with_len 0 b.electors))
  pub votes_are : (a c : ℕ) → standing_votes b.last_in_time b.steps b.electors a c ≡ count_by (entry_prefers a c) (map (last_ballot (take b.last_in_time readings)) (range_with_len 0 b.electors))

abbrev pub LinesAreCounted : Type 0
LinesAreCounted = (poll : PollContent) (lines : List (List ℕ)) (b : BoxState) → HoldsLines poll lines b → CountsLines (readings poll lines) b
