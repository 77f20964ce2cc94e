-- The votes, counted over each voter's last valid ballot. They depend only on the poll and its lines. A line is late if its number
-- is above the poll's last envelope, and a late line is not a valid ballot.
use Rattle.std.specs.Prelude.{ℕ, ◌+◌, not, List, Option, is_some, count_by, length, map, take, drop}
use Rattle.std.specs.List.{range_with_len}
use Rattle.vote_poll.specs.PollContent.{PollContent, elector_count, last_in_time}
use Rattle.vote_poll.specs.Readings.{is_ballot, readings}
use Rattle.vote_poll.specs.declared.Reading.{Reading}
use Rattle.vote_count.specs.Ballots.{entry_prefers}
use Rattle.vote_steps.specs.Recasts.{last_ballot}

-- what the poll reads in the lines that are not late
abbrev pub readings_in_time : PollContent → List (List ℕ) → List Reading
readings_in_time poll lines = take (last_in_time poll) (readings poll lines)

-- the number of valid lines: they read as a ballot and are not late
abbrev pub valid_count : PollContent → List (List ℕ) → ℕ
valid_count poll lines = count_by is_ballot (readings_in_time poll lines)

-- the number of refused lines: they are not a ballot, or late
abbrev pub refused_count : PollContent → List (List ℕ) → ℕ
refused_count poll lines = count_by (λ reading. not (is_ballot reading)) (readings_in_time poll lines) + length (drop (last_in_time poll) lines)

-- for each elector, in the order of the roll, the ranks of the last line that is a valid ballot of this elector, if there is one
abbrev pub last_valid_ballots : PollContent → List (List ℕ) → List (Option (List (Option ℕ)))
last_valid_ballots poll lines = map (last_ballot (readings_in_time poll lines)) (range_with_len 0 (elector_count poll))

-- the number of electors who have a valid ballot
abbrev pub voter_count : PollContent → List (List ℕ) → ℕ
voter_count poll lines = count_by is_some (last_valid_ballots poll lines)

-- the number of electors who prefer option a to option b in their last valid ballot
abbrev pub votes_for : PollContent → List (List ℕ) → ℕ → ℕ → ℕ
votes_for poll lines a b = count_by (entry_prefers a b) (last_valid_ballots poll lines)
