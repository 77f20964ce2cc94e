-- How a poll reads a line.
use Rattle.std.specs.Prelude.{◌≡◌, ◌≢◌, ℕ, ◌<◌, List, [], ◌∷◌, length, map, Bool, true, false, ◌==◌, ◌&&◌, nat_le, if◌then◌else◌, Option, Some, None, option_map, unwrap_or, ◌*◌, ◌+◌, ◌-◌}
use Rattle.std.specs.List.{slice_split, before_first, after_first}
use Rattle.std.specs.Str.{byte}
use Rattle.vote_poll.specs.Names.{place_of}
use Rattle.vote_poll_text.specs.Names.{is_voter_name, is_within}
use Rattle.vote_poll.specs.BallotLine.{IsBallotLine}
use Rattle.vote_poll_keys.specs.Lists.{all_some}
use Rattle.vote_poll.specs.PollContent.{PollContent, option_count}
use Rattle.vote_poll.specs.declared.TheConstants.{MAX_LINE}
use Rattle.vote_poll.specs.declared.reading.Reading.{Reading}
use Rattle.vote_poll.specs.declared.reading.Reading.TheVariants.{Ballot, Bad}
use Rattle.vote_poll.specs.declared.reading.LineFault.TheVariants.{Shape, RankCount, Roll}

-- The first case that holds: the line is no ballot line; it has more or fewer ranks than the poll has options; its voter
-- is not on the roll; it is a ballot of the voter at this position of the roll.
abbrev pub IsReading : PollContent → List ℕ → Reading → Type 0
IsReading poll line (Bad Shape) = (voter : List ℕ) (ranks : List (Option ℕ)) → IsBallotLine line voter ranks → ⊥
IsReading poll line (Bad RankCount) = (voter : List ℕ) × (ranks : List (Option ℕ)) × IsBallotLine line voter ranks × (length ranks ≢ option_count poll)
IsReading poll line (Bad Roll) = (voter : List ℕ) × (ranks : List (Option ℕ)) × IsBallotLine line voter ranks × (length ranks ≡ option_count poll) × (place_of voter poll.roll ≡ None)
IsReading poll line (Ballot place ranks) = (voter : List ℕ) × IsBallotLine line voter ranks × (length ranks ≡ option_count poll) × (place_of voter poll.roll ≡ Some place)

-- a ballot is from one of the electors, and has a rank or no rank for each option
abbrev pub ReadingFits : ℕ → ℕ → Reading → Type 0
ReadingFits options electors (Bad line_fault) = Unit {0}
ReadingFits options electors (Ballot voter ranks) = (voter < electors) × (length ranks ≡ options)

-- ---- the same as a function, which splits the line at its first space and at the commas after it

-- the rank that a text spells
abbrev pub rank_in : List ℕ → Option (Option ℕ)
rank_in (a ∷ []) = if a == byte "-" then Some None else (if is_within (byte "1") (byte "9") a then Some (Some (a - byte "0")) else None)
rank_in (a ∷ b ∷ []) = if is_within (byte "1") (byte "9") a && is_within (byte "0") (byte "9") b then Some (Some (10 * (a - byte "0") + (b - byte "0"))) else None
rank_in other = None

-- the ranks that a text lists
abbrev pub ranks_in : List ℕ → Option (List (Option ℕ))
ranks_in text = all_some (map rank_in (slice_split (λ b. b == byte ",") text))

abbrev pub is_space : ℕ → Bool
is_space b = b == byte " "

-- the voter and the ranks of a ballot line
abbrev pub ballot_in : List ℕ → Option (List ℕ × List (Option ℕ))
ballot_in line =
    if nat_le (length line) MAX_LINE && is_voter_name (before_first is_space line)
    then option_map (λ ranks. (before_first is_space line, ranks)) (ranks_in (after_first is_space line)) else None

-- how the poll reads a line: as a ballot, or as the first of these faults: shape, number of ranks, name that is not on the roll
abbrev pub reading_of : PollContent → Option (List ℕ × List (Option ℕ)) → Reading
reading_of poll None = Bad Shape
reading_of poll (Some ballot) =
    if length ballot.1 == option_count poll
    then unwrap_or (option_map (λ voter. Ballot voter ballot.1) (place_of ballot.0 poll.roll)) (Bad Roll) else Bad RankCount

abbrev pub reading : PollContent → List ℕ → Reading
reading poll line = reading_of poll (ballot_in line)

-- how the poll reads the lines, in their order
abbrev pub readings : PollContent → List (List ℕ) → List Reading
readings poll lines = map (reading poll) lines

abbrev pub is_ballot : Reading → Bool
is_ballot (Bad line_fault) = false
is_ballot (Ballot voter ranks) = true
