-- A history is a list of steps, oldest first. Each step is the cast of an envelope at a desk, with its reply, or it is the close.
-- Desks, stamps and voters range over all natural numbers here; a legal history keeps them within the box. `last_in_time` is the
-- greatest stamp that is not late.
use Rattle.std.specs.Prelude.{ℕ, ◌+◌, ◌==◌, nat_lt, Bool, true, false, not, if◌then◌else◌, List, [], ◌∷◌, Option, Some, None, option_and_then, option_map, is_some, map, count_by}
use Rattle.std.specs.List.{filter_map, list_any, range_with_len}
use Rattle.vote_poll.specs.Ranks.{prefers}
use Rattle.vote_poll.specs.declared.Reading.{Reading}
use Rattle.vote_poll.specs.declared.Reading.TheVariants.{Ballot, Bad}
use Rattle.vote_steps.specs.declared.step.Reply.{Reply}
use Rattle.vote_steps.specs.declared.step.Reply.TheVariants.{BoxClosed, Late, BadLine, Superseded, Replaced, Counted}
use Rattle.vote_steps.specs.declared.step.Received.{Received}
use Rattle.vote_steps.specs.declared.step.Step.{Step}
use Rattle.vote_steps.specs.declared.step.Step.TheVariants.{Cast, Close}

-- ---- the close

abbrev pub is_close : Step → Bool
is_close Close = true
is_close (Cast desk stamp reading reply) = false

abbrev pub is_cast : Step → Bool
is_cast Close = false
is_cast (Cast desk stamp reading reply) = true

-- whether the box was closed
abbrev pub is_closed : List Step → Bool
is_closed steps = list_any is_close steps

-- the steps before the first close
abbrev pub before_close : List Step → List Step
before_close [] = []
before_close (step ∷ steps) = if is_close step then [] else step ∷ before_close steps

-- the steps after the first close
abbrev pub after_close : List Step → List Step
after_close [] = []
after_close (step ∷ steps) = if is_close step then steps else after_close steps

-- ---- the stamps of the envelopes

abbrev pub stamp_of : Step → Option ℕ
stamp_of Close = None
stamp_of (Cast desk stamp reading reply) = Some stamp

-- the stamps of the casts
abbrev pub stamps : List Step → List ℕ
stamps steps = filter_map stamp_of steps

-- whether a cast has this stamp
abbrev pub is_used : List Step → ℕ → Bool
is_used steps stamp = list_any (λ used. used == stamp) (filter_map stamp_of steps)

-- whether an envelope is late: its stamp is above the last stamp in time, whenever it came
abbrev pub is_late : ℕ → ℕ → Bool
is_late last_in_time stamp = nat_lt last_in_time stamp

-- ---- a voter's ballot that stands

-- the ranks that a line gives a voter, if it is a ballot of that voter
abbrev pub ranks_read : ℕ → Reading → Option (List (Option ℕ))
ranks_read voter (Bad fault) = None
ranks_read voter (Ballot v ranks) = if v == voter then Some ranks else None

-- the ballot that a step gives a voter; a late cast gives no ballot
abbrev pub ballot_of : ℕ → ℕ → Step → Option Received
ballot_of last_in_time voter Close = None
ballot_of last_in_time voter (Cast desk stamp reading reply) =
    if is_late last_in_time stamp then None else option_map (λ ranks. record { stamp = stamp; ranks = ranks }) (ranks_read voter reading)

-- of two ballots, the one with the greater stamp
abbrev pub later : Received → Option Received → Option Received
later ballot None = Some ballot
later ballot (Some other) = if nat_lt other.stamp ballot.stamp then Some ballot else Some other

-- the ballot with the greatest stamp
abbrev pub latest : List Received → Option Received
latest [] = None
latest (ballot ∷ others) = later ballot (latest others)

-- a voter's ballot that stands: of the voter's ballots that came before the close and are not late, the one with the greatest stamp
abbrev pub standing : ℕ → List Step → ℕ → Option Received
standing last_in_time steps voter = latest (filter_map (ballot_of last_in_time voter) (before_close steps))

-- the ranks of the ballot that stands
abbrev pub standing_ranks : ℕ → List Step → ℕ → Option (List (Option ℕ))
standing_ranks last_in_time steps voter = option_and_then (λ ballot. Some ballot.ranks) (standing last_in_time steps voter)

-- ---- the reply to a cast

-- the reply to a ballot with this stamp, given the same voter's ballot that stands, if there is one
abbrev pub reply_beside : Option Received → ℕ → Reply
reply_beside None stamp = Counted
reply_beside (Some ballot) stamp = if nat_lt stamp ballot.stamp then Superseded else Replaced

-- the reply of an open box to an envelope that is not late
abbrev pub reply_in_time : ℕ → List Step → ℕ → Reading → Reply
reply_in_time last_in_time steps stamp (Bad fault) = BadLine fault
reply_in_time last_in_time steps stamp (Ballot voter ranks) = reply_beside (standing last_in_time steps voter) stamp

-- the reply to an envelope that comes after these steps
abbrev pub reply_to : ℕ → List Step → ℕ → Reading → Reply
reply_to last_in_time steps stamp reading =
    if is_closed steps then BoxClosed else (if is_late last_in_time stamp then Late else reply_in_time last_in_time steps stamp reading)

-- whether a reply says that the line is a valid ballot
abbrev pub is_valid : Reply → Bool
is_valid Counted = true
is_valid Replaced = true
is_valid Superseded = true
is_valid (BadLine fault) = false
is_valid Late = false
is_valid BoxClosed = false

-- ---- the counts

-- the ballots that stand, one entry for each voter
abbrev pub roll : ℕ → List Step → ℕ → List (Option Received)
roll last_in_time steps electors = map (standing last_in_time steps) (range_with_len 0 electors)

-- whether an entry of the roll is a ballot that prefers option a to option b
abbrev pub is_for : ℕ → ℕ → Option Received → Bool
is_for a b None = false
is_for a b (Some ballot) = prefers ballot.ranks a b

-- how many voters prefer option a to option b, by the ballots that stand
abbrev pub standing_votes : ℕ → List Step → ℕ → ℕ → ℕ → ℕ
standing_votes last_in_time steps electors a b = count_by (is_for a b) (roll last_in_time steps electors)

-- whether a step is the cast of a ballot that is not late
abbrev pub is_ballot : ℕ → Step → Bool
is_ballot last_in_time Close = false
is_ballot last_in_time (Cast desk stamp (Bad fault) reply) = false
is_ballot last_in_time (Cast desk stamp (Ballot voter ranks) reply) = not (is_late last_in_time stamp)

-- whether a step is the cast of a line that is no ballot, or of a late ballot
abbrev pub is_refused : ℕ → Step → Bool
is_refused last_in_time Close = false
is_refused last_in_time (Cast desk stamp (Bad fault) reply) = true
is_refused last_in_time (Cast desk stamp (Ballot voter ranks) reply) = is_late last_in_time stamp

-- the number of ballots that came before the close and are not late
abbrev pub valid : ℕ → List Step → ℕ
valid last_in_time steps = count_by (is_ballot last_in_time) (before_close steps)

-- the number of lines before the close that are no ballot or are late, and of all lines that came after it
abbrev pub refused : ℕ → List Step → ℕ
refused last_in_time steps = count_by (is_refused last_in_time) (before_close steps) + count_by is_cast (after_close steps)

-- the ranks of the ballots that stand, one entry for each voter
abbrev pub standing_ballots : ℕ → List Step → ℕ → List (Option (List (Option ℕ)))
standing_ballots last_in_time steps electors = map (standing_ranks last_in_time steps) (range_with_len 0 electors)

-- the number of voters with a ballot that stands
abbrev pub voters : ℕ → List Step → ℕ → ℕ
voters last_in_time steps electors = count_by is_some (roll last_in_time steps electors)
