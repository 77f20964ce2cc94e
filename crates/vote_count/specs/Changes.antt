-- Settled votes and their changes, as `RunningMatrix` keeps them. Options are counted from 0 here: the option `row` wins a vote, and the option `column` loses it.
use Rattle.std.specs.Prelude.{◌≡◌, ℕ, ◌+◌, ◌-◌, ◌*◌, ◌/◌, ◌%◌, ◌<◌, ◌≤◌, ◌^◌, ◌⊎◌, List, [], map, length, slice_index_or}
use Rattle.std.specs.List.{range_with_len}
use Rattle.vote_poll.specs.declared.TheConstants.{MAX_OPTIONS}
use Rattle.vote_count.specs.Rows.{key_at, vote_by}
use Rattle.vote_count.specs.Votes.{Votes, votes}
use Rattle.vote_count.specs.declared.running_matrix.RunningMatrix.TheInside.{Inside}

-- the turn in which an option of the rows meets an option of the columns: sixteen turns for each square of their halves
abbrev pub turn_of : ℕ → ℕ → ℕ
turn_of row column = 16 * (2 * (row / 16) + column / 16) + (16 + column - row % 16) % 16

-- the entry in a lane of a turn
abbrev pub lane_at : List (List ℕ) → ℕ → ℕ → ℕ
lane_at turns turn lane = slice_index_or (slice_index_or turns turn []) lane 0

-- the entry of two options
abbrev pub kept_at : List (List ℕ) → ℕ → ℕ → ℕ
kept_at turns row column = lane_at turns (turn_of row column) (row % 16)

-- there are 64 turns with 16 lanes each
abbrev pub AreTurns : List (List ℕ) → Type 0
AreTurns turns = (length turns ≡ 64) × ((turn : ℕ) → turn < 64 → length (slice_index_or turns turn []) ≡ 16)

-- the votes so far: the settled votes and the change, where 128 is no change
abbrev pub sum_at : List (List ℕ) → List (List ℕ) → ℕ → ℕ → ℕ
sum_at settled changes row column = kept_at settled row column + kept_at changes row column - 128

-- the settled votes and the change of two options make a number of votes, which fits in 32 bits
abbrev pub IsSum : List (List ℕ) → List (List ℕ) → ℕ → ℕ → Type 0
IsSum settled changes row column =
    let sum = kept_at settled row column + kept_at changes row column in
    (128 ≤ sum) × (sum < 2 ^ 32 + 128)

-- a change is added to settled votes, if together they make a number of votes, which fits in 32 bits
abbrev pub IsSettled : ℕ → ℕ → ℕ → Type 0
IsSettled settled change sum = 128 ≤ settled + change → settled + change < 2 ^ 32 + 128 → sum + 128 ≡ settled + change

-- the change of two options is at most this many votes, up or down
abbrev pub IsWithin : ℕ → List (List ℕ) → ℕ → ℕ → Type 0
IsWithin pending changes row column = (128 ≤ kept_at changes row column + pending) × (kept_at changes row column ≤ 128 + pending)

-- the vote of a ballot with these keys for an option over another: 1 or 0
abbrev pub key_vote : List ℕ → ℕ → ℕ → ℕ
key_vote keys row column = vote_by (key_at keys row) (key_at keys column)

-- its vote in a lane of a turn of a square
abbrev pub lane_vote : List ℕ → ℕ → ℕ → ℕ → ℕ
lane_vote keys square turn lane = key_vote keys (16 * (square / 2) + lane) (16 * (square % 2) + (turn + lane) % 16)

-- in a change, one ballot's vote is replaced by another's, if there is room for one more and one less
abbrev pub Moves : ℕ → ℕ → ℕ → ℕ → Type 0
Moves before after gone come = 1 ≤ before → before ≤ 254 → after + gone ≡ before + come

-- in each lane of a turn, one vote is replaced by another
abbrev pub IsMoved : List (List ℕ) → List (List ℕ) → ℕ → (ℕ → ℕ) → (ℕ → ℕ) → Type 0
IsMoved before after turn gone come =
    (lane : ℕ) → lane < 16 → Moves (lane_at before turn lane) (lane_at after turn lane) (gone lane) (come lane)

-- the turns in which two different options meet, if there are only this many options
abbrev pub IsFewTurn : ℕ → ℕ → Type 0
IsFewTurn options turn = ((1 ≤ turn) × (turn < options)) ⊎ ((16 < turn + options) × (turn < 16))

-- the fact holds of each two options, counted from 0
abbrev pub OfEach : ℕ → (ℕ → ℕ → Type 0) → Type 0
OfEach options fact = (row column : ℕ) → row < options → column < options → fact row column

-- V(A,B) of two options, counted from 0
abbrev pub vote_at : Votes → ℕ → ℕ → ℕ
vote_at matrix row column = votes matrix (row + 1) (column + 1)

-- a ballot with these keys was counted: if it prefers an option to another, there is a vote to take back
abbrev pub HasCountedKeys : Votes → List ℕ → Type 0
HasCountedKeys matrix keys = OfEach matrix.options (λ row column. key_vote keys row column ≤ vote_at matrix row column)

-- if a ballot with these keys prefers an option to another, one more vote fits in 32 bits
abbrev pub HasRoomForKeys : Votes → List ℕ → Type 0
HasRoomForKeys matrix keys = OfEach matrix.options (λ row column. 1 ≤ key_vote keys row column → vote_at matrix row column < 2 ^ 32 - 1)

-- the votes are those before, with those of a ballot with the new keys in place of those of a ballot with the old keys
abbrev pub CountsKeysInstead : Votes → Votes → List ℕ → List ℕ → Type 0
CountsKeysInstead before after old new =
    OfEach before.options (λ row column. vote_at after row column + key_vote old row column ≡ vote_at before row column + key_vote new row column)

-- each entry in an option's row is the sum of its settled votes and their change
abbrev pub IsRowOf : List (List ℕ) → List (List ℕ) → ℕ → ℕ → List ℕ → Type 0
IsRowOf settled changes options row counts = (column : ℕ) → column < options → key_at counts column ≡ sum_at settled changes row column

-- the sums of votes and changes are what they were
abbrev pub HasSameSums : ℕ → List (List ℕ) → List (List ℕ) → List (List ℕ) → List (List ℕ) → Type 0
HasSameSums options settled changes settled_before changes_before =
    OfEach options (λ row column. kept_at settled row column + kept_at changes row column ≡ kept_at settled_before row column + kept_at changes_before row column)

-- the changes of a turn are added to its votes
abbrev pub IsSettledTurn : List ℕ → List ℕ → List ℕ → Type 0
IsSettledTurn settled changes sums = (lane : ℕ) → lane < 16 → IsSettled (key_at settled lane) (key_at changes lane) (key_at sums lane)

-- in the change of each two options, the vote of a ballot with the old keys is replaced by the vote of a ballot with the new keys
abbrev pub IsMovedByKeys : ℕ → List (List ℕ) → List (List ℕ) → List ℕ → List ℕ → Type 0
IsMovedByKeys options before after old new =
    OfEach options (λ row column. Moves (kept_at before row column) (kept_at after row column) (key_vote old row column) (key_vote new row column))

-- the same for the changes of a turn of a square
abbrev pub IsTurnMoved : ℕ → ℕ → List (List ℕ) → List (List ℕ) → List ℕ → List ℕ → Type 0
IsTurnMoved square turn before after old new = IsMoved before after (16 * square + turn) (lane_vote old square turn) (lane_vote new square turn)

-- the same for all turns of the square from this turn on
abbrev pub AreTurnsMoved : ℕ → ℕ → List (List ℕ) → List (List ℕ) → List ℕ → List ℕ → Type 0
AreTurnsMoved square from before after old new = (turn : ℕ) → from ≤ turn → turn < 16 → IsTurnMoved square turn before after old new

-- the same for the turns of the first square in which two different options meet, if there are only this many options
abbrev pub AreFewTurnsMoved : ℕ → List (List ℕ) → List (List ℕ) → List ℕ → List ℕ → Type 0
AreFewTurnsMoved options before after old new =
    (turn : ℕ) → IsFewTurn options turn → IsMoved before after turn (lane_vote old 0 turn) (lane_vote new 0 turn)

-- all other turns are the same
abbrev pub AreOthersSame : ℕ → ℕ → List (List ℕ) → List (List ℕ) → Type 0
AreOthersSame square from before after =
    (turn : ℕ) → (turn < 16 * square + from) ⊎ (16 * square + 16 ≤ turn) → slice_index_or after turn [] ≡ slice_index_or before turn []

-- the sixteen keys from index `first` on, twice
abbrev pub IsAround : ℕ → List ℕ → List ℕ → Type 0
IsAround first keys twice = (k : ℕ) → k < 32 → key_at twice k ≡ key_at keys (first + k % 16)

-- for each option of the rows: 0 if it is preferred to the option that it meets in this turn, and else 1
abbrev pub IsNotOver : ℕ → List ℕ → List ℕ → List ℕ → Type 0
IsNotOver turn rows columns ones = (k : ℕ) → k < 16 → key_at ones k + vote_by (key_at rows k) (key_at columns (turn + k)) ≡ 1

-- each lane that has room moves up where `up` is 1, and down where `down` is 1
abbrev pub IsMovedByOnes : List ℕ → List ℕ → List ℕ → List ℕ → Type 0
IsMovedByOnes up down before after = (k : ℕ) → k < 16 → Moves (key_at before k) (key_at after k) (key_at down k) (key_at up k)

-- the votes that contracts see
abbrev pub votes_of : Inside → Votes
votes_of m = record {
  options = m.options;
  rows = map (λ row. map (sum_at m.settled m.changes row) (range_with_len 0 MAX_OPTIONS)) (range_with_len 0 MAX_OPTIONS);
}

-- the invariant of a running matrix
pub record KeepsVotes (m : Inside) : Type 0 where
  pub few : m.options ≤ MAX_OPTIONS
  pub pending : m.pending ≤ 127
  pub settled : AreTurns m.settled
  pub changes : AreTurns m.changes
  pub within : OfEach m.options (IsWithin m.pending m.changes)
  pub sums : OfEach m.options (IsSum m.settled m.changes)
