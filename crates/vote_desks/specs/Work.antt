-- What a worker is given, and what it returns.
use Rattle.std.specs.Prelude.{◌≡◌, ℕ, ◌+◌, ◌-◌, ◌*◌, ◌/◌, ◌<◌, ◌≤◌, min, Bool, if◌then◌else◌, List, [], ◌++◌, map, length, slice_get, slice_index, slice_index_or, All}
use Rattle.std.specs.List.{range_with_len}
use Rattle.std.specs.List.Sorted.{IsStrictlyIncreasing}
use Rattle.vote_tray.specs.Passes.{TrayId, PassState, new_pass}
use Rattle.vote_poll.specs.PollContent.{PollContent}
use Rattle.vote_poll.specs.declared.Reading.{Reading}
use Rattle.vote_poll.specs.Readings.{readings}
use Rattle.vote_steps.specs.declared.TheConstants.{MAX_DESKS}
use Rattle.vote_desks_box.specs.Slips.{Rises, stamps_of}
use Rattle.vote_desks_box.specs.Desks.{DeskState}
use Rattle.vote_desks.specs.declared.batch.TheConstants.{BATCH, LEFT_FOR_EACH}

-- a desk with room for as many slips as there are lines, and no slip yet
pub record IsFresh (lines : ℕ) (desk : DeskState) : Type 0 where
  pub room : desk.limit ≡ lines
  pub empty : desk.slips ≡ []

-- the passes of a new tray
abbrev pub new_passes : TrayId → List PassState
new_passes tray = map (new_pass tray) (range_with_len 0 tray.passes)

-- a pass of this tray that has taken nothing
pub record IsUnused (tray : TrayId) (pass : PassState) : Type 0 where
  pub its_tray : pass.tray ≡ tray
  pub empty : pass.places ≡ []

-- after `before` the desk has cast these envelopes, in this order
abbrev pub HasCast : DeskState → List ℕ → DeskState → Type 0
HasCast before stamps desk = stamps_of desk.slips ≡ stamps_of before.slips ++ stamps

-- the desk has cast the envelopes of the places that its pass took, in order, and the tray is empty
pub record HasCastAll (desk : DeskState) (pass : PassState) : Type 0 where
  pub stamps : stamps_of desk.slips ≡ map (λ place. place + 1) pass.places
  pub rising : Rises desk.slips
  pub emptied : pass.seen ≡ pass.tray.size

-- a stamp is the number of a line, from 1, if there are this many lines
abbrev pub IsStampOf : ℕ → ℕ → Type 0
IsStampOf lines stamp = (1 ≤ stamp) × (stamp ≤ lines)

-- each reading is what the poll reads in the line whose stamp has the same index
abbrev pub AreReadAt : PollContent → List (List ℕ) → List ℕ → List Reading → Type 0
AreReadAt poll lines stamps read = (place : ℕ) → place < length stamps → slice_get read place ≡ slice_get (readings poll lines) (slice_index stamps place - 1)

-- the envelopes of the places that a pass took, in the order in which it took them
abbrev pub stamps_taken : PassState → List ℕ
stamps_taken pass = map (λ place. place + 1) pass.places

-- the pass took its places in rising order, all of them below the number that it has seen
pub record IsRising (pass : PassState) : Type 0 where
  pub rising : IsStrictlyIncreasing (stamps_taken pass)
  pub below : All (λ stamp. stamp ≤ pass.seen) (stamps_taken pass)
  pub few : length (stamps_taken pass) ≤ pass.seen
  pub within : pass.seen ≤ pass.tray.size

-- the stamp of the last envelope that the pass took, or 0
abbrev pub last_stamp : PassState → ℕ
last_stamp pass = slice_index_or (stamps_taken pass) (length (stamps_taken pass) - 1) 0

-- the number of lines after the last line that the pass took
abbrev pub left_behind : PassState → ℕ
left_behind pass = pass.tray.size - last_stamp pass

-- how many envelopes a worker takes at once if this many lines are left: one if its gate may wait; otherwise one, and one more for each LEFT_FOR_EACH of them, but at most BATCH
abbrev pub batch_length : Bool → ℕ → ℕ
batch_length may_wait left = if may_wait then 1 else min BATCH (left / LEFT_FOR_EACH + 1)

-- the batches of all desks together, less one envelope each, are at most half of what is left
abbrev pub IsShareOf : ℕ → ℕ → Type 0
IsShareOf left batch = 2 * (MAX_DESKS * (batch - 1)) ≤ left
