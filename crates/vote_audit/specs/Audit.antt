-- What an audit finds.
use Rattle.std.specs.Prelude.{◌≡◌, ◌≢◌, ℕ, ◌+◌, ◌<◌, ◌≤◌, ◌↔◌, List, ◌∷◌, ◌++◌, Option, Result, Err, All, MatchOption, length, take, slice_get, count_by}
use Rattle.vote_poll.specs.PollContent.{PollContent}
use Rattle.vote_poll.specs.Readings.{readings}
use Rattle.vote_desks_box.specs.declared.Slip.{Slip}
use Rattle.vote_audit.specs.declared.fault.AuditFault.{AuditFault}
use Rattle.vote_audit.specs.declared.fault.AuditFault.TheVariants.{SizeDiffers, CountDiffers, StepDiffers, SlipDiffers, ClosedEarly}
use Rattle.vote_steps.specs.declared.TheConstants.{MAX_DESKS}
use Rattle.vote_steps.specs.declared.Step.{Step}
use Rattle.vote_steps.specs.History.{is_cast, before_close}
use Rattle.vote_steps.specs.Boxes.{BoxState}
use Rattle.vote_steps.specs.Recasts.{HasOwnReading}
use Rattle.vote_steps.specs.HeldLines.{HasSizes, HoldsLines}
use Rattle.vote_desks_box.specs.Slips.{slips_from}
use Rattle.vote_desks_box.specs.Desks.{SealedState, slips_at}

-- each desk's slips are those of its casts; a desk that handed in none has cast nothing
abbrev pub HasSlips : List Step → List (List Slip) → Type 0
HasSlips steps slips_by_desk = (desk : ℕ) → 1 ≤ desk → desk ≤ MAX_DESKS → slips_at slips_by_desk desk ≡ slips_from 1 steps desk

-- the box holds the poll's lines, and each desk's slips are those of its casts
pub record IsAudited (poll : PollContent) (lines : List (List ℕ)) (b : BoxState) (slips_by_desk : List (List Slip)) : Type 0 where
  pub holds : HoldsLines poll lines b
  pub slips_are : HasSlips b.steps slips_by_desk

-- a sealed box is audited for a poll and its lines
abbrev pub IsAuditedFor : PollContent → List (List ℕ) → SealedState → Type 0
IsAuditedFor poll lines s = IsAudited poll lines s.ballot_box s.slips_by_desk

-- each cast has the poll's reading of the line with its stamp
abbrev pub HasOwnReadings : PollContent → List (List ℕ) → List Step → Type 0
HasOwnReadings poll lines steps = All (HasOwnReading (readings poll lines)) steps

-- the step with this number, from 1, is the first cast whose reading is not that of its line
pub record DiffersFirst (poll : PollContent) (lines : List (List ℕ)) (steps : List Step) (number : ℕ) : Type 0 where
  pub before : List Step
  pub step : Step
  pub after : List Step
  pub here : steps ≡ before ++ step ∷ after
  pub number_is : number ≡ length before + 1
  pub so_far : HasOwnReadings poll lines before
  pub differs : ¬ HasOwnReading (readings poll lines) step

-- each cast has the reading of its line, or this is the number of the first cast that does not
abbrev pub FindsReading : Option ℕ → PollContent → List (List ℕ) → List Step → Type 0
FindsReading found poll lines steps = MatchOption found (HasOwnReadings poll lines steps) (DiffersFirst poll lines steps)

-- two lists of slips first differ at this position, counted from 1; one list may have ended there
pub record PartAt (slips other : List Slip) (place : ℕ) : Type 0 where
  pub before : ℕ
  pub place_is : place ≡ before + 1
  pub so_far : take before slips ≡ take before other
  pub differ : slice_get slips before ≢ slice_get other before

-- the lowest desk whose slips are not those of its casts, and the first position where they differ
pub record SlipDiffersFirst (steps : List Step) (slips_by_desk : List (List Slip)) (desk place : ℕ) : Type 0 where
  pub is_desk : (1 ≤ desk) × (desk ≤ MAX_DESKS)
  pub others : (other : ℕ) → 1 ≤ other → other < desk → slips_at slips_by_desk other ≡ slips_from 1 steps other
  pub part : PartAt (slips_at slips_by_desk desk) (slips_from 1 steps desk) place

-- each desk's slips are those of its casts, or this is the lowest desk where they are not, with the first position where they differ
abbrev pub FindsSlip : Option (ℕ × ℕ) → List Step → List (List Slip) → Type 0
FindsSlip found steps slips_by_desk = MatchOption found (HasSlips steps slips_by_desk) (λ at. SlipDiffersFirst steps slips_by_desk at.0 at.1)

-- the close has this number, and steps come after it
abbrev pub IsEarlyClose : List Step → ℕ → Type 0
IsEarlyClose steps number = (number ≡ length (before_close steps) + 1) × (number < length steps)

-- when each fault is found: all tests before its own passed
abbrev pub IsFaultOf : PollContent → List (List ℕ) → BoxState → List (List Slip) → AuditFault → Type 0
IsFaultOf poll lines b slips_by_desk SizeDiffers = ¬ HasSizes poll lines b
IsFaultOf poll lines b slips_by_desk CountDiffers = HasSizes poll lines b × (count_by is_cast b.steps ≢ length lines)
IsFaultOf poll lines b slips_by_desk (StepDiffers number) =
    HasSizes poll lines b × (count_by is_cast b.steps ≡ length lines) × DiffersFirst poll lines b.steps number
IsFaultOf poll lines b slips_by_desk (SlipDiffers desk place) =
    HasSizes poll lines b × (count_by is_cast b.steps ≡ length lines) × HasOwnReadings poll lines b.steps × SlipDiffersFirst b.steps slips_by_desk desk place
IsFaultOf poll lines b slips_by_desk (ClosedEarly number) =
    HasSizes poll lines b × (count_by is_cast b.steps ≡ length lines) × HasOwnReadings poll lines b.steps × HasSlips b.steps slips_by_desk × IsEarlyClose b.steps number

-- the call returns a fault exactly when that fault is found
abbrev pub FindsFault : {A : Type 0} → Result A AuditFault → PollContent → List (List ℕ) → BoxState → List (List Slip) → Type 0
FindsFault result poll lines b slips_by_desk = (fault : AuditFault) → (result ≡ Err fault) ↔ IsFaultOf poll lines b slips_by_desk fault
