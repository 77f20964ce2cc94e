-- Why desks stop early, and which of these stops is returned.
use Rattle.std.specs.Prelude.{◌≡◌, ℕ, Bool, ◌≤◌, ◌⊎◌, List, Option, Some, None, All, Contains, IsTrue}
use Rattle.vote_desks_box.specs.declared.EnterFault.{EnterFault}
use Rattle.vote_desks_box.specs.declared.EnterFault.TheVariants.{StampUsed}
use Rattle.vote_desks.specs.declared.worker_result.Stop.{Stop}
use Rattle.vote_desks.specs.declared.worker_result.Stop.TheVariants.{Barred, Refused}
use Rattle.vote_audit.specs.declared.fault.VoteFault.{VoteFault}
use Rattle.vote_audit.specs.declared.fault.VoteFault.TheVariants.{Memory, Gate, Enter}

-- a cast was refused only because its stamp was used
abbrev pub IsRefusedAsUsed : Option Stop → Type 0
IsRefusedAsUsed stopped = (fault : EnterFault) → stopped ≡ Some (Refused fault) → fault ≡ StampUsed

-- if the desk with this number stopped at the gate, the gate may stop it
abbrev pub IsBarredBy : (ℕ → Bool) → ℕ → Option Stop → Type 0
IsBarredBy bars desk stopped = stopped ≡ Some Barred → IsTrue (bars desk)

-- the fault for a desk's early stop
abbrev pub stop_fault : ℕ → Stop → VoteFault
stop_fault desk Barred = Gate desk
stop_fault desk (Refused fault) = Enter desk fault

-- each worker is given by its desk and by why it stopped early, if it did; this is the fault of the lowest desk that stopped early
pub record IsLeastStop (workers : List (ℕ × Option Stop)) (fault : VoteFault) : Type 0 where
  pub desk : ℕ
  pub stop : Stop
  pub stopped : Contains workers (desk, Some stop)
  pub fault_is : fault ≡ stop_fault desk stop
  pub least : (other : ℕ) (why : Stop) → Contains workers (other, Some why) → desk ≤ other

-- why the desks are not taken back: the lowest desk that stopped early has this fault; or no desk stopped early, and no memory was left
abbrev pub StopsWorkers : List (ℕ × Option Stop) → VoteFault → Type 0
StopsWorkers workers fault = IsLeastStop workers fault ⊎ (All (λ worker. worker.1 ≡ None) workers × (fault ≡ Memory))
