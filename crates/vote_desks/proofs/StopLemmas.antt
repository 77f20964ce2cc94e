-- The lowest desk that stopped early, and what an audit may find.
use Rattle.std.proofs.Common.{◌≡◌, ℕ, Bool, IsTrue, ◌+◌, ◌<◌, ◌≤◌, List, Option, Some, None, length, get_or, map, refl, sym, ap, ◌∙◌, ⊎_elim, arith}
use Rattle.std.specs.List.{count_by}
use Rattle.std.proofs.lemmas.Bool.{cases_lt}
use Rattle.std.proofs.lemmas.List.{get_or-map, length-map}
use Rattle.vote_poll.specs.PollContent.{PollContent}
use Rattle.vote_steps.specs.History.{is_cast}
use Rattle.vote_steps.specs.Boxes.{IsLegal}
use Rattle.vote_steps.specs.HeldLines.{HasSizes}
use Rattle.vote_desks_box.specs.declared.Slip.{Slip}
use Rattle.vote_desks_box.specs.Desks.{SealedState}
use Rattle.vote_audit.specs.declared.fault.AuditFault.TheVariants.{SizeDiffers, CountDiffers, StepDiffers, SlipDiffers, ClosedEarly}
use Rattle.vote_audit.specs.declared.fault.VoteFault.{VoteFault}
use Rattle.vote_audit.specs.declared.fault.VoteFault.TheVariants.{Memory, Thread, Gate, Enter, Desk, Audit}
use Rattle.vote_desks.specs.declared.worker_result.Stop.{Stop}
use Rattle.vote_desks.specs.declared.worker_result.Stop.TheVariants.{Barred, Refused}
use Rattle.vote_desks_box.specs.declared.EnterFault.{EnterFault}
use Rattle.vote_desks_box.specs.declared.EnterFault.TheVariants.{StampUsed}
use Rattle.vote_audit.specs.Faults.{CanStopAudit, CanStopCasts, CanStopVotes, IsOfDesk, IsAuditFaultOf, IsFoundIn}
use Rattle.vote_desks.specs.Stops.{IsBarredBy, stop_fault, IsLeastStop}

-- the desks are numbered in order, and the desk at this index is the first that stopped early
pub least_stop : {W : Type 0} (desk : W → ℕ) (stopped : W → Option Stop) (all : List W) (k : ℕ) (w : W) (stop : Stop) (fault : VoteFault)
    → ((i : ℕ) (d : W) → i < length all → desk (get_or all i d) ≡ i + 1) → k < length all → w ≡ get_or all k w → stopped w ≡ Some stop → fault ≡ stop_fault (desk w) stop
    → ((j : ℕ) (e : W) → j < k → stopped (get_or all j e) ≡ None)
    → IsLeastStop (map {B = ℕ × Option Stop} (λ v. (desk v, stopped v)) all) fault
least_stop {W} desk stopped all k w stop fault numbers inside here stops is before =
    let pair : W → ℕ × Option Stop = λ v. (desk v, stopped v) in
    let len = length-map all pair in
    record {
      desk = desk w;
      stop = stop;
      stopped = (k, omega arith, get_or-map pair all k w (desk w, Some stop) inside ∙ ap pair (sym here) ∙ ap (λ s. let p : ℕ × Option Stop = (desk w, s) in p) stops);
      fault_is = is;
      least = λ other why there.
          let i = there.0 in
          let within : i < length all = let lt = there.1 in omega arith in
          let at : pair (get_or all i w) ≡ (other, Some why) = sym (get_or-map pair all i w (other, Some why) within) ∙ there.2 in
          let mine = numbers k w inside in
          let its = numbers i w within in
          let same = ap desk here in
          let number = ap (λ p. p.0) at in
          ⊎_elim
          (λ (lt : i < k). absurd (let none : Some why ≡ None = sym (ap (λ p. p.1) at) ∙ before i w lt in cc))
          (λ (le : k ≤ i). omega arith)
          (cases_lt i k);
    }

-- an audit finds neither SizeDiffers nor CountDiffers in a box with the sizes of the poll and a cast for each line
pub can_stop_audit : (poll : PollContent) (lines : List (List ℕ)) (s : SealedState) (fault : VoteFault)
    → HasSizes poll lines s.ballot_box → count_by is_cast s.ballot_box.steps ≡ length lines → IsAuditFaultOf poll lines s fault → CanStopAudit fault
can_stop_audit poll lines s Memory sizes casts found = tt
can_stop_audit poll lines s Thread sizes casts found = absurd found
can_stop_audit poll lines s (Gate desk) sizes casts found = absurd found
can_stop_audit poll lines s (Enter desk fault) sizes casts found = absurd found
can_stop_audit poll lines s (Desk fault) sizes casts found = found
can_stop_audit poll lines s (Audit SizeDiffers) sizes casts found = absurd (found sizes)
can_stop_audit poll lines s (Audit CountDiffers) sizes casts found = absurd (found.1 casts)
can_stop_audit poll lines s (Audit (StepDiffers number)) sizes casts found = (λ e. cc, λ e. cc)
can_stop_audit poll lines s (Audit (SlipDiffers desk place)) sizes casts found = (λ e. cc, λ e. cc)
can_stop_audit poll lines s (Audit (ClosedEarly number)) sizes casts found = (λ e. cc, λ e. cc)

-- the fault of an audit may name any desk
pub audit_of_desk : (desks : ℕ) (poll : PollContent) (lines : List (List ℕ)) (s : SealedState) (fault : VoteFault)
    → IsAuditFaultOf poll lines s fault → IsOfDesk desks fault
audit_of_desk desks poll lines s Memory found = tt
audit_of_desk desks poll lines s Thread found = tt
audit_of_desk desks poll lines s (Gate desk) found = absurd found
audit_of_desk desks poll lines s (Enter desk fault) found = absurd found
audit_of_desk desks poll lines s (Desk fault) found = tt
audit_of_desk desks poll lines s (Audit fault) found = tt

-- IsFoundIn holds for a fault that an audit finds in a legal box
pub found_in : (Are : List (List Slip) → Type 0) (poll : PollContent) (lines : List (List ℕ)) (s : SealedState) (fault : VoteFault)
    → Are s.slips_by_desk → IsLegal s.ballot_box → IsAuditFaultOf poll lines s fault → IsFoundIn Are poll lines fault
found_in Are poll lines s Memory are legal found = tt
found_in Are poll lines s Thread are legal found = tt
found_in Are poll lines s (Gate desk) are legal found = tt
found_in Are poll lines s (Enter desk fault) are legal found = tt
found_in Are poll lines s (Desk fault) are legal found = tt
found_in Are poll lines s (Audit fault) are legal found = (s, are, legal, found)

pub found_in_such : (Are Such : List (List Slip) → Type 0) (poll : PollContent) (lines : List (List ℕ)) (fault : VoteFault)
    → ((slips_by_desk : List (List Slip)) → Are slips_by_desk → Such slips_by_desk) → IsFoundIn Are poll lines fault → IsFoundIn Such poll lines fault
found_in_such Are Such poll lines Memory weaker found = tt
found_in_such Are Such poll lines Thread weaker found = tt
found_in_such Are Such poll lines (Gate desk) weaker found = tt
found_in_such Are Such poll lines (Enter desk fault) weaker found = tt
found_in_such Are Such poll lines (Desk fault) weaker found = tt
found_in_such Are Such poll lines (Audit fault) weaker found = (found.0, weaker found.0.slips_by_desk found.1, found.2, found.3)
