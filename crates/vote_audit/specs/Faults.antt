-- Which faults can come when.
use Rattle.std.specs.Prelude.{◌≡◌, ◌≢◌, ◌≤◌, ◌⊎◌, ℕ, Bool, List, All, IsTrue, length}
use Rattle.vote_poll.specs.PollContent.{PollContent}
use Rattle.vote_steps.specs.Boxes.{IsLegal}
use Rattle.vote_desks_box.specs.declared.Slip.{Slip}
use Rattle.vote_desks_box.specs.Desks.{SealedState}
use Rattle.vote_desks_box.specs.Slips.{Rises}
use Rattle.vote_desks_box.specs.declared.EnterFault.TheVariants.{StampUsed}
use Rattle.vote_audit.specs.declared.fault.AuditFault.TheVariants.{SizeDiffers, CountDiffers}
use Rattle.vote_audit.specs.declared.fault.VoteFault.{VoteFault}
use Rattle.vote_audit.specs.declared.fault.VoteFault.TheVariants.{Memory, Thread, Gate, Enter, Desk, Audit}
use Rattle.vote_audit.specs.Audit.{IsFaultOf}

-- a gate stops only a desk that it bars; box and desks have room for each line, so a cast can be refused only for a used stamp;
-- no desk is missing; and the box has the sizes of the poll and as many casts as lines
abbrev pub CanStopVotes : (ℕ → Bool) → VoteFault → Type 0
CanStopVotes bars Memory = Unit {0}
CanStopVotes bars Thread = Unit {0}
CanStopVotes bars (Gate desk) = IsTrue (bars desk)
CanStopVotes bars (Enter desk fault) = fault ≡ StampUsed
CanStopVotes bars (Desk fault) = ⊥
CanStopVotes bars (Audit fault) = (fault ≢ SizeDiffers) × (fault ≢ CountDiffers)

-- the faults while the desks cast: the same, without those of an audit
abbrev pub CanStopCasts : (ℕ → Bool) → VoteFault → Type 0
CanStopCasts bars (Audit fault) = ⊥
CanStopCasts bars other = CanStopVotes bars other

-- the faults after the desks have cast all lines: no memory to gather them, or an audit's fault, as above
abbrev pub CanStopAudit : VoteFault → Type 0
CanStopAudit Memory = Unit {0}
CanStopAudit Thread = ⊥
CanStopAudit (Gate desk) = ⊥
CanStopAudit (Enter desk fault) = ⊥
CanStopAudit (Desk fault) = ⊥
CanStopAudit (Audit fault) = (fault ≢ SizeDiffers) × (fault ≢ CountDiffers)

-- the fault of a gate or of a cast names one of the desks, numbered from 1; the fault of an audit may name any desk
abbrev pub IsOfDesk : ℕ → VoteFault → Type 0
IsOfDesk desks Memory = Unit {0}
IsOfDesk desks Thread = Unit {0}
IsOfDesk desks (Gate desk) = (1 ≤ desk) × (desk ≤ desks)
IsOfDesk desks (Enter desk fault) = (1 ≤ desk) × (desk ≤ desks)
IsOfDesk desks (Desk fault) = Unit {0}
IsOfDesk desks (Audit fault) = Unit {0}

-- no memory was left, or no thread
abbrev pub IsStartFault : VoteFault → Type 0
IsStartFault fault = (fault ≡ Memory) ⊎ (fault ≡ Thread)

-- the fault is an audit's, and the audit of this sealed box finds it
abbrev pub IsAuditFaultOf : PollContent → List (List ℕ) → SealedState → VoteFault → Type 0
IsAuditFaultOf poll lines s Memory = ⊥
IsAuditFaultOf poll lines s Thread = ⊥
IsAuditFaultOf poll lines s (Gate desk) = ⊥
IsAuditFaultOf poll lines s (Enter desk fault) = ⊥
IsAuditFaultOf poll lines s (Desk fault) = ⊥
IsAuditFaultOf poll lines s (Audit fault) = IsFaultOf poll lines s.ballot_box s.slips_by_desk fault

-- there is a list of slips for each of this many desks, and the stamps in each list rise
abbrev pub AreSlipsOf : ℕ → List (List Slip) → Type 0
AreSlipsOf desks slips_by_desk = (length slips_by_desk ≡ desks) × All Rises slips_by_desk

-- if the fault is an audit's, there is a legal box, with slips of this kind, in which the audit finds it
abbrev pub IsFoundIn : (List (List Slip) → Type 0) → PollContent → List (List ℕ) → VoteFault → Type 0
IsFoundIn Are poll lines (Audit fault) = (s : SealedState) × Are s.slips_by_desk × IsLegal s.ballot_box × IsFaultOf poll lines s.ballot_box s.slips_by_desk fault
IsFoundIn Are poll lines other = Unit {0}
