-- What a run is promised of the call that takes its votes, and what that call may say.
use Rattle.std.specs.Prelude.{◌≡◌, ℕ, Bool, List, All, Result, Err, IfErr, IfOk, length}
use Rattle.std.proofs.Common.{Bor}
use Rattle.vote_poll.specs.PollContent.{PollContent}
use Rattle.vote_steps.specs.Desks.{AreDesks}
use Rattle.vote_desks_box.specs.Slips.{Rises}
use Rattle.vote_audit.specs.Audit.{IsAuditedFor}
use Rattle.vote_audit.specs.Faults.{AreSlipsOf, CanStopVotes, IsFoundIn, IsOfDesk}
use Rattle.vote_audit.specs.declared.Audited.{Audited}
use Rattle.vote_audit.specs.declared.VoteFault.{VoteFault}
use Rattle.vote_poll_text.specs.Texts.{Text}

-- which results such a call may have for a poll, its lines and a number of desks, by its own contract
abbrev pub Taking : Type 1
Taking = Bor PollContent → Bor (List Text) → ℕ → Result Audited VoteFault → Type 0

-- no votes are taken
abbrev pub TakesNone : Taking
TakesNone poll lines desks taken = ⊥

-- if the votes are taken, the box is audited for the poll and its lines, with a list of slips for each desk, and the stamps in each list rise
pub record AreVotesTaken (poll : PollContent) (lines : List Text) (desks : ℕ) (taken : Result Audited VoteFault) : Type 0 where
  pub audited : IfOk taken (IsAuditedFor poll lines)
  pub slips : IfOk taken (λ audited. length audited.slips_by_desk ≡ desks)
  pub rising : IfOk taken (λ audited. All Rises audited.slips_by_desk)

-- a call that may be made at any number of desks, and promises this
pub record TakesVotes (pre : Bor PollContent → Bor (List Text) → ℕ → Type 0) (Takes : Taking) : Type 0 where
  pub callable : (poll : Bor PollContent) (lines : Bor (List Text)) (desks : ℕ) → AreDesks desks → pre poll lines desks
  pub promises : (poll : Bor PollContent) (lines : Bor (List Text)) (desks : ℕ) (taken : Result Audited VoteFault) → Takes poll lines desks taken
      → AreVotesTaken poll.now lines.now desks taken

-- the call may stop the votes by this fault
abbrev pub StopsVotes : Taking → PollContent → List Text → ℕ → VoteFault → Type 0
StopsVotes Takes poll lines desks fault =
    (lent : Bor PollContent) × (all : Bor (List Text)) × (lent.now ≡ poll) × (all.now ≡ lines) × Takes lent all desks (Err fault)

-- The clauses of `take_votes`: the votes are taken, or stopped by a fault that they can have with a gate that may stop these desks.
pub record AreTakenAtDesks (bars : ℕ → Bool) (poll : PollContent) (lines : List Text) (desks : ℕ) (taken : Result Audited VoteFault) : Type 0 where
  pub votes : AreVotesTaken poll lines desks taken
  pub fault : IfErr taken (CanStopVotes bars)
  pub found : IfErr taken (IsFoundIn (AreSlipsOf desks) poll lines)
  pub desk : IfErr taken (IsOfDesk desks)
