-- The audit compares the parts of the sealed box, and these are the box: its own ballot box and its slips.
use Rattle.std.proofs.Common.{◌≡◌, ◌↔◌, Bool, true, false, List, Result, Ok, Err, map, ap, ◌∙◌, subst, vec_items}
use Rattle.vote_steps.specs.Boxes.{BoxState}
use Rattle.vote_desks_box.specs.declared.Slip.{Slip}
use Rattle.vote_desks_box.specs.Desks.{SealedState}
use Rattle.vote_audit.specs.declared.fault.AuditFault.{AuditFault}
use Rattle.vote_audit.specs.Audit.{IsAudited, IsFaultOf}
use Rattle.vote_audit.proofs.AuditLemmas.{ok_moved, err_moved}
use Rattle.vote_audit.proofs.auditing.audit.Goals as goal

abbrev state : BoxState → List (List Slip) → SealedState
state b slips_by_desk = record { ballot_box = b; slips_by_desk = slips_by_desk }

same : (s : SealedState) (b : BoxState) (slips_by_desk : List (List Slip)) → b ≡ s.ballot_box → slips_by_desk ≡ s.slips_by_desk → state b slips_by_desk ≡ s
same s b slips_by_desk its_box its_slips = ap (λ x. state x slips_by_desk) its_box ∙ ap (state s.ballot_box) its_slips

pub returns-in-Err-clause-ok : goal.returns-in-Err-clause-ok
returns-in-Err-clause-ok g c =
    let slips_by_desk = map vec_items c.slips_by_desk.result.now in
    let is = same c.args.sealed c.ballot_box.result.now slips_by_desk c.ballot_box.ensures.box_is c.slips_by_desk.ensures.slips_by_desk in
    let P : SealedState → Type 0 = λ s. ◌≡◌ {A = Bool} false true ↔ IsAudited c.args.poll.now c.args.lines.now s.ballot_box s.slips_by_desk in
    subst P is c.in-Err.ensures.ok

pub returns-in-Ok-clause-fault : goal.returns-in-Ok-clause-fault
returns-in-Ok-clause-fault g c = λ fault.
    let slips_by_desk = map vec_items c.slips_by_desk.result.now in
    let is = same c.args.sealed c.ballot_box.result.now slips_by_desk c.ballot_box.ensures.box_is c.slips_by_desk.ensures.slips_by_desk in
    let P : SealedState → AuditFault → Type 0 = λ s f. IsFaultOf c.args.poll.now c.args.lines.now s.ballot_box s.slips_by_desk f in
    let Q : SealedState → Type 0 = λ s. (◌≡◌ {A = Result SealedState AuditFault} (Ok c.args.sealed) (Err fault)) ↔ P s fault in
    subst Q is (ok_moved (P (state c.ballot_box.result.now slips_by_desk)) c.in-Ok.field-0 c.args.sealed c.in-Ok.ensures.fault fault)

pub returns-in-Err-clause-fault : goal.returns-in-Err-clause-fault
returns-in-Err-clause-fault g c = λ fault.
    let slips_by_desk = map vec_items c.slips_by_desk.result.now in
    let is = same c.args.sealed c.ballot_box.result.now slips_by_desk c.ballot_box.ensures.box_is c.slips_by_desk.ensures.slips_by_desk in
    let P : SealedState → AuditFault → Type 0 = λ s f. IsFaultOf c.args.poll.now c.args.lines.now s.ballot_box s.slips_by_desk f in
    let Q : SealedState → Type 0 = λ s. (◌≡◌ {A = Result SealedState AuditFault} (Err c.in-Err.fault) (Err fault)) ↔ P s fault in
    subst Q is (err_moved (P (state c.ballot_box.result.now slips_by_desk)) c.in-Err.fault c.in-Err.ensures.fault fault)
