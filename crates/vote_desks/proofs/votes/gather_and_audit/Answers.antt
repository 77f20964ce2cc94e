-- The slips of the desks are as many as the casts of the sealed box, so the audit finds as many casts as lines.
use Rattle.std.proofs.Common.{◌≡◌, length, refl, sym, subst, arith}
use Rattle.std.specs.List.{All}
use Rattle.std.proofs.lemmas.Result.{IfOk-weaker, IfErr-weaker}
use Rattle.vote_desks_box.specs.Slips.{Rises}
use Rattle.vote_desks_box.specs.Desks.{AreSlipsInOrder, SealedState}
use Rattle.vote_desks.proofs.BackLemmas.{gathered_count, gathered_rise, has_sizes}
use Rattle.vote_desks.proofs.StopLemmas.{can_stop_audit, audit_of_desk, found_in}
use Rattle.vote_desks.proofs.votes.gather_and_audit.Goals as goal

pub returns-clause-desks : goal.returns-clause-desks
returns-clause-desks g c =
    IfOk-weaker c.audit_votes.result _ _ (λ audited same. subst (λ (s : SealedState). length s.slips_by_desk ≡ c.args.shared.desks) (sym same) c.in-Ok.ensures.desks) c.audit_votes.ensures.same

pub returns-clause-rising : goal.returns-clause-rising
returns-clause-rising g c =
    let rise = gathered_rise c.args.desks.items c.in-Ok.sealed.slips_by_desk c.in-Ok.ensures.slips_by_desk c.requires.rising in
    IfOk-weaker c.audit_votes.result _ _ (λ audited same. subst (λ (s : SealedState). All Rises s.slips_by_desk) (sym same) rise) c.audit_votes.ensures.same

pub returns-clause-fault : goal.returns-clause-fault
returns-clause-fault g c =
    let cast = c.requires.cast in
    let casts = c.in-Ok.ensures.casts in
    let all = gathered_count c.args.desks.items c.in-Ok.sealed.slips_by_desk c.in-Ok.ensures.slips_by_desk in
    let sizes = has_sizes c.args.poll.now c.args.lines.now c.args.shared.opened c.in-Ok.sealed.ballot_box (length c.args.lines.now) refl c.requires.opened c.in-Ok.ensures.opened in
    IfErr-weaker c.audit_votes.result _ _ (λ fault. can_stop_audit c.args.poll.now c.args.lines.now c.in-Ok.sealed fault sizes (omega arith)) c.audit_votes.ensures.fault

pub returns-clause-desk : goal.returns-clause-desk
returns-clause-desk g c =
    IfErr-weaker c.audit_votes.result _ _ (audit_of_desk c.args.shared.desks c.args.poll.now c.args.lines.now c.in-Ok.sealed) c.audit_votes.ensures.fault

pub returns-clause-found : goal.returns-clause-found
returns-clause-found g c =
    IfErr-weaker c.audit_votes.result _ _ (λ fault. found_in (AreSlipsInOrder c.args.desks) c.args.poll.now c.args.lines.now c.in-Ok.sealed fault c.in-Ok.ensures.slips_by_desk c.in-Ok.ensures.legal)
    c.audit_votes.ensures.fault
