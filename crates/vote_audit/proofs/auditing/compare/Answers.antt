-- At each return all earlier tests passed: the result is the first fault, or no fault was found and the box is audited.
use Rattle.std.proofs.Common.{◌≡◌, ◌+◌, List, [], ◌∷◌, ◌++◌, Ok, Err, length, map, vec_items, sym, ap, ◌∙◌, subst, arith}
use Rattle.std.specs.List.{All}
use Rattle.vote_audit.specs.declared.fault.AuditFault.TheVariants.{CountDiffers, StepDiffers, SlipDiffers, ClosedEarly}
use Rattle.vote_steps.specs.declared.Step.{Step}
use Rattle.vote_steps.specs.declared.Step.TheVariants.{Close}
use Rattle.vote_steps.specs.History.{before_close}
use Rattle.vote_steps.specs.HeldLines.{HoldsLines}
use Rattle.vote_audit.specs.Audit.{HasOwnReadings, DiffersFirst, SlipDiffersFirst, HasSlips, IsAudited}
use Rattle.vote_audit.specs.Comparing.{HasDesk, HasEnvelope}
use Rattle.vote_steps.proofs.HistoryLemmas.{casts_before}
use Rattle.vote_audit.proofs.AuditLemmas.{legal_desks, legal_envelopes, Found, ok_exact, fault_exact, close_found, closed_last_at, early_at}
use Rattle.vote_audit.proofs.auditing.compare.Goals as goal

pub first_other_reading_by-requires-after_bounds : goal.first_other_reading_by-requires-after_bounds
first_other_reading_by-requires-after_bounds g c =
    let sizes = c.has_sizes.ensures.0 c.if-not-has_sizes.false in
    let all : All (HasEnvelope (length c.args.lines.now)) c.steps-steps.result.now = subst (λ n. All (HasEnvelope n) c.steps-steps.result.now) sizes.2
    (subst (λ (xs : List Step). All (HasEnvelope c.args.ballot_box.now.limit) xs) (sym c.steps-steps.ensures.steps) (legal_envelopes c.args.ballot_box.now c.steps-steps.ensures.legal)) in
    λ _ _. all

pub first_other_slip-requires-clause-desks : goal.first_other_slip-requires-clause-desks
first_other_slip-requires-clause-desks g c =
    subst (λ (xs : List Step). All HasDesk xs) (sym c.steps-steps.ensures.steps) (legal_desks c.args.ballot_box.now c.steps-steps.ensures.legal)

pub returns-then-count_casts-len-clause-ok : goal.returns-then-count_casts-len-clause-ok
returns-then-count_casts-len-clause-ok g c =
    let poll = c.args.poll.now in
    let lines = c.args.lines.now in
    let b = c.args.ballot_box.now in
    let slips_by_desk = map vec_items c.args.slips_by_desk.now in
    let sizes = c.has_sizes.ensures.0 c.if-not-has_sizes.false in
    let found : Found poll lines b slips_by_desk (Err CountDiffers) = (sizes, λ same. c.if-count_casts-len.true (c.count_casts.ensures ∙ same ∙ sym c.len.ensures.number)) in
    ok_exact poll lines b slips_by_desk (Err CountDiffers) found

pub returns-in-Some : goal.returns-in-Some
returns-in-Some g c =
    let poll = c.args.poll.now in
    let lines = c.args.lines.now in
    let b = c.args.ballot_box.now in
    let slips_by_desk = map vec_items c.args.slips_by_desk.now in
    let here = c.steps-steps.ensures.steps in
    let sizes = c.has_sizes.ensures.0 c.if-not-has_sizes.false in
    let casts = sym c.count_casts.ensures ∙ c.if-count_casts-len.false ∙ c.len.ensures.number in
    let found : Found poll lines b slips_by_desk (Err (StepDiffers c.in-Some.number)) = (sizes, casts, subst (λ (xs : List Step). DiffersFirst poll lines xs c.in-Some.number) here c.in-Some.ensures) in
    record { ok = ok_exact poll lines b slips_by_desk (Err (StepDiffers c.in-Some.number)) found; fault = fault_exact poll lines b slips_by_desk (Err (StepDiffers c.in-Some.number)) found }

pub returns-in-Some-first_other_slip : goal.returns-in-Some-first_other_slip
returns-in-Some-first_other_slip g c =
    let poll = c.args.poll.now in
    let lines = c.args.lines.now in
    let b = c.args.ballot_box.now in
    let slips_by_desk = map vec_items c.args.slips_by_desk.now in
    let here = c.steps-steps.ensures.steps in
    let sizes = c.has_sizes.ensures.0 c.if-not-has_sizes.false in
    let casts = sym c.count_casts.ensures ∙ c.if-count_casts-len.false ∙ c.len.ensures.number in
    let readings = subst (λ (xs : List Step). HasOwnReadings poll lines xs) here c.in_default.ensures in
    let found : Found poll lines b slips_by_desk (Err (SlipDiffers c.in-Some-first_other_slip.desk c.in-Some-first_other_slip.place)) = (sizes, casts, readings, subst (λ (xs : List Step). SlipDiffersFirst xs slips_by_desk c.in-Some-first_other_slip.desk c.in-Some-first_other_slip.place) here c.in-Some-first_other_slip.ensures) in
    record { ok = ok_exact poll lines b slips_by_desk (Err (SlipDiffers c.in-Some-first_other_slip.desk c.in-Some-first_other_slip.place)) found; fault = fault_exact poll lines b slips_by_desk (Err (SlipDiffers c.in-Some-first_other_slip.desk c.in-Some-first_other_slip.place)) found }

pub returns-in-Some-close_place : goal.returns-in-Some-close_place
returns-in-Some-close_place g c =
    let poll = c.args.poll.now in
    let lines = c.args.lines.now in
    let b = c.args.ballot_box.now in
    let slips_by_desk = map vec_items c.args.slips_by_desk.now in
    let here = c.steps-steps.ensures.steps in
    let sizes = c.has_sizes.ensures.0 c.if-not-has_sizes.false in
    let casts = sym c.count_casts.ensures ∙ c.if-count_casts-len.false ∙ c.len.ensures.number in
    let readings = subst (λ (xs : List Step). HasOwnReadings poll lines xs) here c.in_default.ensures in
    let slips = subst (λ (xs : List Step). HasSlips xs slips_by_desk) here c.in_default-first_other_slip.ensures in
    let at = sym c.in-Some-close_place.ensures in
    let early = early_at b.steps c.in-Some-close_place.place at (let long = ap length here in omega (arith, long, c.if-place-steps.true)) in
    let found : Found poll lines b slips_by_desk (Err (ClosedEarly (c.in-Some-close_place.place + 1))) = (sizes, casts, readings, slips, early) in
    record { ok = ok_exact poll lines b slips_by_desk (Err (ClosedEarly (c.in-Some-close_place.place + 1))) found; fault = fault_exact poll lines b slips_by_desk (Err (ClosedEarly (c.in-Some-close_place.place + 1))) found }

pub returns-in_default-close_place : goal.returns-in_default-close_place
returns-in_default-close_place g c =
    let poll = c.args.poll.now in
    let lines = c.args.lines.now in
    let b = c.args.ballot_box.now in
    let slips_by_desk = map vec_items c.args.slips_by_desk.now in
    let here = c.steps-steps.ensures.steps in
    let sizes = c.has_sizes.ensures.0 c.if-not-has_sizes.false in
    let casts = sym c.count_casts.ensures ∙ c.if-count_casts-len.false ∙ c.len.ensures.number in
    let readings = subst (λ (xs : List Step). HasOwnReadings poll lines xs) here c.in_default.ensures in
    let slips = subst (λ (xs : List Step). HasSlips xs slips_by_desk) here c.in_default-first_other_slip.ensures in
    let at = sym c.in-Some-close_place.ensures in
    let long = ap length here in
    let last = closed_last_at b.steps c.in-Some-close_place.place c.requires.closed at (omega (arith, long, c.if-place-steps.false)) in
    let found : Found poll lines b slips_by_desk (Ok tt) = (let held : HoldsLines poll lines b = record { sizes = sizes; casts = sym (casts_before b.steps last) ∙ casts; legal = c.steps-steps.ensures.legal; closed_last = last; own_readings = readings } in let a : IsAudited poll lines b slips_by_desk = record { holds = held; slips_are = slips } in a) in
    record { ok = ok_exact poll lines b slips_by_desk (Ok tt) found; fault = fault_exact poll lines b slips_by_desk (Ok tt) found }

pub returns-in_default-close_place-2 : goal.returns-in_default-close_place-2
returns-in_default-close_place-2 g c =
    let poll = c.args.poll.now in
    let lines = c.args.lines.now in
    let b = c.args.ballot_box.now in
    let slips_by_desk = map vec_items c.args.slips_by_desk.now in
    let here = c.steps-steps.ensures.steps in
    let sizes = c.has_sizes.ensures.0 c.if-not-has_sizes.false in
    let casts = sym c.count_casts.ensures ∙ c.if-count_casts-len.false ∙ c.len.ensures.number in
    let readings = subst (λ (xs : List Step). HasOwnReadings poll lines xs) here c.in_default.ensures in
    let slips = subst (λ (xs : List Step). HasSlips xs slips_by_desk) here c.in_default-first_other_slip.ensures in
    let at = sym c.in_default-close_place.ensures in
    let last : b.steps ≡ before_close b.steps ++ Close ∷ [] = absurd (close_found b.steps at c.requires.closed) in
    let found : Found poll lines b slips_by_desk (Ok tt) = (let held : HoldsLines poll lines b = record { sizes = sizes; casts = sym (casts_before b.steps last) ∙ casts; legal = c.steps-steps.ensures.legal; closed_last = last; own_readings = readings } in let a : IsAudited poll lines b slips_by_desk = record { holds = held; slips_are = slips } in a) in
    record { ok = ok_exact poll lines b slips_by_desk (Ok tt) found; fault = fault_exact poll lines b slips_by_desk (Ok tt) found }
