use Rattle.std.proofs.Common.{◌≡◌, ◌-◌, ◌≤◌, List, Some, length, sym, ap, ◌∙◌, subst, arith}
use Rattle.std.specs.Prelude.{slice_get, position}
use Rattle.std.specs.List.{count_by}
use Rattle.std.proofs.lemmas.Option.{get_or_from_slice_get, slice_get_within}
use Rattle.vote_steps.specs.declared.Step.{Step}
use Rattle.vote_steps.specs.declared.Step.TheVariants.{Close}
use Rattle.vote_steps.specs.History.{is_close}
use Rattle.vote_audit.proofs.CountLemmas.{last_close}
use Rattle.vote_audit.proofs.auditing.close_place.Goals as goal

pub returns-in-Some-Close : goal.returns-in-Some-Close
returns-in-Some-Close c =
    let steps = c.steps-steps.result.now in
    let last = length steps - 1 in
    let same = c.steps-steps.ensures.steps in
    let here : slice_get steps last ≡ Some Close = sym c.in-Some-Close.ensures.value ∙ ap Some c.in-Some-Close.field-0-is in
    let inside = slice_get_within steps last Close here in
    let once = subst (λ (xs : List Step). count_by is_close xs ≤ 1) (sym same) (c.closes_once.ensures c.args.ballot_box.now c.steps-steps.ensures.legal) in
    sym (ap (position is_close) (sym same) ∙ last_close steps last (omega arith) (get_or_from_slice_get steps last Close Close here) once)
