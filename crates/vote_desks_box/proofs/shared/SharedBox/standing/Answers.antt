use Rattle.std.proofs.Common.{◌≡◌, ◌≤◌, ◌↔◌, Err, ap, ◌∙◌, subst}
use Rattle.std.proofs.lemmas.Result.{IfOk-weaker}
use Rattle.vote_steps.specs.Boxes.{BoxState, IsLegal}
use Rattle.vote_steps.specs.History.{standing_ranks}
use Rattle.vote_desks_box.specs.Desks.{SharedState}
use Rattle.vote_desks_box.proofs.shared.SharedBox.standing.Goals as goal

pub returns-clause-stands : goal.returns-clause-stands
returns-clause-stands g c =
    let b = c.deref.result.now.ballot_box in
    let later = c.standing.ensures.opened ∙ ap (λ (s : SharedState). record s.opened { steps = b.steps }) c.self.view_is in
    IfOk-weaker c.standing.result _ _
    (λ ranks is. record {
      steps = b.steps;
      legal = subst IsLegal later c.standing.ensures.legal;
      stands = is ∙ ap (λ (now : BoxState). standing_ranks now.last_in_time b.steps c.args.voter) later;
    })
    c.standing.ensures.ok
