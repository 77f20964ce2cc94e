use Rattle.std.proofs.Common.{◌≡◌, ◌∙◌, IfOk, IfErr, length, ap, subst}
use Rattle.vote_desks_box.specs.Desks.{AreSlipsInOrder, SharedState}
use Rattle.vote_audit.specs.Faults.{AreSlipsOf, IsOfDesk}
use Rattle.std.proofs.lemmas.Result.{IfErr-weaker}
use Rattle.vote_desks.proofs.BackLemmas.{gathered_long, gathered_rise}
use Rattle.vote_desks.proofs.StopLemmas.{found_in_such}
use Rattle.vote_desks.proofs.votes.serve.Goals as goal

pub returns-clause-found : goal.returns-clause-found
returns-clause-found g c =
    let back = c.in_ok-back.back in
    IfErr-weaker c.gather_and_audit.result _ _
    (λ fault. found_in_such (AreSlipsInOrder back) (AreSlipsOf c.args.desks) c.args.poll.now c.args.lines.now fault
    (λ slips_by_desk are. (gathered_long back.items slips_by_desk are _ c.in_ok-back.ensures.numbers ∙ c.in-Ok.ensures.len, gathered_rise back.items slips_by_desk are c.in_ok-back.ensures.rising)))
    c.gather_and_audit.ensures.found
