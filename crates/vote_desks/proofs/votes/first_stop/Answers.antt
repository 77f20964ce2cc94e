use Rattle.std.proofs.Common.{Some, length, ap, ◌∙◌, subst, sym, arith}
use Rattle.vote_audit.specs.Faults.{CanStopCasts, IsOfDesk}
use Rattle.vote_desks.specs.Stops.{IsBarredBy, stop_fault}
use Rattle.vote_desks.proofs.StopLemmas.{least_stop}
use Rattle.vote_desks.proofs.votes.first_stop.Goals as goal

pub returns-in-Some-clause-some : goal.returns-in-Some-clause-some
returns-in-Some-clause-some g c =
    least_stop (λ w. w.desk.number) (λ w. w.stopped) c.args.all.now c.loop-worked.worked-index c.worked-item.result c.in-Some.stop c.stop_fault.result
    c.requires.numbers (omega arith) c.worked-item.is c.in-Some.is (c.stop_fault.ensures ∙ ap (λ d. stop_fault d c.in-Some.stop) c.number.ensures) c.loop-worked.invariant
