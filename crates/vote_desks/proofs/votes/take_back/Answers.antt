-- If no worker stopped early, each has cast all that its pass took.
use Rattle.std.proofs.Common.{◌≡◌, ℕ, Option, None, length, map, refl, sym, ap, ◌∙◌, subst, inr}
use Rattle.std.specs.List.{All}
use Rattle.std.proofs.lemmas.List.Elements.{All-map}
use Rattle.std.proofs.lemmas.Result.{IfErr-weaker}
use Rattle.vote_desks.specs.declared.worker_result.Stop.{Stop}
use Rattle.vote_audit.specs.Faults.{IsOfDesk}
use Rattle.vote_desks.proofs.votes.take_back.Goals as goal

pub returns-clause-stops : goal.returns-clause-stops
returns-clause-stops g c =
    let none = rw c.deref.ensures.value at (c.in_default.ensures.none refl) in
    let workers = map {B = ℕ × Option Stop} (λ w. (w.desk.number, w.stopped)) c.args.all.items in
    let still : All (λ worker. worker.1 ≡ None) workers = All-map (λ (worker : ℕ × Option Stop). worker.1 ≡ None) (λ w. (w.desk.number, w.stopped)) c.args.all.items none in
    IfErr-weaker c.hand_in.result _ _ (λ fault is. inr (still, is)) c.hand_in.ensures.err
