use Rattle.std.proofs.Common.{length, ◌≡◌, ◌↔◌, ◌-◌, Some, subst, sym, ap, ◌∙◌, IsTrue}
use Rattle.std.specs.Prelude.{slice_get, option_map}
use Rattle.std.proofs.lemmas.Option.{slice_get-map}
use Rattle.vote_poll.specs.Readings.{reading, readings}
use Rattle.vote_steps.specs.declared.Step.{Step}
use Rattle.vote_steps.specs.Recasts.{HasOwnReading}
use Rattle.vote_audit.specs.Comparing.{HasEnvelope}
use Rattle.vote_audit.proofs.auditing.has_own_reading.Goals as goal

pub returns-in-Cast : goal.returns-in-Cast
returns-in-Cast c =
    let read : slice_get (readings c.args.poll.now c.args.lines.now) (c.in-Cast.stamp - 1) ≡ Some (reading c.args.poll.now c.line.result.now) =
    slice_get-map (reading c.args.poll.now) c.args.lines.now (c.in-Cast.stamp - 1) ∙ ap (option_map (reading c.args.poll.now)) c.line.ensures in
    let same : IsTrue c.is_reading.result ↔ (c.in-Cast.reading ≡ reading c.args.poll.now c.line.result.now) =
    subst (λ r. IsTrue c.is_reading.result ↔ (r ≡ reading c.args.poll.now c.line.result.now)) c.reading.ensures c.is_reading.ensures in
    let P : Step → Type 0 = λ s. HasOwnReading (readings c.args.poll.now c.args.lines.now) s in (
      λ t. subst P (sym c.in-Cast.is) ((subst (HasEnvelope (length c.args.lines.now)) c.in-Cast.is c.requires).0, read ∙ ap Some (sym (same.0 t))),
      λ own. let mine = subst P c.in-Cast.is own in same.1 (let both : Some (reading c.args.poll.now c.line.result.now) ≡ Some c.in-Cast.reading = sym read ∙ mine.1 in cc),
    )
