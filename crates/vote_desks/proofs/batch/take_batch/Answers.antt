-- The places that were taken before this batch and the stamps so far are what the pass has taken. Each next place is greater than all before, so the stamps rise.
use Rattle.std.proofs.Common.{◌≡◌, ◌+◌, ◌-◌, ◌<◌, [], ◌∷◌, ◌++◌, length, take, sym, ap, ◌∙◌, subst, arith, length-set, append_assoc}
use Rattle.std.specs.List.{All}
use Rattle.std.proofs.lemmas.Grind.{get_or-set_at}
use Rattle.std.proofs.lemmas.List.{map_push, take_more_set}
use Rattle.std.proofs.lemmas.List.Elements.{All-push}
use Rattle.vote_tray.specs.Passes.{PassState, TrayId}
use Rattle.vote_desks.specs.Work.{IsRising, IsStampOf, last_stamp, stamps_taken}
use Rattle.vote_desks.proofs.BatchLemmas.{last_with, rising_with}
use Rattle.vote_desks.proofs.batch.take_batch.Goals as goal

pub loop-count-preserved : goal.loop-count-preserved
loop-count-preserved g c =
    let kept = c.loop-count.invariant in
    let before = c.loop-count.pass in
    let place = c.in-Some.place in
    let stamps = c.loop-count.stamps in
    let count = c.loop-count.count in
    let some = c.in-Some.ensures.some in
    let size : before.tray.size ≡ c.args.workplace.now.tray.now.size = ap (λ (t : TrayId). t.size) (kept.same_tray ∙ c.requires.tray) in
    let inside : count < length stamps = (let long = kept.long in let room = c.requires.room in let end = c.loop-count-test.true in let most = c.batch_length-most.ensures.range in omega arith) in
    let more = take_more_set stamps count (place + 1) inside in
    let low = some.0 in
    let high = some.1 in
    let seen = ap (λ (p : PassState). p.seen) some.2 in
    let further = kept.further in
    let rising = subst IsRising (sym some.2) (rising_with before place kept.rising low (omega arith)) in
    let last = get_or-set_at stamps count (count + 1 - 1) (place + 1) 0 (omega arith) inside in
    record {
      same_tray = c.in-Some.ensures.kept.0 ∙ kept.same_tray;
      parts = c.in-Some.ensures.kept.1 ∙ kept.parts;
      rising = rising;
      long = length-set stamps count (place + 1) ∙ kept.long;
      taken = ap stamps_taken some.2 ∙ map_push (λ p. p + 1) before.places place ∙ ap (λ xs. xs ++ (place + 1) ∷ []) kept.taken
          ∙ append_assoc (stamps_taken c.args.pass.now) (take count stamps) ((place + 1) ∷ []) ∙ ap (λ xs. stamps_taken c.args.pass.now ++ xs) (sym more);
      stamps = subst (All (IsStampOf c.args.workplace.now.tray.now.size)) (sym more) (All-push (IsStampOf c.args.workplace.now.tray.now.size) (take count stamps) (place + 1) kept.stamps (omega arith, omega arith));
      last = λ _. last ∙ sym (ap last_stamp some.2 ∙ last_with before place);
      further = omega arith;
    }
