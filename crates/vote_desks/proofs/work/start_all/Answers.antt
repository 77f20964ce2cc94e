-- Each desk goes to one worker, with the pass at the same index, and the handles promise the desks in order.
use Rattle.std.proofs.Common.{ℕ, ◌+◌, ◌<◌, zero, suc, List, [], ◌∷◌, ◌++◌, length, get_or, ap, ◌∙◌, subst, arith}
use Rattle.std.specs.Prelude.{vec_len}
use Rattle.std.proofs.lemmas.List.{get_or-drop}
use Rattle.std.proofs.lemmas.List.FromFn.{get_or-map-range_with_len, length-map-range_with_len}
use Rattle.vote_tray.specs.Passes.{PassState, new_pass}
use Rattle.vote_desks_box.specs.Desks.{DeskState, fresh_desk}
use Rattle.vote_desks.specs.Workers.{IsWorkerAt}
use Rattle.vote_desks.proofs.work.start_all.Goals as goal

pub loop-desks-init : goal.loop-desks-init
loop-desks-init g c =
    let tray = c.args.workplace.now.tray.now in
    let none = c.new-handles.ensures.len in
    let many = ap length c.requires.passes ∙ length-map-range_with_len (new_pass tray) 0 tray.passes in
    let ok = c.args.passes.ok.0 in
    record {
      same = c.requires.same;
      len = omega arith;
      desks = λ k index any lt is. rw c.requires.desks (get_or-map-range_with_len (fresh_desk (length c.args.workplace.now.lines.now)) 1 (vec_len c.args.desks) k (index + 1) any (omega arith) (omega arith));
      passes = λ k index any lt is. rw c.requires.passes (get_or-map-range_with_len (new_pass tray) 0 tray.passes k index any (omega arith) (omega arith));
      promised = λ index any lt. absurd (omega (arith, lt, ap length c.new-handles.ensures.items));
    }

-- a fact about each element by its index, after one more element
each_push : {X : Type 0} (P : ℕ → X → Type 0) (xs : List X) (x : X) → ((k : ℕ) (d : X) → k < length xs → P k (get_or xs k d)) → P (length xs) x
    → (k : ℕ) (d : X) → k < length (xs ++ x ∷ []) → P k (get_or (xs ++ x ∷ []) k d)
each_push P [] x each here zero d lt = here
each_push P [] x each here (suc k) d lt = absurd (omega arith)
each_push P (y ∷ xs) x each here zero d lt = each 0 d (omega arith)
each_push P (y ∷ xs) x each here (suc k) d lt = each_push (λ i. P (suc i)) xs x (λ i e l. each (suc i) e (omega (arith, l))) here k d (omega arith)

pub loop-desks-preserved : goal.loop-desks-preserved
loop-desks-preserved g c =
    let tray = c.args.workplace.now.tray.now in
    let kept = c.loop-desks.invariant in
    let done = c.loop-desks.handles in
    let desk_len = c.remove-desk.ensures.len in
    let pass_len = c.remove-pass.ensures.len in
    let more = c.in_ok-push.ensures.len in
    let handle = c.in_ok-start.field-0 in
    let number = c.in_ok-start.ensures.desk ∙ ap (λ (d : DeskState). d.number) (c.remove-desk.ensures.value ∙ kept.desks 0 (vec_len done) c.remove-desk.result (omega arith) (omega arith)) in
    let pass = c.in_ok-start.ensures.pass ∙ c.remove-pass.ensures.value ∙ kept.passes 0 (vec_len done) c.remove-pass.result (omega arith) (omega arith) in
    let here : IsWorkerAt tray (vec_len done) handle.promise.number handle.promise.pass.value = (number, ap (λ (p : PassState). p.tray) pass, ap (λ (p : PassState). p.parts) pass) in
    record {
      same = omega (arith, kept.same);
      len = omega (arith, kept.len);
      desks = λ k index any lt is. ap (λ xs. get_or xs k any) c.remove-desk.ensures.items ∙ get_or-drop 1 c.loop-desks.desks.items k any ∙ kept.desks (1 + k) index any (omega arith) (omega arith);
      passes = λ k index any lt is. ap (λ xs. get_or xs k any) c.remove-pass.ensures.items ∙ get_or-drop 1 c.loop-desks.passes.items k any ∙ kept.passes (1 + k) index any (omega arith) (omega arith);
      promised = rw c.in_ok-push.ensures.items (each_push (λ i h. IsWorkerAt tray i h.promise.number h.promise.pass.value) done.items handle kept.promised
          (subst (λ i. IsWorkerAt tray i handle.promise.number handle.promise.pass.value) done.ok.0 here));
    }
