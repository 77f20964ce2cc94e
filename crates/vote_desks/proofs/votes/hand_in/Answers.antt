-- The desks come back in the order of their passes, so each pass can be joined to those before it.
use Rattle.std.proofs.Common.{◌≡◌, suc, length, get_or, ◌∷◌, [], ◌++◌, sym, ap, ◌∙◌, subst, vec_len, arith}
use Rattle.std.specs.Vec.Iter.{into_iter_items}
use Rattle.vote_desks.specs.Back.{AreHandedIn}
use Rattle.vote_desks.specs.Workers.{IsWorkerAt}
use Rattle.vote_desks.proofs.BackLemmas.{handed_one, handed_more}
use Rattle.vote_desks.proofs.votes.hand_in.Goals as goal

pub loop-desk-preserved : goal.loop-desk-preserved
loop-desk-preserved g c =
    let kept = c.loop-desk.invariant in
    let before = c.loop-desk.desks in
    let worked = c.in-Some-next.field-0 in
    let is = c.in-Some-next.ensures.items in
    let shorter = ap length is in
    let len = c.in_ok-push-2.ensures.len in
    let back = rw is at kept.back in
    let done = rw is at kept.done in
    let handed = handed_more c.args.tray.now (vec_len before) before.items c.loop-desk.joined c.join-joined.result worked.desk worked.pass kept.so_far
    (back 0 (vec_len before) worked (omega arith) (omega arith)) (worked.emptied (done 0 worked (omega arith))) c.join-joined.ensures.joined in
    record {
      few = omega (arith, kept.few);
      back = λ k index any lt at. back (suc k) index any (omega arith) (omega arith);
      done = λ k any lt. done (suc k) any (omega arith);
      so_far = rw (len, c.in_ok-push-2.ensures.items) handed;
    }

pub loop-desk-init : goal.loop-desk-init
loop-desk-init g c =
    let tray = c.args.tray.now in
    let others = into_iter_items c.next.new.self in
    let worked = c.in-Some.field-0 in
    let is : c.args.all.items ≡ worked ∷ others = sym c.into_iter-all.ensures.rest ∙ c.in-Some.ensures.items in
    let shorter = ap length is in
    let ok = c.args.all.ok.0 in
    let passes = c.requires.all.1 in
    let len : vec_len c.push.new.self ≡ 1 = omega (arith, c.in_ok-push.ensures.len, c.new-desks.ensures.len) in
    let back = rw is at c.requires.back in
    let done = rw is at c.requires.done in
    let one = handed_one tray c.push.new.self.items worked.desk worked.pass (c.in_ok-push.ensures.items ∙ ap (λ ds. ds ++ worked.desk ∷ []) c.new-desks.ensures.items)
    (back 0 worked (omega arith)) (worked.emptied (done 0 worked (omega arith))) in
    record {
      few = omega arith;
      back = λ k index any lt at. subst (λ i. IsWorkerAt tray i (get_or others k any).desk.number (get_or others k any).pass) (let same : suc k ≡ index = omega arith in same) (back (suc k) any (omega arith));
      done = λ k any lt. done (suc k) any (omega arith);
      so_far = rw len (subst (λ pass. AreHandedIn tray 1 c.push.new.self.items pass) (sym c.pass.view_is) one);
    }

pub join-joined-requires : goal.join-joined-requires
join-joined-requires g c =
    let kept = c.loop-desk.invariant in
    let is = c.in-Some-next.ensures.items in
    let back = rw is at kept.back in
    (kept.so_far.its_tray, (back 0 (vec_len c.loop-desk.desks) c.in-Some-next.field-0 (omega (arith, ap length is)) (omega arith)).1)
