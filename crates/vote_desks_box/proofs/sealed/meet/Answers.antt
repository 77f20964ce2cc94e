-- The shares of all desks were merged into the first, so they add up to the books, and the books are the numbers of the box.
use Rattle.std.proofs.Common.{◌++◌, [], ◌∷◌, length, map, refl, sym, ap, ◌∙◌, vec_items, arith}
use Rattle.std.specs.Vec.Iter.{into_iter_items}
use Rattle.std.proofs.lemmas.List.{append-nil, nil_from_length}
use Rattle.vote_steps.specs.History.{valid, refused}
use Rattle.vote_desks_box.specs.Desks.{HeldState}
use Rattle.vote_desks_box.proofs.Merging.{merge_more, none_merged}
use Rattle.vote_desks_box.proofs.sealed.meet.Goals as goal

pub loop-desk-init : goal.loop-desk-init
loop-desk-init g c =
    let is = sym c.into_iter-desks.ensures.rest ∙ c.in-Some.ensures.items ∙ ap (λ d. d ∷ into_iter_items c.next.new.self) (sym c.first.view_is) in
    let its = c.first.invariant in
    let len = ap length is in
    let ok = c.args.desks.ok.0 in
    record {
      valid_parts = omega (arith, its.0);
      refused_parts = omega (arith, its.1);
      merged = merge_more {valid = 0} {refused = 0} {slips = []} c.first.inside.slips is (omega arith) (omega arith)
          (c.in_ok-push.ensures.items ∙ ap (λ xs. xs ++ c.first.inside.slips ∷ []) c.new-slips_by_desk.ensures.items) refl its.2 its.3 none_merged;
    }

pub loop-desk-preserved : goal.loop-desk-preserved
loop-desk-preserved g c =
    let kept = c.loop-desk.invariant in
    let is = c.in-Some-next.ensures.items ∙ ap (λ d. d ∷ into_iter_items c.next-in-loop-desk.new.self) (sym c.desk.view_is) in
    let its = c.desk.invariant in
    let len = ap length is in
    let valid = c.merge.ensures in
    let refused = c.merge-in-Some-next.ensures in
    record {
      valid_parts = omega (arith, kept.valid_parts, valid.parts, its.0);
      refused_parts = omega (arith, kept.refused_parts, refused.parts, its.1);
      merged = merge_more c.desk.inside.slips is valid.amount refused.amount c.in_ok-push-2.ensures.items refl its.2 its.3 kept.merged;
    }

pub returns-clause-books : goal.returns-clause-books
returns-clause-books g c =
    let kept = c.loop-desk.invariant in
    let none = nil_from_length (into_iter_items c.loop-desk.desks) (sym c.loop-desk.desks.rest.ok.0 ∙ c.in_default-next.ensures.cases.0) in
    let merged = rw none at kept.merged in
    let valid_parts = c.requires.valid in
    let refused_parts = c.requires.refused in
    let len = ap length none in
    let valid_is = c.audit.ensures.whole (omega (arith, kept.valid_parts)) ∙ c.held.invariant.1 ∙ ap (λ (h : HeldState). valid h.ballot_box.last_in_time h.ballot_box.steps) c.held.view_is in
    let refused_is = c.audit-2.ensures.whole (omega (arith, kept.refused_parts)) ∙ c.held.invariant.2 ∙ ap (λ (h : HeldState). refused h.ballot_box.last_in_time h.ballot_box.steps) c.held.view_is in
    record {
      valid_shares = omega (arith, merged.valid_shares, valid_is);
      refused_shares = omega (arith, merged.refused_shares, refused_is);
      valid_on_slips = merged.valid_on_slips ∙ valid_is;
      refused_on_slips = merged.refused_on_slips ∙ refused_is;
    }

pub returns-clause-slips_by_desk : goal.returns-clause-slips_by_desk
returns-clause-slips_by_desk g c =
    let none = nil_from_length (into_iter_items c.loop-desk.desks) (sym c.loop-desk.desks.rest.ok.0 ∙ c.in_default-next.ensures.cases.0) in
    let merged = rw none at c.loop-desk.invariant.merged in
    sym (append-nil (map vec_items c.loop-desk.slips_by_desk.items)) ∙ merged.in_order
