use Rattle.std.proofs.Common.{◌+◌, ◌∷◌, ◌++◌, [], ap, sym, ◌∙◌, arith, rules}
use Rattle.std.proofs.lemmas.List.FromFn.{map-range_with_len_more}
use Rattle.vote_desks_box.specs.Desks.{DeskState, fresh_desk}
use Rattle.vote_desks_box.proofs.shared.open_each.Goals as goal

pub loop-index-preserved : goal.loop-index-preserved
loop-index-preserved g c =
    let n = c.loop-index.index in
    let kept = c.loop-index.invariant in
    let valid = c.in_ok-desk.ensures.valid_parts in
    let refused = c.in_ok-desk.ensures.refused_parts in
    let more = map-range_with_len_more (fresh_desk c.args.limit) 1 n (n + 1) (omega arith) in
    record {
      valid_left = (let left = kept.valid_left in omega arith);
      valid_none = c.in_ok-desk.ensures.valid_none;
      refused_left = (let left = kept.refused_left in omega arith);
      refused_none = c.in_ok-desk.ensures.refused_none;
      len = search rules;
      fresh = c.in_ok-push.ensures.items
          ∙ ap (λ (d : DeskState). c.loop-index.opened.items ++ d ∷ []) c.in_ok-desk.ensures.fresh
          ∙ ap (λ xs. xs ++ fresh_desk c.args.limit (n + 1) ∷ []) kept.fresh ∙ sym more;
    }

pub open_desk-requires-clause-number : goal.open_desk-requires-clause-number
open_desk-requires-clause-number g c = let few = c.requires.desks in (omega arith, omega arith)
