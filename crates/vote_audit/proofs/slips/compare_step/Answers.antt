use Rattle.std.proofs.Common.{◌∷◌, ◌++◌, ◌-◌, [], map, vec_items, set, subst, sym, ap, arith}
use Rattle.vote_steps.specs.declared.Step.{Step}
use Rattle.vote_audit.specs.Comparing.{AgreeWith, HasDesk, compared_at}
use Rattle.vote_audit.proofs.SlipLemmas.{close_compared, cast_compared}
use Rattle.vote_audit.proofs.slips.compare_step.Goals as goal

pub returns-in_default : goal.returns-in_default
returns-in_default c = λ before is h.
    let slips_by_desk = map vec_items c.args.slips_by_desk.now in
    subst (λ (s : Step). AgreeWith slips_by_desk (before ++ s ∷ []) c.args.compared.now) (sym c.in_default.is) (close_compared slips_by_desk before c.args.compared.now h)

pub returns : goal.returns
returns c = λ before is h.
    let slips_by_desk = map vec_items c.args.slips_by_desk.now in
    let here = c.from-index.ensures in
    let index = c.from-index.result - 1 in
    let desk = subst HasDesk c.in-Cast.is c.requires.desk in
    subst (λ (s : Step). AgreeWith slips_by_desk (before ++ s ∷ []) (set c.args.compared.now index c.with.result)) (sym c.in-Cast.is)
    (cast_compared slips_by_desk before c.args.compared.now c.slips_at.result.now (compared_at c.args.compared.now c.from-index.result) c.with.result index c.in-Cast.desk c.in-Cast.stamp c.args.number c.in-Cast.reading c.in-Cast.reply
    desk.0 (let low = desk.1 in let all = c.requires.all in omega arith) is c.slips_at.ensures (ap (compared_at c.args.compared.now) here) (ap (λ d. d - 1) here) c.with.ensures h)
