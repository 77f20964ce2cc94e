use Rattle.std.proofs.Common.{◌≡◌, None, get_or, sym, ap, ◌∙◌, arith, rules}
use Rattle.std.proofs.lemmas.Int.{to_z-of_z}
use mir.Val.{SFits}
use mir.Syntax.{w64}
use Rattle.toml.specs.Data.{as_integer}
use Rattle.toml.specs.View.{view}
use Rattle.vote_poll_keys.proofs.KeysLaws.{each_of-view, all_some-more, all_some-none, all_some-whole}
use Rattle.vote_poll_keys.proofs.keys.integers_of.Goals as goal

pub returns-in_default : goal.returns-in_default
returns-in_default c =
    let none : as_integer (view (get_or c.args.items.now c.loop-item.item-index c.item-item.result)) ≡ None = ap (λ v. as_integer (view v)) (sym c.item-item.is) ∙ sym c.in_default.ensures in
    rw (each_of-view as_integer c.args.items.now, all_some-none (λ v. as_integer (view v)) c.args.items.now c.loop-item.item-index c.item-item.result c.loop-item-test.true none)

pub loop-item-preserved : goal.loop-item-preserved
loop-item-preserved c =
    let fits : SFits w64 c.in-Some.number = search rules in
    rw (c.in_ok-push.ensures.items, to_z-of_z w64 c.in-Some.number fits) (all_some-more (λ v. as_integer (view v)) c.args.items.now c.loop-item.item-index c.item-item.result c.loop-item.numbers.items c.in-Some.number
    c.loop-item-test.true c.loop-item.invariant (c.in-Some.ensures ∙ ap (λ v. as_integer (view v)) c.item-item.is))

pub returns : goal.returns
returns c = rw (each_of-view as_integer c.args.items.now, all_some-whole (λ v. as_integer (view v)) c.args.items.now c.loop-item.item-index c.loop-item.numbers.items (omega arith) c.loop-item.invariant)
