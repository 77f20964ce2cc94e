use Rattle.std.proofs.Common.{◌≡◌, ℕ, List, None, map, get_or, sym, ap, ◌∙◌, arith, Bor}
use Rattle.std.proofs.lemmas.List.{map-append}
use Rattle.toml.specs.Data.{as_str}
use Rattle.toml.specs.View.{view}
use Rattle.vote_poll_keys.proofs.KeysLaws.{each_of-view, all_some-more, all_some-none, all_some-whole}
use Rattle.vote_poll_keys.proofs.keys.texts_of.Goals as goal

pub returns-in_default : goal.returns-in_default
returns-in_default c =
    let none : as_str (view (get_or c.args.items.now c.loop-item.item-index c.item-item.result)) ≡ None = ap (λ v. as_str (view v)) (sym c.item-item.is) ∙ sym c.in_default.ensures in
    rw (each_of-view as_str c.args.items.now, all_some-none (λ v. as_str (view v)) c.args.items.now c.loop-item.item-index c.item-item.result c.loop-item-test.true none)

pub loop-item-preserved : goal.loop-item-preserved
loop-item-preserved c =
    rw (c.in_ok-push.ensures.items, map-append) (all_some-more (λ v. as_str (view v)) c.args.items.now c.loop-item.item-index c.item-item.result (map (λ (text : Bor (List ℕ)). text.now) c.loop-item.texts.items) c.in-Some.text.now
    c.loop-item-test.true c.loop-item.invariant (c.in-Some.ensures ∙ ap (λ v. as_str (view v)) c.item-item.is))

pub returns : goal.returns
returns c = rw (each_of-view as_str c.args.items.now, all_some-whole (λ v. as_str (view v)) c.args.items.now c.loop-item.item-index (map (λ (text : Bor (List ℕ)). text.now) c.loop-item.texts.items) (omega arith) c.loop-item.invariant)
