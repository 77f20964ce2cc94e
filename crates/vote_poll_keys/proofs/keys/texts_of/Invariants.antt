use Rattle.std.proofs.Common.{◌≡◌, ℕ, List, Some, map, take, Bor}
use Rattle.toml.specs.Data.{as_str}
use Rattle.toml.specs.View.{view}
use Rattle.vote_poll_keys.specs.Lists.{all_some}
use Rattle.vote_poll_keys.proofs.keys.texts_of.Given as goal

abbrev pub invariant-loop-item : goal.invariant-loop-item
invariant-loop-item l = all_some (map (λ v. as_str (view v)) (take l.item-index l.items)) ≡ Some (map (λ (text : Bor (List ℕ)). text.now) l.texts.items)
