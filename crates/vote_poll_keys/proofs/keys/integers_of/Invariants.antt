use Rattle.std.proofs.Common.{◌≡◌, Some, map, take}
use Rattle.toml.specs.Data.{as_integer}
use Rattle.toml.specs.View.{view}
use Rattle.vote_poll_keys.specs.Lists.{all_some}
use Rattle.vote_poll_keys.proofs.keys.integers_of.Given as goal

abbrev pub invariant-loop-item : goal.invariant-loop-item
invariant-loop-item l = all_some (map (λ v. as_integer (view v)) (take l.item-index l.items)) ≡ Some l.numbers.items
