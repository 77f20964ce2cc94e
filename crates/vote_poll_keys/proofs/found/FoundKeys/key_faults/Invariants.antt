use Rattle.std.proofs.Common.{◌≡◌}
use Rattle.toml.specs.View.{table_view}
use Rattle.vote_poll_keys.specs.FoundView.{found_view}
use Rattle.vote_poll_keys.proofs.KeyLaws.{of_first}
use Rattle.vote_poll_keys.proofs.found.FoundKeys.key_faults.Given as goal

abbrev pub invariant-loop-key : goal.invariant-loop-key
invariant-loop-key l = l.faults.items ≡ of_first (table_view l.table) (found_view l.self) l.key-items l.key-index
