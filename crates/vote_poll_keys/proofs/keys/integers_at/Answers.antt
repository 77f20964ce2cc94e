use Rattle.std.proofs.Common.{sym}
use Rattle.toml.specs.Data.{as_integer}
use Rattle.toml.specs.View.{items_view, table_view}
use Rattle.vote_poll_keys.proofs.KeysLaws.{found-list, found-no_list}
use Rattle.vote_poll_keys.proofs.keys.integers_at.Goals as goal

pub returns-in-Some : goal.returns-in-Some
returns-in-Some c = rw (found-list as_integer c.args.key (table_view c.args.table.now) (items_view c.in-Some.items.now) c.in-Some.ensures) c.integers_of.ensures

pub returns-in-None : goal.returns-in-None
returns-in-None c = sym (found-no_list as_integer c.args.key (table_view c.args.table.now) c.in-None.ensures)
