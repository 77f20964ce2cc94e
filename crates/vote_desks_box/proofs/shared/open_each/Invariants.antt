use Rattle.std.proofs.Common.{◌≡◌, ◌+◌, map, vec_len}
use Rattle.std.specs.List.{range_with_len}
use Rattle.vote_desks_box.specs.Desks.{fresh_desk}
use Rattle.vote_desks_box.proofs.shared.open_each.Given as goal

abbrev pub invariant-loop-index : goal.invariant-loop-index
invariant-loop-index g l = record {
  valid_left : l.valid_rest.parts + l.index ≡ l.desks;
  valid_none : l.valid_rest.amount ≡ 0;
  refused_left : l.refused_rest.parts + l.index ≡ l.desks;
  refused_none : l.refused_rest.amount ≡ 0;
  len : vec_len l.opened ≡ l.index;
  fresh : l.opened.items ≡ map (fresh_desk l.limit) (range_with_len 1 l.index);
}
