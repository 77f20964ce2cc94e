use Rattle.std.proofs.Common.{◌≡◌, ◌+◌, length, vec_items, vec_len}
use Rattle.std.specs.Vec.Iter.{into_iter_items}
use Rattle.vote_desks_box.proofs.Merging.{Merged}
use Rattle.vote_desks_box.proofs.sealed.meet.Given as goal

abbrev pub invariant-loop-desk : goal.invariant-loop-desk
invariant-loop-desk g l = record {
  valid_parts : l.valid.parts + length (into_iter_items l.desks) ≡ vec_len l.fn.desks;
  refused_parts : l.refused.parts + length (into_iter_items l.desks) ≡ vec_len l.fn.desks;
  merged : Merged vec_items l.fn.desks.items (into_iter_items l.desks) l.valid.amount l.refused.amount l.slips_by_desk.items;
}

abbrev pub decreases-loop-desk : goal.decreases-loop-desk
decreases-loop-desk g l = length (into_iter_items l.desks)
