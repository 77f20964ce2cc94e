use Rattle.std.proofs.Common.{◌≡◌, ◌+◌, ◌++◌, take, length}
use Rattle.vote_desks_box.specs.Slips.{stamps_of}
use Rattle.vote_desks.proofs.work.enter_envelopes.Given as goal

abbrev pub invariant-loop-place : goal.invariant-loop-place
invariant-loop-place g l = record {
  number : l.desk.number ≡ l.initial.desk.number;
  limit : l.desk.limit ≡ l.initial.desk.limit;
  cast : stamps_of l.desk.slips ≡ stamps_of l.initial.desk.slips ++ take l.place l.stamps;
  few : length l.desk.slips ≡ length l.initial.desk.slips + l.place;
}
