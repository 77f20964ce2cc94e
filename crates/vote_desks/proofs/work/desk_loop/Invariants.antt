use Rattle.std.proofs.Common.{◌≡◌, ◌-◌, length}
use Rattle.std.specs.List.{All}
use Rattle.vote_desks.specs.declared.batch.TheConstants.{BATCH}
use Rattle.vote_desks_box.specs.Slips.{stamps_of}
use Rattle.vote_desks_box.specs.Desks.{FitsBox}
use Rattle.vote_desks.specs.Work.{IsRising, left_behind, stamps_taken}
use Rattle.vote_desks.proofs.work.desk_loop.Given as goal

abbrev pub invariant-loop-stamps : goal.invariant-loop-stamps
invariant-loop-stamps g l = record {
  number : l.desk.number ≡ l.initial.desk.number;
  limit : l.desk.limit ≡ l.workplace.tray.now.size;
  its_tray : l.pass.tray ≡ l.workplace.tray.now;
  same_tray : l.pass.tray ≡ l.initial.pass.tray;
  parts : l.pass.parts ≡ l.initial.pass.parts;
  cast : stamps_of l.desk.slips ≡ stamps_taken l.pass;
  rising : IsRising l.pass;
  left : l.left ≡ left_behind l.pass;
  stamps : length l.stamps ≡ BATCH;
  readings : length l.readings ≡ BATCH;
  fit : All (FitsBox l.workplace.shared.now.opened) l.readings;
}

abbrev pub decreases-loop-stamps : goal.decreases-loop-stamps
decreases-loop-stamps g l = l.workplace.tray.now.size - l.pass.seen
