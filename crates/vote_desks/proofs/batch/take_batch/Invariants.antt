use Rattle.std.proofs.Common.{◌≡◌, ◌+◌, ◌-◌, ◌<◌, ◌≤◌, ◌++◌, take, length}
use Rattle.std.specs.Prelude.{slice_index}
use Rattle.std.specs.List.{All}
use Rattle.vote_desks.specs.Work.{IsRising, IsStampOf, last_stamp, stamps_taken}
use Rattle.vote_desks.proofs.batch.take_batch.Given as goal

abbrev pub invariant-loop-count : goal.invariant-loop-count
invariant-loop-count g l = record {
  same_tray : l.pass.tray ≡ l.initial.pass.tray;
  parts : l.pass.parts ≡ l.initial.pass.parts;
  rising : IsRising l.pass;
  long : length l.stamps ≡ length l.initial.stamps;
  taken : stamps_taken l.pass ≡ stamps_taken l.initial.pass ++ take l.count l.stamps;
  stamps : All (IsStampOf l.workplace.tray.now.size) (take l.count l.stamps);
  last : 0 < l.count → slice_index l.stamps (l.count - 1) ≡ last_stamp l.pass;
  further : l.initial.pass.seen + l.count ≤ l.pass.seen;
}
