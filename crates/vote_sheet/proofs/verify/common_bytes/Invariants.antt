use Rattle.std.proofs.Common.{◌≡◌, ◌+◌, ◌-◌, ◌≤◌, drop, length}
use Rattle.vote_sheet.specs.Verify.{common_bytes}
use Rattle.vote_sheet.proofs.verify.common_bytes.Given as goal

-- the bytes before this one agree
abbrev pub invariant-loop-count : goal.invariant-loop-count
invariant-loop-count l = record {
  agree : common_bytes l.text l.other ≡ l.count + common_bytes (drop l.count l.text) (drop l.count l.other);
  within : l.count ≤ length l.text;
}

abbrev pub decreases-loop-count : goal.decreases-loop-count
decreases-loop-count l = length l.text - l.count
