use Rattle.std.proofs.Common.{◌≡◌, ◌≤◌, length, drop}
use Rattle.xv_frame.specs.Faults.{entries_fault}
use Rattle.xv_frame.proofs.groups.entries_fault.Given as goal

abbrev pub invariant-loop-left : goal.invariant-loop-left
invariant-loop-left l = record {
  within : l.at ≤ length l.bytes;
  ahead : entries_fault l.layout l.left (drop l.at l.bytes) ≡ entries_fault l.layout l.count l.bytes;
}

abbrev pub decreases-loop-left : goal.decreases-loop-left
decreases-loop-left l = l.left
