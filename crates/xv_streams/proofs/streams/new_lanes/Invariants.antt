use Rattle.std.proofs.Common.{◌≡◌, ◌-◌, ◌≤◌, [], length, replicate}
use Rattle.xv_streams.proofs.streams.new_lanes.Given as goal

abbrev pub invariant-loop-alloc : goal.invariant-loop-alloc
invariant-loop-alloc l = record {
  few : length l.lanes.items ≤ l.count;
  all : l.lanes.items ≡ replicate (length l.lanes.items) (record { bytes = []; room = l.room; waiting = 0 });
}

abbrev pub decreases-loop-alloc : goal.decreases-loop-alloc
decreases-loop-alloc l = l.count - length l.lanes.items
