use Rattle.std.proofs.Common.{◌≡◌, ◌-◌, ◌≤◌, length, replicate}
use Rattle.xv_streams.specs.Streamed.{no_message}
use Rattle.xv_streams.proofs.received.new_places.Given as goal

abbrev pub invariant-loop-alloc : goal.invariant-loop-alloc
invariant-loop-alloc l = record {
  few : length l.places.items ≤ l.count;
  all : l.places.items ≡ replicate (length l.places.items) (record { message = no_message; room = l.room });
}

abbrev pub decreases-loop-alloc : goal.decreases-loop-alloc
decreases-loop-alloc l = l.count - length l.places.items
