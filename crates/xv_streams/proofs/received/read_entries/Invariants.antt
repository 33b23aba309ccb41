use Rattle.std.proofs.Common.{◌-◌, ◌≡◌, ◌≤◌, length, take, drop, map, None}
use Rattle.xv_frame.specs.Faults.{entries_fault}
use Rattle.xv_frame.specs.Reading.{front_entries}
use Rattle.xv_streams.specs.Groups.{Place}
use Rattle.xv_streams.proofs.received.read_entries.Given as goal

abbrev pub invariant-loop-i : goal.invariant-loop-i
invariant-loop-i l = record {
  few : l.i ≤ l.count;
  within : l.at ≤ length l.bytes;
  sound : entries_fault l.layout (l.count - l.i) (drop l.at l.bytes) ≡ None;
  rest : front_entries l.layout (l.count - l.i) (drop l.at l.bytes) ≡ drop l.i (front_entries l.layout l.count l.bytes);
  kept : take l.i (map (λ (p : Place). p.message) l.places) ≡ take l.i (front_entries l.layout l.count l.bytes);
  rooms : map (λ (p : Place). p.room) l.places ≡ map (λ (p : Place). p.room) l.initial.places;
}

abbrev pub decreases-loop-i : goal.decreases-loop-i
decreases-loop-i l = l.count - l.i
