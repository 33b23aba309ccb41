use Rattle.std.proofs.Common.{◌≡◌, ◌+◌, ◌≤◌, length}
use Rattle.xv_wire.specs.Wire.{left_past, is_inside}
use Rattle.xv_wire.specs.Lengths.{total, AreWide}
use Rattle.xv_wire.proofs.pieces.drop_taken.Given as goal

abbrev pub invariant-loop-piece : goal.invariant-loop-piece
invariant-loop-piece l = record {
  left : left_past l.left l.lengths.items ≡ left_past l.taken l.fn.lengths.items;
  inside : is_inside l.left l.lengths.items ≡ is_inside l.taken l.fn.lengths.items;
  wide : AreWide l.lengths.items;
  there : l.left ≤ total l.lengths.items;
  fewer : total l.fn.lengths.items + l.left ≡ total l.lengths.items + l.taken;
  capacity : l.lengths.capacity ≡ l.fn.lengths.capacity;
}

abbrev pub decreases-loop-piece : goal.decreases-loop-piece
decreases-loop-piece l = length l.lengths.items
