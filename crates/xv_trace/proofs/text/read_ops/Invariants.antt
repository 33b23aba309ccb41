use Rattle.std.proofs.Common.{◌≡◌, ◌+◌, ◌-◌, ◌^◌, min, length}
use Rattle.xv_trace.proofs.Texts.{IsReadTo}
use Rattle.xv_trace.proofs.text.read_ops.Given as goal

abbrev pub invariant-loop-line : goal.invariant-loop-line
invariant-loop-line l = record {
  shape : l.trace.shape ≡ l.layout;
  read : IsReadTo l.layout (min l.room (2 ^ 20)) l.first_line l.lines l.trace.ops l.rest;
  number : l.number ≡ min (l.first_line + length l.trace.ops) (2 ^ 32 - 1);
}

abbrev pub decreases-loop-line : goal.decreases-loop-line
decreases-loop-line l = length l.rest
