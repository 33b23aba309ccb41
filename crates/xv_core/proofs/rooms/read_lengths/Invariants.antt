use Rattle.std.proofs.Common.{◌≡◌, ◌≤◌, ◌*◌, ◌^◌, take, sum_by}
use Rattle.xv_core.proofs.Totals.SumsOf.{reads_of}
use Rattle.xv_core.proofs.rooms.read_lengths.Given as goal

abbrev pub invariant-loop-trace : goal.invariant-loop-trace
invariant-loop-trace l = record {
  so_far : l.total ≡ sum_by reads_of (take l.trace-index l.trace-items);
  few : l.total ≤ l.trace-index * 2 ^ 52;
}
