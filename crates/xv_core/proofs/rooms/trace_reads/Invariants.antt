use Rattle.std.proofs.Common.{◌≡◌, ◌≤◌, ◌*◌, ◌^◌, take, sum_by}
use Rattle.xv_trace.specs.Operations.{all_unit_operations}
use Rattle.xv_core.specs.Reads.{read_length}
use Rattle.xv_core.proofs.rooms.trace_reads.Given as goal

abbrev pub invariant-loop-k : goal.invariant-loop-k
invariant-loop-k l = record {
  so_far : l.total ≡ sum_by read_length (take l.k (all_unit_operations l.trace.shape l.trace.ops));
  few : l.total ≤ l.k * 2 ^ 32;
}
