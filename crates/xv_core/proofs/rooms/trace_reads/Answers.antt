use Rattle.std.proofs.Common.{◌∙◌, arith}
use Rattle.xv_trace.specs.Operations.{all_unit_operations}
use Rattle.xv_trace.proofs.Counts.{length-all_unit_operations}
use Rattle.xv_core.specs.Reads.{read_length}
use Rattle.xv_core.proofs.Totals.SumsOf.{sum-all}
use Rattle.xv_core.proofs.rooms.trace_reads.Goals as goal

pub returns-clause-exactly : goal.returns-clause-exactly
returns-clause-exactly c =
    let trace = c.args.trace.now in
    c.loop-k.invariant.so_far
    ∙ sum-all read_length (all_unit_operations trace.shape trace.ops) c.loop-k.k (omega (arith, c.unit_ops-k-end.ensures.exactly, length-all_unit_operations trace.shape trace.ops))
