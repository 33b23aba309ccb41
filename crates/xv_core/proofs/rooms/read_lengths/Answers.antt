use Rattle.std.proofs.Common.{List, ◌∙◌, sum_by, ap, arith}
use Rattle.xv_trace.specs.OpText.{Program}
use Rattle.xv_job.specs.Written.{Written, job_of}
use Rattle.xv_core.specs.Reads.{read_lengths}
use Rattle.xv_core.proofs.Totals.SumsOf.{sum-all, reads_of, all-reads}
use Rattle.xv_core.proofs.rooms.read_lengths.Goals as goal

pub returns : goal.returns
returns c =
    let held = c.job.inside in
    c.loop-trace.invariant.so_far
    ∙ sum-all reads_of c.deref-trace-items.result.now c.loop-trace.trace-index (omega arith)
    ∙ ap (λ (ts : List Program). sum_by reads_of ts) c.deref-trace-items.ensures.value
    ∙ all-reads held.layout held.traces.items c.job.invariant.1
    ∙ ap (λ (w : Written). read_lengths (job_of w)) c.job.view_is
