use Rattle.std.proofs.Common.{◌≡◌}
use Rattle.xv_job.proofs.Counted.{count_first}
use Rattle.xv_job.proofs.job.Job.operations.Given as goal

abbrev pub invariant-loop-trace : goal.invariant-loop-trace
invariant-loop-trace l = l.count ≡ count_first l.trace-index l.trace-items
