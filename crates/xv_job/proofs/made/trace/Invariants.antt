use Rattle.std.proofs.Common.{◌≡◌}
use Rattle.xv_job.specs.Made.{first_ops}
use Rattle.xv_job.proofs.made.trace.Given as goal

abbrev pub invariant-loop-index : goal.invariant-loop-index
invariant-loop-index l = l.trace ≡ record { shape = l.layout; ops = first_ops l.number l.guest l.index }
