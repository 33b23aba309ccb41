use Rattle.std.proofs.Common.{◌≡◌, ◌++◌}
use Rattle.xv_job.specs.Made.{contents}
use Rattle.xv_job.proofs.made.push_contents.Given as goal

abbrev pub invariant-loop-j : goal.invariant-loop-j
invariant-loop-j l = l.init.items ≡ l.initial.init.items ++ contents l.number l.first l.step l.j
