use Rattle.std.proofs.Common.{◌≡◌, take, map}
use Rattle.xv_run.specs.Numbers.{counted}
use Rattle.xv_run.proofs.numbers.count_each.Given as goal

abbrev pub invariant-loop-worker : goal.invariant-loop-worker
invariant-loop-worker l = l.counts.items ≡ map (counted l.journal) (take l.worker-index l.workers)
