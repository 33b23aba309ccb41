use Rattle.std.proofs.Common.{◌≡◌, ◌*◌}
use Rattle.xv_progress_tests.proofs.progress_tests.publish_all.Given as goal

abbrev pub invariant-loop-n : goal.invariant-loop-n
invariant-loop-n l = l.publisher ≡ record { belongs = l.progress; numbers = record { history = l.n; copied = l.n; applied = l.n; journal = 3 * l.n } }
