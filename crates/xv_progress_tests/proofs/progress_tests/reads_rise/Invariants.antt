use Rattle.std.proofs.Common.{◌≡◌}
use Rattle.xv_progress_tests.proofs.progress_tests.reads_rise.Given as goal

abbrev pub invariant-loop : goal.invariant-loop
invariant-loop g l = l.reader.belongs ≡ l.progress
