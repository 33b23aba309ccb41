use Rattle.std.specs.Prelude.{◌≡◌}
use Rattle.xv_shared_tests.proofs.reader_tests.watch.Given as goal

abbrev pub invariant-loop-read : goal.invariant-loop-read
invariant-loop-read g l = l.reader.belongs ≡ l.shared
