use Rattle.xv_engine_tests.specs.Beside.{IsBeside}
use Rattle.xv_engine_tests.proofs.hold_tests.scan.agree.Given as goal

abbrev pub invariant-loop-call : goal.invariant-loop-call
invariant-loop-call l = IsBeside l.hold l.scan.held.items l.scan.written.items
