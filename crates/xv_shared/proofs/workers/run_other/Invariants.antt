use Rattle.std.specs.Prelude.{◌≡◌, ◌≤◌, ◌+◌}
use Rattle.xv_shared.proofs.workers.run_other.Given as goal

abbrev pub invariant-loop-step : goal.invariant-loop-step
invariant-loop-step g l = record {
  same : l.pass.worker ≡ l.fn.pass.worker;
  rises : l.fn.pass.calls ≤ l.pass.calls;
  within : l.pass.calls ≤ l.fn.pass.calls + l.step;
}
