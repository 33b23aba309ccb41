use Rattle.std.specs.Prelude.{◌≡◌, ◌≤◌, ◌⊎◌, ◌+◌, ◌-◌, ◌^◌}
use Rattle.xv_shared.proofs.workers.run_guest.Given as goal

-- so far each step was one call, unless the calls stand at their last value
abbrev pub invariant-loop-step : goal.invariant-loop-step
invariant-loop-step g l = record {
  same : l.pass.guest ≡ l.fn.pass.guest;
  rises : l.fn.pass.calls ≤ l.pass.calls;
  within : l.pass.calls ≤ l.fn.pass.calls + l._step;
  exactly : (l.pass.calls ≡ l.fn.pass.calls + l._step) ⊎ (l.pass.calls ≡ 2 ^ 64 - 1);
}
