use Rattle.std.proofs.Common.{◌≡◌, map}
use Rattle.std.specs.List.{range_with_len}
use Rattle.xv_job.specs.Made.{guest_ops}
use Rattle.xv_job.specs.Written.{AreTraces, ops_held}
use Rattle.xv_job.proofs.made.traces.Given as goal

abbrev pub invariant-loop-guest : goal.invariant-loop-guest
invariant-loop-guest l = record {
  held : ops_held l.traces.items ≡ map (guest_ops l.number) (range_with_len 0 l.guest);
  machine : AreTraces l.layout l.traces.items;
}
