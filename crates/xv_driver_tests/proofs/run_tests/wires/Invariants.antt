use Rattle.std.proofs.Common.{◌≡◌, length}
use Rattle.std.specs.Prelude.{All}
use Rattle.xv_wire.specs.Memory.{told}
use Rattle.xv_job.specs.Written.{job_of}
use Rattle.xv_core.specs.Beginning.{IsWireFor, stream_room}
use Rattle.xv_driver_tests.proofs.run_tests.wires.Given as goal

abbrev pub invariant-loop-stream : goal.invariant-loop-stream
invariant-loop-stream l = record {
  counted : length l.wires.items ≡ l._stream;
  each : All (λ w. IsWireFor (stream_room (job_of l.job)) (told w)) l.wires.items;
}
