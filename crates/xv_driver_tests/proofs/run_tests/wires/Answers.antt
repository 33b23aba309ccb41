use Rattle.std.proofs.Common.{List, length, ap, sym, subst, arith}
use Rattle.std.specs.Prelude.{All}
use Rattle.std.proofs.lemmas.List.{length_push}
use Rattle.std.proofs.lemmas.List.Elements.{All-push}
use Rattle.xv_wire.specs.Memory.{Pipe, told}
use Rattle.xv_job.specs.Written.{job_of}
use Rattle.xv_core.specs.Beginning.{IsWireFor, stream_room}
use Rattle.xv_driver_tests.proofs.run_tests.wires.Goals as goal

pub loop-stream-preserved : goal.loop-stream-preserved
loop-stream-preserved c =
    let before = c.loop-stream.wires.items in
    let pushed = c.in_ok-push.ensures.items in
    record {
      counted = omega (arith, ap (λ (ws : List Pipe). length ws) pushed, length_push before c.in_ok-wire.field-0, c.loop-stream.invariant.counted);
      each = subst (λ (ws : List Pipe). All (λ w. IsWireFor (stream_room (job_of c.args.job.now)) (told w)) ws) (sym pushed)
          (All-push (λ (w : Pipe). IsWireFor (stream_room (job_of c.args.job.now)) (told w)) before c.in_ok-wire.field-0 c.loop-stream.invariant.each c.in_ok-wire.ensures.stream);
    }
