use Rattle.xv_parts.proofs.Begun.{wire-more}
use Rattle.xv_parts.proofs.beginning.streams.Goals as goal

pub loop-stream-preserved : goal.loop-stream-preserved
loop-stream-preserved c =
    wire-more c.args.job.now c.loop-stream.wires.items c.push.new.self.items c.loop-stream.stream c.in_ok-stream_wire.field-0
    c.in-Ok.ensures.items c.loop-stream.invariant c.in_ok-stream_wire.ensures
