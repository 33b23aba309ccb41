use Rattle.std.proofs.Common.{arith}
use Rattle.xv_wire.proofs.Piping.{take-keeps}
use Rattle.xv_wire.proofs.memory.MemWire.take.Goals as goal

pub invariant_of-self-then-count-gt0 : goal.invariant_of-self-then-count-gt0
invariant_of-self-then-count-gt0 c =
    let w = c.self.inside in
    take-keeps w.capacity w.piece w.bytes.capacity w.puts.calls w.sent c.read_piece-count.result w.bytes.items w.pieces c.pass.new.self c.read_piece-count.new.bytes
    c.self.invariant (omega (arith, c.read_piece-count.ensures.count)) c.read_piece-count.ensures.left c.pass.ensures
