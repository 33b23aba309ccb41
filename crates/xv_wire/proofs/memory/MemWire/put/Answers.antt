use Rattle.std.proofs.Common.{◌+◌, ◌^◌, ◌<◌, ◌≤◌, length, sym, ap, subst}
use Rattle.xv_base.specs.Calls.{Planned}
use Rattle.xv_wire.specs.Memory.{Pipe}
use Rattle.xv_wire.proofs.Piping.{put-keeps}
use Rattle.xv_wire.proofs.memory.MemWire.put.Goals as goal

pub invariant_of-self-2 : goal.invariant_of-self-2
invariant_of-self-2 c =
    let w = c.self.inside in
    let few : w.puts.calls < 2 ^ 63 = subst (λ (p : Pipe). p.counted.puts < 2 ^ 63) (sym c.self.view_is) c.requires.countable in
    let room : length w.bytes.items + length c.args.bytes.now ≤ w.capacity = subst (λ (p : Pipe). length p.transit + length c.args.bytes.now ≤ p.capacity) (sym c.self.view_is) c.requires.room in
    put-keeps w.capacity w.piece w.bytes.capacity w.puts.calls c.begin.new.self.calls w.sent c.fill_from_slice.result w.bytes.items c.args.bytes.now w.pieces c.push.new.self c.fill_from_slice.new.self
    c.self.invariant few (ap (λ (p : Planned). p.calls) c.begin.ensures.after) room c.fill_from_slice.ensures.count c.fill_from_slice.ensures.items c.push.ensures
