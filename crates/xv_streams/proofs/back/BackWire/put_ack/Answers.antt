use Rattle.std.proofs.Common.{ℕ, ◌+◌, ◌≤◌, List, length, take, sym, subst, arith, false}
use Rattle.std.proofs.lemmas.List.{length-take}
use Rattle.xv_frame.specs.Frame.{ack}
use Rattle.xv_wire.specs.Wire.{PutBytes}
use Rattle.xv_wire.specs.Told.{CallMade}
use Rattle.xv_streams.specs.Returned.{Returned, returned, AckPut}
use Rattle.xv_streams.proofs.BackSteps.{ack-put, IsAckPut, few-acks}
use Rattle.xv_streams.proofs.back.BackWire.put_ack.Goals as goal

pub overflow_add-self : goal.overflow_add-self
overflow_add-self g c =
    let b = c.self.inside in
    let t = g.W.Wire.told b.wire in
    let bytes : List ℕ = take b.count b.head in
    let room : length t.transit + 24 ≤ t.capacity = subst (λ (v : Returned). length v.wire.transit + 24 ≤ v.wire.capacity) (sym c.self.view_is) c.requires.room in
    omega (arith, few-acks bytes t b.waiting c.self.invariant.0, length-take b.count b.head, room, c.capacity.ensures, c.capacity.type_inv, c.self.invariant.1)

pub invariant_of-self : goal.invariant_of-self
invariant_of-self g c =
    let b = c.self.inside in
    let t = g.W.Wire.told b.wire in
    let u = g.W.Wire.told c.put.new.self in
    let f = g.W.Wire.faults b.wire in
    let k = g.W.Wire.faults c.put.new.self in
    let bytes : List ℕ = take b.count b.head in
    let made : CallMade (PutBytes (ack c.args.count)) false t u f k = subst (λ (x : List ℕ). CallMade (PutBytes x) false t u f k) c.encode_ack.ensures c.in-Ok.ensures in
    let is : IsAckPut c.args.count b.waiting false bytes t u f k = ack-put c.args.count b.waiting false bytes t u f k c.self.invariant.0 c.requires.some c.requires.few made in
    (is.back, c.self.invariant.1)

pub returns-in-Ok : goal.returns-in-Ok
returns-in-Ok g c =
    let b = c.self.inside in
    let t = g.W.Wire.told b.wire in
    let u = g.W.Wire.told c.put.new.self in
    let f = g.W.Wire.faults b.wire in
    let k = g.W.Wire.faults c.put.new.self in
    let bytes : List ℕ = take b.count b.head in
    let made : CallMade (PutBytes (ack c.args.count)) false t u f k = subst (λ (x : List ℕ). CallMade (PutBytes x) false t u f k) c.encode_ack.ensures c.in-Ok.ensures in
    let is : IsAckPut c.args.count b.waiting false bytes t u f k = ack-put c.args.count b.waiting false bytes t u f k c.self.invariant.0 c.requires.some c.requires.few made in
    subst (λ (v : Returned). AckPut c.args.count false v (returned bytes u k)) c.self.view_is is.seen
