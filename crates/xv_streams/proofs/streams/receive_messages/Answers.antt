use Rattle.std.proofs.Common.{◌≡◌, ◌-◌, ◌<◌, [], length, sym, ap, ◌∙◌, subst, arith, Ok}
use Rattle.std.proofs.lemmas.Bool.{ltb-true}
use Rattle.xv_frame.specs.Faults.{group_fault}
use Rattle.xv_frame.specs.Frame.{Each, IsMessage}
use Rattle.xv_frame.specs.Reading.{front_group}
use Rattle.xv_streams.specs.Gathered.{Gathered}
use Rattle.xv_streams.specs.Groups.{Received, IsReceived}
use Rattle.xv_streams.specs.Streamed.{IsLaneOf, seen_lane, GroupTaken}
use Rattle.xv_streams.proofs.MessageSteps.{taken-off}
use Rattle.xv_streams.proofs.GroupSteps.{FirstGroup, first-of, seen-first, group-some}
use Rattle.xv_streams.proofs.streams.receive_messages.Goals as goal

pub read-count-requires-clause-sound : goal.read-count-requires-clause-sound
read-count-requires-clause-sound g c =
    let s = c.args.layout.now in
    let l = c.args.lane.now in
    let t = g.W.Wire.told c.args.wire.now in
    let u = g.W.Wire.told c.gather.new.wire in
    let f = g.W.Wire.faults c.args.wire.now in
    let k = g.W.Wire.faults c.gather.new.wire in
    let new = c.gather.new.self.bytes in
    let some : 0 < length new = ltb-true 0 (length new) (sym c.in-Ok-true.ensures.some ∙ c.in-Ok-true.field-0-test) in
    let first : FirstGroup s l t u new = first-of s l t u new f k c.requires.good c.requires.lane c.in-Ok-true.ensures.taken some in
    ap (group_fault s) c.bytes.ensures.exactly ∙ first.sound

pub returns-in-Ok-true-clause-lane : goal.returns-in-Ok-true-clause-lane
returns-in-Ok-true-clause-lane g c =
    let s = c.args.layout.now in
    let l = c.args.lane.now in
    let t = g.W.Wire.told c.args.wire.now in
    let u = g.W.Wire.told c.gather.new.wire in
    let f = g.W.Wire.faults c.args.wire.now in
    let k = g.W.Wire.faults c.gather.new.wire in
    let new = c.gather.new.self.bytes in
    let some : 0 < length new = ltb-true 0 (length new) (sym c.in-Ok-true.ensures.some ∙ c.in-Ok-true.field-0-test) in
    let first : FirstGroup s l t u new = first-of s l t u new f k c.requires.good c.requires.lane c.in-Ok-true.ensures.taken some in
    let off : c.taken_off.new.self ≡ record l { bytes = []; waiting = l.waiting - 1 } = c.taken_off.ensures ∙ taken-off l c.gather.new.self c.in-Ok-true.ensures.room c.in-Ok-true.ensures.waiting in
    subst (λ (x : Gathered). IsLaneOf s 2 u x) (sym off) first.lane

pub returns-in-Ok-true-clause-received : goal.returns-in-Ok-true-clause-received
returns-in-Ok-true-clause-received g c =
    let s = c.args.layout.now in
    let l = c.args.lane.now in
    let t = g.W.Wire.told c.args.wire.now in
    let u = g.W.Wire.told c.gather.new.wire in
    let f = g.W.Wire.faults c.args.wire.now in
    let k = g.W.Wire.faults c.gather.new.wire in
    let new = c.gather.new.self.bytes in
    let some : 0 < length new = ltb-true 0 (length new) (sym c.in-Ok-true.ensures.some ∙ c.in-Ok-true.field-0-test) in
    let first : FirstGroup s l t u new = first-of s l t u new f k c.requires.good c.requires.lane c.in-Ok-true.ensures.taken some in
    let messages : front_group s c.bytes.result.now ≡ first.ms = ap (front_group s) c.bytes.ensures.exactly ∙ first.is in
    subst (λ (r : Received). IsReceived s 2 r) (sym c.read-count.ensures.kept)
    (record { rooms = c.requires.received.rooms; each = subst (Each (IsMessage s)) (sym messages) first.good.each; none = λ e. absurd (omega (arith, e)) })

pub returns-in-Ok-true-clause-messages : goal.returns-in-Ok-true-clause-messages
returns-in-Ok-true-clause-messages g c =
    let s = c.args.layout.now in
    let l = c.args.lane.now in
    let t = g.W.Wire.told c.args.wire.now in
    let u = g.W.Wire.told c.gather.new.wire in
    let f = g.W.Wire.faults c.args.wire.now in
    let k = g.W.Wire.faults c.gather.new.wire in
    let new = c.gather.new.self.bytes in
    let some : 0 < length new = ltb-true 0 (length new) (sym c.in-Ok-true.ensures.some ∙ c.in-Ok-true.field-0-test) in
    let first : FirstGroup s l t u new = first-of s l t u new f k c.requires.good c.requires.lane c.in-Ok-true.ensures.taken some in
    ap (λ (r : Received). r.messages) c.read-count.ensures.kept ∙ ap (front_group s) c.bytes.ensures.exactly ∙ first.is ∙ sym (seen-first s l t u new first)

pub returns-in-Ok-true-clause-taken : goal.returns-in-Ok-true-clause-taken
returns-in-Ok-true-clause-taken g c =
    let s = c.args.layout.now in
    let l = c.args.lane.now in
    let t = g.W.Wire.told c.args.wire.now in
    let u = g.W.Wire.told c.gather.new.wire in
    let f = g.W.Wire.faults c.args.wire.now in
    let k = g.W.Wire.faults c.gather.new.wire in
    let new = c.gather.new.self.bytes in
    let some : 0 < length new = ltb-true 0 (length new) (sym c.in-Ok-true.ensures.some ∙ c.in-Ok-true.field-0-test) in
    let first : FirstGroup s l t u new = first-of s l t u new f k c.requires.good c.requires.lane c.in-Ok-true.ensures.taken some in
    let off : c.taken_off.new.self ≡ record l { bytes = []; waiting = l.waiting - 1 } = c.taken_off.ensures ∙ taken-off l c.gather.new.self c.in-Ok-true.ensures.room c.in-Ok-true.ensures.waiting in
    let many : c.read-count.result ≡ length first.ms = c.read-count.ensures.count ∙ ap length (ap (front_group s) c.bytes.ensures.exactly ∙ first.is) in
    subst (λ (x : Gathered). GroupTaken s (Ok c.read-count.result) (seen_lane s t f l) (seen_lane s u k x)) (sym off) (group-some s c.read-count.result l t u new f k first c.in-Ok-true.ensures.taken many)
