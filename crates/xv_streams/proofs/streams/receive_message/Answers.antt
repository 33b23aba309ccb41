use Rattle.std.proofs.Common.{◌≡◌, ℕ, ◌+◌, ◌-◌, ◌<◌, ◌≤◌, List, [], length, take, drop, sym, ap, ◌∙◌, subst, false, Ok, Some}
use Rattle.std.proofs.lemmas.Bool.{ltb-true}
use Rattle.xv_frame.specs.declared.heads.Head.TheVariants.{Unit as UnitHeadOf}
use Rattle.xv_frame.specs.Faults.{read_head}
use Rattle.xv_frame.specs.Reading.{front_head}
use Rattle.xv_streams.specs.Gathered.{Gathered}
use Rattle.xv_streams.specs.Lanes.{FrameTaken}
use Rattle.xv_streams.specs.Streamed.{IsLaneOf, seen_lane, MessageTaken, first_group, content_of_first}
use Rattle.xv_streams.proofs.MessageSteps.{receive-some, first-message, FirstMessage, Readable, readable, taken-off, content-moved}
use Rattle.xv_streams.proofs.streams.receive_message.Goals as goal

pub read_unit-head-requires : goal.read_unit-head-requires
read_unit-head-requires g c =
    let s = c.args.layout.now in
    let l = c.args.lane.now in
    let t = g.W.Wire.told c.args.wire.now in
    let u = g.W.Wire.told c.gather.new.wire in
    let f = g.W.Wire.faults c.args.wire.now in
    let k = g.W.Wire.faults c.gather.new.wire in
    let new = c.gather.new.self.bytes in
    let some : 0 < length new = ltb-true 0 (length new) (sym c.in-Ok-true.ensures.some ∙ c.in-Ok-true.field-0-test) in
    let taken : FrameTaken s l.bytes new false t u f k = c.in-Ok-true.ensures.taken in
    let first : FirstMessage s l t u new = first-message s l t u new f k c.requires.good c.requires.lane taken some in
    let read : Readable s (length c.args.into.now) new first.m = readable s (length c.args.into.now) l t u new c.requires.good c.requires.room first in
    let is : c.bytes.result.now ≡ new = c.bytes.ensures.exactly in
    subst (λ (b : List ℕ). record { long : 24 ≤ length b; room : length b ≤ 24 + length c.args.into.now; known : read_head s (take 24 b) ≡ Ok (UnitHeadOf (front_head b)) }) (sym is)
    (record { long = read.long; room = read.fits; known = read.known })

pub returns-in-Ok-true-clause-lane : goal.returns-in-Ok-true-clause-lane
returns-in-Ok-true-clause-lane g c =
    let s = c.args.layout.now in
    let l = c.args.lane.now in
    let t = g.W.Wire.told c.args.wire.now in
    let u = g.W.Wire.told c.gather.new.wire in
    let f = g.W.Wire.faults c.args.wire.now in
    let k = g.W.Wire.faults c.gather.new.wire in
    let new = c.gather.new.self.bytes in
    let some : 0 < length new = ltb-true 0 (length new) (sym c.in-Ok-true.ensures.some ∙ c.in-Ok-true.field-0-test) in
    let taken : FrameTaken s l.bytes new false t u f k = c.in-Ok-true.ensures.taken in
    let first : FirstMessage s l t u new = first-message s l t u new f k c.requires.good c.requires.lane taken some in
    let read : Readable s (length c.args.into.now) new first.m = readable s (length c.args.into.now) l t u new c.requires.good c.requires.room first in
    let is : c.bytes.result.now ≡ new = c.bytes.ensures.exactly in
    let off : c.taken_off.new.self ≡ record l { bytes = []; waiting = l.waiting - 1 } = c.taken_off.ensures ∙ taken-off l c.gather.new.self c.in-Ok-true.ensures.room c.in-Ok-true.ensures.waiting in
    subst (λ (x : Gathered). IsLaneOf s 1 u x) (sym off) first.lane

pub returns-in-Ok-true-clause-taken : goal.returns-in-Ok-true-clause-taken
returns-in-Ok-true-clause-taken g c =
    let s = c.args.layout.now in
    let l = c.args.lane.now in
    let t = g.W.Wire.told c.args.wire.now in
    let u = g.W.Wire.told c.gather.new.wire in
    let f = g.W.Wire.faults c.args.wire.now in
    let k = g.W.Wire.faults c.gather.new.wire in
    let new = c.gather.new.self.bytes in
    let some : 0 < length new = ltb-true 0 (length new) (sym c.in-Ok-true.ensures.some ∙ c.in-Ok-true.field-0-test) in
    let taken : FrameTaken s l.bytes new false t u f k = c.in-Ok-true.ensures.taken in
    let first : FirstMessage s l t u new = first-message s l t u new f k c.requires.good c.requires.lane taken some in
    let read : Readable s (length c.args.into.now) new first.m = readable s (length c.args.into.now) l t u new c.requires.good c.requires.room first in
    let is : c.bytes.result.now ≡ new = c.bytes.ensures.exactly in
    let off : c.taken_off.new.self ≡ record l { bytes = []; waiting = l.waiting - 1 } = c.taken_off.ensures ∙ taken-off l c.gather.new.self c.in-Ok-true.ensures.room c.in-Ok-true.ensures.waiting in
    let moved : take (length new - 24) c.read_unit-head.new.into ≡ drop 24 new = subst (λ (b : List ℕ). take (length b - 24) c.read_unit-head.new.into ≡ drop 24 b) is c.read_unit-head.ensures.content in
    subst (λ (x : Gathered). MessageTaken s (Ok (Some c.read_unit-head.result)) (take (length (content_of_first (first_group (seen_lane s t f l).groups))) c.read_unit-head.new.into) (seen_lane s t f l) (seen_lane s u k x)) (sym off)
    (receive-some s c.read_unit-head.result (take (length (content_of_first (first_group (seen_lane s t f l).groups))) c.read_unit-head.new.into) l t u new f k first taken
    (c.read_unit-head.ensures.head ∙ ap front_head is ∙ read.head)
    (content-moved s l t u new c.read_unit-head.new.into (length c.args.into.now) first read moved))
