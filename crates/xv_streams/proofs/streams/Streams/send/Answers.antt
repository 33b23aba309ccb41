use Rattle.std.proofs.Common.{◌≡◌, ℕ, ◌+◌, ◌^◌, ◌<◌, ◌≤◌, List, ◌++◌, length, get_or, set, take, drop, sym, ap, ◌∙◌, subst, arith, rules}
use Rattle.std.specs.Prelude.{is_err, IfSome}
use Rattle.std.proofs.lemmas.List.{take_at}
use Rattle.xv_base.specs.Units.{units, size}
use Rattle.xv_frame.specs.Frame.{Frame, UnitFrame, message, spelled, IsFrame}
use Rattle.xv_wire.specs.Wire.{PutBytes}
use Rattle.xv_wire.specs.Told.{MayCall, CallMade}
use Rattle.xv_streams.specs.Streamed.{Streamed, LaneSeen, lane, seen_lanes, seen_lane, no_lane, FramePut}
use Rattle.xv_streams.specs.Groups.{messages_in}
use Rattle.xv_streams.proofs.MakingSteps.{none-made}
use Rattle.xv_streams.proofs.PutSteps.{Here, here, Changed, changed, IsPut, put-lane, few-frames, unit-room, framed, length-unit, short-lane}
use Rattle.xv_streams.proofs.Zips.{length-seen, as-many}
use Rattle.xv_streams.proofs.streams.Streams.send.Goals as goal

pub encode_unit-size-requires-clause-room : goal.encode_unit-size-requires-clause-room
encode_unit-size-requires-clause-room g c =
    let s = c.self.inside in
    let unit : c.args.head.unit.0 < units s.layout = subst (λ (v : Streamed). c.args.head.unit.0 < units v.shape) (sym c.self.view_is) c.requires.unit_in in
    let whole : length c.args.bytes.now ≡ size s.layout c.args.head.unit.0 = subst (λ (v : Streamed). length c.args.bytes.now ≡ size v.shape c.args.head.unit.0) (sym c.self.view_is) c.requires.whole in
    let format : s.format ≡ 1 = subst (λ (v : Streamed). v.format ≡ 1) (sym c.self.view_is) c.requires.format in
    omega (arith, unit-room s.layout s.format c.args.head.unit.0 c.self.invariant.good format unit, whole, c.self.invariant.room, ap length c.deref_mut.ensures.value)

pub index_mut-requires : goal.index_mut-requires
index_mut-requires g c =
    let s = c.self.inside in
    let there : c.args.stream < length (seen_lanes g.W.Wire.told g.W.Wire.faults s.layout s.wires.items s.lanes.items) = subst (λ (v : Streamed). c.args.stream < length v.lanes) (sym c.self.view_is) c.requires.stream_in in
    omega (arith, there, length-seen g.W.Wire.told g.W.Wire.faults s.layout s.format s.wires.items s.lanes.items c.self.invariant.lanes, as-many g.W.Wire.told g.W.Wire.faults s.layout s.format s.wires.items s.lanes.items c.self.invariant.lanes, s.wires.ok.0)

pub index_mut-requires-2 : goal.index_mut-requires-2
index_mut-requires-2 g c =
    let s = c.self.inside in
    let there : c.args.stream < length (seen_lanes g.W.Wire.told g.W.Wire.faults s.layout s.wires.items s.lanes.items) = subst (λ (v : Streamed). c.args.stream < length v.lanes) (sym c.self.view_is) c.requires.stream_in in
    omega (arith, there, length-seen g.W.Wire.told g.W.Wire.faults s.layout s.format s.wires.items s.lanes.items c.self.invariant.lanes, s.lanes.ok.0)

pub slice_bounds-put_frame-end : goal.slice_bounds-put_frame-end
slice_bounds-put_frame-end g c =
    let s = c.self.inside in
    let told = g.W.Wire.told in
    let faults = g.W.Wire.faults in
    let ws = s.wires.items in
    let ls = s.lanes.items in
    let w = c.index_mut.result.now in
    let l = c.index_mut-2.result.now in
    let fr : Frame = UnitFrame (message c.args.head c.args.bytes.now) in
    let there : c.args.stream < length (seen_lanes told faults s.layout ws ls) = subst (λ (v : Streamed). c.args.stream < length v.lanes) (sym c.self.view_is) c.requires.stream_in in
    let at : Here told faults s.layout s.format ws ls c.args.stream w l = here told faults s.layout s.format ws ls c.args.stream w l c.self.invariant.lanes there c.index_mut.ensures.value c.index_mut-2.ensures.value in
    let long : length (spelled fr) ≡ c.encode_unit-size.result = length-unit c.args.head c.args.bytes.now ∙ sym c.encode_unit-size.ensures.count in
    let kept : length c.encode_unit-size.new.into ≡ s.frame.len = c.encode_unit-size.auto.into ∙ c.deref_mut.ensures.len in
    let frame : take c.encode_unit-size.result c.deref.result.now ≡ spelled fr =
    framed (spelled fr) c.deref_mut.result.now c.encode_unit-size.new.into c.deref.result.now s.frame.items c.encode_unit-size.result s.frame.len c.encode_unit-size.ensures.spelled long c.deref.ensures.value kept in
    sym long ∙ ap length (sym frame)

pub put_frame-requires-clause-room : goal.put_frame-requires-clause-room
put_frame-requires-clause-room g c =
    let s = c.self.inside in
    let told = g.W.Wire.told in
    let faults = g.W.Wire.faults in
    let ws = s.wires.items in
    let ls = s.lanes.items in
    let w = c.index_mut.result.now in
    let l = c.index_mut-2.result.now in
    let fr : Frame = UnitFrame (message c.args.head c.args.bytes.now) in
    let there : c.args.stream < length (seen_lanes told faults s.layout ws ls) = subst (λ (v : Streamed). c.args.stream < length v.lanes) (sym c.self.view_is) c.requires.stream_in in
    let at : Here told faults s.layout s.format ws ls c.args.stream w l = here told faults s.layout s.format ws ls c.args.stream w l c.self.invariant.lanes there c.index_mut.ensures.value c.index_mut-2.ensures.value in
    let long : length (spelled fr) ≡ c.encode_unit-size.result = length-unit c.args.head c.args.bytes.now ∙ sym c.encode_unit-size.ensures.count in
    let kept : length c.encode_unit-size.new.into ≡ s.frame.len = c.encode_unit-size.auto.into ∙ c.deref_mut.ensures.len in
    let frame : take c.encode_unit-size.result c.deref.result.now ≡ spelled fr =
    framed (spelled fr) c.deref_mut.result.now c.encode_unit-size.new.into c.deref.result.now s.frame.items c.encode_unit-size.result s.frame.len c.encode_unit-size.ensures.spelled long c.deref.ensures.value kept in
    let room : length (told w).transit + (24 + length c.args.bytes.now) ≤ (told w).capacity =
    subst (λ (x : LaneSeen). length x.wire.transit + (24 + length c.args.bytes.now) ≤ x.wire.capacity) at.seen
    (subst (λ (v : Streamed). length (lane v c.args.stream).wire.transit + (24 + length c.args.bytes.now) ≤ (lane v c.args.stream).wire.capacity) (sym c.self.view_is) c.requires.room) in
    let countable : IfSome (told w).counted (λ k. k.puts < 2 ^ 63) =
    subst (λ (x : LaneSeen). IfSome x.wire.counted (λ k. k.puts < 2 ^ 63)) at.seen
    (subst (λ (v : Streamed). IfSome (lane v c.args.stream).wire.counted (λ k. k.puts < 2 ^ 63)) (sym c.self.view_is) c.requires.countable) in
    let size' : length (spelled fr) ≡ 24 + length c.args.bytes.now = length-unit c.args.head c.args.bytes.now in
    subst (λ (b : List ℕ). MayCall (PutBytes b) (told w)) (sym frame) (omega (arith, size'), omega (arith, size', room), countable)

pub put_frame-requires-clause-few : goal.put_frame-requires-clause-few
put_frame-requires-clause-few g c =
    let s = c.self.inside in
    let told = g.W.Wire.told in
    let faults = g.W.Wire.faults in
    let ws = s.wires.items in
    let ls = s.lanes.items in
    let w = c.index_mut.result.now in
    let l = c.index_mut-2.result.now in
    let fr : Frame = UnitFrame (message c.args.head c.args.bytes.now) in
    let there : c.args.stream < length (seen_lanes told faults s.layout ws ls) = subst (λ (v : Streamed). c.args.stream < length v.lanes) (sym c.self.view_is) c.requires.stream_in in
    let at : Here told faults s.layout s.format ws ls c.args.stream w l = here told faults s.layout s.format ws ls c.args.stream w l c.self.invariant.lanes there c.index_mut.ensures.value c.index_mut-2.ensures.value in
    let long : length (spelled fr) ≡ c.encode_unit-size.result = length-unit c.args.head c.args.bytes.now ∙ sym c.encode_unit-size.ensures.count in
    let kept : length c.encode_unit-size.new.into ≡ s.frame.len = c.encode_unit-size.auto.into ∙ c.deref_mut.ensures.len in
    let frame : take c.encode_unit-size.result c.deref.result.now ≡ spelled fr =
    framed (spelled fr) c.deref_mut.result.now c.encode_unit-size.new.into c.deref.result.now s.frame.items c.encode_unit-size.result s.frame.len c.encode_unit-size.ensures.spelled long c.deref.ensures.value kept in
    few-frames s.layout s.format (told w) l at.lane

pub put_frame-requires-clause-short : goal.put_frame-requires-clause-short
put_frame-requires-clause-short g c =
    let s = c.self.inside in
    let told = g.W.Wire.told in
    let faults = g.W.Wire.faults in
    let ws = s.wires.items in
    let ls = s.lanes.items in
    let w = c.index_mut.result.now in
    let l = c.index_mut-2.result.now in
    let fr : Frame = UnitFrame (message c.args.head c.args.bytes.now) in
    let there : c.args.stream < length (seen_lanes told faults s.layout ws ls) = subst (λ (v : Streamed). c.args.stream < length v.lanes) (sym c.self.view_is) c.requires.stream_in in
    let at : Here told faults s.layout s.format ws ls c.args.stream w l = here told faults s.layout s.format ws ls c.args.stream w l c.self.invariant.lanes there c.index_mut.ensures.value c.index_mut-2.ensures.value in
    let long : length (spelled fr) ≡ c.encode_unit-size.result = length-unit c.args.head c.args.bytes.now ∙ sym c.encode_unit-size.ensures.count in
    let kept : length c.encode_unit-size.new.into ≡ s.frame.len = c.encode_unit-size.auto.into ∙ c.deref_mut.ensures.len in
    let frame : take c.encode_unit-size.result c.deref.result.now ≡ spelled fr =
    framed (spelled fr) c.deref_mut.result.now c.encode_unit-size.new.into c.deref.result.now s.frame.items c.encode_unit-size.result s.frame.len c.encode_unit-size.ensures.spelled long c.deref.ensures.value kept in
    omega (arith, short-lane s.layout s.format (told w) l c.self.invariant.good at.lane)

pub invariant_of-self : goal.invariant_of-self
invariant_of-self g c =
    let s = c.self.inside in
    let told = g.W.Wire.told in
    let faults = g.W.Wire.faults in
    let ws = s.wires.items in
    let ls = s.lanes.items in
    let w = c.index_mut.result.now in
    let l = c.index_mut-2.result.now in
    let fr : Frame = UnitFrame (message c.args.head c.args.bytes.now) in
    let there : c.args.stream < length (seen_lanes told faults s.layout ws ls) = subst (λ (v : Streamed). c.args.stream < length v.lanes) (sym c.self.view_is) c.requires.stream_in in
    let at : Here told faults s.layout s.format ws ls c.args.stream w l = here told faults s.layout s.format ws ls c.args.stream w l c.self.invariant.lanes there c.index_mut.ensures.value c.index_mut-2.ensures.value in
    let long : length (spelled fr) ≡ c.encode_unit-size.result = length-unit c.args.head c.args.bytes.now ∙ sym c.encode_unit-size.ensures.count in
    let kept : length c.encode_unit-size.new.into ≡ s.frame.len = c.encode_unit-size.auto.into ∙ c.deref_mut.ensures.len in
    let frame : take c.encode_unit-size.result c.deref.result.now ≡ spelled fr =
    framed (spelled fr) c.deref_mut.result.now c.encode_unit-size.new.into c.deref.result.now s.frame.items c.encode_unit-size.result s.frame.len c.encode_unit-size.ensures.spelled long c.deref.ensures.value kept in
    let unit : c.args.head.unit.0 < units s.layout = subst (λ (v : Streamed). c.args.head.unit.0 < units v.shape) (sym c.self.view_is) c.requires.unit_in in
    let whole : length c.args.bytes.now ≡ size s.layout c.args.head.unit.0 = subst (λ (v : Streamed). length c.args.bytes.now ≡ size v.shape c.args.head.unit.0) (sym c.self.view_is) c.requires.whole in
    let format : s.format ≡ 1 = subst (λ (v : Streamed). v.format ≡ 1) (sym c.self.view_is) c.requires.format in
    let good : IsFrame s.layout fr = record { unit_in = unit; made = c.requires.made; version_fits = search (rules, c.type_inv); at_fits = search (rules, c.type_inv); whole = whole } in
    let fits : length (spelled fr) ≤ l.room = omega (arith, unit-room s.layout s.format c.args.head.unit.0 c.self.invariant.good format unit, whole, at.lane.roomy, length-unit c.args.head c.args.bytes.now) in
    let made : CallMade (PutBytes (spelled fr)) (is_err c.put_frame.result) (told w) (told c.put_frame.new.wire) (faults w) (faults c.put_frame.new.wire) =
    subst (λ (b : List ℕ). CallMade (PutBytes b) (is_err c.put_frame.result) (told w) (told c.put_frame.new.wire) (faults w) (faults c.put_frame.new.wire)) frame c.put_frame.ensures.made in
    let is : IsPut s.layout s.format fr (is_err c.put_frame.result) (told w) (told c.put_frame.new.wire) (faults w) (faults c.put_frame.new.wire) l c.put_frame.new.lane =
    put-lane s.layout s.format fr (is_err c.put_frame.result) (told w) (told c.put_frame.new.wire) (faults w) (faults c.put_frame.new.wire) l c.put_frame.new.lane c.self.invariant.good at.lane good (sym format) fits made c.put_frame.ensures.counted in
    let done : Changed told faults s.layout s.format ws ls c.args.stream c.put_frame.new.wire c.put_frame.new.lane =
    changed told faults s.layout s.format ws ls c.args.stream c.put_frame.new.wire c.put_frame.new.lane c.self.invariant.lanes at.there is.lane in
    let next : List ℕ = take s.frame.len (c.encode_unit-size.new.into ++ drop (length c.encode_unit-size.new.into) s.frame.items) in
    record {
      lanes = done.lanes;
      good = c.self.invariant.good;
      room = ap length (take_at c.encode_unit-size.new.into (drop (length c.encode_unit-size.new.into) s.frame.items) s.frame.len kept) ∙ kept ∙ s.frame.ok.0 ∙ c.self.invariant.room;
      formats = c.self.invariant.formats;
      making = (none-made s.layout s.format s.count s.end s.frame.items next c.self.invariant.making format).0;
      got = c.self.invariant.got;
    }

pub returns-clause-others : goal.returns-clause-others
returns-clause-others g c =
    let s = c.self.inside in
    let told = g.W.Wire.told in
    let faults = g.W.Wire.faults in
    let ws = s.wires.items in
    let ls = s.lanes.items in
    let w = c.index_mut.result.now in
    let l = c.index_mut-2.result.now in
    let fr : Frame = UnitFrame (message c.args.head c.args.bytes.now) in
    let there : c.args.stream < length (seen_lanes told faults s.layout ws ls) = subst (λ (v : Streamed). c.args.stream < length v.lanes) (sym c.self.view_is) c.requires.stream_in in
    let at : Here told faults s.layout s.format ws ls c.args.stream w l = here told faults s.layout s.format ws ls c.args.stream w l c.self.invariant.lanes there c.index_mut.ensures.value c.index_mut-2.ensures.value in
    let long : length (spelled fr) ≡ c.encode_unit-size.result = length-unit c.args.head c.args.bytes.now ∙ sym c.encode_unit-size.ensures.count in
    let kept : length c.encode_unit-size.new.into ≡ s.frame.len = c.encode_unit-size.auto.into ∙ c.deref_mut.ensures.len in
    let frame : take c.encode_unit-size.result c.deref.result.now ≡ spelled fr =
    framed (spelled fr) c.deref_mut.result.now c.encode_unit-size.new.into c.deref.result.now s.frame.items c.encode_unit-size.result s.frame.len c.encode_unit-size.ensures.spelled long c.deref.ensures.value kept in
    let unit : c.args.head.unit.0 < units s.layout = subst (λ (v : Streamed). c.args.head.unit.0 < units v.shape) (sym c.self.view_is) c.requires.unit_in in
    let whole : length c.args.bytes.now ≡ size s.layout c.args.head.unit.0 = subst (λ (v : Streamed). length c.args.bytes.now ≡ size v.shape c.args.head.unit.0) (sym c.self.view_is) c.requires.whole in
    let format : s.format ≡ 1 = subst (λ (v : Streamed). v.format ≡ 1) (sym c.self.view_is) c.requires.format in
    let good : IsFrame s.layout fr = record { unit_in = unit; made = c.requires.made; version_fits = search (rules, c.type_inv); at_fits = search (rules, c.type_inv); whole = whole } in
    let fits : length (spelled fr) ≤ l.room = omega (arith, unit-room s.layout s.format c.args.head.unit.0 c.self.invariant.good format unit, whole, at.lane.roomy, length-unit c.args.head c.args.bytes.now) in
    let made : CallMade (PutBytes (spelled fr)) (is_err c.put_frame.result) (told w) (told c.put_frame.new.wire) (faults w) (faults c.put_frame.new.wire) =
    subst (λ (b : List ℕ). CallMade (PutBytes b) (is_err c.put_frame.result) (told w) (told c.put_frame.new.wire) (faults w) (faults c.put_frame.new.wire)) frame c.put_frame.ensures.made in
    let is : IsPut s.layout s.format fr (is_err c.put_frame.result) (told w) (told c.put_frame.new.wire) (faults w) (faults c.put_frame.new.wire) l c.put_frame.new.lane =
    put-lane s.layout s.format fr (is_err c.put_frame.result) (told w) (told c.put_frame.new.wire) (faults w) (faults c.put_frame.new.wire) l c.put_frame.new.lane c.self.invariant.good at.lane good (sym format) fits made c.put_frame.ensures.counted in
    let done : Changed told faults s.layout s.format ws ls c.args.stream c.put_frame.new.wire c.put_frame.new.lane =
    changed told faults s.layout s.format ws ls c.args.stream c.put_frame.new.wire c.put_frame.new.lane c.self.invariant.lanes at.there is.lane in
    let next : List ℕ = take s.frame.len (c.encode_unit-size.new.into ++ drop (length c.encode_unit-size.new.into) s.frame.items) in
    let same : messages_in s.layout s.count next ≡ messages_in s.layout s.count s.frame.items = (none-made s.layout s.format s.count s.end s.frame.items next c.self.invariant.making format).1 in
    subst (λ (v : Streamed). record { shape = s.layout; format = s.format; lanes = seen_lanes told faults s.layout (set ws c.args.stream c.put_frame.new.wire) (set ls c.args.stream c.put_frame.new.lane); making = messages_in s.layout s.count next; got = s.received.messages }
    ≡ record v { lanes = set v.lanes c.args.stream (get_or (seen_lanes told faults s.layout (set ws c.args.stream c.put_frame.new.wire) (set ls c.args.stream c.put_frame.new.lane)) c.args.stream no_lane) }) c.self.view_is
    (λ i. record { shape = s.layout; format = s.format; lanes = done.only i; making = same i; got = s.received.messages })

pub returns-clause-put : goal.returns-clause-put
returns-clause-put g c =
    let s = c.self.inside in
    let told = g.W.Wire.told in
    let faults = g.W.Wire.faults in
    let ws = s.wires.items in
    let ls = s.lanes.items in
    let w = c.index_mut.result.now in
    let l = c.index_mut-2.result.now in
    let fr : Frame = UnitFrame (message c.args.head c.args.bytes.now) in
    let there : c.args.stream < length (seen_lanes told faults s.layout ws ls) = subst (λ (v : Streamed). c.args.stream < length v.lanes) (sym c.self.view_is) c.requires.stream_in in
    let at : Here told faults s.layout s.format ws ls c.args.stream w l = here told faults s.layout s.format ws ls c.args.stream w l c.self.invariant.lanes there c.index_mut.ensures.value c.index_mut-2.ensures.value in
    let long : length (spelled fr) ≡ c.encode_unit-size.result = length-unit c.args.head c.args.bytes.now ∙ sym c.encode_unit-size.ensures.count in
    let kept : length c.encode_unit-size.new.into ≡ s.frame.len = c.encode_unit-size.auto.into ∙ c.deref_mut.ensures.len in
    let frame : take c.encode_unit-size.result c.deref.result.now ≡ spelled fr =
    framed (spelled fr) c.deref_mut.result.now c.encode_unit-size.new.into c.deref.result.now s.frame.items c.encode_unit-size.result s.frame.len c.encode_unit-size.ensures.spelled long c.deref.ensures.value kept in
    let unit : c.args.head.unit.0 < units s.layout = subst (λ (v : Streamed). c.args.head.unit.0 < units v.shape) (sym c.self.view_is) c.requires.unit_in in
    let whole : length c.args.bytes.now ≡ size s.layout c.args.head.unit.0 = subst (λ (v : Streamed). length c.args.bytes.now ≡ size v.shape c.args.head.unit.0) (sym c.self.view_is) c.requires.whole in
    let format : s.format ≡ 1 = subst (λ (v : Streamed). v.format ≡ 1) (sym c.self.view_is) c.requires.format in
    let good : IsFrame s.layout fr = record { unit_in = unit; made = c.requires.made; version_fits = search (rules, c.type_inv); at_fits = search (rules, c.type_inv); whole = whole } in
    let fits : length (spelled fr) ≤ l.room = omega (arith, unit-room s.layout s.format c.args.head.unit.0 c.self.invariant.good format unit, whole, at.lane.roomy, length-unit c.args.head c.args.bytes.now) in
    let made : CallMade (PutBytes (spelled fr)) (is_err c.put_frame.result) (told w) (told c.put_frame.new.wire) (faults w) (faults c.put_frame.new.wire) =
    subst (λ (b : List ℕ). CallMade (PutBytes b) (is_err c.put_frame.result) (told w) (told c.put_frame.new.wire) (faults w) (faults c.put_frame.new.wire)) frame c.put_frame.ensures.made in
    let is : IsPut s.layout s.format fr (is_err c.put_frame.result) (told w) (told c.put_frame.new.wire) (faults w) (faults c.put_frame.new.wire) l c.put_frame.new.lane =
    put-lane s.layout s.format fr (is_err c.put_frame.result) (told w) (told c.put_frame.new.wire) (faults w) (faults c.put_frame.new.wire) l c.put_frame.new.lane c.self.invariant.good at.lane good (sym format) fits made c.put_frame.ensures.counted in
    let done : Changed told faults s.layout s.format ws ls c.args.stream c.put_frame.new.wire c.put_frame.new.lane =
    changed told faults s.layout s.format ws ls c.args.stream c.put_frame.new.wire c.put_frame.new.lane c.self.invariant.lanes at.there is.lane in
    let before : lane c.args.self.now c.args.stream ≡ seen_lane s.layout (told w) (faults w) l = subst (λ (v : Streamed). lane v c.args.stream ≡ seen_lane s.layout (told w) (faults w) l) c.self.view_is at.seen in
    subst (λ (x : LaneSeen). FramePut fr (is_err c.put_frame.result) x (get_or (seen_lanes told faults s.layout (set ws c.args.stream c.put_frame.new.wire) (set ls c.args.stream c.put_frame.new.lane)) c.args.stream no_lane)) (sym before)
    (subst (λ (y : LaneSeen). FramePut fr (is_err c.put_frame.result) (seen_lane s.layout (told w) (faults w) l) y) (sym done.seen) is.seen)
