use Rattle.std.proofs.Common.{◌≡◌, ℕ, ◌+◌, ◌-◌, ◌^◌, ◌<◌, ◌≤◌, List, [], ◌++◌, length, get_or, set, take, drop, sym, ap, ◌∙◌, subst, arith}
use Rattle.std.specs.Prelude.{is_err, IfSome}
use Rattle.std.specs.Vec.{with_items}
use Rattle.std.proofs.lemmas.List.{with_items_is}
use Rattle.xv_frame.specs.Frame.{Message, Frame, GroupFrame, spelled, group_head}
use Rattle.xv_frame.proofs.Accepted.{length-spelled}
use Rattle.xv_wire.specs.Wire.{PutBytes}
use Rattle.xv_wire.specs.Told.{MayCall, CallMade}
use Rattle.xv_streams.specs.Streamed.{Streamed, LaneSeen, lane, seen_lanes, seen_lane, no_lane, FramePut}
use Rattle.xv_streams.specs.Groups.{messages_in}
use Rattle.xv_streams.proofs.PutSteps.{Here, here, Changed, changed, IsPut, put-lane, few-frames, short-lane}
use Rattle.xv_streams.proofs.MakingSteps.{FrameMade, frame-made, many-made, none-left, end-small}
use Rattle.xv_streams.proofs.Zips.{length-seen, as-many}
use Rattle.xv_streams.proofs.streams.Streams.send_group.Goals as goal

pub put_head-requires-clause-short : goal.put_head-requires-clause-short
put_head-requires-clause-short g c =
    let s = c.self.inside in
    let ms : List Message = messages_in s.layout s.count s.frame.items in
    let some : 1 ≤ s.count = omega (arith, subst (λ (v : Streamed). 1 ≤ length v.making) (sym c.self.view_is) c.requires.some, many-made s.layout s.count s.frame.items) in
    omega (arith, end-small s.layout s.format s.count s.end s.frame.items c.self.invariant.good c.self.invariant.making)

pub index_mut-requires : goal.index_mut-requires
index_mut-requires g c =
    let s = c.self.inside in
    let there : c.args.stream < length (seen_lanes g.W.Wire.told g.W.Wire.faults s.layout s.wires.items s.lanes.items) = subst (λ (v : Streamed). c.args.stream < length v.lanes) (sym c.self.view_is) c.requires.stream_in in
    omega (arith, there, length-seen g.W.Wire.told g.W.Wire.faults s.layout s.format s.wires.items s.lanes.items c.self.invariant.lanes, as-many g.W.Wire.told g.W.Wire.faults s.layout s.format s.wires.items s.lanes.items c.self.invariant.lanes, s.wires.ok.0)

pub index_mut-requires-2 : goal.index_mut-requires-2
index_mut-requires-2 g c =
    let s = c.self.inside in
    let there : c.args.stream < length (seen_lanes g.W.Wire.told g.W.Wire.faults s.layout s.wires.items s.lanes.items) = subst (λ (v : Streamed). c.args.stream < length v.lanes) (sym c.self.view_is) c.requires.stream_in in
    omega (arith, there, length-seen g.W.Wire.told g.W.Wire.faults s.layout s.format s.wires.items s.lanes.items c.self.invariant.lanes, s.lanes.ok.0)

pub slice_bounds-put_frame-end : goal.slice_bounds-put_frame-end
slice_bounds-put_frame-end g c =
    let s = c.self.inside in
    let ms : List Message = messages_in s.layout s.count s.frame.items in
    let some : 1 ≤ s.count = omega (arith, subst (λ (v : Streamed). 1 ≤ length v.making) (sym c.self.view_is) c.requires.some, many-made s.layout s.count s.frame.items) in
    let next : List ℕ = (with_items s.frame c.put_head.new.frame).items in
    let is : next ≡ c.put_head.new.frame = with_items_is s.frame c.put_head.new.frame (c.put_head.auto.frame ∙ c.deref_mut.ensures.len) in
    let made : FrameMade s.layout s.format s.count s.end s.frame.items next =
    frame-made s.layout s.format s.count s.end s.frame.items next c.self.invariant.good c.self.invariant.making c.self.invariant.formats.0 c.self.invariant.formats.1 some
    (is ∙ c.put_head.ensures ∙ ap (λ (xs : List ℕ). group_head s.count (s.end - 24) ++ drop 24 xs) c.deref_mut.ensures.value) in
    let fr : Frame = GroupFrame ms in
    let frame : take s.end c.deref.result.now ≡ spelled fr = ap (take s.end) c.deref.ensures.value ∙ made.spelling in
    sym made.long ∙ ap length (sym frame)

pub put_frame-requires-clause-room : goal.put_frame-requires-clause-room
put_frame-requires-clause-room g c =
    let s = c.self.inside in
    let ms : List Message = messages_in s.layout s.count s.frame.items in
    let some : 1 ≤ s.count = omega (arith, subst (λ (v : Streamed). 1 ≤ length v.making) (sym c.self.view_is) c.requires.some, many-made s.layout s.count s.frame.items) in
    let next : List ℕ = (with_items s.frame c.put_head.new.frame).items in
    let is : next ≡ c.put_head.new.frame = with_items_is s.frame c.put_head.new.frame (c.put_head.auto.frame ∙ c.deref_mut.ensures.len) in
    let made : FrameMade s.layout s.format s.count s.end s.frame.items next =
    frame-made s.layout s.format s.count s.end s.frame.items next c.self.invariant.good c.self.invariant.making c.self.invariant.formats.0 c.self.invariant.formats.1 some
    (is ∙ c.put_head.ensures ∙ ap (λ (xs : List ℕ). group_head s.count (s.end - 24) ++ drop 24 xs) c.deref_mut.ensures.value) in
    let fr : Frame = GroupFrame ms in
    let frame : take s.end c.deref.result.now ≡ spelled fr = ap (take s.end) c.deref.ensures.value ∙ made.spelling in
    let there : c.args.stream < length (seen_lanes g.W.Wire.told g.W.Wire.faults s.layout s.wires.items s.lanes.items) = subst (λ (v : Streamed). c.args.stream < length v.lanes) (sym c.self.view_is) c.requires.stream_in in
    let told = g.W.Wire.told in
    let faults = g.W.Wire.faults in
    let ws = s.wires.items in
    let ls = s.lanes.items in
    let w = c.index_mut.result.now in
    let l = c.index_mut-2.result.now in
    let at : Here told faults s.layout s.format ws ls c.args.stream w l = here told faults s.layout s.format ws ls c.args.stream w l c.self.invariant.lanes there c.index_mut.ensures.value c.index_mut-2.ensures.value in
    let room : length (told w).transit + length (spelled fr) ≤ (told w).capacity =
    subst (λ (x : LaneSeen). length x.wire.transit + length (spelled fr) ≤ x.wire.capacity) at.seen
    (subst (λ (v : Streamed). length (lane v c.args.stream).wire.transit + length (spelled (GroupFrame v.making)) ≤ (lane v c.args.stream).wire.capacity) (sym c.self.view_is) c.requires.room) in
    let countable : IfSome (told w).counted (λ k. k.puts < 2 ^ 63) =
    subst (λ (x : LaneSeen). IfSome x.wire.counted (λ k. k.puts < 2 ^ 63)) at.seen
    (subst (λ (v : Streamed). IfSome (lane v c.args.stream).wire.counted (λ k. k.puts < 2 ^ 63)) (sym c.self.view_is) c.requires.countable) in
    subst (λ (b : List ℕ). MayCall (PutBytes b) (told w)) (sym frame) (length-spelled fr, room, countable)

pub put_frame-requires-clause-few : goal.put_frame-requires-clause-few
put_frame-requires-clause-few g c =
    let s = c.self.inside in
    let there : c.args.stream < length (seen_lanes g.W.Wire.told g.W.Wire.faults s.layout s.wires.items s.lanes.items) = subst (λ (v : Streamed). c.args.stream < length v.lanes) (sym c.self.view_is) c.requires.stream_in in
    let told = g.W.Wire.told in
    let faults = g.W.Wire.faults in
    let ws = s.wires.items in
    let ls = s.lanes.items in
    let w = c.index_mut.result.now in
    let l = c.index_mut-2.result.now in
    let at : Here told faults s.layout s.format ws ls c.args.stream w l = here told faults s.layout s.format ws ls c.args.stream w l c.self.invariant.lanes there c.index_mut.ensures.value c.index_mut-2.ensures.value in
    few-frames s.layout s.format (told w) l at.lane

pub put_frame-requires-clause-short : goal.put_frame-requires-clause-short
put_frame-requires-clause-short g c =
    let s = c.self.inside in
    let there : c.args.stream < length (seen_lanes g.W.Wire.told g.W.Wire.faults s.layout s.wires.items s.lanes.items) = subst (λ (v : Streamed). c.args.stream < length v.lanes) (sym c.self.view_is) c.requires.stream_in in
    let told = g.W.Wire.told in
    let faults = g.W.Wire.faults in
    let ws = s.wires.items in
    let ls = s.lanes.items in
    let w = c.index_mut.result.now in
    let l = c.index_mut-2.result.now in
    let at : Here told faults s.layout s.format ws ls c.args.stream w l = here told faults s.layout s.format ws ls c.args.stream w l c.self.invariant.lanes there c.index_mut.ensures.value c.index_mut-2.ensures.value in
    omega (arith, short-lane s.layout s.format (told w) l c.self.invariant.good at.lane)

pub invariant_of-self : goal.invariant_of-self
invariant_of-self g c =
    let s = c.self.inside in
    let ms : List Message = messages_in s.layout s.count s.frame.items in
    let some : 1 ≤ s.count = omega (arith, subst (λ (v : Streamed). 1 ≤ length v.making) (sym c.self.view_is) c.requires.some, many-made s.layout s.count s.frame.items) in
    let next : List ℕ = (with_items s.frame c.put_head.new.frame).items in
    let is : next ≡ c.put_head.new.frame = with_items_is s.frame c.put_head.new.frame (c.put_head.auto.frame ∙ c.deref_mut.ensures.len) in
    let made : FrameMade s.layout s.format s.count s.end s.frame.items next =
    frame-made s.layout s.format s.count s.end s.frame.items next c.self.invariant.good c.self.invariant.making c.self.invariant.formats.0 c.self.invariant.formats.1 some
    (is ∙ c.put_head.ensures ∙ ap (λ (xs : List ℕ). group_head s.count (s.end - 24) ++ drop 24 xs) c.deref_mut.ensures.value) in
    let fr : Frame = GroupFrame ms in
    let frame : take s.end c.deref.result.now ≡ spelled fr = ap (take s.end) c.deref.ensures.value ∙ made.spelling in
    let there : c.args.stream < length (seen_lanes g.W.Wire.told g.W.Wire.faults s.layout s.wires.items s.lanes.items) = subst (λ (v : Streamed). c.args.stream < length v.lanes) (sym c.self.view_is) c.requires.stream_in in
    let told = g.W.Wire.told in
    let faults = g.W.Wire.faults in
    let ws = s.wires.items in
    let ls = s.lanes.items in
    let w = c.index_mut.result.now in
    let l = c.index_mut-2.result.now in
    let at : Here told faults s.layout s.format ws ls c.args.stream w l = here told faults s.layout s.format ws ls c.args.stream w l c.self.invariant.lanes there c.index_mut.ensures.value c.index_mut-2.ensures.value in
    let fits : length (spelled fr) ≤ l.room = omega (arith, made.long, made.fits, at.lane.roomy) in
    let call : CallMade (PutBytes (spelled fr)) (is_err c.put_frame.result) (told w) (told c.put_frame.new.wire) (faults w) (faults c.put_frame.new.wire) =
    subst (λ (b : List ℕ). CallMade (PutBytes b) (is_err c.put_frame.result) (told w) (told c.put_frame.new.wire) (faults w) (faults c.put_frame.new.wire)) frame c.put_frame.ensures.made in
    let is-put : IsPut s.layout s.format fr (is_err c.put_frame.result) (told w) (told c.put_frame.new.wire) (faults w) (faults c.put_frame.new.wire) l c.put_frame.new.lane =
    put-lane s.layout s.format fr (is_err c.put_frame.result) (told w) (told c.put_frame.new.wire) (faults w) (faults c.put_frame.new.wire) l c.put_frame.new.lane c.self.invariant.good at.lane made.good (sym made.format_is) fits call c.put_frame.ensures.counted in
    let done : Changed told faults s.layout s.format ws ls c.args.stream c.put_frame.new.wire c.put_frame.new.lane =
    changed told faults s.layout s.format ws ls c.args.stream c.put_frame.new.wire c.put_frame.new.lane c.self.invariant.lanes at.there is-put.lane in
    record {
      lanes = done.lanes;
      good = c.self.invariant.good;
      room = ap length is ∙ c.put_head.auto.frame ∙ ap length c.deref_mut.ensures.value ∙ c.self.invariant.room;
      formats = c.self.invariant.formats;
      making = none-left s.layout s.format next;
      got = c.self.invariant.got;
    }

pub returns-clause-others : goal.returns-clause-others
returns-clause-others g c =
    let s = c.self.inside in
    let ms : List Message = messages_in s.layout s.count s.frame.items in
    let some : 1 ≤ s.count = omega (arith, subst (λ (v : Streamed). 1 ≤ length v.making) (sym c.self.view_is) c.requires.some, many-made s.layout s.count s.frame.items) in
    let next : List ℕ = (with_items s.frame c.put_head.new.frame).items in
    let is : next ≡ c.put_head.new.frame = with_items_is s.frame c.put_head.new.frame (c.put_head.auto.frame ∙ c.deref_mut.ensures.len) in
    let made : FrameMade s.layout s.format s.count s.end s.frame.items next =
    frame-made s.layout s.format s.count s.end s.frame.items next c.self.invariant.good c.self.invariant.making c.self.invariant.formats.0 c.self.invariant.formats.1 some
    (is ∙ c.put_head.ensures ∙ ap (λ (xs : List ℕ). group_head s.count (s.end - 24) ++ drop 24 xs) c.deref_mut.ensures.value) in
    let fr : Frame = GroupFrame ms in
    let frame : take s.end c.deref.result.now ≡ spelled fr = ap (take s.end) c.deref.ensures.value ∙ made.spelling in
    let there : c.args.stream < length (seen_lanes g.W.Wire.told g.W.Wire.faults s.layout s.wires.items s.lanes.items) = subst (λ (v : Streamed). c.args.stream < length v.lanes) (sym c.self.view_is) c.requires.stream_in in
    let told = g.W.Wire.told in
    let faults = g.W.Wire.faults in
    let ws = s.wires.items in
    let ls = s.lanes.items in
    let w = c.index_mut.result.now in
    let l = c.index_mut-2.result.now in
    let at : Here told faults s.layout s.format ws ls c.args.stream w l = here told faults s.layout s.format ws ls c.args.stream w l c.self.invariant.lanes there c.index_mut.ensures.value c.index_mut-2.ensures.value in
    let fits : length (spelled fr) ≤ l.room = omega (arith, made.long, made.fits, at.lane.roomy) in
    let call : CallMade (PutBytes (spelled fr)) (is_err c.put_frame.result) (told w) (told c.put_frame.new.wire) (faults w) (faults c.put_frame.new.wire) =
    subst (λ (b : List ℕ). CallMade (PutBytes b) (is_err c.put_frame.result) (told w) (told c.put_frame.new.wire) (faults w) (faults c.put_frame.new.wire)) frame c.put_frame.ensures.made in
    let is-put : IsPut s.layout s.format fr (is_err c.put_frame.result) (told w) (told c.put_frame.new.wire) (faults w) (faults c.put_frame.new.wire) l c.put_frame.new.lane =
    put-lane s.layout s.format fr (is_err c.put_frame.result) (told w) (told c.put_frame.new.wire) (faults w) (faults c.put_frame.new.wire) l c.put_frame.new.lane c.self.invariant.good at.lane made.good (sym made.format_is) fits call c.put_frame.ensures.counted in
    let done : Changed told faults s.layout s.format ws ls c.args.stream c.put_frame.new.wire c.put_frame.new.lane =
    changed told faults s.layout s.format ws ls c.args.stream c.put_frame.new.wire c.put_frame.new.lane c.self.invariant.lanes at.there is-put.lane in
    let seen = seen_lanes told faults s.layout (set ws c.args.stream c.put_frame.new.wire) (set ls c.args.stream c.put_frame.new.lane) in
    let none : List Message = [] in
    subst (λ (v : Streamed). record { shape = s.layout; format = s.format; lanes = seen; making = none; got = s.received.messages } ≡ record v { lanes = set v.lanes c.args.stream (get_or seen c.args.stream no_lane); making = none }) c.self.view_is
    (ap (λ (xs : List LaneSeen). record { shape = s.layout; format = s.format; lanes = xs; making = none; got = s.received.messages }) done.only)

pub returns-clause-put : goal.returns-clause-put
returns-clause-put g c =
    let s = c.self.inside in
    let ms : List Message = messages_in s.layout s.count s.frame.items in
    let some : 1 ≤ s.count = omega (arith, subst (λ (v : Streamed). 1 ≤ length v.making) (sym c.self.view_is) c.requires.some, many-made s.layout s.count s.frame.items) in
    let next : List ℕ = (with_items s.frame c.put_head.new.frame).items in
    let is : next ≡ c.put_head.new.frame = with_items_is s.frame c.put_head.new.frame (c.put_head.auto.frame ∙ c.deref_mut.ensures.len) in
    let made : FrameMade s.layout s.format s.count s.end s.frame.items next =
    frame-made s.layout s.format s.count s.end s.frame.items next c.self.invariant.good c.self.invariant.making c.self.invariant.formats.0 c.self.invariant.formats.1 some
    (is ∙ c.put_head.ensures ∙ ap (λ (xs : List ℕ). group_head s.count (s.end - 24) ++ drop 24 xs) c.deref_mut.ensures.value) in
    let fr : Frame = GroupFrame ms in
    let frame : take s.end c.deref.result.now ≡ spelled fr = ap (take s.end) c.deref.ensures.value ∙ made.spelling in
    let there : c.args.stream < length (seen_lanes g.W.Wire.told g.W.Wire.faults s.layout s.wires.items s.lanes.items) = subst (λ (v : Streamed). c.args.stream < length v.lanes) (sym c.self.view_is) c.requires.stream_in in
    let told = g.W.Wire.told in
    let faults = g.W.Wire.faults in
    let ws = s.wires.items in
    let ls = s.lanes.items in
    let w = c.index_mut.result.now in
    let l = c.index_mut-2.result.now in
    let at : Here told faults s.layout s.format ws ls c.args.stream w l = here told faults s.layout s.format ws ls c.args.stream w l c.self.invariant.lanes there c.index_mut.ensures.value c.index_mut-2.ensures.value in
    let fits : length (spelled fr) ≤ l.room = omega (arith, made.long, made.fits, at.lane.roomy) in
    let call : CallMade (PutBytes (spelled fr)) (is_err c.put_frame.result) (told w) (told c.put_frame.new.wire) (faults w) (faults c.put_frame.new.wire) =
    subst (λ (b : List ℕ). CallMade (PutBytes b) (is_err c.put_frame.result) (told w) (told c.put_frame.new.wire) (faults w) (faults c.put_frame.new.wire)) frame c.put_frame.ensures.made in
    let is-put : IsPut s.layout s.format fr (is_err c.put_frame.result) (told w) (told c.put_frame.new.wire) (faults w) (faults c.put_frame.new.wire) l c.put_frame.new.lane =
    put-lane s.layout s.format fr (is_err c.put_frame.result) (told w) (told c.put_frame.new.wire) (faults w) (faults c.put_frame.new.wire) l c.put_frame.new.lane c.self.invariant.good at.lane made.good (sym made.format_is) fits call c.put_frame.ensures.counted in
    let done : Changed told faults s.layout s.format ws ls c.args.stream c.put_frame.new.wire c.put_frame.new.lane =
    changed told faults s.layout s.format ws ls c.args.stream c.put_frame.new.wire c.put_frame.new.lane c.self.invariant.lanes at.there is-put.lane in
    let after = get_or (seen_lanes told faults s.layout (set ws c.args.stream c.put_frame.new.wire) (set ls c.args.stream c.put_frame.new.lane)) c.args.stream no_lane in
    subst (λ (v : Streamed). FramePut (GroupFrame v.making) (is_err c.put_frame.result) (lane v c.args.stream) after) c.self.view_is
    (subst (λ (x : LaneSeen). FramePut fr (is_err c.put_frame.result) x after) (sym at.seen)
    (subst (λ (y : LaneSeen). FramePut fr (is_err c.put_frame.result) (seen_lane s.layout (told w) (faults w) l) y) (sym done.seen) is-put.seen))
