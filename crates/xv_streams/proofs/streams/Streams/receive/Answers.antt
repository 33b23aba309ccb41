use Rattle.std.proofs.Common.{◌≡◌, ℕ, ◌<◌, ◌≤◌, List, length, get_or, set, take, sym, ap, subst, arith}
use Rattle.xv_base.specs.Units.{max_size}
use Rattle.xv_streams.specs.Streamed.{Streamed, LaneSeen, IsLaneOf, lane, seen_lanes, seen_lane, no_lane, MessageTaken, first_group, content_of_first}
use Rattle.xv_frame.specs.Frame.{Message}
use Rattle.xv_streams.specs.Groups.{messages_in}
use Rattle.xv_streams.proofs.PutSteps.{Here, here, Changed, changed}
use Rattle.xv_streams.proofs.Zips.{length-seen, as-many}
use Rattle.xv_streams.proofs.streams.Streams.receive.Goals as goal

pub index_mut-requires : goal.index_mut-requires
index_mut-requires g c =
    let s = c.self.inside in
    let there : c.args.stream < length (seen_lanes g.W.Wire.told g.W.Wire.faults s.layout s.wires.items s.lanes.items) = subst (λ (v : Streamed). c.args.stream < length v.lanes) (sym c.self.view_is) c.requires.stream_in in
    omega (arith, there, length-seen g.W.Wire.told g.W.Wire.faults s.layout s.format s.wires.items s.lanes.items c.self.invariant.lanes, as-many g.W.Wire.told g.W.Wire.faults s.layout s.format s.wires.items s.lanes.items c.self.invariant.lanes, s.wires.ok.0)

pub index_mut-requires-2 : goal.index_mut-requires-2
index_mut-requires-2 g c =
    let s = c.self.inside in
    let there : c.args.stream < length (seen_lanes g.W.Wire.told g.W.Wire.faults s.layout s.wires.items s.lanes.items) = subst (λ (v : Streamed). c.args.stream < length v.lanes) (sym c.self.view_is) c.requires.stream_in in
    omega (arith, there, length-seen g.W.Wire.told g.W.Wire.faults s.layout s.format s.wires.items s.lanes.items c.self.invariant.lanes, s.lanes.ok.0)

pub receive_message-requires : goal.receive_message-requires
receive_message-requires g c =
    let s = c.self.inside in
    let told = g.W.Wire.told in
    let faults = g.W.Wire.faults in
    let ws = s.wires.items in
    let ls = s.lanes.items in
    let w = c.index_mut.result.now in
    let l = c.index_mut-2.result.now in
    let there : c.args.stream < length (seen_lanes told faults s.layout ws ls) = subst (λ (v : Streamed). c.args.stream < length v.lanes) (sym c.self.view_is) c.requires.stream_in in
    let at : Here told faults s.layout s.format ws ls c.args.stream w l = here told faults s.layout s.format ws ls c.args.stream w l c.self.invariant.lanes there c.index_mut.ensures.value c.index_mut-2.ensures.value in
    let format : s.format ≡ 1 = subst (λ (v : Streamed). v.format ≡ 1) (sym c.self.view_is) c.requires.format in
    record {
      good = c.self.invariant.good;
      lane = subst (λ (k : ℕ). IsLaneOf s.layout k (told w) l) format at.lane;
      room = subst (λ (v : Streamed). max_size v.shape ≤ length c.args.into.now) (sym c.self.view_is) c.requires.room;
    }

pub invariant_of-self : goal.invariant_of-self
invariant_of-self g c =
    let s = c.self.inside in
    let told = g.W.Wire.told in
    let faults = g.W.Wire.faults in
    let ws = s.wires.items in
    let ls = s.lanes.items in
    let w = c.index_mut.result.now in
    let l = c.index_mut-2.result.now in
    let there : c.args.stream < length (seen_lanes told faults s.layout ws ls) = subst (λ (v : Streamed). c.args.stream < length v.lanes) (sym c.self.view_is) c.requires.stream_in in
    let at : Here told faults s.layout s.format ws ls c.args.stream w l = here told faults s.layout s.format ws ls c.args.stream w l c.self.invariant.lanes there c.index_mut.ensures.value c.index_mut-2.ensures.value in
    let format : s.format ≡ 1 = subst (λ (v : Streamed). v.format ≡ 1) (sym c.self.view_is) c.requires.format in
    let lane' : IsLaneOf s.layout s.format (told c.receive_message.new.wire) c.receive_message.new.lane = subst (λ (k : ℕ). IsLaneOf s.layout k (told c.receive_message.new.wire) c.receive_message.new.lane) (sym format) c.receive_message.ensures.lane in
    let done : Changed told faults s.layout s.format ws ls c.args.stream c.receive_message.new.wire c.receive_message.new.lane =
    changed told faults s.layout s.format ws ls c.args.stream c.receive_message.new.wire c.receive_message.new.lane c.self.invariant.lanes at.there lane' in
    record { lanes = done.lanes; good = c.self.invariant.good; room = c.self.invariant.room; formats = c.self.invariant.formats; making = c.self.invariant.making; got = c.self.invariant.got }

pub returns-clause-others : goal.returns-clause-others
returns-clause-others g c =
    let s = c.self.inside in
    let told = g.W.Wire.told in
    let faults = g.W.Wire.faults in
    let ws = s.wires.items in
    let ls = s.lanes.items in
    let w = c.index_mut.result.now in
    let l = c.index_mut-2.result.now in
    let there : c.args.stream < length (seen_lanes told faults s.layout ws ls) = subst (λ (v : Streamed). c.args.stream < length v.lanes) (sym c.self.view_is) c.requires.stream_in in
    let at : Here told faults s.layout s.format ws ls c.args.stream w l = here told faults s.layout s.format ws ls c.args.stream w l c.self.invariant.lanes there c.index_mut.ensures.value c.index_mut-2.ensures.value in
    let format : s.format ≡ 1 = subst (λ (v : Streamed). v.format ≡ 1) (sym c.self.view_is) c.requires.format in
    let lane' : IsLaneOf s.layout s.format (told c.receive_message.new.wire) c.receive_message.new.lane = subst (λ (k : ℕ). IsLaneOf s.layout k (told c.receive_message.new.wire) c.receive_message.new.lane) (sym format) c.receive_message.ensures.lane in
    let done : Changed told faults s.layout s.format ws ls c.args.stream c.receive_message.new.wire c.receive_message.new.lane =
    changed told faults s.layout s.format ws ls c.args.stream c.receive_message.new.wire c.receive_message.new.lane c.self.invariant.lanes at.there lane' in
    let making : List Message = messages_in s.layout s.count s.frame.items in
    subst (λ (v : Streamed). record { shape = s.layout; format = s.format; lanes = seen_lanes told faults s.layout (set ws c.args.stream c.receive_message.new.wire) (set ls c.args.stream c.receive_message.new.lane); making = making; got = s.received.messages }
    ≡ record v { lanes = set v.lanes c.args.stream (get_or (seen_lanes told faults s.layout (set ws c.args.stream c.receive_message.new.wire) (set ls c.args.stream c.receive_message.new.lane)) c.args.stream no_lane) }) c.self.view_is
    (ap (λ (xs : List LaneSeen). record { shape = s.layout; format = s.format; lanes = xs; making = making; got = s.received.messages }) done.only)

pub returns-clause-taken : goal.returns-clause-taken
returns-clause-taken g c =
    let s = c.self.inside in
    let told = g.W.Wire.told in
    let faults = g.W.Wire.faults in
    let ws = s.wires.items in
    let ls = s.lanes.items in
    let w = c.index_mut.result.now in
    let l = c.index_mut-2.result.now in
    let there : c.args.stream < length (seen_lanes told faults s.layout ws ls) = subst (λ (v : Streamed). c.args.stream < length v.lanes) (sym c.self.view_is) c.requires.stream_in in
    let at : Here told faults s.layout s.format ws ls c.args.stream w l = here told faults s.layout s.format ws ls c.args.stream w l c.self.invariant.lanes there c.index_mut.ensures.value c.index_mut-2.ensures.value in
    let format : s.format ≡ 1 = subst (λ (v : Streamed). v.format ≡ 1) (sym c.self.view_is) c.requires.format in
    let lane' : IsLaneOf s.layout s.format (told c.receive_message.new.wire) c.receive_message.new.lane = subst (λ (k : ℕ). IsLaneOf s.layout k (told c.receive_message.new.wire) c.receive_message.new.lane) (sym format) c.receive_message.ensures.lane in
    let done : Changed told faults s.layout s.format ws ls c.args.stream c.receive_message.new.wire c.receive_message.new.lane =
    changed told faults s.layout s.format ws ls c.args.stream c.receive_message.new.wire c.receive_message.new.lane c.self.invariant.lanes at.there lane' in
    let after = get_or (seen_lanes told faults s.layout (set ws c.args.stream c.receive_message.new.wire) (set ls c.args.stream c.receive_message.new.lane)) c.args.stream no_lane in
    subst (λ (v : Streamed). MessageTaken v.shape c.receive_message.result (take (length (content_of_first (first_group (lane v c.args.stream).groups))) c.receive_message.new.into) (lane v c.args.stream) after) c.self.view_is
    (subst (λ (x : LaneSeen). MessageTaken s.layout c.receive_message.result (take (length (content_of_first (first_group x.groups))) c.receive_message.new.into) x after) (sym at.seen)
    (subst (λ (y : LaneSeen). MessageTaken s.layout c.receive_message.result (take (length (content_of_first (first_group (seen_lane s.layout (told w) (faults w) l).groups))) c.receive_message.new.into) (seen_lane s.layout (told w) (faults w) l) y) (sym done.seen) c.receive_message.ensures.taken))
