use Rattle.std.proofs.Common.{◌≡◌, ℕ, ◌<◌, List, length, get_or, set, sym, subst, arith}
use Rattle.std.specs.Prelude.{is_err}
use Rattle.xv_frame.specs.Frame.{Message}
use Rattle.xv_streams.specs.Groups.{messages_in, IsReceived}
use Rattle.xv_streams.specs.Streamed.{Streamed, LaneSeen, IsLaneOf, lane, seen_lanes, seen_lane, no_lane, GroupTaken, lent}
use Rattle.xv_streams.proofs.PutSteps.{Here, here, Changed, changed}
use Rattle.xv_streams.proofs.Zips.{length-seen, as-many}
use Rattle.xv_streams.proofs.streams.Streams.receive_group.Goals as goal

pub index_mut-requires : goal.index_mut-requires
index_mut-requires g c =
    let s = c.self.inside in
    let there : c.args.stream < length (seen_lanes g.W.Wire.told g.W.Wire.faults s.layout s.wires.items s.lanes.items) = subst (λ (v : Streamed). c.args.stream < length v.lanes) (sym c.self.view_is) c.requires.stream_in in
    omega (arith, there, length-seen g.W.Wire.told g.W.Wire.faults s.layout s.format s.wires.items s.lanes.items c.self.invariant.lanes, as-many g.W.Wire.told g.W.Wire.faults s.layout s.format s.wires.items s.lanes.items c.self.invariant.lanes, s.wires.ok.0)

pub index_mut-requires-2 : goal.index_mut-requires-2
index_mut-requires-2 g c =
    let s = c.self.inside in
    let there : c.args.stream < length (seen_lanes g.W.Wire.told g.W.Wire.faults s.layout s.wires.items s.lanes.items) = subst (λ (v : Streamed). c.args.stream < length v.lanes) (sym c.self.view_is) c.requires.stream_in in
    omega (arith, there, length-seen g.W.Wire.told g.W.Wire.faults s.layout s.format s.wires.items s.lanes.items c.self.invariant.lanes, s.lanes.ok.0)

pub receive_messages-requires : goal.receive_messages-requires
receive_messages-requires g c =
    let s = c.self.inside in
    let there : c.args.stream < length (seen_lanes g.W.Wire.told g.W.Wire.faults s.layout s.wires.items s.lanes.items) = subst (λ (v : Streamed). c.args.stream < length v.lanes) (sym c.self.view_is) c.requires.stream_in in
    let format : s.format ≡ 2 = subst (λ (v : Streamed). v.format ≡ 2) (sym c.self.view_is) c.requires.format in
    let told = g.W.Wire.told in
    let faults = g.W.Wire.faults in
    let ws = s.wires.items in
    let ls = s.lanes.items in
    let w = c.index_mut.result.now in
    let l = c.index_mut-2.result.now in
    let at : Here told faults s.layout s.format ws ls c.args.stream w l = here told faults s.layout s.format ws ls c.args.stream w l c.self.invariant.lanes there c.index_mut.ensures.value c.index_mut-2.ensures.value in
    record {
      good = c.self.invariant.good;
      lane = subst (λ (k : ℕ). IsLaneOf s.layout k (told w) l) format at.lane;
      received = subst (λ (k : ℕ). IsReceived s.layout k s.received) format c.self.invariant.got;
    }

pub invariant_of-self : goal.invariant_of-self
invariant_of-self g c =
    let s = c.self.inside in
    let there : c.args.stream < length (seen_lanes g.W.Wire.told g.W.Wire.faults s.layout s.wires.items s.lanes.items) = subst (λ (v : Streamed). c.args.stream < length v.lanes) (sym c.self.view_is) c.requires.stream_in in
    let format : s.format ≡ 2 = subst (λ (v : Streamed). v.format ≡ 2) (sym c.self.view_is) c.requires.format in
    let told = g.W.Wire.told in
    let faults = g.W.Wire.faults in
    let ws = s.wires.items in
    let ls = s.lanes.items in
    let w = c.index_mut.result.now in
    let l = c.index_mut-2.result.now in
    let at : Here told faults s.layout s.format ws ls c.args.stream w l = here told faults s.layout s.format ws ls c.args.stream w l c.self.invariant.lanes there c.index_mut.ensures.value c.index_mut-2.ensures.value in
    let wire = c.receive_messages.new.wire in
    let lane' = c.receive_messages.new.lane in
    let kept : IsLaneOf s.layout s.format (told wire) lane' = subst (λ (k : ℕ). IsLaneOf s.layout k (told wire) lane') (sym format) c.receive_messages.ensures.lane in
    let done : Changed told faults s.layout s.format ws ls c.args.stream wire lane' = changed told faults s.layout s.format ws ls c.args.stream wire lane' c.self.invariant.lanes at.there kept in
    record {
      lanes = done.lanes;
      good = c.self.invariant.good;
      room = c.self.invariant.room;
      formats = c.self.invariant.formats;
      making = c.self.invariant.making;
      got = subst (λ (k : ℕ). IsReceived s.layout k c.receive_messages.new.received) (sym format) c.receive_messages.ensures.received;
    }

pub returns-clause-others : goal.returns-clause-others
returns-clause-others g c =
    let s = c.self.inside in
    let there : c.args.stream < length (seen_lanes g.W.Wire.told g.W.Wire.faults s.layout s.wires.items s.lanes.items) = subst (λ (v : Streamed). c.args.stream < length v.lanes) (sym c.self.view_is) c.requires.stream_in in
    let format : s.format ≡ 2 = subst (λ (v : Streamed). v.format ≡ 2) (sym c.self.view_is) c.requires.format in
    let told = g.W.Wire.told in
    let faults = g.W.Wire.faults in
    let ws = s.wires.items in
    let ls = s.lanes.items in
    let w = c.index_mut.result.now in
    let l = c.index_mut-2.result.now in
    let at : Here told faults s.layout s.format ws ls c.args.stream w l = here told faults s.layout s.format ws ls c.args.stream w l c.self.invariant.lanes there c.index_mut.ensures.value c.index_mut-2.ensures.value in
    let wire = c.receive_messages.new.wire in
    let lane' = c.receive_messages.new.lane in
    let kept : IsLaneOf s.layout s.format (told wire) lane' = subst (λ (k : ℕ). IsLaneOf s.layout k (told wire) lane') (sym format) c.receive_messages.ensures.lane in
    let done : Changed told faults s.layout s.format ws ls c.args.stream wire lane' = changed told faults s.layout s.format ws ls c.args.stream wire lane' c.self.invariant.lanes at.there kept in
    let seen = seen_lanes told faults s.layout (set ws c.args.stream wire) (set ls c.args.stream lane') in
    let making : List Message = messages_in s.layout s.count s.frame.items in
    let messages : c.receive_messages.new.received.messages ≡ lent (is_err c.receive_messages.result) (get_or (seen_lanes told faults s.layout ws ls) c.args.stream no_lane) =
    subst (λ (x : LaneSeen). c.receive_messages.new.received.messages ≡ lent (is_err c.receive_messages.result) x) (sym at.seen) c.receive_messages.ensures.messages in
    subst (λ (v : Streamed). record { shape = s.layout; format = s.format; lanes = seen; making = making; got = c.receive_messages.new.received.messages }
    ≡ record v { lanes = set v.lanes c.args.stream (get_or seen c.args.stream no_lane); got = lent (is_err c.receive_messages.result) (lane v c.args.stream) }) c.self.view_is
    (λ i. record { shape = s.layout; format = s.format; lanes = done.only i; making = making; got = messages i })

pub returns-clause-taken : goal.returns-clause-taken
returns-clause-taken g c =
    let s = c.self.inside in
    let there : c.args.stream < length (seen_lanes g.W.Wire.told g.W.Wire.faults s.layout s.wires.items s.lanes.items) = subst (λ (v : Streamed). c.args.stream < length v.lanes) (sym c.self.view_is) c.requires.stream_in in
    let format : s.format ≡ 2 = subst (λ (v : Streamed). v.format ≡ 2) (sym c.self.view_is) c.requires.format in
    let told = g.W.Wire.told in
    let faults = g.W.Wire.faults in
    let ws = s.wires.items in
    let ls = s.lanes.items in
    let w = c.index_mut.result.now in
    let l = c.index_mut-2.result.now in
    let at : Here told faults s.layout s.format ws ls c.args.stream w l = here told faults s.layout s.format ws ls c.args.stream w l c.self.invariant.lanes there c.index_mut.ensures.value c.index_mut-2.ensures.value in
    let wire = c.receive_messages.new.wire in
    let lane' = c.receive_messages.new.lane in
    let kept : IsLaneOf s.layout s.format (told wire) lane' = subst (λ (k : ℕ). IsLaneOf s.layout k (told wire) lane') (sym format) c.receive_messages.ensures.lane in
    let done : Changed told faults s.layout s.format ws ls c.args.stream wire lane' = changed told faults s.layout s.format ws ls c.args.stream wire lane' c.self.invariant.lanes at.there kept in
    let after = get_or (seen_lanes told faults s.layout (set ws c.args.stream wire) (set ls c.args.stream lane')) c.args.stream no_lane in
    subst (λ (v : Streamed). GroupTaken v.shape c.receive_messages.result (lane v c.args.stream) after) c.self.view_is
    (subst (λ (x : LaneSeen). GroupTaken s.layout c.receive_messages.result x after) (sym at.seen)
    (subst (λ (y : LaneSeen). GroupTaken s.layout c.receive_messages.result (seen_lane s.layout (told w) (faults w) l) y) (sym done.seen) c.receive_messages.ensures.taken))
