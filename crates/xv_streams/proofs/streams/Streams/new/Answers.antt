use Rattle.std.proofs.Common.{◌≡◌, ℕ, List, length, replicate, refl, sym, ap, ◌∙◌, subst, arith}
use Rattle.xv_streams.specs.Gathered.{Gathered}
use Rattle.xv_streams.specs.Streamed.{AreLanesOf, seen_lanes, frame_room}
use Rattle.xv_streams.specs.Groups.{Received, IsReceived}
use Rattle.xv_streams.proofs.MakingSteps.{none-left}
use Rattle.xv_streams.proofs.FreshLanes.{fresh, fresh-are, fresh-seen}
use Rattle.xv_streams.proofs.streams.Streams.new.Goals as goal

pub invariant_of-result : goal.invariant_of-result
invariant_of-result g c =
    let ws = c.args.wires.items in
    let room : c.frame_room-room.result ≡ frame_room c.args.layout c.args.format = c.frame_room-room.ensures.room in
    let many : c.len.result ≡ length ws = omega (arith, c.len.ensures, c.args.wires.ok.0) in
    let is : c.in-Ok.lanes.items ≡ replicate (length ws) (fresh c.frame_room-room.result) = c.in-Ok.ensures ∙ ap (λ (n : ℕ). replicate n (fresh c.frame_room-room.result)) many in
    record {
      lanes = subst (λ (ls : List Gathered). AreLanesOf g.W.Wire.told c.args.layout c.args.format ws ls) (sym is) (fresh-are g.W.Wire.told g.W.Wire.faults c.args.layout c.args.format c.frame_room-room.result ws c.requires.none room);
      good = c.frame_room-room.ensures.good;
      room = omega (arith, c.in-Ok-from_elem.ensures.len, c.in-Ok-from_elem.frame.ok.0, room);
      formats = c.requires.format;
      making = none-left c.args.layout c.args.format c.in-Ok-from_elem.frame.items;
      got = subst (λ (r : Received). IsReceived c.args.layout c.args.format r) (sym c.in-Ok-new.ensures)
          (record { rooms = λ i. replicate (c.most_received.ensures i) (c.max_size-size.ensures.exactly i); each = tt; none = λ e. refl });
    }

pub returns-clause-empty : goal.returns-clause-empty
returns-clause-empty g c =
    let ws = c.args.wires.items in
    let many : c.len.result ≡ length ws = omega (arith, c.len.ensures, c.args.wires.ok.0) in
    let is : c.in-Ok.lanes.items ≡ replicate (length ws) (fresh c.frame_room-room.result) = c.in-Ok.ensures ∙ ap (λ (n : ℕ). replicate n (fresh c.frame_room-room.result)) many in
    ap (λ (ls : List Gathered). seen_lanes g.W.Wire.told g.W.Wire.faults c.args.layout ws ls) is
    ∙ fresh-seen g.W.Wire.told g.W.Wire.faults c.args.layout c.args.format c.frame_room-room.result ws c.requires.none
