use Rattle.std.proofs.Common.{◌∙◌, ap, sym, subst, map, length, List}
use Rattle.std.proofs.lemmas.List.{length-map}
use Rattle.xv_frame.specs.Frame.{Each}
use Rattle.xv_wire.specs.Told.{Told}
use Rattle.xv_streams.specs.Streamed.{LaneSeen, fresh_lane}
use Rattle.xv_job.specs.Written.{Written, job_of}
use Rattle.xv_core.specs.Seen.{OnWire}
use Rattle.xv_core.specs.State.{on_source, on_dest, on_back}
use Rattle.xv_core.specs.Beginning.{IsWireFor, stream_room, back_room, fresh_wire, begun}
use Rattle.xv_core.specs.Fresh.{IsFreshLane}
use Rattle.xv_core.proofs.Beginning.Begun.{fresh-each, fresh-wires, fresh-back}
use Rattle.xv_core.proofs.migration.Migration.with_halves.Goals as goal

pub new-requires-clause-none : goal.new-requires-clause-none
new-requires-clause-none g c = λ k d lt. (c.requires.wires k d lt).none

pub join-requires-clause-state : goal.join-requires-clause-state
join-requires-clause-state g c =
    let made = c.in-Ok.ensures in
    let back = c.new-in-Ok.ensures in
    let room = stream_room (job_of c.args.job) in
    record {
      source_half = c.requires.half;
      source_device = c.requires.source;
      first = c.requires.first;
      dest_half = c.requires.other_half;
      dest_device = c.requires.dest;
      layout = made.shape ∙ ap (λ (w : Written). w.shape) c.job.view_is;
      format = made.format ∙ ap (λ (w : Written). w.format) c.job.view_is;
      none_made = made.making;
      each_stream = ap (λ (lanes : List LaneSeen). length lanes) made.empty ∙ length-map c.args.wires.items (λ w. fresh_lane (g.W.Wire.told w) (g.W.Wire.faults w)) ∙ c.requires.streams;
      lanes = subst (λ (lanes : List LaneSeen). Each (IsFreshLane room) lanes) (sym made.empty) (fresh-each g.W.Wire.told g.W.Wire.faults room c.args.wires.items c.requires.wires);
      counts = back.counts;
      gathered = back.gathered;
      back_wire = subst (λ (told : Told). IsWireFor (back_room (job_of c.args.job)) told) (sym back.wire) c.requires.back;
    }

pub returns-in-Ok-clause-begun : goal.returns-in-Ok-clause-begun
returns-in-Ok-clause-begun g c =
    let back = c.new-in-Ok.ensures in
    let streams = c.in-Ok.streams in
    let wires = map (λ w. fresh_wire (g.W.Wire.told w) (g.W.Wire.faults w)) c.args.wires.items in
    c.join.ensures
    ∙ ap (λ (ws : List OnWire). begun c.args.job (on_source c.args.source) (on_dest c.args.dest) ws (on_back c.new-in-Ok.result)) (fresh-wires g.W.Wire.told g.W.Wire.faults c.args.wires.items streams.lanes c.in-Ok.ensures.empty)
    ∙ ap (λ (b : OnWire). begun c.args.job (on_source c.args.source) (on_dest c.args.dest) wires b) (fresh-back (g.W.Wire.told c.args.back) (g.W.Wire.faults c.args.back) c.new-in-Ok.result back.gathered back.wire back.faults)
