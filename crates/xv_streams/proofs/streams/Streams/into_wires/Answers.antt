use Rattle.std.proofs.Common.{map, ap, ◌∙◌}
use Rattle.xv_streams.specs.Streamed.{Streamed, LaneSeen}
use Rattle.xv_streams.proofs.FreshLanes.{wires-seen, faults-seen}
use Rattle.xv_streams.proofs.streams.Streams.into_wires.Goals as goal

pub returns-clause-told : goal.returns-clause-told
returns-clause-told g c =
    let s = c.self.inside in
    wires-seen g.W.Wire.told g.W.Wire.faults s.layout s.format 0 s.wires.items s.lanes.items c.self.invariant.lanes
    ∙ ap (λ (v : Streamed). map (λ (l : LaneSeen). l.wire) v.lanes) c.self.view_is

pub returns-clause-faults : goal.returns-clause-faults
returns-clause-faults g c =
    let s = c.self.inside in
    faults-seen g.W.Wire.told g.W.Wire.faults s.layout s.format 0 s.wires.items s.lanes.items c.self.invariant.lanes
    ∙ ap (λ (v : Streamed). map (λ (l : LaneSeen). l.faults) v.lanes) c.self.view_is
