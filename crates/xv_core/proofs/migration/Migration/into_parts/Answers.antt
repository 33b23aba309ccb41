use Rattle.std.proofs.Common.{◌∙◌, map, ap}
use Rattle.xv_core.specs.Seen.{Seen, OnWire}
use Rattle.xv_core.proofs.Totals.Told.{wires-told, wires-faults}
use Rattle.xv_core.proofs.migration.Migration.into_parts.Goals as goal

pub returns-clause-wires : goal.returns-clause-wires
returns-clause-wires g c =
    c.into_wires-wires.ensures.told
    ∙ wires-told c.self.inside.streams.lanes
    ∙ ap (λ (m : Seen). map (λ (w : OnWire). w.told) m.wires) c.self.view_is

pub returns-clause-wires_faults : goal.returns-clause-wires_faults
returns-clause-wires_faults g c =
    c.into_wires-wires.ensures.faults
    ∙ wires-faults c.self.inside.streams.lanes
    ∙ ap (λ (m : Seen). map (λ (w : OnWire). w.faults) m.wires) c.self.view_is
