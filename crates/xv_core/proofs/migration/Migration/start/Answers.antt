use Rattle.xv_core.proofs.Beginning.Given.{fit-inside, begun-with, handed-back}
use Rattle.xv_core.proofs.migration.Migration.start.Goals as goal

pub with_parts-requires-clause-source : goal.with_parts-requires-clause-source
with_parts-requires-clause-source g c = (fit-inside g.W.Wire.told _ _ c.parts.view_is c.requires).source

pub with_parts-requires-clause-first : goal.with_parts-requires-clause-first
with_parts-requires-clause-first g c = (fit-inside g.W.Wire.told _ _ c.parts.view_is c.requires).first

pub with_parts-requires-clause-dest : goal.with_parts-requires-clause-dest
with_parts-requires-clause-dest g c = (fit-inside g.W.Wire.told _ _ c.parts.view_is c.requires).dest

pub with_parts-requires-clause-streams : goal.with_parts-requires-clause-streams
with_parts-requires-clause-streams g c = (fit-inside g.W.Wire.told _ _ c.parts.view_is c.requires).streams

pub with_parts-requires-clause-wires : goal.with_parts-requires-clause-wires
with_parts-requires-clause-wires g c = (fit-inside g.W.Wire.told _ _ c.parts.view_is c.requires).wires

pub with_parts-requires-clause-back : goal.with_parts-requires-clause-back
with_parts-requires-clause-back g c = (fit-inside g.W.Wire.told _ _ c.parts.view_is c.requires).back

pub returns-clause-begun : goal.returns-clause-begun
returns-clause-begun g c =
    let inside = c.parts.inside in
    begun-with g.W.Wire.told g.W.Wire.faults _ c.args.parts inside.job _ _ inside.wires.items inside.back c.parts.view_is c.with_parts.ensures.begun

pub returns-clause-again : goal.returns-clause-again
returns-clause-again g c =
    let inside = c.parts.inside in
    let is = c.with_parts.ensures in
    handed-back _ c.args.parts inside.job _ _ inside.wires.items inside.back c.parts.view_is is.job is.source is.dest is.wires is.back
