use Rattle.std.proofs.Common.{◌∙◌}
use Rattle.xv_parts.proofs.Begun.{begun-is}
use Rattle.xv_parts.proofs.beginning.begin.Goals as goal

pub start-requires : goal.start-requires
start-requires c =
    let devices = c.in_ok-source.ensures in
    let wires = c.in_ok-wires.ensures in
    record {
      source = devices.source_fits;
      first = devices.source_begins;
      dest = devices.dest_fits;
      streams = wires.each_stream;
      wires = wires.wires_fit;
      back = wires.back_fits;
    }

pub returns-in-Ok : goal.returns-in-Ok
returns-in-Ok c =
    let devices = c.in_ok-source.ensures in
    let wires = c.in_ok-wires.ensures in
    record {
      begun = c.in-Ok.ensures.begun ∙ begun-is c.args.job c.in_ok-source.source c.in_ok-source.dest c.in_ok-wires.wires.items c.in_ok-wires.back devices.source devices.dest wires.wires wires.back;
    }
