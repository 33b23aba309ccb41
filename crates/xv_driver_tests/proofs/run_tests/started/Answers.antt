use Rattle.xv_driver_tests.proofs.run_tests.started.Goals as goal

pub start-requires : goal.start-requires
start-requires c =
    let devices = c.in_ok-source.ensures in
    let wires = c.in_ok-wires.ensures in
    record {
      source = devices.source_fits;
      first = devices.source_begins;
      dest = devices.dest_fits;
      streams = wires.each_stream;
      wires = wires.wires;
      back = wires.back;
    }
