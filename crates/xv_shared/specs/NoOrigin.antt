-- An origin that stands for none: that of a job in which there is nothing.
use Rattle.std.specs.Prelude.{[], None}
use Rattle.xv_core.specs.Seen.{Seen, no_wire}
use Rattle.xv_device.specs.Told.{Told}
use Rattle.xv_base.specs.Units.{shape_of}

abbrev no_device : Told
no_device = record { shape = shape_of 0 0 []; writes = []; contents = None; counted = None }

abbrev pub no_origin : Seen
no_origin = record {
  job = record {
    shape = shape_of 0 0 [];
    format = 0;
    group = 0;
    config = record { streams = 0; credit = 0; outbox = 0; region = 0; rounds = 0; dirty = 0; cancel = None };
    faults = [];
    init = [];
    traces = [];
  };
  journal = [];
  reads = [];
  regions = [];
  outbox = [];
  held = [];
  source = record { told = no_device; faults = 0 };
  dest = record { told = no_device; faults = 0 };
  wires = [];
  back = no_wire;
}
