-- A device in memory on which no call was made was just made.
use Rattle.std.proofs.Common.{◌≡◌, List, ap}
use Rattle.xv_base.specs.declared.pattern.Init.{Init}
use Rattle.xv_base.specs.Units.{Shape}
use Rattle.xv_device.specs.Device.{Plan}
use Rattle.xv_device.specs.Told.{IsSized}
use Rattle.xv_device.specs.Memory.{Device, fresh, counted, told, faults}
use Rattle.xv_device.specs.Files.{IsMade}

pub fresh_made : (s : Shape) (init : List Init) (p : Plan) (d : Device) → d ≡ fresh s init p → IsSized (told d) → IsMade s init (told d) (faults d)
fresh_made s init p d e sized = record {
  layout = ap (λ (x : Device). x.shape) e;
  unwritten = ap (λ (x : Device). x.writes) e;
  uncalled = ap (λ (x : Device). (counted x).calls) e;
  contents = ap (λ (x : Device). x.contents) e;
  sized = sized;
  no_fault = ap (λ (x : Device). faults x) e;
}
