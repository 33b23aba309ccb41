use Rattle.std.proofs.Common.{subst}
use Rattle.xv_device.specs.Told.{IsSized}
use Rattle.xv_device.specs.Memory.{Device, told}
use Rattle.xv_device.proofs.Sized.{whole-sized}
use Rattle.xv_device.proofs.memory.MemDevice.layout.Goals as goal

pub returns-clause-sized : goal.returns-clause-sized
returns-clause-sized c = subst (λ (d : Device). IsSized (told d)) c.self.view_is (whole-sized _ _ _ c.self.invariant c.self.inside.reading c.self.inside.writing c.self.inside.flushing)
