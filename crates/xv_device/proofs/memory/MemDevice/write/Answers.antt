use Rattle.xv_device.proofs.Made.{patch-writes}
use Rattle.xv_device.proofs.memory.MemDevice.write.Goals as goal

pub returns-clause-after : goal.returns-clause-after
returns-clause-after c = patch-writes _ _ _ _ _ c.patch.ensures.sized c.requires.unit_in c.requires.whole c.patch.ensures.after
