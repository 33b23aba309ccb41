use Rattle.xv_device.proofs.Made.{after-made, fails-planned}
use Rattle.xv_device.proofs.memory.MemDeviceUnitDevice.read.Goals as goal

pub returns-clause-made : goal.returns-clause-made
returns-clause-made c = after-made _ _ _ _ c.read.ensures.after c.requires.countable (fails-planned _ c.args.self.now.reading c.requires.countable c.read.ensures.fails)
