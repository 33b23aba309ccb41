use Rattle.xv_frame.proofs.Sound.{head-sound}
use Rattle.xv_frame.proofs.heads.decode_head.Goals as goal

pub returns-clause-spelled : goal.returns-clause-spelled
returns-clause-spelled c = head-sound c.args.layout.now c.args.head.now _ c.fits-head c.told-head c.read_head.ensures.exactly
