use Rattle.xv_base.proofs.Sums.{padded-over}
use Rattle.xv_base.proofs.layout.begin_with.Goals as goal

pub returns : goal.returns
returns c = rw c.copy_from_slice.ensures.after (padded-over _ c.args.disks.now c.args.padded.now c.requires.blanks)
