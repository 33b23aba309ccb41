use Rattle.std.proofs.Common.{arith}
use Rattle.xv_progress.proofs.Kept.{splits}
use Rattle.xv_progress.proofs.progress.Progress.split.Goals as goal

pub split_seat-requires : goal.split_seat-requires
split_seat-requires c = (cc, omega arith, splits _ _)
