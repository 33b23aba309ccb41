use Rattle.std.proofs.Common.{arith, ◌∙◌}
use Rattle.xv_progress.proofs.Kept.{splits, retires, no_number}
use Rattle.xv_progress.proofs.progress.Progress.new.Goals as goal

pub split_seat-reading-requires : goal.split_seat-reading-requires
split_seat-reading-requires c = let made = c.in-Ok.ensures in (made.2, omega (arith, made.0), splits _ _)

pub load-requires : goal.load-requires
load-requires c =
    let made = c.in-Ok.ensures in
    let cut = c.split_seat-reading.ensures in
    (cut.3 ∙ made.2, omega (arith, made.0), rw (cut.4, made.4) (retires _ _ _ no_number))
