use Rattle.std.proofs.Common.{◌≡◌, ◌<◌, ℕ, true, get_or}
use Rattle.xv_model.specs.View.{no_disk, is_empty}
use Rattle.xv_core.proofs.telling.are_empty.Given as goal

abbrev pub invariant-loop-disk : goal.invariant-loop-disk
invariant-loop-disk g l = (k : ℕ) → k < l.disk → is_empty (get_or l.source.disks k no_disk).queue ≡ true
