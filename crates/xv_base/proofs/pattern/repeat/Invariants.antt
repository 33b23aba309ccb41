use Rattle.std.proofs.Common.{◌≡◌, ◌≤◌, ◌-◌, ◌%◌, ◌⊎◌, length, min, take}
use Rattle.xv_base.specs.Pattern.{repeated}
use Rattle.xv_base.proofs.pattern.repeat.Given as goal

-- the first bytes are filled, by whole patterns or to the end
abbrev pub invariant-loop-done : goal.invariant-loop-done
invariant-loop-done l =
    (take l.done l.into ≡ repeated l.bytes l.done) × (l.done ≤ length l.into) × (length l.into ≡ length l.fn.into)
    × (min (length l.bytes) (length l.into) ≤ l.done) × ((l.done % length l.bytes ≡ 0) ⊎ (l.done ≡ length l.into))

abbrev pub decreases-loop-done : goal.decreases-loop-done
decreases-loop-done l = length l.into - l.done
