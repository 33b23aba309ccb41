use Rattle.std.proofs.Common.{◌≡◌, ◌*◌, ◌-◌, ◌≤◌, length, take}
use Rattle.xv_base.specs.Hex.{hex}
use Rattle.xv_report.proofs.image.put_hex.Given as goal

-- the digits of the first bytes are there
abbrev pub invariant-loop-done : goal.invariant-loop-done
invariant-loop-done l =
    (l.done ≤ length l.bytes) × (length l.digits ≡ 2 * length l.bytes) × (take (2 * l.done) l.digits ≡ hex (take l.done l.bytes))

abbrev pub decreases-loop-done : goal.decreases-loop-done
decreases-loop-done l = length l.bytes - l.done

abbrev pub invariant-loop-i : goal.invariant-loop-i
invariant-loop-i l = (length l.digits ≡ 2 * length l.bytes) × (take (2 * l.i) l.digits ≡ hex (take l.i l.bytes))
