use Rattle.std.proofs.Common.{◌≡◌, length}
use Rattle.xv_base.specs.Units.{max_size}
use Rattle.xv_guest.proofs.Unmigrated.{IsRunTo}
use Rattle.xv_guest.proofs.plain.PlainGuest.run.Given as goal

abbrev pub invariant-loop-i : goal.invariant-loop-i
invariant-loop-i l = IsRunTo l.layout l.init l.traces l.history.entries l.i l.device l.read.items l.next.items × (length l.buffer.items ≡ max_size l.layout)
