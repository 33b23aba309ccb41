use Rattle.std.proofs.Common.{◌≡◌, take}
use Rattle.xv_source.proofs.sending.add_first.Given as goal

abbrev pub invariant-loop-i : goal.invariant-loop-i
invariant-loop-i g l = l.streams ≡ record l.initial.streams { making = take l.i l.outbox.messages }
