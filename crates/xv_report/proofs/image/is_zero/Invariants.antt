use Rattle.std.proofs.Common.{◌≡◌, ◌==◌, take}
use Rattle.xv_report.specs.Texts.{is_zero}
use Rattle.xv_report.proofs.image.is_zero.Given as goal

-- whether the first bytes are zero
abbrev pub invariant-loop-byte : goal.invariant-loop-byte
invariant-loop-byte l = (l.joined == 0) ≡ is_zero (take l.byte-index l.bytes)
