use Rattle.std.proofs.Common.{◌≡◌, ◌++◌, take}
use Rattle.xv_base.proofs.text.LineBuf.push_all.Given as goal

-- the first of the bytes are appended
abbrev pub invariant-loop-byte : goal.invariant-loop-byte
invariant-loop-byte l = l.self ≡ l.initial.self ++ take l.byte-index l.bytes
