use Rattle.std.proofs.Common.{◌≡◌, ◌++◌, take}
use Rattle.xv_base.specs.Hex.{hex}
use Rattle.xv_base.proofs.text.LineBuf.push_hex.Given as goal

-- the digits of the first bytes are appended
abbrev pub invariant-loop-byte : goal.invariant-loop-byte
invariant-loop-byte l = l.self ≡ l.initial.self ++ hex (take l.byte-index l.bytes)
