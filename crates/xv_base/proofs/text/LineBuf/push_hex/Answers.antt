use Rattle.std.proofs.Common.{length, arith, ap, length-append, ◌∙◌, ◌∷◌, [], ◌++◌, ℕ}
use Rattle.xv_base.proofs.Hexes.{length_behind, digits_behind}
use Rattle.xv_base.proofs.text.LineBuf.push_hex.Goals as goal

pub push-requires : goal.push-requires
push-requires c = omega (arith, length_behind _ _ c.args.bytes.now c.loop-byte.byte-index (omega arith) c.loop-byte.invariant)

pub push-requires-in-loop-byte : goal.push-requires-in-loop-byte
push-requires-in-loop-byte c =
    omega (arith, length_behind _ _ c.args.bytes.now c.loop-byte.byte-index (omega arith) c.loop-byte.invariant, ap length c.push.ensures, length-append c.loop-byte.self (c.hex_digit.result ∷ []))

pub loop-byte-preserved : goal.loop-byte-preserved
loop-byte-preserved c =
    digits_behind c.loop-byte.self c.args.self.now c.args.bytes.now c.push.new.self c.push-in-loop-byte.new.self c.loop-byte.byte-index (omega arith) c.loop-byte.invariant
    (c.push.ensures ∙ ap (λ (d : ℕ). c.loop-byte.self ++ d ∷ []) c.hex_digit.ensures)
    (c.push-in-loop-byte.ensures ∙ ap (λ (d : ℕ). c.push.new.self ++ d ∷ []) c.hex_digit-in-loop-byte.ensures)

pub returns-clause-long : goal.returns-clause-long
returns-clause-long c = omega (arith, length_behind _ _ c.args.bytes.now c.loop-byte.byte-index (omega arith) c.loop-byte.invariant)
