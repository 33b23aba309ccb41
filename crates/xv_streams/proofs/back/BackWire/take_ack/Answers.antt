use Rattle.std.proofs.Common.{◌≡◌, ℕ, ◌-◌, ◌<◌, List, [], take, sym, ap, ◌∙◌, subst, arith, Bool, true, false, Ok, Err, Some, None}
use Rattle.std.proofs.lemmas.List.{take_all}
use Rattle.xv_frame.specs.Fields.{word_at}
use Rattle.xv_streams.specs.Returned.{Returned, returned, AckTaken}
use Rattle.xv_streams.proofs.FrameTakes.{Fills, fills-from}
use Rattle.xv_streams.proofs.BackSteps.{IsAckTaken, ack-failed, ack-none, ack-some}
use Rattle.xv_streams.proofs.back.BackWire.take_ack.Goals as goal

pub invariant_of-self : goal.invariant_of-self
invariant_of-self g c =
    let b = c.self.inside in
    let t = g.W.Wire.told b.wire in
    let u = g.W.Wire.told c.fill-filled.new.wire in
    let f = g.W.Wire.faults b.wire in
    let k = g.W.Wire.faults c.fill-filled.new.wire in
    let old : List ℕ = take b.count b.head in
    let new : List ℕ = take c.fill-filled.result.count c.fill-filled.new.buffer in
    let h = c.fill-filled.ensures in
    let fills : Fills old new b.count c.fill-filled.result.count 24 c.fill-filled.result.failed t u f k =
    fills-from b.head c.fill-filled.new.buffer b.count c.fill-filled.result.count 24 c.fill-filled.result.failed t u f k
    h.more h.most (omega (arith, c.self.told)) c.fill-filled.auto.buffer h.there h.gathered h.made h.enough in
    let went : Fills old new b.count c.fill-filled.result.count 24 true t u f k = subst (λ (x : Bool). Fills old new b.count c.fill-filled.result.count 24 x t u f k) c.if-filled.true fills in
    let is : IsAckTaken (Err (record {})) b.waiting old new t u f k = ack-failed (record {}) old new b.count c.fill-filled.result.count b.waiting t u f k c.self.invariant.0 c.self.invariant.1 went in
    (is.back, h.most)

pub returns-then-filled : goal.returns-then-filled
returns-then-filled g c =
    let b = c.self.inside in
    let t = g.W.Wire.told b.wire in
    let u = g.W.Wire.told c.fill-filled.new.wire in
    let f = g.W.Wire.faults b.wire in
    let k = g.W.Wire.faults c.fill-filled.new.wire in
    let old : List ℕ = take b.count b.head in
    let new : List ℕ = take c.fill-filled.result.count c.fill-filled.new.buffer in
    let h = c.fill-filled.ensures in
    let fills : Fills old new b.count c.fill-filled.result.count 24 c.fill-filled.result.failed t u f k =
    fills-from b.head c.fill-filled.new.buffer b.count c.fill-filled.result.count 24 c.fill-filled.result.failed t u f k
    h.more h.most (omega (arith, c.self.told)) c.fill-filled.auto.buffer h.there h.gathered h.made h.enough in
    let went : Fills old new b.count c.fill-filled.result.count 24 true t u f k = subst (λ (x : Bool). Fills old new b.count c.fill-filled.result.count 24 x t u f k) c.if-filled.true fills in
    let is : IsAckTaken (Err (record {})) b.waiting old new t u f k = ack-failed (record {}) old new b.count c.fill-filled.result.count b.waiting t u f k c.self.invariant.0 c.self.invariant.1 went in
    subst (λ (v : Returned). AckTaken (Err (record {})) v (returned new u k)) c.self.view_is is.seen

pub returns-then-filled-lt-HEAD_SIZE : goal.returns-then-filled-lt-HEAD_SIZE
returns-then-filled-lt-HEAD_SIZE g c =
    let b = c.self.inside in
    let t = g.W.Wire.told b.wire in
    let u = g.W.Wire.told c.fill-filled.new.wire in
    let f = g.W.Wire.faults b.wire in
    let k = g.W.Wire.faults c.fill-filled.new.wire in
    let old : List ℕ = take b.count b.head in
    let new : List ℕ = take c.fill-filled.result.count c.fill-filled.new.buffer in
    let h = c.fill-filled.ensures in
    let fills : Fills old new b.count c.fill-filled.result.count 24 c.fill-filled.result.failed t u f k =
    fills-from b.head c.fill-filled.new.buffer b.count c.fill-filled.result.count 24 c.fill-filled.result.failed t u f k
    h.more h.most (omega (arith, c.self.told)) c.fill-filled.auto.buffer h.there h.gathered h.made h.enough in
    let went : Fills old new b.count c.fill-filled.result.count 24 false t u f k = subst (λ (x : Bool). Fills old new b.count c.fill-filled.result.count 24 x t u f k) c.if-filled.false fills in
    let is : IsAckTaken (Ok None) b.waiting old new t u f k = ack-none old new b.count c.fill-filled.result.count b.waiting t u f k c.self.invariant.0 c.self.invariant.1 went c.if-filled-lt-HEAD_SIZE.true in
    subst (λ (v : Returned). AckTaken (Ok None) v (returned new u k)) c.self.view_is is.seen

pub invariant_of-self-2 : goal.invariant_of-self-2
invariant_of-self-2 g c =
    let b = c.self.inside in
    let t = g.W.Wire.told b.wire in
    let u = g.W.Wire.told c.fill-filled.new.wire in
    let f = g.W.Wire.faults b.wire in
    let k = g.W.Wire.faults c.fill-filled.new.wire in
    let old : List ℕ = take b.count b.head in
    let new : List ℕ = take c.fill-filled.result.count c.fill-filled.new.buffer in
    let h = c.fill-filled.ensures in
    let fills : Fills old new b.count c.fill-filled.result.count 24 c.fill-filled.result.failed t u f k =
    fills-from b.head c.fill-filled.new.buffer b.count c.fill-filled.result.count 24 c.fill-filled.result.failed t u f k
    h.more h.most (omega (arith, c.self.told)) c.fill-filled.auto.buffer h.there h.gathered h.made h.enough in
    let went : Fills old new b.count c.fill-filled.result.count 24 false t u f k = subst (λ (x : Bool). Fills old new b.count c.fill-filled.result.count 24 x t u f k) c.if-filled.false fills in
    let both : IsAckTaken (Ok (Some (word_at new 8))) (b.waiting - 1) old [] t u f k × (0 < b.waiting) = ack-some old new b.count c.fill-filled.result.count b.waiting t u f k c.self.invariant.0 c.self.invariant.1 went c.if-filled-lt-HEAD_SIZE.false in
    (both.0.back, omega arith)

pub returns : goal.returns
returns g c =
    let b = c.self.inside in
    let t = g.W.Wire.told b.wire in
    let u = g.W.Wire.told c.fill-filled.new.wire in
    let f = g.W.Wire.faults b.wire in
    let k = g.W.Wire.faults c.fill-filled.new.wire in
    let old : List ℕ = take b.count b.head in
    let new : List ℕ = take c.fill-filled.result.count c.fill-filled.new.buffer in
    let h = c.fill-filled.ensures in
    let fills : Fills old new b.count c.fill-filled.result.count 24 c.fill-filled.result.failed t u f k =
    fills-from b.head c.fill-filled.new.buffer b.count c.fill-filled.result.count 24 c.fill-filled.result.failed t u f k
    h.more h.most (omega (arith, c.self.told)) c.fill-filled.auto.buffer h.there h.gathered h.made h.enough in
    let went : Fills old new b.count c.fill-filled.result.count 24 false t u f k = subst (λ (x : Bool). Fills old new b.count c.fill-filled.result.count 24 x t u f k) c.if-filled.false fills in
    let both : IsAckTaken (Ok (Some (word_at new 8))) (b.waiting - 1) old [] t u f k × (0 < b.waiting) = ack-some old new b.count c.fill-filled.result.count b.waiting t u f k c.self.invariant.0 c.self.invariant.1 went c.if-filled-lt-HEAD_SIZE.false in
    let whole : new ≡ c.fill-filled.new.buffer = take_all c.fill-filled.result.count c.fill-filled.new.buffer (omega (arith, c.fill-filled.auto.buffer, c.self.told, c.if-filled-lt-HEAD_SIZE.false)) in
    let read : c.count_of.result ≡ word_at new 8 = c.count_of.ensures ∙ ap (λ (x : List ℕ). word_at x 8) (sym whole) in
    subst (λ (v : Returned). AckTaken (Ok (Some c.count_of.result)) v (returned [] u k)) c.self.view_is
    (subst (λ (n : ℕ). AckTaken (Ok (Some n)) (returned old t f) (returned [] u k)) (sym read) both.0.seen)
