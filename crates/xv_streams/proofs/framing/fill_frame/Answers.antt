use Rattle.std.proofs.Common.{◌≡◌, ℕ, List, length, take, arith, Bool, false, true, subst, sym, ap, ◌∙◌}
use Rattle.std.specs.Prelude.{is_some, Some}
use Rattle.std.proofs.lemmas.List.{take-take}
use Rattle.xv_frame.specs.Size.{frame_size}
use Rattle.xv_streams.specs.Lanes.{FrameTaken}
use Rattle.xv_streams.proofs.FrameTakes.{Fills, fills-from, head-failed, head-none, head-known, size-known, rest-taken}
use Rattle.xv_streams.proofs.framing.fill_frame.Goals as goal

pub returns-then-head-clause-taken : goal.returns-then-head-clause-taken
returns-then-head-clause-taken g c =
    let t = g.W.Wire.told c.args.wire.now in
    let u = g.W.Wire.told c.fill-head.new.wire in
    let f = g.W.Wire.faults c.args.wire.now in
    let k = g.W.Wire.faults c.fill-head.new.wire in
    let s = c.args.layout.now in
    let old : List ℕ = take c.args.have c.args.buffer.now in
    let new : List ℕ = take c.fill-head.result.count c.fill-head.new.buffer in
    let h = c.fill-head.ensures in
    let fills : Fills old new c.args.have c.fill-head.result.count c.max.result c.fill-head.result.failed t u f k =
    fills-from c.args.buffer.now c.fill-head.new.buffer c.args.have c.fill-head.result.count c.max.result c.fill-head.result.failed t u f k
    h.more h.most (omega (arith, c.max.ensures, c.requires.room, c.requires.within)) c.fill-head.auto.buffer h.there h.gathered h.made h.enough in
    let failed : Fills old new c.args.have c.fill-head.result.count c.max.result true t u f k = subst (λ (b : Bool). Fills old new c.args.have c.fill-head.result.count c.max.result b t u f k) c.if-head.true fills in
    subst (λ (b : Bool). FrameTaken s old new b t u f k) (sym c.if-head.true)
    (head-failed s (length c.args.buffer.now) old new c.args.have c.fill-head.result.count c.max.result t u f k c.requires.lane failed c.max.ensures)

pub returns-then-head-lt-HEAD_SIZE-clause-taken : goal.returns-then-head-lt-HEAD_SIZE-clause-taken
returns-then-head-lt-HEAD_SIZE-clause-taken g c =
    let t = g.W.Wire.told c.args.wire.now in
    let u = g.W.Wire.told c.fill-head.new.wire in
    let f = g.W.Wire.faults c.args.wire.now in
    let k = g.W.Wire.faults c.fill-head.new.wire in
    let s = c.args.layout.now in
    let old : List ℕ = take c.args.have c.args.buffer.now in
    let new : List ℕ = take c.fill-head.result.count c.fill-head.new.buffer in
    let h = c.fill-head.ensures in
    let fills : Fills old new c.args.have c.fill-head.result.count c.max.result c.fill-head.result.failed t u f k =
    fills-from c.args.buffer.now c.fill-head.new.buffer c.args.have c.fill-head.result.count c.max.result c.fill-head.result.failed t u f k
    h.more h.most (omega (arith, c.max.ensures, c.requires.room, c.requires.within)) c.fill-head.auto.buffer h.there h.gathered h.made h.enough in
    let went : Fills old new c.args.have c.fill-head.result.count c.max.result false t u f k = subst (λ (b : Bool). Fills old new c.args.have c.fill-head.result.count c.max.result b t u f k) c.if-head.false fills in
    subst (λ (b : Bool). FrameTaken s old new b t u f k) (sym c.if-head.false)
    (head-none s (length c.args.buffer.now) old new c.args.have c.fill-head.result.count c.max.result t u f k c.requires.lane went c.max.ensures c.if-head-lt-HEAD_SIZE.true)

pub known_size-size-requires-clause-known : goal.known_size-size-requires-clause-known
known_size-size-requires-clause-known g c =
    let t = g.W.Wire.told c.args.wire.now in
    let u = g.W.Wire.told c.fill-head.new.wire in
    let f = g.W.Wire.faults c.args.wire.now in
    let k = g.W.Wire.faults c.fill-head.new.wire in
    let s = c.args.layout.now in
    let old : List ℕ = take c.args.have c.args.buffer.now in
    let new : List ℕ = take c.fill-head.result.count c.fill-head.new.buffer in
    let h = c.fill-head.ensures in
    let fills : Fills old new c.args.have c.fill-head.result.count c.max.result c.fill-head.result.failed t u f k =
    fills-from c.args.buffer.now c.fill-head.new.buffer c.args.have c.fill-head.result.count c.max.result c.fill-head.result.failed t u f k
    h.more h.most (omega (arith, c.max.ensures, c.requires.room, c.requires.within)) c.fill-head.auto.buffer h.there h.gathered h.made h.enough in
    let went : Fills old new c.args.have c.fill-head.result.count c.max.result false t u f k = subst (λ (b : Bool). Fills old new c.args.have c.fill-head.result.count c.max.result b t u f k) c.if-head.false fills in
    subst (λ (b : List ℕ). is_some (frame_size s b) ≡ true) (take-take 24 c.fill-head.result.count c.fill-head.new.buffer c.if-head-lt-HEAD_SIZE.false)
    (size-known s (length c.args.buffer.now) old new c.args.have c.fill-head.result.count c.max.result t u f k c.requires.good c.requires.lane went c.max.ensures c.if-head-lt-HEAD_SIZE.false)

pub fill-requires-clause-within : goal.fill-requires-clause-within
fill-requires-clause-within g c =
    let t = g.W.Wire.told c.args.wire.now in
    let u = g.W.Wire.told c.fill-head.new.wire in
    let f = g.W.Wire.faults c.args.wire.now in
    let k = g.W.Wire.faults c.fill-head.new.wire in
    let s = c.args.layout.now in
    let old : List ℕ = take c.args.have c.args.buffer.now in
    let new : List ℕ = take c.fill-head.result.count c.fill-head.new.buffer in
    let h = c.fill-head.ensures in
    let fills : Fills old new c.args.have c.fill-head.result.count c.max.result c.fill-head.result.failed t u f k =
    fills-from c.args.buffer.now c.fill-head.new.buffer c.args.have c.fill-head.result.count c.max.result c.fill-head.result.failed t u f k
    h.more h.most (omega (arith, c.max.ensures, c.requires.room, c.requires.within)) c.fill-head.auto.buffer h.there h.gathered h.made h.enough in
    let went : Fills old new c.args.have c.fill-head.result.count c.max.result false t u f k = subst (λ (b : Bool). Fills old new c.args.have c.fill-head.result.count c.max.result b t u f k) c.if-head.false fills in
    let told : frame_size s (take 24 new) ≡ Some c.known_size-size.result = ap (frame_size s) (take-take 24 c.fill-head.result.count c.fill-head.new.buffer c.if-head-lt-HEAD_SIZE.false) ∙ c.known_size-size.ensures in
    (head-known s (length c.args.buffer.now) old new c.args.have c.fill-head.result.count c.max.result c.known_size-size.result t u f k c.requires.good c.requires.lane went c.max.ensures c.if-head-lt-HEAD_SIZE.false told).within

pub fill-requires-clause-room : goal.fill-requires-clause-room
fill-requires-clause-room g c =
    let t = g.W.Wire.told c.args.wire.now in
    let u = g.W.Wire.told c.fill-head.new.wire in
    let f = g.W.Wire.faults c.args.wire.now in
    let k = g.W.Wire.faults c.fill-head.new.wire in
    let s = c.args.layout.now in
    let old : List ℕ = take c.args.have c.args.buffer.now in
    let new : List ℕ = take c.fill-head.result.count c.fill-head.new.buffer in
    let h = c.fill-head.ensures in
    let fills : Fills old new c.args.have c.fill-head.result.count c.max.result c.fill-head.result.failed t u f k =
    fills-from c.args.buffer.now c.fill-head.new.buffer c.args.have c.fill-head.result.count c.max.result c.fill-head.result.failed t u f k
    h.more h.most (omega (arith, c.max.ensures, c.requires.room, c.requires.within)) c.fill-head.auto.buffer h.there h.gathered h.made h.enough in
    let went : Fills old new c.args.have c.fill-head.result.count c.max.result false t u f k = subst (λ (b : Bool). Fills old new c.args.have c.fill-head.result.count c.max.result b t u f k) c.if-head.false fills in
    let told : frame_size s (take 24 new) ≡ Some c.known_size-size.result = ap (frame_size s) (take-take 24 c.fill-head.result.count c.fill-head.new.buffer c.if-head-lt-HEAD_SIZE.false) ∙ c.known_size-size.ensures in
    let known = head-known s (length c.args.buffer.now) old new c.args.have c.fill-head.result.count c.max.result c.known_size-size.result t u f k c.requires.good c.requires.lane went c.max.ensures c.if-head-lt-HEAD_SIZE.false told in
    omega (arith, known.fits, c.fill-head.auto.buffer)

pub returns-clause-taken : goal.returns-clause-taken
returns-clause-taken g c =
    let t = g.W.Wire.told c.args.wire.now in
    let u = g.W.Wire.told c.fill-head.new.wire in
    let v = g.W.Wire.told c.fill.new.wire in
    let f = g.W.Wire.faults c.args.wire.now in
    let k = g.W.Wire.faults c.fill-head.new.wire in
    let j = g.W.Wire.faults c.fill.new.wire in
    let s = c.args.layout.now in
    let old : List ℕ = take c.args.have c.args.buffer.now in
    let mid : List ℕ = take c.fill-head.result.count c.fill-head.new.buffer in
    let new : List ℕ = take c.fill.result.count c.fill.new.buffer in
    let h = c.fill-head.ensures in
    let r = c.fill.ensures in
    let fills : Fills old mid c.args.have c.fill-head.result.count c.max.result c.fill-head.result.failed t u f k =
    fills-from c.args.buffer.now c.fill-head.new.buffer c.args.have c.fill-head.result.count c.max.result c.fill-head.result.failed t u f k
    h.more h.most (omega (arith, c.max.ensures, c.requires.room, c.requires.within)) c.fill-head.auto.buffer h.there h.gathered h.made h.enough in
    let went : Fills old mid c.args.have c.fill-head.result.count c.max.result false t u f k = subst (λ (b : Bool). Fills old mid c.args.have c.fill-head.result.count c.max.result b t u f k) c.if-head.false fills in
    let told : frame_size s (take 24 mid) ≡ Some c.known_size-size.result = ap (frame_size s) (take-take 24 c.fill-head.result.count c.fill-head.new.buffer c.if-head-lt-HEAD_SIZE.false) ∙ c.known_size-size.ensures in
    let known = head-known s (length c.args.buffer.now) old mid c.args.have c.fill-head.result.count c.max.result c.known_size-size.result t u f k c.requires.good c.requires.lane went c.max.ensures c.if-head-lt-HEAD_SIZE.false told in
    let rest : Fills mid new c.fill-head.result.count c.fill.result.count c.known_size-size.result c.fill.result.failed u v k j =
    fills-from c.fill-head.new.buffer c.fill.new.buffer c.fill-head.result.count c.fill.result.count c.known_size-size.result c.fill.result.failed u v k j
    r.more r.most (omega (arith, known.fits, c.fill-head.auto.buffer)) c.fill.auto.buffer r.there r.gathered r.made r.enough in
    rest-taken s (length c.args.buffer.now) old mid new c.args.have c.fill-head.result.count c.max.result c.known_size-size.result c.fill.result.count c.fill.result.failed t u v f k j
    went known c.max.ensures c.if-head-lt-HEAD_SIZE.false rest
