use Rattle.std.proofs.Common.{arith, rules, ◌≡◌, ◌+◌, ◌<◌, length, get_or, ap, sym, subst, refl}
use Rattle.std.proofs.lemmas.List.{length-map, get_or_read}
use Rattle.xv_base.specs.Units.{units, size}
use Rattle.xv_outbox.specs.declared.outbox.Queued.{Queued}
use Rattle.xv_outbox.specs.Messages.{Outbox}
use Rattle.xv_outbox.specs.Places.{message_of}
use Rattle.xv_outbox.proofs.Laid.{size-fits, laid-made, messages-made}
use Rattle.xv_outbox.proofs.Counted.{count-fits, counted-made}
use Rattle.xv_outbox.proofs.outbox.Outbox.issue.Goals as goal

pub put-requires-clause-fits : goal.put-requires-clause-fits
put-requires-clause-fits c =
    let unit : c.args.unit.0 < units c.self.inside.layout = subst (λ (o : Outbox). c.args.unit.0 < units o.shape) (sym c.self.view_is) c.requires.unit_in in
    let whole : length c.args.bytes.now ≡ size c.self.inside.layout c.args.unit.0 = subst (λ (o : Outbox). length c.args.bytes.now ≡ size o.shape c.args.unit.0) (sym c.self.view_is) c.requires.whole in
    omega (arith, size-fits _ _ _ _ _ _ _ c.self.invariant.0 _ unit)

pub overflow_add-index_mut : goal.overflow_add-index_mut
overflow_add-index_mut c =
    let unit : c.args.unit.0 < units c.self.inside.layout = subst (λ (o : Outbox). c.args.unit.0 < units o.shape) (sym c.self.view_is) c.requires.unit_in in
    let room : length c.self.inside.queue.items < c.self.inside.limit = omega (arith, ap (λ (o : Outbox). length o.messages) c.self.view_is, ap (λ (o : Outbox). o.limit) c.self.view_is, length-map c.self.inside.queue.items (message_of c.self.inside.layout c.self.inside.contents), c.requires.room) in
    let count : c.index_mut-2.result.now ≡ get_or c.self.inside.counts.items c.args.unit.0 0 =
    get_or_read c.self.inside.counts.items c.args.unit.0 c.index_mut-2.result.now (omega (arith, c.self.invariant.1.each)) c.index_mut-2.ensures.value 0 in
    let fits = count-fits c.self.inside.layout c.self.inside.limit c.self.inside.queue.items c.self.inside.counts.items c.self.invariant.1 c.self.invariant.0.small room c.args.unit.0 in
    search rules

pub invariant_of-self : goal.invariant_of-self
invariant_of-self c =
    let unit : c.args.unit.0 < units c.self.inside.layout = subst (λ (o : Outbox). c.args.unit.0 < units o.shape) (sym c.self.view_is) c.requires.unit_in in
    let room : length c.self.inside.queue.items < c.self.inside.limit = omega (arith, ap (λ (o : Outbox). length o.messages) c.self.view_is, ap (λ (o : Outbox). o.limit) c.self.view_is, length-map c.self.inside.queue.items (message_of c.self.inside.layout c.self.inside.contents), c.requires.room) in
    let q : Queued = record { head = record { unit = c.args.unit; version = c.index.result.now + 1; at = c.from.result }; slot = c.self.inside.next } in
    let counted = counted-made c.self.inside.layout c.self.inside.queue.items c.self.inside.counts.items c.self.invariant.1 q unit in
    let count : c.index_mut-2.result.now ≡ get_or c.self.inside.counts.items c.args.unit.0 0 =
    get_or_read c.self.inside.counts.items c.args.unit.0 c.index_mut-2.result.now (omega (arith, c.self.invariant.1.each)) c.index_mut-2.ensures.value 0 in
    rw (c.in-Ok.ensures.ok, c.put.ensures, c.following-self-inside.ensures, count)
    (laid-made _ _ _ _ _ _ _ c.self.invariant.0 room q refl unit c.args.bytes.now c.args.unit.0 (c.index.result.now + 1), counted)

pub returns-clause-after : goal.returns-clause-after
returns-clause-after c =
    let unit : c.args.unit.0 < units c.self.inside.layout = subst (λ (o : Outbox). c.args.unit.0 < units o.shape) (sym c.self.view_is) c.requires.unit_in in
    let whole : length c.args.bytes.now ≡ size c.self.inside.layout c.args.unit.0 = subst (λ (o : Outbox). length c.args.bytes.now ≡ size o.shape c.args.unit.0) (sym c.self.view_is) c.requires.whole in
    let room : length c.self.inside.queue.items < c.self.inside.limit = omega (arith, ap (λ (o : Outbox). length o.messages) c.self.view_is, ap (λ (o : Outbox). o.limit) c.self.view_is, length-map c.self.inside.queue.items (message_of c.self.inside.layout c.self.inside.contents), c.requires.room) in
    let q : Queued = record { head = record { unit = c.args.unit; version = c.index.result.now + 1; at = c.from.result }; slot = c.self.inside.next } in
    let at : c.from.result ≡ c.args.at = search rules in
    let numbered : c.args.unit.0 < length c.self.inside.issued.items = omega (arith, c.self.invariant.0.per_unit) in
    let version : c.index.result.now ≡ get_or c.self.inside.issued.items c.args.unit.0 0 =
    get_or_read c.self.inside.issued.items c.args.unit.0 c.index.result.now numbered c.index.ensures 0 in
    rw (← c.self.view_is, c.in-Ok.ensures.ok, c.put.ensures, messages-made _ _ _ _ _ _ _ c.self.invariant.0 room q refl c.args.bytes.now whole, version, at) refl
