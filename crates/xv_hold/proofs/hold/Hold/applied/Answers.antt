use Rattle.std.proofs.Common.{rules, ◌≡◌, ◌+◌, ◌<◌, ◌≤◌, ◌^◌, length, get_or, subst, sym, ap, ◌∙◌, arith, None}
use Rattle.std.proofs.lemmas.List.{get_or_read, length-set}
use Rattle.xv_hold.specs.Messages.{Hold, UnitHead, ready_slot, ready_message, written}
use Rattle.xv_hold.specs.Fields.{state_of}
use Rattle.xv_hold.specs.Kept.{seen_of, IsKept}
use Rattle.xv_hold.specs.Chains.{link}
use Rattle.xv_hold.proofs.FirstReady.{IsReadyIn, ready-in, ready-length}
use Rattle.xv_hold.proofs.Walk.{held-within}
use Rattle.xv_hold.proofs.Writing.{written_state, written-kept, seen-less, ready-head, next-within, count-some}
use Rattle.xv_hold.proofs.hold.Hold.applied.Goals as goal

pub index-next-requires : goal.index-next-requires
index-next-requires c =
    let h = c.self.invariant.0 in
    let r = ready-in (state_of c.self.inside) h c.args.slot (ap ready_slot c.self.view_is ∙ c.requires) in
    let within = held-within _ c.args.slot r.held r.is_held in
    let slots = h.slot_each in
    let links = h.link_each in
    search rules

pub index_mut-requires-3 : goal.index_mut-requires-3
index_mut-requires-3 c =
    let r = ready-in (state_of c.self.inside) c.self.invariant.0 c.args.slot (ap ready_slot c.self.view_is ∙ c.requires) in
    let within = held-within _ c.args.slot r.held r.is_held in
    search rules

pub set-requires : goal.set-requires
set-requires c =
    let h = c.self.invariant.0 in
    let r = ready-in (state_of c.self.inside) h c.args.slot (ap ready_slot c.self.view_is ∙ c.requires) in
    omega (arith, held-within _ c.args.slot r.held r.is_held, ready-length (state_of c.self.inside) h)

pub make_ready-requires : goal.make_ready-requires
make_ready-requires c =
    let h = c.self.invariant.0 in
    let r = ready-in (state_of c.self.inside) h c.args.slot (ap ready_slot c.self.view_is ∙ c.requires) in
    let within = held-within _ c.args.slot r.held r.is_held in
    let read : c.index-next.result.now ≡ link c.self.inside.links.items c.args.slot =
    get_or_read c.self.inside.links.items c.args.slot c.index-next.result.now (omega (arith, h.slot_each, h.link_each)) c.index-next.ensures None in
    rw (c.deref.ensures.value, c.set.ensures, length-set c.self.inside.slots.items c.args.slot None, length-set c.self.inside.ready c.args.slot None)
    (next-within (state_of c.self.inside) h c.args.slot r c.index-next.result.now read)

-- the message that is ready in the slot
ready : (c : goal.After-make_ready) → IsReadyIn (state_of c.self.inside) c.args.slot
ready c = ready-in (state_of c.self.inside) c.self.invariant.0 c.args.slot (ap ready_slot c.self.view_is ∙ c.requires)

head-read : (c : goal.After-make_ready) → (ready c).held.head ≡ c.head-version.result
head-read c = sym (ready-head (state_of c.self.inside) c.args.slot (ready c)) ∙ ap (λ (v : Hold). (ready_message v).head) c.self.view_is ∙ sym c.head-version.ensures.exactly

small : (c : goal.After-make_ready) → (ready c).held.head.version < 2 ^ 32
small c = let fits : c.head-version.result.version < 2 ^ 32 = search rules in subst (λ (x : UnitHead). x.version < 2 ^ 32) (sym (head-read c)) fits

link-read : (c : goal.After-make_ready) → c.index-next.result.now ≡ link c.self.inside.links.items c.args.slot
link-read c =
    let h = c.self.invariant.0 in
    let within = held-within _ c.args.slot (ready c).held (ready c).is_held in
    get_or_read c.self.inside.links.items c.args.slot c.index-next.result.now (omega (arith, h.slot_each, h.link_each)) c.index-next.ensures None

unit-in : (c : goal.After-make_ready) → c.head-version.result.unit.0 < length c.self.inside.applied.items
unit-in c =
    let h = c.self.invariant.0 in
    let own = ap (λ (x : UnitHead). x.unit.0) (head-read c) in
    omega (arith, (h.held_in c.args.slot (ready c).held (ready c).is_held).unit_in, h.applied_each)

end-read : (c : goal.After-make_ready) → c.index.result.now ≡ link c.self.inside.ends.items c.head-version.result.unit.0
end-read c =
    let h = c.self.invariant.0 in
    get_or_read c.self.inside.ends.items c.head-version.result.unit.0 c.index.result.now (omega (arith, unit-in c, h.end_each, h.applied_each)) c.index.ensures None

count-read : (c : goal.After-make_ready) → c.index_mut-6.result.now ≡ get_or c.self.inside.counts.items c.head-version.result.unit.0 0
count-read c =
    let h = c.self.invariant.0 in
    get_or_read c.self.inside.counts.items c.head-version.result.unit.0 c.index_mut-6.result.now (omega (arith, unit-in c, h.count_each, h.applied_each)) c.index_mut-6.ensures.value 0

first-is : (c : goal.After-make_ready) → c.self.inside.limit + c.head-version.result.unit.0 ≡ length c.self.inside.slots.items + c.head-version.result.unit.0
first-is c = let all = c.self.invariant.0.slot_each in omega arith

pub invariant_of-self : goal.invariant_of-self
invariant_of-self c =
    let kept : IsKept (written_state (state_of c.self.inside) c.args.slot c.head-version.result) =
    subst (λ (x : UnitHead). IsKept (written_state (state_of c.self.inside) c.args.slot x)) (head-read c) (written-kept (state_of c.self.inside) c.self.invariant.0 c.args.slot (ready c) (small c)) in (
      rw (c.make_ready.ensures, c.deref.ensures.value, c.set.ensures, c.end_without.ensures, c.in-Ok.ensures.items, first-is c, link-read c, end-read c, count-read c) kept,
      omega (arith, c.self.invariant.1, c.in-Ok.ensures.capacity),
    )

pub returns : goal.returns
returns c =
    let less : seen_of (written_state (state_of c.self.inside) c.args.slot c.head-version.result) ≡ written (seen_of (state_of c.self.inside)) =
    subst (λ (x : UnitHead). seen_of (written_state (state_of c.self.inside) c.args.slot x) ≡ written (seen_of (state_of c.self.inside))) (head-read c) (seen-less (state_of c.self.inside) c.self.invariant.0 c.args.slot (ready c) (small c)) in
    less ∙ ap written c.self.view_is

pub overflow_sub-index_mut : goal.overflow_sub-index_mut
overflow_sub-index_mut c =
    let h = c.self.invariant.0 in
    let r = ready-in (state_of c.self.inside) h c.args.slot (ap ready_slot c.self.view_is ∙ c.requires) in
    let head : r.held.head ≡ c.head-version.result = sym (ready-head (state_of c.self.inside) c.args.slot r) ∙ ap (λ (v : Hold). (ready_message v).head) c.self.view_is ∙ sym c.head-version.ensures.exactly in
    let fits : c.head-version.result.version < 2 ^ 32 = search rules in
    let low : r.held.head.version < 2 ^ 32 = subst (λ (x : UnitHead). x.version < 2 ^ 32) (sym head) fits in
    let some : 1 ≤ get_or c.self.inside.counts.items c.head-version.result.unit.0 0 =
    subst (λ (x : UnitHead). 1 ≤ get_or c.self.inside.counts.items x.unit.0 0) head (count-some (state_of c.self.inside) h c.args.slot r low) in
    let unit : c.head-version.result.unit.0 < length c.self.inside.counts.items =
    subst (λ (x : UnitHead). x.unit.0 < length c.self.inside.counts.items) head (omega (arith, (h.held_in c.args.slot r.held r.is_held).unit_in, h.count_each)) in
    let read : c.index_mut-6.result.now ≡ get_or c.self.inside.counts.items c.head-version.result.unit.0 0 =
    get_or_read c.self.inside.counts.items c.head-version.result.unit.0 c.index_mut-6.result.now unit c.index_mut-6.ensures.value 0 in
    omega arith
