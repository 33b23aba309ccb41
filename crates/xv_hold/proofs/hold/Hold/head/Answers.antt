use Rattle.std.proofs.Common.{rules, ◌≡◌, Some, None, subst, sym, ap, ◌∙◌}
use Rattle.std.proofs.lemmas.List.{get_or_read}
use Rattle.xv_hold.specs.Messages.{Hold, ready_slot}
use Rattle.xv_hold.specs.Arrival.{in_slot}
use Rattle.xv_hold.specs.Fields.{state_of}
use Rattle.xv_hold.proofs.FirstReady.{ready-in, head-is, IsReadyHead}
use Rattle.xv_hold.proofs.Walk.{held-within}
use Rattle.xv_hold.proofs.hold.Hold.head.Goals as goal

pub index-requires : goal.index-requires
index-requires c =
    let r = ready-in (state_of c.self.inside) c.self.invariant.0 c.args.slot (ap ready_slot c.self.view_is ∙ c.requires) in
    let within = held-within _ c.args.slot r.held r.is_held in
    search rules

pub unreachable-requires : goal.unreachable-requires
unreachable-requires c =
    let r = ready-in (state_of c.self.inside) c.self.invariant.0 c.args.slot (ap ready_slot c.self.view_is ∙ c.requires) in
    let within = held-within _ c.args.slot r.held r.is_held in
    let read = get_or_read c.self.inside.slots.items c.args.slot c.index.result.now within c.index.ensures None in
    absurd cc

-- the head of what the slot holds
read : (c : goal.After-result-1) → IsReadyHead c.args.self.now c.in-Some.held.head
read c =
    let ready = ap ready_slot c.self.view_is ∙ c.requires in
    let r = ready-in (state_of c.self.inside) c.self.invariant.0 c.args.slot ready in
    let within = held-within _ c.args.slot r.held r.is_held in
    let there : in_slot c.self.inside.slots.items c.args.slot ≡ Some c.in-Some.held =
    sym (get_or_read c.self.inside.slots.items c.args.slot c.index.result.now within c.index.ensures None) ∙ c.in-Some.is in
    subst (λ (v : Hold). IsReadyHead v c.in-Some.held.head) c.self.view_is (head-is (state_of c.self.inside) c.self.invariant.0 c.args.slot c.in-Some.held ready there)

pub returns-clause-exactly : goal.returns-clause-exactly
returns-clause-exactly c = (read c).exactly

pub returns-clause-in_range : goal.returns-clause-in_range
returns-clause-in_range c = (read c).in_range

pub returns-clause-next : goal.returns-clause-next
returns-clause-next c = (read c).next
