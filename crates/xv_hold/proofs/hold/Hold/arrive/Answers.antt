use Rattle.std.proofs.Common.{rules, ◌≡◌, ◌<◌, length, get_or, subst, sym, arith, None}
use Rattle.std.proofs.lemmas.List.{get_or_read}
use Rattle.xv_base.specs.Units.{units, size}
use Rattle.xv_hold.specs.Messages.{Hold, version, copies}
use Rattle.xv_hold.specs.Fields.{state_of}
use Rattle.xv_hold.specs.Kept.{seen_of}
use Rattle.xv_hold.specs.Chains.{link, IsLastBelow}
use Rattle.xv_hold.proofs.Chained.{walkable}
use Rattle.xv_hold.proofs.FirstReady.{size-fits, ready-length}
use Rattle.xv_hold.proofs.Arriving.{Arrives, seen-more, arrived-kept, popped-in, arrivals-fit, count-fits}
use Rattle.xv_hold.proofs.hold.Hold.arrive.Goals as goal

pub link_below-before-requires-clause-walkable : goal.link_below-before-requires-clause-walkable
link_below-before-requires-clause-walkable c =
    let h = c.self.invariant.0 in
    let unit : c.args.head.unit.0 < units c.self.inside.layout = subst (λ (v : Hold). c.args.head.unit.0 < units v.shape) (sym c.self.view_is) c.requires.unit_in in
    rw (c.deref.ensures.value, c.deref-2.ensures.value)
    (walkable c.self.inside.slots.items c.self.inside.links.items c.self.inside.applied.items h.chained (omega (arith, h.link_each, h.slot_each, h.applied_each)) c.args.head.unit.0 (omega (arith, h.applied_each)))

pub link_below-before-requires-clause-end : goal.link_below-before-requires-clause-end
link_below-before-requires-clause-end c =
    let h = c.self.invariant.0 in
    let unit : c.args.head.unit.0 < units c.self.inside.layout = subst (λ (v : Hold). c.args.head.unit.0 < units v.shape) (sym c.self.view_is) c.requires.unit_in in
    let read : c.index-end.result.now ≡ link c.self.inside.ends.items c.args.head.unit.0 =
    get_or_read c.self.inside.ends.items c.args.head.unit.0 c.index-end.result.now (omega (arith, h.end_each)) c.index-end.ensures None in
    rw (c.deref.ensures.value, c.deref-2.ensures.value, read) (h.ended c.args.head.unit.0 unit)

pub index_mut-requires : goal.index_mut-requires
index_mut-requires c =
    let h = c.self.invariant.0 in
    let within = popped-in (state_of c.self.inside) h c.in-Some.slot _ c.in-Some.ensures.items in
    let all = h.link_each in
    search rules

pub index_mut-requires-4 : goal.index_mut-requires-4
index_mut-requires-4 c =
    let h = c.self.invariant.0 in
    let within = popped-in (state_of c.self.inside) h c.in-Some.slot _ c.in-Some.ensures.items in
    let all = h.slot_each in
    search rules

pub put-requires-clause-slot_in : goal.put-requires-clause-slot_in
put-requires-clause-slot_in c =
    let h = c.self.invariant.0 in
    omega (arith, popped-in (state_of c.self.inside) h c.in-Some.slot _ c.in-Some.ensures.items, h.row_each)

pub put-requires-clause-fits : goal.put-requires-clause-fits
put-requires-clause-fits c =
    let unit : c.args.head.unit.0 < units c.self.inside.layout = subst (λ (v : Hold). c.args.head.unit.0 < units v.shape) (sym c.self.view_is) c.requires.unit_in in
    let whole : length c.args.bytes.now ≡ size c.self.inside.layout c.args.head.unit.0 = subst (λ (v : Hold). length c.args.bytes.now ≡ size v.shape c.args.head.unit.0) (sym c.self.view_is) c.requires.whole in
    omega (arith, size-fits (state_of c.self.inside) c.self.invariant.0 c.args.head.unit.0 unit)

pub set-requires : goal.set-requires
set-requires c =
    let h = c.self.invariant.0 in
    omega (arith, popped-in (state_of c.self.inside) h c.in-Some.slot _ c.in-Some.ensures.items, h.slot_each, ready-length (state_of c.self.inside) h)

pub overflow_add-self : goal.overflow_add-self
overflow_add-self c =
    let room : length (seen_of (state_of c.self.inside)).messages < c.self.inside.limit = subst (λ (v : Hold). length v.messages < v.limit) (sym c.self.view_is) c.requires.room in
    let fits = arrivals-fit (state_of c.self.inside) c.self.invariant.0 room in
    search rules

pub overflow_add-index_mut : goal.overflow_add-index_mut
overflow_add-index_mut c =
    let h = c.self.invariant.0 in
    let unit : c.args.head.unit.0 < units c.self.inside.layout = subst (λ (v : Hold). c.args.head.unit.0 < units v.shape) (sym c.self.view_is) c.requires.unit_in in
    let room : length (seen_of (state_of c.self.inside)).messages < c.self.inside.limit = subst (λ (v : Hold). length v.messages < v.limit) (sym c.self.view_is) c.requires.room in
    let read : c.index_mut-5.result.now ≡ get_or c.self.inside.counts.items c.args.head.unit.0 0 =
    get_or_read c.self.inside.counts.items c.args.head.unit.0 c.index_mut-5.result.now (omega (arith, h.count_each)) c.index_mut-5.ensures.value 0 in
    let fits = count-fits (state_of c.self.inside) h room c.args.head.unit.0 in
    search rules

-- the message arrives in the slot that was taken, where the walk has found its place
arrives : (c : goal.After-self-6-1) → Arrives (state_of c.self.inside) c.in-Some.slot c.pop.new.self.items c.link_below-before.result c.args.head c.args.bytes.now
arrives c = record {
  popped = c.in-Some.ensures.items;
  place = subst (λ l. IsLastBelow c.self.inside.slots.items l c.args.head.unit.0 c.args.head.version c.link_below-before.result) c.deref-2.ensures.value
      (subst (λ xs. IsLastBelow xs c.deref-2.result.now c.args.head.unit.0 c.args.head.version c.link_below-before.result) c.deref.ensures.value c.link_below-before.ensures);
  unit_in = subst (λ (v : Hold). c.args.head.unit.0 < units v.shape) (sym c.self.view_is) c.requires.unit_in;
  whole = subst (λ (v : Hold). length c.args.bytes.now ≡ size v.shape c.args.head.unit.0) (sym c.self.view_is) c.requires.whole;
  unwritten = subst (λ (v : Hold). version v c.args.head.unit.0 < c.args.head.version) (sym c.self.view_is) c.requires.unwritten;
  not_held = subst (λ (v : Hold). copies v c.args.head.unit.0 c.args.head.version ≡ 0) (sym c.self.view_is) c.requires.not_held;
}

-- what was read of the links, of the last slots, of the counts and of the versions
link-read : (c : goal.After-self-6-1) → c.index-next.result.now ≡ link c.self.inside.links.items c.link_below-before.result
link-read c = get_or_read c.self.inside.links.items c.link_below-before.result c.index-next.result.now (arrives c).place.link_in c.index-next.ensures None

end-read : (c : goal.After-self-6-1) → c.index-end.result.now ≡ link c.self.inside.ends.items c.args.head.unit.0
end-read c =
    let within : c.args.head.unit.0 < length c.self.inside.ends.items = omega (arith, (arrives c).unit_in, c.self.invariant.0.end_each) in
    get_or_read c.self.inside.ends.items c.args.head.unit.0 c.index-end.result.now within c.index-end.ensures None

count-read : (c : goal.After-self-6-1) → c.index_mut-5.result.now ≡ get_or c.self.inside.counts.items c.args.head.unit.0 0
count-read c =
    let within : c.args.head.unit.0 < length c.self.inside.counts.items = omega (arith, (arrives c).unit_in, c.self.invariant.0.count_each) in
    get_or_read c.self.inside.counts.items c.args.head.unit.0 c.index_mut-5.result.now within c.index_mut-5.ensures.value 0

version-read : (c : goal.After-self-6-1) → c.index-version.result.now ≡ get_or c.self.inside.applied.items c.args.head.unit.0 0
version-read c =
    let within : c.args.head.unit.0 < length c.self.inside.applied.items = omega (arith, (arrives c).unit_in, c.self.invariant.0.applied_each) in
    get_or_read c.self.inside.applied.items c.args.head.unit.0 c.index-version.result.now within c.index-version.ensures 0

pub invariant_of-self : goal.invariant_of-self
invariant_of-self c =
    let a = arrives c in (
      rw (c.put.ensures, c.set.ensures, c.ready_after.ensures, c.end_with.ensures, version-read c, link-read c, end-read c, count-read c)
          (arrived-kept (state_of c.self.inside) c.self.invariant.0 c.in-Some.slot c.pop.new.self.items c.link_below-before.result c.args.head c.args.bytes.now a),
      omega (arith, c.self.invariant.1, c.in-Some.ensures.capacity),
    )

pub returns : goal.returns
returns c =
    let a = arrives c in
    rw (← c.self.view_is, c.put.ensures)
    (seen-more (state_of c.self.inside) c.self.invariant.0 c.in-Some.slot c.pop.new.self.items c.link_below-before.result c.args.head c.args.bytes.now a)
