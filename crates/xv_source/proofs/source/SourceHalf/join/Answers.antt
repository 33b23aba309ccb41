use Rattle.std.proofs.Common.{◌≡◌, ◌<◌, ◌++◌, ◌∷◌, [], ap, refl, arith, sym, subst, length, List, false}
use Rattle.std.proofs.lemmas.List.{length-map}
use Rattle.xv_base.specs.Units.{is_page, units}
use Rattle.xv_base.specs.declared.operation.Waiting.{Waiting}
use Rattle.xv_frame.specs.Frame.{Each}
use Rattle.xv_model.proofs.Layouts.{block_above}
use Rattle.xv_source.specs.Half.{Source}
use Rattle.xv_source.specs.Kept.{numbers_of, IsQueued}
use Rattle.xv_source.proofs.Queues.{absent, queue-at, each-push, kept-queue, queue-changed}
use Rattle.xv_source.proofs.source.SourceHalf.join.Goals as goal

pub join-requires-clause-absent : goal.join-requires-clause-absent
join-requires-clause-absent g c =
    let lt : c.args.disk < length c.self.inside.disks.items = omega (arith, ap (λ (h : Source). length h.disks) c.self.view_is, length-map c.self.inside.disks.items numbers_of, c.requires.disk_in) in
    absent c.args.self.now.disks c.args.disk c.args.waiting.guest.0 c.index_mut.result.now.queue c.requires.free
    (queue-at _ c.args.self.now c.self.inside.disks.items c.args.disk c.index_mut.result.now c.self.view_is refl lt c.index_mut.ensures.value)

pub invariant_of-self : goal.invariant_of-self
invariant_of-self g c =
    let lt : c.args.disk < length c.self.inside.disks.items = omega (arith, ap (λ (h : Source). length h.disks) c.self.view_is, length-map c.self.inside.disks.items numbers_of, c.requires.disk_in) in
    let s = c.self.inside.layout in
    let unit_in : c.args.waiting.unit.0 < units s = subst (λ (h : Source). c.args.waiting.unit.0 < units h.shape) (sym c.self.view_is) c.requires.unit_in in
    let block : is_page s c.args.waiting.unit.0 ≡ false = subst (λ (h : Source). is_page h.shape c.args.waiting.unit.0 ≡ false) (sym c.self.view_is) c.requires.block in
    kept-queue s _ _ c.self.inside.disks.items _ _ _ _ _ c.args.disk c.index_mut.result.now c.join.new.self c.self.invariant lt c.index_mut.ensures.value
    (λ each. subst (λ (ws : List Waiting). Each (IsQueued s) ws) (sym c.join.ensures) (each-push (IsQueued s) c.index_mut.result.now.queue c.args.waiting each (record { no_page = block_above s c.args.waiting.unit.0 block; in_range = unit_in })))

pub returns : goal.returns
returns g c =
    queue-changed (λ (ws : List Waiting). ws ++ c.args.waiting ∷ []) _ c.args.self.now c.self.inside.disks.items c.args.disk c.index_mut.result.now c.join.new.self
    c.self.view_is refl refl c.requires.disk_in c.index_mut.ensures.value c.join.ensures
