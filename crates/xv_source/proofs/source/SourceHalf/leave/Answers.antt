use Rattle.std.proofs.Common.{◌<◌, ap, refl, arith, sym, subst, length, drop, List}
use Rattle.std.proofs.lemmas.List.{length-map}
use Rattle.xv_base.specs.declared.operation.Waiting.{Waiting}
use Rattle.xv_frame.specs.Frame.{Each}
use Rattle.xv_source.specs.Half.{Source}
use Rattle.xv_source.specs.Kept.{numbers_of, IsQueued}
use Rattle.xv_source.proofs.Queues.{each-drop, kept-queue, queue-changed}
use Rattle.xv_source.proofs.source.SourceHalf.leave.Goals as goal

pub invariant_of-self : goal.invariant_of-self
invariant_of-self g c =
    let lt : c.args.disk < length c.self.inside.disks.items = omega (arith, ap (λ (h : Source). length h.disks) c.self.view_is, length-map c.self.inside.disks.items numbers_of, c.requires.disk_in) in
    kept-queue c.self.inside.layout _ _ c.self.inside.disks.items _ _ _ _ _ c.args.disk c.index_mut.result.now c.leave.new.self c.self.invariant lt c.index_mut.ensures.value
    (λ each. subst (λ (ws : List Waiting). Each (IsQueued c.self.inside.layout) ws) (sym c.leave.ensures.rest) (each-drop (IsQueued c.self.inside.layout) c.index_mut.result.now.queue each))

pub returns-clause-rest : goal.returns-clause-rest
returns-clause-rest g c =
    queue-changed (λ (ws : List Waiting). drop 1 ws) _ c.args.self.now c.self.inside.disks.items c.args.disk c.index_mut.result.now c.leave.new.self
    c.self.view_is refl refl c.requires.disk_in c.index_mut.ensures.value c.leave.ensures.rest
