use Rattle.std.proofs.Common.{◌≡◌, length, subst, ap, ◌∙◌}
use Rattle.xv_base.specs.declared.event.Event.TheVariants.{Guest}
use Rattle.xv_base.specs.declared.unit.GuestId.{GuestId}
use Rattle.xv_core.specs.Seen.{Seen}
use Rattle.xv_core.specs.Stepped.{IsStep}
use Rattle.xv_shared.specs.Tallies.{pass_after}
use Rattle.xv_model.specs.Growth.{is_failure}
use Rattle.xv_shared.proofs.Entries.{guest-holds, told-failure}
use Rattle.xv_shared.proofs.Passing.{counted-read, number-entered}
use Rattle.xv_shared.proofs.Holding.{few-totals, held-guest, fits-guest}
use Rattle.xv_shared.proofs.locked.Locked.guest.Goals as goal

pub step-step-requires : goal.step-step-requires
step-step-requires g c =
    let h = c.self.invariant in
    record {
      fitting = fits-guest g.D.Named.origin c.self.inside.migration c.guest.result h.came c.guest.ensures.there;
      own = h.own;
      last = h.last;
    }

pub enter-requires-clause-done_few : goal.enter-requires-clause-done_few
enter-requires-clause-done_few g c = (few-totals g.D.Named.origin c.self.inside.migration _ _ _ _ c.self.invariant c.step-step.ensures.kept).done_few

pub enter-requires-clause-queued_few : goal.enter-requires-clause-queued_few
enter-requires-clause-queued_few g c = (few-totals g.D.Named.origin c.self.inside.migration _ _ _ _ c.self.invariant c.step-step.ensures.kept).queued_few

pub enter-requires-clause-faulted_few : goal.enter-requires-clause-faulted_few
enter-requires-clause-faulted_few g c = (few-totals g.D.Named.origin c.self.inside.migration _ _ _ _ c.self.invariant c.step-step.ensures.kept).faulted_few

pub invariant_of-self : goal.invariant_of-self
invariant_of-self g c =
    let e = c.enter.ensures in
    held-guest g.D.Named.origin c.self.inside.migration c.step-step.new.migration c.guest.result c.step-step.result.turn c.told-turn.result _ _ _ _ _ _ c.self.invariant c.step-step.ensures.stepped c.told-turn.ensures.exactly
    (record { done = e.done; queued = e.queued; faulted = e.faulted; other = e.other }) c.step-step.ensures.published

pub returns-clause-stepped : goal.returns-clause-stepped
returns-clause-stepped g c =
    let own = subst (λ (x : GuestId). IsStep c.self.inside.migration (Guest x) c.step-step.result.turn c.step-step.new.migration) c.guest.ensures.exactly c.step-step.ensures.stepped in
    record {
      turn = c.step-step.result.turn;
      stepped = subst (λ (m : Seen). IsStep m (Guest (record { 0 = c.args.pass.now.guest })) c.step-step.result.turn c.step-step.new.migration) c.self.view_is own;
      tells = c.told-turn.ensures.exactly;
    }

pub returns-clause-moved : goal.returns-clause-moved
returns-clause-moved g c =
    let before = c.step-step.ensures.before ∙ ap (λ (m : Seen). length m.reads) c.self.view_is in
    c.enter.ensures.moved ∙ (λ i. pass_after c.args.pass.now c.told-turn.result (before i) (c.step-step.ensures.later i))

pub returns-clause-entered : goal.returns-clause-entered
returns-clause-entered g c =
    let holds = ap is_failure c.told-turn.ensures.exactly ∙ (told-failure c.step-step.result.turn ∙ guest-holds c.self.inside.migration c.step-step.new.migration c.guest.result c.step-step.result.turn c.step-step.ensures.stepped) in
    number-entered c.args.pass.now c.enter.new.self c.told-turn.result (counted-read c.args.pass.now c.enter.new.self c.told-turn.result _ _ c.enter.ensures.moved) holds
