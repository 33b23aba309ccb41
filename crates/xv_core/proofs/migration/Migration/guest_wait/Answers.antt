use Rattle.std.proofs.Common.{refl, sym, ◌∙◌}
use Rattle.xv_core.proofs.GuestEvents.OperationWaits.{allows-of, running-is}
use Rattle.xv_core.proofs.migration.Migration.guest_wait.Goals as goal

pub returns-then-is_full : goal.returns-then-is_full
returns-then-is_full g c =
    c.guest_waits.ensures.exactly _ _ (allows-of _ c.args.self.now _ c.self.invariant.0 c.self.view_is (c.in_default.ensures.lets refl))
    (running-is _ c.args.self.now _ c.self.invariant.0 c.self.view_is (sym c.is_running.ensures ∙ c.if-is_running.true)) (sym c.next_operation-op.ensures)
