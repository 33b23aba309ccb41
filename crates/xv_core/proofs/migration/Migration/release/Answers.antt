use Rattle.std.proofs.Common.{sym, ◌∙◌}
use Rattle.xv_core.proofs.GuestEvents.OperationSteps.{stays-waiting}
use Rattle.xv_core.proofs.GuestEvents.ReleaseTurns.{disks-there, nothing-there, due-waits, first-in-view}
use Rattle.xv_core.proofs.migration.Migration.release.Goals as goal

pub front-requires : goal.front-requires
front-requires g c = disks-there _ c.args.self.now c.args.disk c.self.invariant.0 c.self.view_is c.requires

pub returns-in_default : goal.returns-in_default
returns-in_default g c =
    stays-waiting _ c.args.self.now _ _ c.self.invariant.0 c.self.view_is (nothing-there _ c.args.self.now c.args.disk c.self.invariant.0 c.self.view_is (sym c.front.ensures ∙ c.in_default.is))

pub returns-then-is_cancel_due : goal.returns-then-is_cancel_due
returns-then-is_cancel_due g c =
    let first = first-in-view _ c.args.self.now c.args.disk c.in-Some.waiting c.self.invariant.0 c.self.view_is (sym c.front.ensures ∙ c.in-Some.is) in
    stays-waiting _ c.args.self.now _ _ c.self.invariant.0 c.self.view_is (due-waits c.args.self.now c.args.disk c.in-Some.waiting first (sym c.is_cancel_due.ensures ∙ c.if-is_cancel_due.true))
