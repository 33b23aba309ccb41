use Rattle.xv_core.proofs.GuestEvents.OperationSteps.{stays-waiting}
use Rattle.xv_core.proofs.migration.Migration.guest.Goals as goal

pub returns-in-Some : goal.returns-in-Some
returns-in-Some g c = stays-waiting _ c.args.self.now _ c.in-Some.why c.self.invariant.0 c.self.view_is c.in-Some.ensures.waits
