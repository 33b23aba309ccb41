use Rattle.xv_handover.proofs.Told.{step_does}
use Rattle.xv_handover.proofs.laws.no_event_fails.Goals as goal

pub returns : goal.returns
returns c = step_does
