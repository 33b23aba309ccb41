use Rattle.xv_handover.proofs.Programs.{event_made, event_failed}
use Rattle.xv_handover.proofs.laws.calls_are_events.Goals as goal

pub returns : goal.returns
returns c = record { made = event_made; failed = event_failed }
