use Rattle.xv_handover.proofs.Told.{pass_waits}
use Rattle.xv_handover.proofs.laws.pass_waits_for_its_message.Goals as goal

pub returns : goal.returns
returns c = pass_waits
