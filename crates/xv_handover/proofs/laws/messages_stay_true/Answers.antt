use Rattle.xv_handover.proofs.Sound.{after_holds, first_holds}
use Rattle.xv_handover.proofs.laws.messages_stay_true.Goals as goal

pub returns : goal.returns
returns c = λ events. after_holds _ events first_holds
