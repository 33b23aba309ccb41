use Rattle.xv_handover.proofs.Sound.{after_holds, first_holds, step_goes}
use Rattle.xv_handover.proofs.laws.owner_has_the_offered_number.Goals as goal

pub returns : goal.returns
returns c = λ events event. (step_goes _ event (after_holds _ events first_holds)).hands
