use Rattle.xv_model.proofs.Window.{ack-fits}
use Rattle.xv_model.proofs.laws.acknowledgement_fits.Goals as goal

pub returns : goal.returns
returns c = record {
  some = λ job v flag inv w. (ack-fits job v flag inv w).0;
  within = λ job v flag inv w. (ack-fits job v flag inv w).1;
  on_the_way_back = λ job v flag inv w. (ack-fits job v flag inv w).2;
}
