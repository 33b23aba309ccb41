use Rattle.xv_model.proofs.Window.{send-fits}
use Rattle.xv_model.proofs.laws.send_fits.Goals as goal

pub returns : goal.returns
returns c = record {
  some = λ job v s flag good inv w. (send-fits job v s flag good inv w).some;
  of_messages = λ job v s flag good inv w. (send-fits job v s flag good inv w).of_messages;
  of_group = λ job v s flag good inv w. (send-fits job v s flag good inv w).of_group;
  of_credit = λ job v s flag good inv w. (send-fits job v s flag good inv w).of_credit;
  in_window = λ job v s flag good inv w. (send-fits job v s flag good inv w).in_window;
}
