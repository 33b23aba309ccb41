use Rattle.xv_model.proofs.Window.{credit-some, credit-fits}
use Rattle.xv_model.proofs.laws.credit_fits.Goals as goal

pub returns : goal.returns
returns c = record { some = credit-some; within = credit-fits }
