use Rattle.xv_model.proofs.Window.{apply-fits}
use Rattle.xv_model.proofs.laws.apply_fits.Goals as goal

pub returns : goal.returns
returns c = apply-fits
