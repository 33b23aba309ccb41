use Rattle.xv_model.proofs.Contents.Switching.{switched_means_nothing_outstanding}
use Rattle.xv_model.proofs.contents_laws.switched_means_nothing_outstanding.Goals as goal

pub returns : goal.returns
returns c = switched_means_nothing_outstanding
