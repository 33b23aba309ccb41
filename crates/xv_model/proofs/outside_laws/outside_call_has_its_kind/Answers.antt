use Rattle.xv_model.proofs.Outside.Calls.{kind-call}
use Rattle.xv_model.proofs.outside_laws.outside_call_has_its_kind.Goals as goal

pub returns : goal.returns
returns c = kind-call
