use Rattle.xv_model.proofs.Outside.Calls.{calls_made-one, calls_of_kind-one}
use Rattle.xv_model.proofs.outside_laws.one_call_more.Goals as goal

pub returns : goal.returns
returns c = record { made = calls_made-one; numbered = calls_of_kind-one }
