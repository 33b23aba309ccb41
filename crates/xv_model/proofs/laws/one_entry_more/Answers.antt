use Rattle.xv_model.proofs.OneMore.{run-one, calls-one, is_run-one, is_faithful-one}
use Rattle.xv_model.proofs.laws.one_entry_more.Goals as goal

pub returns : goal.returns
returns c = record { view = run-one; calls = calls-one; answer = is_run-one; faults = is_faithful-one }
