use Rattle.xv_model.proofs.Ending.Failing.{told-no_call, told-failed, told-faulted}
use Rattle.xv_model.proofs.ending_laws.failures_are_told_as_they_are.Goals as goal

pub returns : goal.returns
returns c = record { no_call = told-no_call; failed = told-failed; faulted = told-faulted }
