use Rattle.xv_model.proofs.Journal.Ends.{no_faults-no_flag, no_flag-no_failure}
use Rattle.xv_model.proofs.journal_laws.no_fault_means_no_failure.Goals as goal

pub returns : goal.returns
returns c = record { no_fault = no_faults-no_flag; no_flag = no_flag-no_failure }
