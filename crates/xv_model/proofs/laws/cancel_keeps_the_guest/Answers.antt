use Rattle.xv_model.proofs.NeverSwitched.{view-never_switched, view-source_kept, run-never_switched, run-source_kept}
use Rattle.xv_model.proofs.laws.cancel_keeps_the_guest.Goals as goal

pub returns : goal.returns
returns c = record { never_switched = view-never_switched; source = view-source_kept; no_run_switches = run-never_switched; source_of_every_run = run-source_kept }
