use Rattle.xv_handover.proofs.Programs.{crash_a, crash_b}
use Rattle.xv_handover.proofs.laws.crashes_are_restarts.Goals as goal

pub returns : goal.returns
returns c = record { a = crash_a; b = crash_b }
