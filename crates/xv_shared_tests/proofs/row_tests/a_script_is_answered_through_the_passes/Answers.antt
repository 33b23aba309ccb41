use Rattle.xv_core.proofs.Stepped.Origins.{origin-same}
use Rattle.xv_shared_tests.proofs.row_tests.a_script_is_answered_through_the_passes.Goals as goal

-- a migration has itself as its origin
pub played-requires-clause-came : goal.played-requires-clause-came
played-requires-clause-came g c = origin-same c.in_ok-machine.machine
