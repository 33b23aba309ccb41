use Rattle.xv_core.proofs.Stepped.Origins.{origin-same}
use Rattle.xv_shared_tests.proofs.run_tests.workers_and_the_driver_end_as_one_thread_does.Goals as goal

-- a migration has itself as its origin
pub ran-requires-clause-came : goal.ran-requires-clause-came
ran-requires-clause-came g c κs = origin-same c.in_ok-machine.machine
