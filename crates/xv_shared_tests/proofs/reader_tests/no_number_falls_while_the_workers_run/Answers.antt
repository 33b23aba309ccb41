use Rattle.xv_core.proofs.Stepped.Origins.{origin-same}
use Rattle.xv_shared_tests.proofs.reader_tests.no_number_falls_while_the_workers_run.Goals as goal

-- a migration has itself as its origin
pub ran-requires-clause-came : goal.ran-requires-clause-came
ran-requires-clause-came g c κs = origin-same c.in_ok-machine.machine
