use Rattle.xv_core.proofs.Stepped.Origins.{origin-same}
use Rattle.xv_race_tests.proofs.race_tests.raced.Goals as goal

-- a migration has itself as its origin
pub run-requires-clause-came : goal.run-requires-clause-came
run-requires-clause-came g c κs within = origin-same c.in_ok-machine.machine
