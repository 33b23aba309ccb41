use Rattle.xv_model.proofs.Ending.Dead.{dead-phase, dead_waits, dead-rest, dead-cursors, dead-regions}
use Rattle.xv_model.proofs.ending_laws.ended_migrations_stay_as_they_are.Goals as goal

pub returns : goal.returns
returns c = record { phase = dead-phase; waits = dead_waits; all_else = dead-rest; cursors = dead-cursors; regions = dead-regions }
