use Rattle.xv_core.proofs.Stepped.Origins.{origin-same, origin-then, origin-over}
use Rattle.xv_core.proofs.origin_laws.origins_are_kept.Goals as goal

pub returns : goal.returns
returns c = record { itself = origin-same; after_a_step = origin-then; over_another = origin-over }
