use Rattle.xv_model.proofs.Ending.Sides.{dest-stays, source-stays}
use Rattle.xv_model.proofs.ending_laws.ended_migrations_act_on_one_side.Goals as goal

pub returns : goal.returns
returns c = record { dest_stays = dest-stays; source_stays = source-stays }
