-- In what range the units are that messages are made for.
use Rattle.std.specs.Prelude.{◌≤◌, ◌<◌, ℕ, ◌+◌, ◌-◌, length}
use Rattle.std.proofs.Common.{arith}
use Rattle.xv_model.specs.Job.{Job, IsGoodJob, IsLegal, UnitOp, unit_count}
use Rattle.xv_model.specs.View.{View, disk, front, least}
use Rattle.xv_model.specs.Wait.{next_operation}
use Rattle.xv_model.specs.Effect.{cursor_unit}
use Rattle.xv_model.specs.Invariant.{IsViewOf}
use Rattle.xv_model.proofs.GoesOn.{GuestGoes, AdvanceGoes, ReleaseGoes, PageGoes}
use Rattle.xv_model.proofs.Layouts.{is_block_after}

-- the units that messages are made for
-- a guest's operation is on a unit that is copied
pub legal_unit : (job : Job) (op : UnitOp) → IsGoodJob job → IsLegal job.shape op → op.unit.0 < unit_count job
legal_unit job op good legal = omega (arith, legal.unit_is, good.same_units)

pub mirror_unit : (job : Job) (v : View) (g : ℕ) → IsGoodJob job → GuestGoes job v g → (next_operation job v g).unit.0 < unit_count job
mirror_unit job v g good goes = legal_unit job (next_operation job v g) good (good.legal g _ goes.more)

pub front_unit : (job : Job) (v : View) (d : ℕ) → IsViewOf job v → ReleaseGoes job v d → (front (disk v d)).unit.0 < unit_count job
front_unit job v d inv goes = (inv.queues.of_disk d 0 goes.some_queue).1

pub page_unit : (job : Job) (v : View) → IsViewOf job v → PageGoes job v → least v.to_send < unit_count job
page_unit job v inv goes = omega (arith, goes.in_range, inv.lists.to_send)

pub region_units : (job : Job) (v : View) (d : ℕ) → d < length job.copy.disks → IsViewOf job v → AdvanceGoes job v d → cursor_unit job v d + (disk v d).region ≤ unit_count job
region_units job v d there inv goes =
    let k = (disk v d).region - 1 in
    let some = goes.some_region in
    let fits = inv.regions.cursor_fits d (omega (arith, inv.lists.disks)) in
    let last = (is_block_after job.copy d (disk v d).cursor k there (omega arith)).in_range in
    omega arith
