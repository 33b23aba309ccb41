-- A device in memory with the job's patterns begins with the job's contents.
use Rattle.std.proofs.Common.{refl}
use Rattle.xv_device.specs.Device.{Plan}
use Rattle.xv_device.specs.Memory.{fresh, told}
use Rattle.xv_model.specs.Job.{Job}
use Rattle.xv_core.specs.Beginning.{BeginsWithJob}

pub begins-with : (job : Job) (plan : Plan) → BeginsWithJob job (told (fresh job.shape job.init plan))
begins-with job plan = refl
