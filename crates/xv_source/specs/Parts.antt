-- The copies of disks before anything has happened.
use Rattle.std.specs.Prelude.{ℕ, List, [], map}
use Rattle.xv_base.specs.declared.unit.DiskShape.{DiskShape}
use Rattle.xv_region.specs.Copying.{fresh}
use Rattle.xv_source.specs.declared.disk.DiskCopy.{DiskCopy}

abbrev pub fresh_copy : ℕ → DiskShape → DiskCopy
fresh_copy most s = record { region = fresh most s.block_size; queue = [] }

abbrev pub fresh_copies : ℕ → List DiskShape → List DiskCopy
fresh_copies most disks = map (fresh_copy most) disks
