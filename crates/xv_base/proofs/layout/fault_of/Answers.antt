use Rattle.std.proofs.Common.{◌≡◌, ◌≤◌, arith, None}
use Rattle.std.proofs.Math.Nat.{mul-le-mul_right}
use Rattle.xv_base.specs.declared.limits.TheConstants.{MOST_UNITS}
use Rattle.xv_base.specs.Layout.{disk_fault}
use Rattle.xv_base.proofs.Within.{bytes_of-blocks_of}
use Rattle.xv_base.proofs.layout.fault_of.Goals as goal

pub count_bytes-requires : goal.count_bytes-requires
count_bytes-requires c =
    let none : disk_fault 1 c.args.disks.now ≡ None = cc in
    omega (arith, bytes_of-blocks_of 1 c.args.disks.now none, c.count_blocks.ensures.exactly)

pub overflow_add-from-2 : goal.overflow_add-from-2
overflow_add-from-2 c =
    let none : disk_fault 1 c.args.disks.now ≡ None = cc in
    let few : c.from-3.result ≤ MOST_UNITS = omega arith in
    omega (arith, mul-le-mul_right c.from-4.result few, bytes_of-blocks_of 1 c.args.disks.now none, c.count_blocks.ensures.exactly)
