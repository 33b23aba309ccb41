-- How many bytes a wire of a job has room for: few enough to be counted.
use Rattle.std.specs.Prelude.{ℕ, ◌+◌, ◌*◌, ◌^◌, ◌<◌, ◌≤◌}
use Rattle.std.proofs.Common.{arith}
use Rattle.std.proofs.Math.Nat.{mul-le-mul_left}
use Rattle.xv_base.specs.Units.{Shape, max_size}
use Rattle.xv_base.specs.Layout.{IsGood}
use Rattle.xv_base.proofs.Partition.{partitions_bytes, has_greatest_size}

pub greatest : (s : Shape) → IsGood s → max_size s ≤ 4096
greatest s g =
    let had = (has_greatest_size s g).had in
    omega (arith, had.2, (partitions_bytes s g).at_most had.0 had.1)

pub room-fits : (credit head size : ℕ) → credit ≤ 1024 → head ≤ 44 → size ≤ 4096 → credit * (head + size) < 2 ^ 32
room-fits credit head size c h s =
    let each : head + size ≤ 4140 = omega arith in
    omega (arith, mul-le-mul_left credit each)
