-- A layout's numbers are within the limits.
use Rattle.std.proofs.Common.{◌≡◌, ℕ, suc, zero, ◌+◌, ◌<◌, ◌≤◌, Bool, true, false, not, List, [], ◌∷◌, length, Option, Some, None, IsTrue, nat_eq, nat_lt, refl, arith, rules, ◌*◌}
use Rattle.std.proofs.Math.Nat.{mul-le-mul_left}
use Rattle.std.proofs.lemmas.Bool.Decides.{nat_tests}
use Rattle.xv_base.specs.declared.unit.DiskShape.{DiskShape}
use Rattle.xv_base.specs.declared.layout.LayoutFault.{LayoutFault}
use Rattle.xv_base.specs.Units.{Shape, block_size, blocks_of, bytes_of}
use Rattle.xv_base.specs.Layout.{is_unit_size, fault_if, first_of, disk_fault, IsGood, IsWithinLimits}

-- where neither of two is a fault
first_of_none : (a b : Option LayoutFault) → first_of a b ≡ None → (a ≡ None) × (b ≡ None)
first_of_none (Some f) b h = absurd (cc)
first_of_none None b h = (refl, h)

-- where a test finds no fault
fault_if_none : (b : Bool) (f : LayoutFault) → fault_if b f ≡ None → b ≡ false
fault_if_none true f h = absurd (cc)
fault_if_none false f h = refl

fault_if_not : (b : Bool) (f : LayoutFault) → fault_if (not b) f ≡ None → IsTrue b
fault_if_not true f h = search rules
fault_if_not false f h = absurd (cc)

-- where no disk has a fault, each has a size that is allowed
disk_fault_none : (n : ℕ) (ds : List DiskShape) → disk_fault n ds ≡ None → (k : ℕ) → k < length ds → IsTrue (is_unit_size (block_size ds k))
disk_fault_none n [] h k lt = absurd (omega arith)
disk_fault_none n (d ∷ ds) h zero lt = fault_if_not _ _ (first_of_none _ _ h).0
disk_fault_none n (d ∷ ds) h (suc k) lt =
    disk_fault_none (n + 1) ds (first_of_none _ _ h).1 k (omega arith)

not_zero : (n : ℕ) → nat_eq n 0 ≡ false → 0 < n
not_zero n h = grind (arith, nat_tests)

not_above : (n m : ℕ) → nat_lt m n ≡ false → n ≤ m
not_above n m h = grind (arith, nat_tests)

pub good_within : (s : Shape) → IsGood s → IsWithinLimits s
good_within s g =
    let a = first_of_none _ _ g.no_fault in
    let b = first_of_none _ _ a.1 in
    let d = first_of_none _ _ b.1 in
    let e = first_of_none _ _ d.1 in
    record {
      some_page = not_zero s.pages (fault_if_none _ _ a.0);
      page_size = fault_if_not _ _ b.0;
      block_sizes = disk_fault_none 1 s.disks d.0;
      few_disks = g.few_disks;
      few_units = not_above _ _ (fault_if_none _ _ e.0);
      few_bytes = not_above _ _ (fault_if_none _ _ e.1);
    }

-- a size that is allowed is between 16 and 4,096
pub unit_size_least : (n : ℕ) → IsTrue (is_unit_size n) → 16 ≤ n
unit_size_least n h = grind (arith, nat_tests)

pub unit_size_most : (n : ℕ) → IsTrue (is_unit_size n) → n ≤ 4096
unit_size_most n h = grind (arith, nat_tests)

-- so the disks have no more than 4,096 bytes a block
pub bytes_of-blocks_of : (n : ℕ) (ds : List DiskShape) → disk_fault n ds ≡ None → bytes_of ds ≤ blocks_of ds * 4096
bytes_of-blocks_of n [] h = omega arith
bytes_of-blocks_of n (d ∷ ds) h =
    let size : d.block_size ≤ 4096 = unit_size_most _ (fault_if_not _ _ (first_of_none _ _ h).0) in
    omega (arith, mul-le-mul_left d.blocks size, bytes_of-blocks_of (n + 1) ds (first_of_none _ _ h).1)
