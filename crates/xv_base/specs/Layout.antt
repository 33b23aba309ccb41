-- Which numbers make a layout, and what is wrong with the others.
use Rattle.std.specs.Prelude.{◌≡◌, ℕ, ◌+◌, ◌<◌, ◌≤◌, IsTrue, nat_eq, nat_lt, nat_le, Bool, ◌&&◌, not, List, [], ◌∷◌, length, Option, Some, None, if◌then◌else◌}
use Rattle.std.specs.Int.{is_power_of_two}
use Rattle.xv_base.specs.declared.unit.DiskShape.{DiskShape}
use Rattle.xv_base.specs.declared.layout.LayoutFault.{LayoutFault}
use Rattle.xv_base.specs.declared.layout.LayoutFault.TheVariants.{NoPage, BadSize, TooManyUnits, TooManyBytes}
use Rattle.xv_base.specs.declared.limits.TheConstants.{MOST_UNITS, MOST_BYTES, LEAST_SIZE, MOST_SIZE, MOST_DISKS}
use Rattle.xv_base.specs.Units.{Shape, units, all_bytes, block_size}

-- the sizes that a unit may have: the powers of two from 16 to 4,096
abbrev pub is_unit_size : ℕ → Bool
is_unit_size n = is_power_of_two n && (nat_le LEAST_SIZE n && nat_le n MOST_SIZE)

-- a fault where a test says so
abbrev pub fault_if : Bool → LayoutFault → Option LayoutFault
fault_if there fault = if there then Some fault else None

-- the first fault of two that may be there
abbrev pub first_of : Option LayoutFault → Option LayoutFault → Option LayoutFault
first_of (Some fault) later = Some fault
first_of None later = later

-- the first of these disks, numbered on from n, whose block size none may have
abbrev pub disk_fault : ℕ → List DiskShape → Option LayoutFault
disk_fault n [] = None
disk_fault n (d ∷ ds) = first_of (fault_if (not (is_unit_size d.block_size)) (BadSize n)) (disk_fault (n + 1) ds)

-- what is wrong with the numbers of a shape, the first in this order
abbrev pub layout_fault : Shape → Option LayoutFault
layout_fault s =
    first_of (fault_if (nat_eq s.pages 0) NoPage)
    (first_of (fault_if (not (is_unit_size s.page_size)) (BadSize 0))
    (first_of (disk_fault 1 s.disks)
    (first_of (fault_if (nat_lt MOST_UNITS (units s)) TooManyUnits)
    (fault_if (nat_lt MOST_BYTES (all_bytes s)) TooManyBytes))))

-- the shapes that a layout has
pub record IsGood (s : Shape) : Type 0 where
  pub no_fault : layout_fault s ≡ None
  pub few_disks : length s.disks ≤ MOST_DISKS

-- the limits that each layout keeps
pub record IsWithinLimits (s : Shape) : Type 0 where
  pub some_page : 0 < s.pages
  pub page_size : IsTrue (is_unit_size s.page_size)
  pub block_sizes : (k : ℕ) → k < length s.disks → IsTrue (is_unit_size (block_size s.disks k))
  pub few_disks : length s.disks ≤ MOST_DISKS
  pub few_units : units s ≤ MOST_UNITS
  pub few_bytes : all_bytes s ≤ MOST_BYTES
