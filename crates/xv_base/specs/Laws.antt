-- What the units of a layout are to its bytes and to its disks.
use Rattle.std.specs.Prelude.{◌≡◌, ℕ, ◌+◌, ◌<◌, ◌≤◌, IsTrue, length}
use Rattle.xv_base.specs.declared.limits.TheConstants.{LEAST_SIZE, MOST_SIZE}
use Rattle.xv_base.specs.Units.{Shape, units, all_bytes, size, place, max_size, disk_of, block_of, unit_of_block, blocks, block_size}
use Rattle.xv_base.specs.Layout.{is_unit_size}

-- the units lie one after another over all bytes, with none left between them, and each has a size that is allowed
pub record PartitionsBytes (s : Shape) : Type 0 where
  pub first : place s 0 ≡ 0
  pub next : (u : ℕ) → u + 1 < units s → place s u + size s u ≡ place s (u + 1)
  pub last : (u : ℕ) → u + 1 ≡ units s → place s u + size s u ≡ all_bytes s
  pub sizes : (u : ℕ) → u < units s → IsTrue (is_unit_size (size s u))
  pub at_least : (u : ℕ) → u < units s → LEAST_SIZE ≤ size s u
  pub at_most : (u : ℕ) → u < units s → size s u ≤ MOST_SIZE
  pub within : (u : ℕ) → u < units s → place s u + size s u ≤ all_bytes s
  pub apart : (u v : ℕ) → u < v → v < units s → place s u + size s u ≤ place s v

-- each unit that is no page is one block of one disk, and each such block is one unit
pub record NumbersBlocks (s : Shape) : Type 0 where
  pub disk_in : (u : ℕ) → s.pages ≤ u → u < units s → disk_of s u < length s.disks
  pub block_in : (u : ℕ) → s.pages ≤ u → u < units s → block_of s u < blocks s.disks (disk_of s u)
  pub unit_back : (u : ℕ) → s.pages ≤ u → u < units s → unit_of_block s (disk_of s u) (block_of s u) ≡ u
  pub unit_in : (d b : ℕ) → d < length s.disks → b < blocks s.disks d → unit_of_block s d b < units s
  pub no_page : (d b : ℕ) → s.pages ≤ unit_of_block s d b
  pub disk_back : (d b : ℕ) → d < length s.disks → b < blocks s.disks d → disk_of s (unit_of_block s d b) ≡ d
  pub block_back : (d b : ℕ) → d < length s.disks → b < blocks s.disks d → block_of s (unit_of_block s d b) ≡ b
  pub size_of_disk : (d b : ℕ) → d < length s.disks → b < blocks s.disks d → size s (unit_of_block s d b) ≡ block_size s.disks d

-- no unit is greater than the greatest size, and some unit has it
pub record HasGreatestSize (s : Shape) : Type 0 where
  pub most : (u : ℕ) → u < units s → size s u ≤ max_size s
  pub had : (u : ℕ) × (u < units s) × (size s u ≡ max_size s)
