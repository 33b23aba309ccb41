-- The units of a machine: its memory pages, then the blocks of disk 0, of disk 1 and so on.
use Rattle.std.specs.Prelude.{ℕ, zero, suc, ◌+◌, ◌-◌, ◌*◌, max, nat_lt, nat_eq, Bool, List, [], ◌∷◌, take, if◌then◌else◌}
use Rattle.xv_base.specs.declared.unit.DiskShape.{DiskShape}

-- how many pages of which size, and the disks
pub record Shape : Type 0 where
  pub pages : ℕ
  pub page_size : ℕ
  pub disks : List DiskShape

-- the shape of these numbers
abbrev pub shape_of : ℕ → ℕ → List DiskShape → Shape
shape_of p z ds = record { pages = p; page_size = z; disks = ds }

-- how many blocks these disks have
abbrev pub blocks_of : List DiskShape → ℕ
blocks_of [] = 0
blocks_of (d ∷ ds) = d.blocks + blocks_of ds

-- how many bytes these disks have
abbrev pub bytes_of : List DiskShape → ℕ
bytes_of [] = 0
bytes_of (d ∷ ds) = d.blocks * d.block_size + bytes_of ds

-- the disk of the block that is number k over these disks, its number there, and its size
abbrev pub disk_at : List DiskShape → ℕ → ℕ
disk_at [] k = 0
disk_at (d ∷ ds) k = if nat_lt k d.blocks then 0 else disk_at ds (k - d.blocks) + 1

abbrev pub block_at : List DiskShape → ℕ → ℕ
block_at [] k = k
block_at (d ∷ ds) k = if nat_lt k d.blocks then k else block_at ds (k - d.blocks)

abbrev pub block_size_at : List DiskShape → ℕ → ℕ
block_size_at [] k = 0
block_size_at (d ∷ ds) k = if nat_lt k d.blocks then d.block_size else block_size_at ds (k - d.blocks)

-- how many bytes of these disks lie before that block
abbrev pub bytes_before : List DiskShape → ℕ → ℕ
bytes_before [] k = 0
bytes_before (d ∷ ds) k = if nat_lt k d.blocks then k * d.block_size else d.blocks * d.block_size + bytes_before ds (k - d.blocks)

-- how many units there are, and how many bytes
abbrev pub units : Shape → ℕ
units s = s.pages + blocks_of s.disks

abbrev pub all_bytes : Shape → ℕ
all_bytes s = s.pages * s.page_size + bytes_of s.disks

-- whether a unit is a memory page
abbrev pub is_page : Shape → ℕ → Bool
is_page s u = nat_lt u s.pages

-- how many bytes a unit has
abbrev pub size : Shape → ℕ → ℕ
size s u = if is_page s u then s.page_size else block_size_at s.disks (u - s.pages)

-- the disk of a block, and its number there
abbrev pub disk_of : Shape → ℕ → ℕ
disk_of s u = disk_at s.disks (u - s.pages)

abbrev pub block_of : Shape → ℕ → ℕ
block_of s u = block_at s.disks (u - s.pages)

-- the unit of a disk's block
abbrev pub unit_of_block : Shape → ℕ → ℕ → ℕ
unit_of_block s disk block = s.pages + blocks_of (take disk s.disks) + block

-- how many blocks a disk has
abbrev pub blocks : List DiskShape → ℕ → ℕ
blocks [] disk = 0
blocks (d ∷ ds) zero = d.blocks
blocks (d ∷ ds) (suc disk) = blocks ds disk

-- where a unit's bytes begin, with all units' bytes one after another in rising order
abbrev pub place : Shape → ℕ → ℕ
place s u = if is_page s u then u * s.page_size else s.pages * s.page_size + bytes_before s.disks (u - s.pages)

-- how many bytes each block of a disk has
abbrev pub block_size : List DiskShape → ℕ → ℕ
block_size [] disk = 0
block_size (d ∷ ds) zero = d.block_size
block_size (d ∷ ds) (suc disk) = block_size ds disk

-- the greatest size of a block of these disks, or 0 where they have none
abbrev pub max_block_size : List DiskShape → ℕ
max_block_size [] = 0
max_block_size (d ∷ ds) = if nat_eq d.blocks 0 then max_block_size ds else max d.block_size (max_block_size ds)

-- the greatest size of a unit
abbrev pub max_size : Shape → ℕ
max_size s = max s.page_size (max_block_size s.disks)
