-- The operations of a guest, where each may act, and the unit operations that it is.
use Rattle.std.specs.Prelude.{◌≡◌, ◌≤◌, ◌<◌, ℕ, zero, suc, ◌+◌, ◌*◌, ◌/◌, ◌%◌, ◌==◌, ◌||◌, nat_lt, nat_le, true, false, List, [], ◌∷◌, ◌++◌, length, Option, Some, None, is_some, sum_by}
use Rattle.std.specs.List.{flat_map}
use Rattle.xv_base.specs.declared.text.LineWhy.{LineWhy}
use Rattle.xv_base.specs.declared.text.LineWhy.TheVariants.{OutOfRange, CrossesPage}
use Rattle.xv_base.specs.Units.{Shape, units, size, is_page, blocks, block_size, unit_of_block}
use Rattle.xv_text.specs.Fields.{or_else, fault_if}
pub use Rattle.xv_base.specs.declared.pattern.UnitOp.{UnitOp}
use Rattle.xv_trace.specs.declared.op.Op.{Op}
use Rattle.xv_trace.specs.declared.op.Op.TheVariants.{Store, Load, Write, Fetch}

-- what stands for an operation that is not there
abbrev pub no_op : Op
no_op = Load 0 0

-- a part of memory that is not there, or that does not lie within one page
abbrev pub memory_fault : Shape → ℕ → ℕ → Option LineWhy
memory_fault shape addr len =
    or_else (fault_if (len == 0 || nat_le (shape.pages * shape.page_size) addr) OutOfRange)
    (fault_if (nat_lt shape.page_size (addr % shape.page_size + len)) CrossesPage)

-- where an operation may not act, the first reason
abbrev pub op_fault : Shape → Op → Option LineWhy
op_fault shape (Store addr len pat) = memory_fault shape addr len
op_fault shape (Load addr len) = or_else (fault_if (nat_lt 64 len) OutOfRange) (memory_fault shape addr len)
op_fault shape (Write disk block count pat) =
    fault_if (nat_le (length shape.disks) disk || count == 0 || nat_lt (blocks shape.disks disk) (block + count)) OutOfRange
op_fault shape (Fetch disk block offset len) =
    fault_if (nat_le (length shape.disks) disk || nat_le (blocks shape.disks disk) block || len == 0 || nat_lt 64 len || nat_lt (block_size shape.disks disk) (offset + len)) OutOfRange

-- a part of a unit, and what is written there
abbrev pub part_of : ℕ → ℕ → ℕ → Option (List ℕ) → UnitOp
part_of unit offset len write = record { unit = record { 0 = unit }; offset = offset; len = len; write = write }

-- the write of each of n whole blocks in a row
abbrev pub block_writes : Shape → ℕ → ℕ → ℕ → List ℕ → List UnitOp
block_writes shape disk block zero pat = []
block_writes shape disk block (suc n) pat =
    block_writes shape disk block n pat ++ part_of (unit_of_block shape disk (block + n)) 0 (block_size shape.disks disk) (Some pat) ∷ []

-- the unit operations that an operation is, and those of a list of them
abbrev pub unit_operations : Shape → Op → List UnitOp
unit_operations shape (Store addr len pat) = part_of (addr / shape.page_size) (addr % shape.page_size) len (Some pat) ∷ []
unit_operations shape (Load addr len) = part_of (addr / shape.page_size) (addr % shape.page_size) len None ∷ []
unit_operations shape (Write disk block count pat) = block_writes shape disk block count pat
unit_operations shape (Fetch disk block offset len) = part_of (unit_of_block shape disk block) offset len None ∷ []

abbrev pub all_unit_operations : Shape → List Op → List UnitOp
all_unit_operations shape ops = flat_map (unit_operations shape) ops

-- how many they are
abbrev pub op_count : Op → ℕ
op_count (Store addr len pat) = 1
op_count (Load addr len) = 1
op_count (Write disk block count pat) = count
op_count (Fetch disk block offset len) = 1

abbrev pub count_all : List Op → ℕ
count_all ops = sum_by op_count ops

-- what stands for a unit operation that is not there
abbrev pub no_unit_op : UnitOp
no_unit_op = part_of 0 0 0 None

-- a unit operation that acts within one unit: a write of a block is of the whole block, and a read is of at most 64 bytes
pub record IsWithinUnit (shape : Shape) (op : UnitOp) : Type 0 where
  pub unit_is : op.unit.0 < units shape
  pub some_bytes : 0 < op.len
  pub in_unit : op.offset + op.len ≤ size shape op.unit.0
  pub whole_block : is_some op.write ≡ true → is_page shape op.unit.0 ≡ false → (op.offset ≡ 0) × (op.len ≡ size shape op.unit.0)
  pub short_read : is_some op.write ≡ false → op.len ≤ 64
