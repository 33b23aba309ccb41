-- The unit operations of an operation that may act each act within one unit.
use Rattle.std.proofs.Common.{◌≡◌, ℕ, zero, suc, ◌+◌, ◌-◌, ◌/◌, ◌%◌, ◌<◌, ◌≤◌, true, false, List, [], ◌∷◌, length, get_or, Option, Some, None, is_some, refl, sym, ◌∙◌, arith, inl, inr, subst}
use Rattle.std.proofs.Math.Nat.{div-lt_iff_lt-mul}
use Rattle.std.proofs.lemmas.Bool.{cases_lt, lt-ltb, ltb-false}
use Rattle.std.proofs.lemmas.List.{get_or_append_left, get_or-append_right}
use Rattle.xv_base.specs.Layout.{IsGood}
use Rattle.xv_base.specs.Units.{Shape, units, size, is_page, blocks, block_size, unit_of_block}
use Rattle.xv_base.proofs.Within.{good_within, unit_size_least}
use Rattle.xv_base.proofs.Partition.{partitions_bytes, numbers_blocks}
use Rattle.xv_text.proofs.Rows.{none_of_both, no_fault_if}
use Rattle.xv_trace.specs.declared.op.Op.{Op}
use Rattle.xv_trace.specs.declared.op.Op.TheVariants.{Store, Load, Write, Fetch}
use Rattle.xv_trace.specs.Operations.{part_of, op_fault, op_count, count_all, unit_operations, all_unit_operations, no_unit_op, IsWithinUnit}
use Rattle.xv_trace.specs.OpText.{IsGoodOp, Program, IsProgram}
use Rattle.xv_trace.specs.Laws.{ActWithinUnits}
use Rattle.xv_trace.proofs.Counts.{count_all-cons, length-unit_operations, block_write_at}
use Rattle.xv_trace.proofs.Acts.{IsInMemory, memory_acts, write_acts, fetch_acts}
use Rattle.xv_trace.proofs.Programs.{AreGood, good_from_index}

-- a part of a page
page_part : (s : Shape) (addr len : ℕ) (write : Option (List ℕ)) → IsGood s → IsInMemory s addr len → (is_some write ≡ false → len ≤ 64)
    → IsWithinUnit s (part_of (addr / s.page_size) (addr % s.page_size) len write)
page_part s addr len write good m short =
    let least : 16 ≤ s.page_size = unit_size_least _ (good_within s good).page_size in
    let some : 0 < s.page_size = omega arith in
    let page : addr / s.page_size < s.pages = (div-lt_iff_lt-mul some).1 m.there in
    let is : is_page s (addr / s.page_size) ≡ true = lt-ltb _ _ page in
    let whole : size s (addr / s.page_size) ≡ s.page_size = rw is refl in
    record {
      unit_is = omega (arith, page);
      some_bytes = m.some;
      in_unit = omega (arith, whole, m.one_page);
      whole_block = λ w n. let t : true ≡ false = sym is ∙ n in absurd (cc);
      short_read = short;
    }

-- a whole block
block_part : (s : Shape) (disk block : ℕ) (pat : List ℕ) → IsGood s → disk < length s.disks → block < blocks s.disks disk
    → IsWithinUnit s (part_of (unit_of_block s disk block) 0 (block_size s.disks disk) (Some pat))
block_part s disk block pat good d b =
    let n = numbers_blocks s in
    let unit : unit_of_block s disk block < units s = n.unit_in disk block d b in
    let whole : size s (unit_of_block s disk block) ≡ block_size s.disks disk = n.size_of_disk disk block d b in
    record {
      unit_is = unit;
      some_bytes = omega (arith, whole, (partitions_bytes s good).at_least (unit_of_block s disk block) unit);
      in_unit = omega (arith, whole);
      whole_block = λ w p. (refl, sym whole);
      short_read = λ r. absurd (cc);
    }

-- a part of a block that is read
block_read : (s : Shape) (disk block offset len : ℕ) → op_fault s (Fetch disk block offset len) ≡ None → IsWithinUnit s (part_of (unit_of_block s disk block) offset len None)
block_read s disk block offset len h =
    let n = numbers_blocks s in
    let a = fetch_acts s disk block offset len h in
    record {
      unit_is = n.unit_in disk block a.disk_in a.block_in;
      some_bytes = a.some;
      in_unit = omega (arith, n.size_of_disk disk block a.disk_in a.block_in, a.bytes_in);
      whole_block = λ w p. absurd (cc);
      short_read = λ r. a.few;
    }

load_few : (s : Shape) (addr len : ℕ) → op_fault s (Load addr len) ≡ None → (len ≤ 64) × IsInMemory s addr len
load_few s addr len h =
    let both = none_of_both _ _ h in
    (ltb-false _ _ (no_fault_if _ _ both.0), memory_acts s addr len both.1)

pub within_unit : (s : Shape) (op : Op) → IsGood s → IsGoodOp s op → (k : ℕ) → k < op_count op → IsWithinUnit s (get_or (unit_operations s op) k no_unit_op)
within_unit s (Store addr len pat) good g zero h = page_part s addr len (Some pat) good (memory_acts s addr len g.acts) (λ r. absurd (cc))
within_unit s (Store addr len pat) good g (suc k) h = absurd (omega arith)
within_unit s (Load addr len) good g zero h = let a = load_few s addr len g.acts in page_part s addr len None good a.1 (λ r. a.0)
within_unit s (Load addr len) good g (suc k) h = absurd (omega arith)
within_unit s (Write disk block count pat) good g k h =
    let a = write_acts s disk block count pat g.acts in
    subst (IsWithinUnit s) (sym (block_write_at s disk block count pat k h)) (block_part s disk (block + k) pat good a.disk_in (omega (arith, a.blocks_in)))
within_unit s (Fetch disk block offset len) good g zero h = block_read s disk block offset len g.acts
within_unit s (Fetch disk block offset len) good g (suc k) h = absurd (omega arith)

all_within : (s : Shape) (ops : List Op) → IsGood s → AreGood s ops → (k : ℕ) → k < count_all ops → IsWithinUnit s (get_or (all_unit_operations s ops) k no_unit_op)
all_within s [] good g k h = absurd (omega arith)
all_within s (op ∷ ops) good g k h =
    let first = count_all-cons op ops in
    elim (cases_lt k (op_count op)) [
      | inl here ↦
          let in' : k < length (unit_operations s op) = omega (arith, length-unit_operations s op) in
          subst (IsWithinUnit s) (sym (get_or_append_left (unit_operations s op) (all_unit_operations s ops) no_unit_op k in')) (within_unit s op good g.0 k here)
      | inr later ↦
          subst (IsWithinUnit s) (sym (get_or-append_right (unit_operations s op) (all_unit_operations s ops) (op_count op) k no_unit_op (length-unit_operations s op) later))
          (all_within s ops good g.1 (k - op_count op) (omega (arith, first)))
    ]

pub act_within_units : (p : Program) → IsProgram p → ActWithinUnits p
act_within_units p is = all_within p.shape p.ops is.machine (good_from_index p.shape p.ops is.good)
