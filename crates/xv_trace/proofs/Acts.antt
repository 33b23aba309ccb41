-- Where an operation without a fault acts.
use Rattle.std.proofs.Common.{◌≡◌, ◌==◌, ◌||◌, ℕ, ◌+◌, ◌*◌, ◌%◌, ◌<◌, ◌≤◌, Bool, true, false, List, length, None, nat_le, nat_lt, refl, arith}
use Rattle.std.proofs.lemmas.Bool.{or_parts, leb-false, ltb-false}
use Rattle.std.proofs.lemmas.Bool.Decides.{nat_tests}
use Rattle.xv_base.specs.Units.{Shape, blocks, block_size}
use Rattle.xv_text.proofs.Rows.{none_of_both, no_fault_if}
use Rattle.xv_trace.specs.declared.op.Op.TheVariants.{Write, Fetch}
use Rattle.xv_trace.specs.Operations.{memory_fault, op_fault}

some_of : (n : ℕ) → (n == 0) ≡ false → 0 < n
some_of n h = grind (arith, nat_tests)

-- bytes of memory within one page
pub record IsInMemory (shape : Shape) (addr len : ℕ) : Type 0 where
  pub some : 0 < len
  pub there : addr < shape.pages * shape.page_size
  pub one_page : addr % shape.page_size + len ≤ shape.page_size

pub memory_acts : (shape : Shape) (addr len : ℕ) → memory_fault shape addr len ≡ None → IsInMemory shape addr len
memory_acts shape addr len h =
    let both = none_of_both _ _ h in
    let range = or_parts (len == 0) (nat_le (shape.pages * shape.page_size) addr) (no_fault_if _ _ both.0) in
    record {
      some = some_of len range.0;
      there = leb-false _ _ range.1;
      one_page = ltb-false _ _ (no_fault_if _ _ both.1);
    }

none_of_three : (a b c : Bool) → (a || b || c) ≡ false → (a ≡ false) × (b ≡ false) × (c ≡ false)
none_of_three false false false h = (refl, refl, refl)
none_of_three true b c h = absurd (cc)
none_of_three false true c h = absurd (cc)
none_of_three false false true h = absurd (cc)

none_of_five : (a b c d e : Bool) → (a || b || c || d || e) ≡ false → (a ≡ false) × (b ≡ false) × (c ≡ false) × (d ≡ false) × (e ≡ false)
none_of_five false false false false false h = (refl, refl, refl, refl, refl)
none_of_five true b c d e h = absurd (cc)
none_of_five false true c d e h = absurd (cc)
none_of_five false false true d e h = absurd (cc)
none_of_five false false false true e h = absurd (cc)
none_of_five false false false false true h = absurd (cc)

-- a run of blocks of one disk
pub record AreBlocks (shape : Shape) (disk block count : ℕ) : Type 0 where
  pub disk_in : disk < length shape.disks
  pub some : 0 < count
  pub blocks_in : block + count ≤ blocks shape.disks disk

pub write_acts : (shape : Shape) (disk block count : ℕ) (pat : List ℕ) → op_fault shape (Write disk block count pat) ≡ None → AreBlocks shape disk block count
write_acts shape disk block count pat h =
    let tests = none_of_three (nat_le (length shape.disks) disk) (count == 0) (nat_lt (blocks shape.disks disk) (block + count)) (no_fault_if _ _ h) in
    record { disk_in = leb-false _ _ tests.0; some = some_of count tests.1; blocks_in = ltb-false _ _ tests.2 }

-- at most 64 bytes of a block
pub record IsInBlock (shape : Shape) (disk block offset len : ℕ) : Type 0 where
  pub disk_in : disk < length shape.disks
  pub block_in : block < blocks shape.disks disk
  pub some : 0 < len
  pub few : len ≤ 64
  pub bytes_in : offset + len ≤ block_size shape.disks disk

pub fetch_acts : (shape : Shape) (disk block offset len : ℕ) → op_fault shape (Fetch disk block offset len) ≡ None → IsInBlock shape disk block offset len
fetch_acts shape disk block offset len h =
    let tests =
    none_of_five (nat_le (length shape.disks) disk) (nat_le (blocks shape.disks disk) block) (len == 0) (nat_lt 64 len) (nat_lt (block_size shape.disks disk) (offset + len))
    (no_fault_if _ _ h) in
    record { disk_in = leb-false _ _ tests.0; block_in = leb-false _ _ tests.1; some = some_of len tests.2; few = ltb-false _ _ tests.3; bytes_in = ltb-false _ _ tests.4 }
