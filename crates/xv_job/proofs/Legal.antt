-- The unit operations of operations that may act: how many they are, and that each may act.
use Rattle.std.proofs.Common.{◌≡◌, ℕ, suc, zero, ◌+◌, ◌*◌, ◌/◌, ◌%◌, ◌<◌, ◌≤◌, ◌==◌, ◌||◌, true, false, List, [], ◌∷◌, ◌++◌, length, map, Option, Some, None, is_some, sum_by, nat_lt, nat_le, refl, sym, ◌∙◌, arith}
use Rattle.std.specs.List.{AllByRecursion}
use Rattle.std.proofs.Math.Nat.{div-lt_iff_lt-mul}
use Rattle.std.proofs.lemmas.List.{length-append}
use Rattle.std.proofs.lemmas.List.Sums.{sum_by-cons}
use Rattle.std.proofs.lemmas.Bool.Decides.{nat_tests}
use Rattle.xv_base.specs.declared.text.LineWhy.TheVariants.{OutOfRange, CrossesPage}
use Rattle.xv_base.specs.declared.pattern.UnitOp.{UnitOp}
use Rattle.xv_base.specs.Units.{Shape, size, blocks, block_size, unit_of_block}
use Rattle.xv_base.specs.Layout.{IsGood}
use Rattle.xv_base.specs.Laws.{NumbersBlocks}
use Rattle.xv_base.proofs.Within.{good_within, unit_size_least}
use Rattle.xv_base.proofs.Partition.{numbers_blocks}
use Rattle.xv_text.specs.Fields.{fault_if}
use Rattle.xv_trace.specs.declared.op.Op.{Op}
use Rattle.xv_trace.specs.declared.op.Op.TheVariants.{Store, Load, Write, Fetch}
use Rattle.xv_trace.specs.Operations.{memory_fault, op_fault, part_of, block_writes, unit_operations, all_unit_operations, op_count, count_all}
use Rattle.xv_trace.specs.OpText.{IsGoodOp}
use Rattle.xv_model.specs.Job.{IsLegal}
use Rattle.xv_job.proofs.Parts.{neither, neither_test, not_there}
use Rattle.xv_job.proofs.Shapes.{not_above}
use Rattle.xv_job.proofs.Lists.{all_push}

-- how many they are
block_writes_count : (s : Shape) (disk block n : ℕ) (pat : List ℕ) → length (block_writes s disk block n pat) ≡ n
block_writes_count s disk block zero pat = refl
block_writes_count s disk block (suc n) pat =
    omega (arith, length-append (block_writes s disk block n pat) (part_of (unit_of_block s disk (block + n)) 0 (block_size s.disks disk) (Some pat) ∷ []), block_writes_count s disk block n pat)

one_count : (s : Shape) (op : Op) → length (unit_operations s op) ≡ op_count op
one_count s (Store addr len pat) = refl
one_count s (Load addr len) = refl
one_count s (Write disk block count pat) = block_writes_count s disk block count pat
one_count s (Fetch disk block offset len) = refl

pub ops_counted : (s : Shape) (ops : List Op) → length (all_unit_operations s ops) ≡ count_all ops
ops_counted s [] = refl
ops_counted s (op ∷ ops) = omega (arith, length-append (unit_operations s op) (all_unit_operations s ops), one_count s op, ops_counted s ops, sum_by-cons op_count op ops)

pub traces_counted : (s : Shape) (traces : List (List Op)) → sum_by (λ ops. length ops) (map (all_unit_operations s) traces) ≡ sum_by count_all traces
traces_counted s [] = refl
traces_counted s (ops ∷ traces) =
    omega (arith, sum_by-cons (λ (us : List UnitOp). length us) (all_unit_operations s ops) (map (all_unit_operations s) traces), sum_by-cons count_all ops traces, ops_counted s ops, traces_counted s traces)

-- a part of memory
pub record IsInPage (s : Shape) (addr len : ℕ) : Type 0 where
  pub some : 0 < len
  pub there : addr / s.page_size < s.pages
  pub fits : addr % s.page_size + len ≤ s.page_size

not_zero : (n : ℕ) → (n == 0) ≡ false → 0 < n
not_zero n h = grind (arith, nat_tests)

below_least : (n m : ℕ) → nat_le n m ≡ false → m < n
below_least n m h = grind (arith, nat_tests)

page_of : (a p z : ℕ) → 0 < z → a < p * z → a / z < p
page_of a p z h lt = (div-lt_iff_lt-mul {x = a} {y = p} h).1 lt

in_page : (s : Shape) (addr len : ℕ) → 0 < s.page_size → memory_fault s addr len ≡ None → IsInPage s addr len
in_page s addr len some h =
    let a = neither (fault_if (len == 0 || nat_le (s.pages * s.page_size) addr) OutOfRange) (fault_if (nat_lt s.page_size (addr % s.page_size + len)) CrossesPage) h in
    let b = neither_test (len == 0) (nat_le (s.pages * s.page_size) addr) (not_there _ _ a.0) in
    record {
      some = not_zero len b.0;
      there = page_of addr s.pages s.page_size some (below_least (s.pages * s.page_size) addr b.1);
      fits = not_above (addr % s.page_size + len) s.page_size (not_there _ _ a.1);
    }

is_there : (a b : ℕ) → a < b → nat_lt a b ≡ true
is_there a b h = grind (arith, nat_tests)

page_size_is : (s : Shape) (u : ℕ) → u < s.pages → size s u ≡ s.page_size
page_size_is s u h = rw (is_there u s.pages h) refl

page_legal : (s : Shape) (addr len : ℕ) (write : Option (List ℕ)) → IsInPage s addr len → (is_some write ≡ false → len ≤ 64) → IsLegal s (part_of (addr / s.page_size) (addr % s.page_size) len write)
page_legal s addr len write h short =
    let there = h.there in
    record {
      unit_is = omega arith;
      some_bytes = h.some;
      in_unit = omega (arith, page_size_is s (addr / s.page_size) there, h.fits);
      whole_block = λ w e. let k : true ≡ false = sym (is_there (addr / s.page_size) s.pages there) ∙ e in absurd (cc);
      short_read = short;
    }

whole_legal : (s : Shape) (disk block : ℕ) (pat : List ℕ) → IsGood s → NumbersBlocks s → disk < length s.disks → block < blocks s.disks disk → IsLegal s (part_of (unit_of_block s disk block) 0 (block_size s.disks disk) (Some pat))
whole_legal s disk block pat g n d b =
    let is = n.size_of_disk disk block d b in
    let sixteen = unit_size_least (block_size s.disks disk) ((good_within s g).block_sizes disk d) in
    record {
      unit_is = n.unit_in disk block d b;
      some_bytes = omega (arith, sixteen);
      in_unit = omega (arith, is);
      whole_block = λ w e. (refl, sym is);
      short_read = λ e. absurd (cc);
    }

writes_legal : (s : Shape) (disk block n : ℕ) (pat : List ℕ) → IsGood s → NumbersBlocks s → disk < length s.disks → block + n ≤ blocks s.disks disk → AllByRecursion (IsLegal s) (block_writes s disk block n pat)
writes_legal s disk block zero pat g ns d h = tt
writes_legal s disk block (suc n) pat g ns d h =
    all_push (IsLegal s) (block_writes s disk block n pat) (part_of (unit_of_block s disk (block + n)) 0 (block_size s.disks disk) (Some pat)) (writes_legal s disk block n pat g ns d (omega arith)) (whole_legal s disk (block + n) pat g ns d (omega arith))

fetch_legal : (s : Shape) (disk block offset len : ℕ) → NumbersBlocks s → disk < length s.disks → block < blocks s.disks disk → 0 < len → len ≤ 64 → offset + len ≤ block_size s.disks disk → IsLegal s (part_of (unit_of_block s disk block) offset len None)
fetch_legal s disk block offset len n d b some short fits = record {
  unit_is = n.unit_in disk block d b;
  some_bytes = some;
  in_unit = omega (arith, n.size_of_disk disk block d b);
  whole_block = λ w e. absurd (cc);
  short_read = λ e. short;
}

-- an operation that may act
pub op_legal : (s : Shape) (op : Op) → IsGood s → op_fault s op ≡ None → AllByRecursion (IsLegal s) (unit_operations s op)
op_legal s (Store addr len pat) g h =
    let some = unit_size_least s.page_size (good_within s g).page_size in
    (page_legal s addr len (Some pat) (in_page s addr len (omega (arith, some)) h) (λ e. absurd (cc)), tt)
op_legal s (Load addr len) g h =
    let some = unit_size_least s.page_size (good_within s g).page_size in
    let a = neither (fault_if (nat_lt 64 len) OutOfRange) (memory_fault s addr len) h in
    (page_legal s addr len None (in_page s addr len (omega (arith, some)) a.1) (λ e. not_above len 64 (not_there _ _ a.0)), tt)
op_legal s (Write disk block count pat) g h =
    let a = neither_test (nat_le (length s.disks) disk || count == 0) (nat_lt (blocks s.disks disk) (block + count)) (not_there _ _ h) in
    let b = neither_test (nat_le (length s.disks) disk) (count == 0) a.0 in
    writes_legal s disk block count pat g (numbers_blocks s) (below_least (length s.disks) disk b.0) (not_above (block + count) (blocks s.disks disk) a.1)
op_legal s (Fetch disk block offset len) g h =
    let a = neither_test (nat_le (length s.disks) disk || nat_le (blocks s.disks disk) block || len == 0 || nat_lt 64 len) (nat_lt (block_size s.disks disk) (offset + len)) (not_there _ _ h) in
    let b = neither_test (nat_le (length s.disks) disk || nat_le (blocks s.disks disk) block || len == 0) (nat_lt 64 len) a.0 in
    let c = neither_test (nat_le (length s.disks) disk || nat_le (blocks s.disks disk) block) (len == 0) b.0 in
    let d = neither_test (nat_le (length s.disks) disk) (nat_le (blocks s.disks disk) block) c.0 in
    (fetch_legal s disk block offset len (numbers_blocks s) (below_least (length s.disks) disk d.0) (below_least (blocks s.disks disk) block d.1) (not_zero len c.1) (not_above len 64 b.1) (not_above (offset + len) (block_size s.disks disk) a.1), tt)

all_append : {X : Type 0} (P : X → Type 0) (xs ys : List X) → AllByRecursion P xs → AllByRecursion P ys → AllByRecursion P (xs ++ ys)
all_append P [] ys h k = k
all_append P (x ∷ xs) ys h k = (h.0, all_append P xs ys h.1 k)

pub ops_legal : (s : Shape) (ops : List Op) → IsGood s → AllByRecursion (IsGoodOp s) ops → AllByRecursion (IsLegal s) (all_unit_operations s ops)
ops_legal s [] g h = tt
ops_legal s (op ∷ ops) g h = all_append (IsLegal s) (unit_operations s op) (all_unit_operations s ops) (op_legal s op g h.0.acts) (ops_legal s ops g h.1)
