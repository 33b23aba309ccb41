-- Each operation of a made job may act on its machine, and is of at most four unit operations.
use Rattle.std.proofs.Common.{◌≡◌, ◌==◌, ℕ, zero, suc, ◌+◌, ◌*◌, ◌%◌, ◌<◌, ◌≤◌, false, List, [], ◌∷◌, length, None, nat_le, nat_lt, get_or, refl, arith}
use Rattle.std.specs.List.{AllByRecursion}
use Rattle.std.proofs.lemmas.Bool.Decides.{nat_tests}
use Rattle.xv_base.specs.Units.{Shape, blocks, block_size}
use Rattle.xv_text.specs.Fields.{IsPattern}
use Rattle.xv_trace.specs.declared.op.Op.TheVariants.{Store, Load, Write, Fetch}
use Rattle.xv_trace.specs.Operations.{memory_fault, op_fault, op_count, no_op}
use Rattle.xv_trace.specs.OpText.{IsGoodOp}
use Rattle.xv_job.specs.Made.{made_shape, byte_of, address, turn, made_op}
use Rattle.xv_job.proofs.Lists.{all_at}

-- the tests of an operation that pass
least_not : (n m : ℕ) → n < m → nat_le m n ≡ false
least_not n m h = grind (arith, nat_tests)

above_not : (n m : ℕ) → n ≤ m → nat_lt m n ≡ false
above_not n m h = grind (arith, nat_tests)

zero_not : (n : ℕ) → 0 < n → (n == 0) ≡ false
zero_not n h = grind (arith, nat_tests)

memory_passes : (s : Shape) (addr len : ℕ) → 0 < len → addr < s.pages * s.page_size → addr % s.page_size + len ≤ s.page_size → memory_fault s addr len ≡ None
memory_passes s addr len some there fits =
    rw (zero_not len some, least_not addr (s.pages * s.page_size) there, above_not (addr % s.page_size + len) s.page_size fits) refl

load_passes : (s : Shape) (addr len : ℕ) → len ≤ 64 → memory_fault s addr len ≡ None → op_fault s (Load addr len) ≡ None
load_passes s addr len few h = rw (above_not len 64 few, h) refl

write_passes : (s : Shape) (disk block count : ℕ) (pat : List ℕ) → disk < length s.disks → 0 < count → block + count ≤ blocks s.disks disk → op_fault s (Write disk block count pat) ≡ None
write_passes s disk block count pat there some fits =
    rw (least_not disk (length s.disks) there, zero_not count some, above_not (block + count) (blocks s.disks disk) fits) refl

fetch_passes : (s : Shape) (disk block offset len : ℕ) → disk < length s.disks → block < blocks s.disks disk → 0 < len → len ≤ 64 → offset + len ≤ block_size s.disks disk → op_fault s (Fetch disk block offset len) ≡ None
fetch_passes s disk block offset len there here some few fits =
    rw (least_not disk (length s.disks) there, least_not block (blocks s.disks disk) here, zero_not len some, above_not len 64 few, above_not (offset + len) (block_size s.disks disk) fits) refl

-- a pattern of one byte
byte_at : (x i : ℕ) → x < 256 → get_or (x ∷ []) i 0 < 256
byte_at x zero h = h
byte_at x (suc i) h = omega arith

pub byte_pattern : (x : ℕ) → IsPattern (byte_of x)
byte_pattern x = record { some = omega arith; few = omega arith; bytes_fit = λ i. byte_at (x % 255 + 1) i (omega arith) }

-- an address lies in the memory, with room for 64 bytes in its page
pub record IsAddress (addr : ℕ) : Type 0 where
  pub there : addr < 1024 * 4096
  pub fits : addr % 4096 + 64 ≤ 4096

address_in : (g k : ℕ) → g < 4 → IsAddress (address g k)
address_in g k h = record { there = omega arith; fits = omega arith }

-- the operations of a turn, each at its own number
store_good : (g k : ℕ) → g < 4 → IsGoodOp made_shape (Store (address g k) 64 (byte_of k))
store_good g k h =
    let a = address_in g k h in
    let there = a.there in
    record {
      can_be_said = (omega arith, omega arith, byte_pattern k);
      acts = memory_passes made_shape (address g k) 64 (omega arith) a.there a.fits;
    }

load_good : (g k : ℕ) → g < 4 → IsGoodOp made_shape (Load (address g k) 64)
load_good g k h =
    let a = address_in g k h in
    let there = a.there in
    record {
      can_be_said = (omega arith, omega arith);
      acts = load_passes made_shape (address g k) 64 (omega arith) (memory_passes made_shape (address g k) 64 (omega arith) a.there a.fits);
    }

first_written : (g k : ℕ) → g < 4 → IsGoodOp made_shape (Write 0 (1024 * g + k % 1020) (1 + k % 4) (byte_of k))
first_written g k h = record {
  can_be_said = (omega arith, omega arith, omega arith, byte_pattern k);
  acts = write_passes made_shape 0 (1024 * g + k % 1020) (1 + k % 4) (byte_of k) (omega arith) (omega arith) (omega arith);
}

second_written : (g k : ℕ) → g < 4 → IsGoodOp made_shape (Write 1 (512 * g + k % 508) (1 + k % 4) (byte_of k))
second_written g k h = record {
  can_be_said = (omega arith, omega arith, omega arith, byte_pattern k);
  acts = write_passes made_shape 1 (512 * g + k % 508) (1 + k % 4) (byte_of k) (omega arith) (omega arith) (omega arith);
}

first_fetched : (g k : ℕ) → g < 4 → IsGoodOp made_shape (Fetch 0 (1024 * g + k % 1024) 0 64)
first_fetched g k h = record {
  can_be_said = (omega arith, omega arith, omega arith, omega arith);
  acts = fetch_passes made_shape 0 (1024 * g + k % 1024) 0 64 (omega arith) (omega arith) (omega arith) (omega arith) (omega arith);
}

second_fetched : (g k : ℕ) → g < 4 → IsGoodOp made_shape (Fetch 1 (512 * g + k % 512) 448 64)
second_fetched g k h = record {
  can_be_said = (omega arith, omega arith, omega arith, omega arith);
  acts = fetch_passes made_shape 1 (512 * g + k % 512) 448 64 (omega arith) (omega arith) (omega arith) (omega arith) (omega arith);
}

turn_good : (g k : ℕ) → g < 4 → AllByRecursion (IsGoodOp made_shape) (turn g k)
turn_good g k h =
    (store_good g k h, (first_written g k h, (load_good g k h, (first_fetched g k h, (store_good g k h, (second_written g k h, (load_good g k h, (second_fetched g k h, tt))))))))

pub op_good : (n g i : ℕ) → g < 4 → IsGoodOp made_shape (made_op n g i)
op_good n g i h = let k = n + 31 * i + 7 * g in all_at (IsGoodOp made_shape) (turn g k) no_op (turn_good g k h) (i % 8) (omega arith)

-- an operation is of at most four unit operations
four : (k : ℕ) → 1 + k % 4 ≤ 4
four k = omega arith

turn_few : (g k : ℕ) → AllByRecursion (λ op. op_count op ≤ 4) (turn g k)
turn_few g k = (omega arith, (four k, (omega arith, (omega arith, (omega arith, (four k, (omega arith, (omega arith, tt))))))))

pub op_few : (n g i : ℕ) → op_count (made_op n g i) ≤ 4
op_few n g i = let k = n + 31 * i + 7 * g in all_at (λ op. op_count op ≤ 4) (turn g k) no_op (turn_few g k) (i % 8) (omega arith)
