-- How many unit operations there are, and which one has a number.
use Rattle.std.proofs.lemmas.Bool.{cases_lt}
use Rattle.std.proofs.Common.{◌≡◌, inl, inr, ℕ, zero, suc, ◌+◌, ◌-◌, ◌<◌, ◌≤◌, List, [], ◌∷◌, ◌++◌, length, take, get_or, Some, refl, ap, ◌∙◌, arith}
use Rattle.std.proofs.lemmas.List.{length-append, get_or_append_left, get_or-append_right}
use Rattle.std.proofs.lemmas.List.Sums.{sum_by-append, sum_by-cons}
use Rattle.xv_base.specs.Units.{Shape, unit_of_block, block_size}
use Rattle.xv_trace.specs.declared.op.Op.{Op}
use Rattle.xv_trace.specs.declared.op.Op.TheVariants.{Store, Load, Write, Fetch}
use Rattle.xv_trace.specs.Operations.{unit_operations, all_unit_operations, block_writes, part_of, op_count, count_all, no_unit_op}

pub count_all-cons : (op : Op) (ops : List Op) → count_all (op ∷ ops) ≡ op_count op + count_all ops
count_all-cons op ops = sum_by-cons op_count op ops

pub count_all-append : (xs ys : List Op) → count_all (xs ++ ys) ≡ count_all xs + count_all ys
count_all-append xs ys = sum_by-append op_count xs ys

pub count_all-one : (op : Op) → count_all (op ∷ []) ≡ op_count op
count_all-one op = count_all-cons op [] ∙ omega arith

pub count_all-push : (ops : List Op) (op : Op) → count_all (ops ++ op ∷ []) ≡ count_all ops + op_count op
count_all-push ops op = count_all-append ops (op ∷ []) ∙ ap (λ n. count_all ops + n) (count_all-one op)

-- an operation is as many unit operations as it counts
length-block_writes : (shape : Shape) (disk block n : ℕ) (pat : List ℕ) → length (block_writes shape disk block n pat) ≡ n
length-block_writes shape disk block zero pat = refl
length-block_writes shape disk block (suc n) pat =
    omega (arith, length-append (block_writes shape disk block n pat) (part_of (unit_of_block shape disk (block + n)) 0 (block_size shape.disks disk) (Some pat) ∷ []), length-block_writes shape disk block n pat)

pub length-unit_operations : (shape : Shape) (op : Op) → length (unit_operations shape op) ≡ op_count op
length-unit_operations shape (Store addr len pat) = refl
length-unit_operations shape (Load addr len) = refl
length-unit_operations shape (Write disk block count pat) = length-block_writes shape disk block count pat
length-unit_operations shape (Fetch disk block offset len) = refl

pub length-all_unit_operations : (shape : Shape) (ops : List Op) → count_all ops ≡ length (all_unit_operations shape ops)
length-all_unit_operations shape [] = refl
length-all_unit_operations shape (op ∷ ops) =
    omega (arith, count_all-cons op ops, length-append (unit_operations shape op) (all_unit_operations shape ops), length-unit_operations shape op, length-all_unit_operations shape ops)

-- the write of one of the blocks in a row
pub block_write_at : (shape : Shape) (disk block n : ℕ) (pat : List ℕ) (k : ℕ) → k < n
    → get_or (block_writes shape disk block n pat) k no_unit_op ≡ part_of (unit_of_block shape disk (block + k)) 0 (block_size shape.disks disk) (Some pat)
block_write_at shape disk block zero pat k h = absurd (omega arith)
block_write_at shape disk block (suc n) pat k h = elim (cases_lt k n) [
  | inl before ↦
      let in' : k < length (block_writes shape disk block n pat) = omega (arith, length-block_writes shape disk block n pat) in
      get_or_append_left (block_writes shape disk block n pat) _ no_unit_op k in' ∙ block_write_at shape disk block n pat k before
  | inr last ↦
      let same : n ≡ k = omega arith in
      let none : k - n ≡ 0 = omega arith in
      get_or-append_right (block_writes shape disk block n pat) _ n k no_unit_op (length-block_writes shape disk block n pat) last
      ∙ ap (λ j. get_or (part_of (unit_of_block shape disk (block + n)) 0 (block_size shape.disks disk) (Some pat) ∷ []) j no_unit_op) none
      ∙ ap (λ j. part_of (unit_of_block shape disk (block + j)) 0 (block_size shape.disks disk) (Some pat)) same
]

-- the unit operation of a number is one of the operation that it falls in
take_next : (i : ℕ) (op : Op) (ops : List Op) → take (suc i + 1) (op ∷ ops) ≡ op ∷ take (i + 1) ops
take_next i op ops = let e : suc i + 1 ≡ suc (i + 1) = omega arith in ap (λ n. take n (op ∷ ops)) e

pub unit_operation_at : (shape : Shape) (ops : List Op) (i k : ℕ) (d : Op) → i < length ops → count_all (take i ops) ≤ k → k < count_all (take (i + 1) ops)
    → get_or (all_unit_operations shape ops) k no_unit_op ≡ get_or (unit_operations shape (get_or ops i d)) (k - count_all (take i ops)) no_unit_op
unit_operation_at shape [] i k d h low high = absurd (omega arith)
unit_operation_at shape (op ∷ ops) zero k d h low high =
    let one : count_all (op ∷ []) ≡ op_count op = count_all-one op in
    let in' : k < length (unit_operations shape op) = omega (arith, length-unit_operations shape op) in
    get_or_append_left (unit_operations shape op) (all_unit_operations shape ops) no_unit_op k in'
    ∙ ap (λ j. get_or (unit_operations shape op) j no_unit_op) (let none : k ≡ k - 0 = omega arith in none)
unit_operation_at shape (op ∷ ops) (suc i) k d h low high =
    let first = count_all-cons op (take i ops) in
    let next = ap count_all (take_next i op ops) ∙ count_all-cons op (take (i + 1) ops) in
    let same : k - op_count op - count_all (take i ops) ≡ k - count_all (op ∷ take i ops) = omega (arith, first) in
    get_or-append_right (unit_operations shape op) (all_unit_operations shape ops) (op_count op) k no_unit_op (length-unit_operations shape op) (omega (arith, first))
    ∙ unit_operation_at shape ops i (k - op_count op) d (omega arith) (omega (arith, first)) (omega (arith, first, next))
    ∙ ap (λ j. get_or (unit_operations shape (get_or ops i d)) j no_unit_op) same
