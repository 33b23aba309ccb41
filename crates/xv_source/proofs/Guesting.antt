-- The operations of guests at the source.
use Rattle.std.proofs.Common.{◌≡◌, ◌≤◌, ℕ, List, ◌++◌, Option, Some, length, take, drop, false, is_some, arith, ap}
use Rattle.std.proofs.lemmas.List.{take_at}
use Rattle.xv_base.specs.Units.{Shape, is_page, size, max_size}
use Rattle.xv_base.specs.Layout.{IsGood}
use Rattle.xv_base.specs.Pattern.{repeated}
use Rattle.xv_base.proofs.Partition.{has_greatest_size}
use Rattle.xv_model.specs.Job.{UnitOp, IsLegal}
use Rattle.xv_model.proofs.Contents.Sizes.{length-repeated}

-- the bytes of an operation are no more than those of the greatest unit
pub len_fits : (s : Shape) (op : UnitOp) → IsGood s → IsLegal s op → op.len ≤ max_size s
len_fits s op good legal = omega (arith, (has_greatest_size s good).most op.unit.0 legal.unit_is, legal.in_unit)

-- a write of a block is of the whole block
pub whole_block : (s : Shape) (op : UnitOp) (pattern : List ℕ) → IsLegal s op → op.write ≡ Some pattern → is_page s op.unit.0 ≡ false → op.len ≡ size s op.unit.0
whole_block s op pattern legal writes block = (legal.whole_block (ap (λ (w : Option (List ℕ)). is_some w) writes) block).1

pub length_repeated : (pattern : List ℕ) (n : ℕ) → length (repeated pattern n) ≡ n
length_repeated = length-repeated

-- a list that is written back whole
pub written_back : (n : ℕ) (xs ys : List ℕ) → n ≡ length xs → length ys ≡ length xs → take n (ys ++ drop (length ys) xs) ≡ ys
written_back n xs ys e f = take_at ys (drop (length ys) xs) n (omega arith)
