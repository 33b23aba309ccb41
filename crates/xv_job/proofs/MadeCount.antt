-- How many unit operations the guests of a made job have.
use Rattle.std.proofs.Common.{◌≡◌, ℕ, zero, suc, ◌+◌, ◌*◌, ◌%◌, ◌≤◌, [], ◌∷◌, get_or, map, sum_by, refl, ap, ◌∙◌, arith}
use Rattle.std.specs.List.{range_with_len}
use Rattle.std.proofs.lemmas.List.FromFn.{sum_by-map-range_with_len_more}
use Rattle.std.proofs.lemmas.List.Sums.{sum_by-cons}
use Rattle.xv_trace.specs.Operations.{op_count, count_all, no_op}
use Rattle.xv_job.specs.Made.{turn, made_op, first_ops, ops_each, guest_ops}
use Rattle.xv_job.proofs.MadeOps.{op_few}

-- one operation more
count_more : (n g i j : ℕ) → j ≡ i + 1 → count_all (first_ops n g j) ≡ count_all (first_ops n g i) + op_count (made_op n g i)
count_more n g i j e =
    ap (λ (k : ℕ). count_all (first_ops n g k)) e ∙ sum_by-map-range_with_len_more op_count (made_op n g) 0 i i (omega arith)

pub count_few : (n g i : ℕ) → count_all (first_ops n g i) ≤ 4 * i
count_few n g zero = omega arith
count_few n g (suc i) = omega (arith, count_more n g i (suc i) (omega arith), count_few n g i, op_few n g i)

-- the operation at a place of a turn
place : (n g i r : ℕ) → i % 8 ≡ r → made_op n g i ≡ get_or (turn g (n + 31 * i + 7 * g)) r no_op
place n g i r e = ap (λ (m : ℕ). get_or (turn g (n + 31 * i + 7 * g)) m no_op) e

count_at : (n g i r : ℕ) → i % 8 ≡ r → op_count (made_op n g i) ≡ op_count (get_or (turn g (n + 31 * i + 7 * g)) r no_op)
count_at n g i r e = ap op_count (place n g i r e)

-- the blocks of a guest's writes: as many in each turn
abbrev pub run : ℕ → ℕ → ℕ
run n g = 1 + (n + 3 + 3 * g) % 4

run_is : (n g i : ℕ) → i % 4 ≡ 1 → 1 + (n + 31 * i + 7 * g) % 4 ≡ run n g
run_is n g i e = omega arith

turn_count : (n g i a b c d e f h j : ℕ) → i % 8 ≡ 0 → a ≡ i + 1 → b ≡ i + 2 → c ≡ i + 3 → d ≡ i + 4 → e ≡ i + 5 → f ≡ i + 6 → h ≡ i + 7 → j ≡ i + 8 → count_all (first_ops n g j) ≡ count_all (first_ops n g i) + (6 + 2 * run n g)
turn_count n g i a b c d e f h j z ea eb ec ed ee ef eh ej =
    let first : op_count (made_op n g i) ≡ 1 = count_at n g i 0 z in
    let second : op_count (made_op n g a) ≡ run n g = count_at n g a 1 (omega arith) ∙ run_is n g a (omega arith) in
    let third : op_count (made_op n g b) ≡ 1 = count_at n g b 2 (omega arith) in
    let fourth : op_count (made_op n g c) ≡ 1 = count_at n g c 3 (omega arith) in
    let fifth : op_count (made_op n g d) ≡ 1 = count_at n g d 4 (omega arith) in
    let sixth : op_count (made_op n g e) ≡ run n g = count_at n g e 5 (omega arith) ∙ run_is n g e (omega arith) in
    let seventh : op_count (made_op n g f) ≡ 1 = count_at n g f 6 (omega arith) in
    let eighth : op_count (made_op n g h) ≡ 1 = count_at n g h 7 (omega arith) in
    let p = count_more n g i a (omega arith) in
    let q = count_more n g a b (omega arith) in
    let r = count_more n g b c (omega arith) in
    let s = count_more n g c d (omega arith) in
    let t = count_more n g d e (omega arith) in
    let u = count_more n g e f (omega arith) in
    let v = count_more n g f h (omega arith) in
    let w = count_more n g h j (omega arith) in
    omega arith

-- all turns of a guest
guest_count : (n g m i : ℕ) → i ≡ 8 * m → count_all (first_ops n g i) ≡ m * (6 + 2 * run n g)
guest_count n g zero i e = ap (λ (k : ℕ). count_all (first_ops n g k)) e ∙ omega arith
guest_count n g (suc m) i e =
    let h = 8 * m in
    turn_count n g h (h + 1) (h + 2) (h + 3) (h + 4) (h + 5) (h + 6) (h + 7) i (omega arith) refl refl refl refl refl refl refl (omega arith)
    ∙ omega (arith, guest_count n g m h refl)

pub ops_each_is : ops_each ≡ 800
unfolding ops_each
ops_each_is = refl

one_guest : (n g : ℕ) → count_all (guest_ops n g) ≡ 100 * (6 + 2 * run n g)
one_guest n g = guest_count n g 100 ops_each ops_each_is

-- the four guests together: their runs are of 1, 2, 3 and 4 blocks, in some order
runs : (n : ℕ) → run n 0 + run n 1 + run n 2 + run n 3 ≡ 10
runs n = omega arith

pub made_count : (n : ℕ) → sum_by count_all (map (guest_ops n) (range_with_len 0 4)) ≡ 4400
made_count n =
    omega (
      arith,
      sum_by-cons count_all (guest_ops n 0) (guest_ops n 1 ∷ guest_ops n 2 ∷ guest_ops n 3 ∷ []),
      sum_by-cons count_all (guest_ops n 1) (guest_ops n 2 ∷ guest_ops n 3 ∷ []),
      sum_by-cons count_all (guest_ops n 2) (guest_ops n 3 ∷ []),
      sum_by-cons count_all (guest_ops n 3) [],
      one_guest n 0,
      one_guest n 1,
      one_guest n 2,
      one_guest n 3,
      runs n,
    )
