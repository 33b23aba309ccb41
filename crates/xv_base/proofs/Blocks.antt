-- The block that has a number over the disks: its disk, its number there, its size and its place.
use Rattle.std.proofs.Common.{◌≡◌, ℕ, zero, suc, ◌+◌, ◌-◌, ◌*◌, ◌<◌, ◌≤◌, max, List, [], ◌∷◌, length, take, nat_eq, if◌then◌else◌, refl, sym, ap, ◌∙◌, arith, add-one, inl, inr, ◌⊎◌}
use Rattle.std.proofs.lemmas.Bool.{cases_lt, lt-ltb, le-ltb}
use Rattle.std.proofs.lemmas.Bool.Decides.{nat_tests}
use Rattle.xv_base.specs.declared.unit.DiskShape.{DiskShape}
use Rattle.xv_base.specs.Units.{blocks_of, bytes_of, disk_at, block_at, block_size_at, bytes_before, blocks, block_size, max_block_size}

-- a block of the first disk, and one of a later disk
disk_at-here : (d : DiskShape) (ds : List DiskShape) (k : ℕ) → k < d.blocks → disk_at (d ∷ ds) k ≡ 0
disk_at-here d ds k h = rw (lt-ltb k d.blocks h) refl

disk_at-later : (d : DiskShape) (ds : List DiskShape) (k : ℕ) → d.blocks ≤ k → disk_at (d ∷ ds) k ≡ disk_at ds (k - d.blocks) + 1
disk_at-later d ds k h = rw (le-ltb k d.blocks h) refl

block_at-here : (d : DiskShape) (ds : List DiskShape) (k : ℕ) → k < d.blocks → block_at (d ∷ ds) k ≡ k
block_at-here d ds k h = rw (lt-ltb k d.blocks h) refl

block_at-later : (d : DiskShape) (ds : List DiskShape) (k : ℕ) → d.blocks ≤ k → block_at (d ∷ ds) k ≡ block_at ds (k - d.blocks)
block_at-later d ds k h = rw (le-ltb k d.blocks h) refl

block_size_at-here : (d : DiskShape) (ds : List DiskShape) (k : ℕ) → k < d.blocks → block_size_at (d ∷ ds) k ≡ d.block_size
block_size_at-here d ds k h = rw (lt-ltb k d.blocks h) refl

block_size_at-later : (d : DiskShape) (ds : List DiskShape) (k : ℕ) → d.blocks ≤ k → block_size_at (d ∷ ds) k ≡ block_size_at ds (k - d.blocks)
block_size_at-later d ds k h = rw (le-ltb k d.blocks h) refl

bytes_before-here : (d : DiskShape) (ds : List DiskShape) (k : ℕ) → k < d.blocks → bytes_before (d ∷ ds) k ≡ k * d.block_size
bytes_before-here d ds k h = rw (lt-ltb k d.blocks h) refl

bytes_before-later : (d : DiskShape) (ds : List DiskShape) (k : ℕ) → d.blocks ≤ k → bytes_before (d ∷ ds) k ≡ d.blocks * d.block_size + bytes_before ds (k - d.blocks)
bytes_before-later d ds k h = rw (le-ltb k d.blocks h) refl

-- the disk of a block is one of the disks, and the block is one of its blocks
pub disk_at-in : (ds : List DiskShape) (k : ℕ) → k < blocks_of ds → disk_at ds k < length ds
disk_at-in [] k h = absurd (omega arith)
disk_at-in (d ∷ ds) k h = elim (cases_lt k d.blocks) [
  | inl here ↦ rw (disk_at-here d ds k here) (omega arith)
  | inr later ↦ rw (disk_at-later d ds k later) (omega (arith, disk_at-in ds (k - d.blocks) (omega arith)))
]

pub block_at-in : (ds : List DiskShape) (k : ℕ) → k < blocks_of ds → block_at ds k < blocks ds (disk_at ds k)
block_at-in [] k h = absurd (omega arith)
block_at-in (d ∷ ds) k h = elim (cases_lt k d.blocks) [
  | inl here ↦ rw (disk_at-here d ds k here, block_at-here d ds k here) here
  | inr later ↦ rw (disk_at-later d ds k later, block_at-later d ds k later, add-one) (block_at-in ds (k - d.blocks) (omega arith))
]

-- and its number over all is the number of blocks on the disks before, with its own
pub number_back : (ds : List DiskShape) (k : ℕ) → k < blocks_of ds → blocks_of (take (disk_at ds k) ds) + block_at ds k ≡ k
number_back [] k h = absurd (omega arith)
number_back (d ∷ ds) k h = elim (cases_lt k d.blocks) [
  | inl here ↦ rw (disk_at-here d ds k here, block_at-here d ds k here) (omega arith)
  | inr later ↦ rw (disk_at-later d ds k later, block_at-later d ds k later, add-one) (omega (arith, number_back ds (k - d.blocks) (omega arith)))
]

-- the block of a number that is made so is that block again
pub disk_at-number : (ds : List DiskShape) (j b k : ℕ) → j < length ds → b < blocks ds j → k ≡ blocks_of (take j ds) + b → disk_at ds k ≡ j
disk_at-number [] j b k h l e = absurd (omega arith)
disk_at-number (d ∷ ds) zero b k h l e = disk_at-here d ds k (omega arith)
disk_at-number (d ∷ ds) (suc j) b k h l e =
    disk_at-later d ds k (omega arith) ∙ ap (λ n. n + 1) (disk_at-number ds j b (k - d.blocks) (omega arith) l (omega arith)) ∙ add-one j

pub block_at-number : (ds : List DiskShape) (j b k : ℕ) → j < length ds → b < blocks ds j → k ≡ blocks_of (take j ds) + b → block_at ds k ≡ b
block_at-number [] j b k h l e = absurd (omega arith)
block_at-number (d ∷ ds) zero b k h l e = block_at-here d ds k (omega arith) ∙ omega arith
block_at-number (d ∷ ds) (suc j) b k h l e =
    block_at-later d ds k (omega arith) ∙ block_at-number ds j b (k - d.blocks) (omega arith) l (omega arith)

-- its size is that of its disk's blocks
pub block_size_at-disk : (ds : List DiskShape) (k : ℕ) → k < blocks_of ds → block_size_at ds k ≡ block_size ds (disk_at ds k)
block_size_at-disk [] k h = absurd (omega arith)
block_size_at-disk (d ∷ ds) k h = elim (cases_lt k d.blocks) [
  | inl here ↦ rw (disk_at-here d ds k here, block_size_at-here d ds k here) refl
  | inr later ↦ rw (disk_at-later d ds k later, block_size_at-later d ds k later, add-one) (block_size_at-disk ds (k - d.blocks) (omega arith))
]

zero_less : (n : ℕ) → 0 - n ≡ 0
zero_less n = omega arith

none : (n z m : ℕ) → n ≡ 0 → m ≡ 0 → n * z + m ≡ 0
none n z m h l = rw (h, l) (omega arith)

-- the bytes of the blocks follow one another
pub bytes_before-zero : (ds : List DiskShape) → bytes_before ds 0 ≡ 0
bytes_before-zero [] = refl
bytes_before-zero (d ∷ ds) = elim (cases_lt 0 d.blocks) [
  | inl here ↦ bytes_before-here d ds 0 here ∙ omega arith
  | inr later ↦ bytes_before-later d ds 0 later ∙ none d.blocks d.block_size _ (omega arith) ((ap (bytes_before ds) (zero_less d.blocks) ∙ bytes_before-zero ds))
]

pub bytes_of-none : (ds : List DiskShape) → blocks_of ds ≡ 0 → bytes_of ds ≡ 0
bytes_of-none [] h = refl
bytes_of-none (d ∷ ds) h = grind (arith, bytes_of-none ds (omega arith))

pub bytes_before-none : (ds : List DiskShape) (k : ℕ) → k ≡ 0 → bytes_before ds k ≡ 0
bytes_before-none ds k h = ap (bytes_before ds) h ∙ bytes_before-zero ds

-- what has k blocks of z bytes before it, and the block k itself
one_more : (k n z : ℕ) → k + 1 ≡ n → k * z + z ≡ n * z
one_more k n z h = rw (← h) (omega arith)

pub bytes_before-next : (ds : List DiskShape) (k : ℕ) → k + 1 < blocks_of ds → bytes_before ds k + block_size_at ds k ≡ bytes_before ds (k + 1)
bytes_before-next [] k h = absurd (omega arith)
bytes_before-next (d ∷ ds) k h = elim (cases_lt (k + 1) d.blocks) [
  | inl both ↦
      let below : k < d.blocks = omega arith in
      rw (bytes_before-here d ds k below, block_size_at-here d ds k below, bytes_before-here d ds (k + 1) both) (omega arith)
  | inr past ↦ elim (cases_lt k d.blocks) [
    | inl here ↦
        let e : k + 1 ≡ d.blocks = omega arith in
        rw (bytes_before-here d ds k here, block_size_at-here d ds k here, bytes_before-later d ds (k + 1) past)
        (omega (arith, one_more k d.blocks d.block_size e, bytes_before-none ds (k + 1 - d.blocks) (omega arith)))
    | inr later ↦
        let e : k + 1 - d.blocks ≡ k - d.blocks + 1 = omega arith in
        rw (bytes_before-later d ds k later, block_size_at-later d ds k later, bytes_before-later d ds (k + 1) past, e)
        (omega (arith, bytes_before-next ds (k - d.blocks) (omega arith)))
  ]
]

pub bytes_before-last : (ds : List DiskShape) (k : ℕ) → k + 1 ≡ blocks_of ds → bytes_before ds k + block_size_at ds k ≡ bytes_of ds
bytes_before-last [] k h = absurd (omega arith)
bytes_before-last (d ∷ ds) k h = elim (cases_lt k d.blocks) [
  | inl here ↦
      let e : k + 1 ≡ d.blocks = omega arith in
      rw (bytes_before-here d ds k here, block_size_at-here d ds k here)
      (omega (arith, one_more k d.blocks d.block_size e, bytes_of-none ds (omega arith)))
  | inr later ↦
      rw (bytes_before-later d ds k later, block_size_at-later d ds k later)
      (omega (arith, bytes_before-last ds (k - d.blocks) (omega arith)))
]

-- no block is greater than the greatest, and one is as great, where there are blocks
larger_most : (n z k m : ℕ) → k < n → z ≤ (if nat_eq n 0 then m else max z m)
larger_most n z k m h = grind (arith, nat_tests)

most_of_rest : (n z m : ℕ) → m ≤ (if nat_eq n 0 then m else max z m)
most_of_rest n z m = grind (arith, nat_tests)

pub block_size_at-most : (ds : List DiskShape) (k : ℕ) → k < blocks_of ds → block_size_at ds k ≤ max_block_size ds
block_size_at-most [] k h = absurd (omega arith)
block_size_at-most (d ∷ ds) k h = elim (cases_lt k d.blocks) [
  | inl here ↦ rw (block_size_at-here d ds k here) (larger_most d.blocks d.block_size k (max_block_size ds) here)
  | inr later ↦ rw (block_size_at-later d ds k later)
      (omega (arith, block_size_at-most ds (k - d.blocks) (omega arith), most_of_rest d.blocks d.block_size (max_block_size ds)))
]

greatest_cases : (n z m : ℕ) → ((0 < n) × ((if nat_eq n 0 then m else max z m) ≡ z)) ⊎ ((if nat_eq n 0 then m else max z m) ≡ m)
greatest_cases n z m = grind (arith, nat_tests)

pub greatest_block : (ds : List DiskShape) → 0 < max_block_size ds → (k : ℕ) × (k < blocks_of ds) × (block_size_at ds k ≡ max_block_size ds)
greatest_block [] h = absurd (omega arith)
greatest_block (d ∷ ds) h = elim (greatest_cases d.blocks d.block_size (max_block_size ds)) [
  | inl own ↦ (0, omega (arith, own.0), block_size_at-here d ds 0 own.0 ∙ sym own.1)
  | inr e ↦
      let rest : 0 < max_block_size ds = omega arith in
      let there = greatest_block ds rest in
      let e' : d.blocks + there.0 - d.blocks ≡ there.0 = omega arith in (
        d.blocks + there.0,
        omega (arith, there.1),
        block_size_at-later d ds (d.blocks + there.0) (omega arith) ∙ ap (block_size_at ds) e' ∙ there.2 ∙ sym e,
      )
]
