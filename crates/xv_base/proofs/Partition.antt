-- The laws of a layout's units.
use Rattle.std.proofs.Common.{◌≡◌, ℕ, ◌+◌, ◌-◌, ◌*◌, ◌<◌, ◌≤◌, IsTrue, refl, ap, ◌∙◌, arith, inl, inr, zero, suc, add-zero}
use Rattle.std.proofs.lemmas.Bool.{cases_lt, lt-ltb, le-ltb}
use Rattle.xv_base.specs.Units.{Shape, units, all_bytes, size, place, max_size, unit_of_block, blocks_of, bytes_before, block_size_at, block_size, max_block_size}
use Rattle.xv_base.specs.Layout.{IsGood, IsWithinLimits, is_unit_size}
use Rattle.xv_base.specs.Laws.{PartitionsBytes, NumbersBlocks, HasGreatestSize}
use Rattle.xv_base.proofs.Sums.{blocks_of-take}
use Rattle.xv_base.proofs.Within.{good_within, unit_size_least, unit_size_most}
use Rattle.xv_base.proofs.Blocks.{disk_at-in, block_at-in, number_back, disk_at-number, block_at-number, block_size_at-disk, bytes_before-none, bytes_of-none, bytes_before-next, bytes_before-last, block_size_at-most, greatest_block}

-- a page, and a block
place-page : (s : Shape) (u : ℕ) → u < s.pages → place s u ≡ u * s.page_size
place-page s u h = rw (lt-ltb u s.pages h) refl

place-block : (s : Shape) (u : ℕ) → s.pages ≤ u → place s u ≡ s.pages * s.page_size + bytes_before s.disks (u - s.pages)
place-block s u h = rw (le-ltb u s.pages h) refl

size-page : (s : Shape) (u : ℕ) → u < s.pages → size s u ≡ s.page_size
size-page s u h = rw (lt-ltb u s.pages h) refl

size-block : (s : Shape) (u : ℕ) → s.pages ≤ u → size s u ≡ block_size_at s.disks (u - s.pages)
size-block s u h = rw (le-ltb u s.pages h) refl

one_more : (k n z : ℕ) → k + 1 ≡ n → k * z + z ≡ n * z
one_more k n z h = rw (← h) (omega arith)

place-next : (s : Shape) (u : ℕ) → u + 1 < units s → place s u + size s u ≡ place s (u + 1)
place-next s u h = elim (cases_lt (u + 1) s.pages) [
  | inl both ↦
      let below : u < s.pages = omega arith in
      rw (place-page s u below, size-page s u below, place-page s (u + 1) both) (omega arith)
  | inr past ↦ elim (cases_lt u s.pages) [
    | inl here ↦
        let e : u + 1 ≡ s.pages = omega arith in
        rw (place-page s u here, size-page s u here, place-block s (u + 1) past)
        (omega (arith, one_more u s.pages s.page_size e, bytes_before-none s.disks (u + 1 - s.pages) (omega arith)))
    | inr later ↦
        let e : u + 1 - s.pages ≡ u - s.pages + 1 = omega arith in
        rw (place-block s u later, size-block s u later, place-block s (u + 1) past, e)
        (omega (arith, bytes_before-next s.disks (u - s.pages) (omega arith)))
  ]
]

place-last : (s : Shape) (u : ℕ) → u + 1 ≡ units s → place s u + size s u ≡ all_bytes s
place-last s u h = elim (cases_lt u s.pages) [
  | inl here ↦
      let e : u + 1 ≡ s.pages = omega arith in
      rw (place-page s u here, size-page s u here)
      (omega (arith, one_more u s.pages s.page_size e, bytes_of-none s.disks (omega arith)))
  | inr later ↦
      rw (place-block s u later, size-block s u later)
      (omega (arith, bytes_before-last s.disks (u - s.pages) (omega arith)))
]

sizes : (s : Shape) → IsWithinLimits s → (u : ℕ) → u < units s → IsTrue (is_unit_size (size s u))
sizes s w u h = elim (cases_lt u s.pages) [
  | inl here ↦ rw (size-page s u here) w.page_size
  | inr later ↦
      let k : u - s.pages < blocks_of s.disks = omega arith in
      rw (size-block s u later, block_size_at-disk s.disks (u - s.pages) k) (w.block_sizes _ (disk_at-in s.disks (u - s.pages) k))
]

-- the places rise
place-rises : (s : Shape) (u n : ℕ) → u + n < units s → place s u ≤ place s (u + n)
place-rises s u zero h = omega (arith, ap (place s) (add-zero u))
place-rises s u (suc n) h =
    let e : u + suc n ≡ u + n + 1 = omega arith in
    rw e (omega (arith, place-rises s u n (omega arith), place-next s (u + n) (omega arith)))

place-apart : (s : Shape) (u v : ℕ) → u < v → v < units s → place s u + size s u ≤ place s v
place-apart s u v h l =
    let e : u + 1 + (v - (u + 1)) ≡ v = omega arith in
    let r = place-rises s (u + 1) (v - (u + 1)) (omega arith) in
    omega (arith, place-next s u (omega arith), r, ap (place s) e)

place-within : (s : Shape) (u : ℕ) → u < units s → place s u + size s u ≤ all_bytes s
place-within s u h = elim (cases_lt (u + 1) (units s)) [
  | inl more ↦
      let last : units s - 1 + 1 ≡ units s = omega arith in
      omega (arith, place-apart s u (units s - 1) (omega arith) (omega arith), place-last s (units s - 1) last)
  | inr end ↦ omega (arith, place-last s u (omega arith))
]

pub partitions_bytes : (s : Shape) → IsGood s → PartitionsBytes s
partitions_bytes s g =
    let w = good_within s g in
    record {
      first = place-page s 0 w.some_page ∙ omega arith;
      next = place-next s;
      last = place-last s;
      sizes = sizes s w;
      at_least = λ u h. unit_size_least _ (sizes s w u h);
      at_most = λ u h. unit_size_most _ (sizes s w u h);
      within = place-within s;
      apart = place-apart s;
    }

pub numbers_blocks : (s : Shape) → NumbersBlocks s
numbers_blocks s = record {
  disk_in = λ u l h. disk_at-in s.disks (u - s.pages) (omega arith);
  block_in = λ u l h. block_at-in s.disks (u - s.pages) (omega arith);
  unit_back = λ u l h. omega (arith, number_back s.disks (u - s.pages) (omega arith));
  unit_in = λ d b h l. omega (arith, blocks_of-take s.disks d h);
  no_page = λ d b. omega arith;
  disk_back = λ d b h l. disk_at-number s.disks d b _ h l (omega arith);
  block_back = λ d b h l. block_at-number s.disks d b _ h l (omega arith);
  size_of_disk = λ d b h l.
      let k = unit_of_block s d b - s.pages in
      let in' : k < blocks_of s.disks = omega (arith, blocks_of-take s.disks d h) in
      size-block s (unit_of_block s d b) (omega arith)
      ∙ block_size_at-disk s.disks k in'
      ∙ ap (block_size s.disks) (disk_at-number s.disks d b k h l (omega arith));
}

size-most : (s : Shape) (u : ℕ) → u < units s → size s u ≤ max_size s
size-most s u h = elim (cases_lt u s.pages) [
  | inl here ↦ rw (size-page s u here) (omega arith)
  | inr later ↦ rw (size-block s u later) (omega (arith, block_size_at-most s.disks (u - s.pages) (omega arith)))
]

size-had : (s : Shape) → IsWithinLimits s → (u : ℕ) × (u < units s) × (size s u ≡ max_size s)
size-had s w = elim (cases_lt s.page_size (max_block_size s.disks)) [
  | inl more ↦
      let there = greatest_block s.disks (omega arith) in
      let e : s.pages + there.0 - s.pages ≡ there.0 = omega arith in (
        s.pages + there.0,
        omega (arith, there.1),
        size-block s (s.pages + there.0) (omega arith) ∙ ap (block_size_at s.disks) e ∙ there.2 ∙ omega arith,
      )
  | inr least ↦ (0, omega (arith, w.some_page), size-page s 0 w.some_page ∙ omega arith)
]

pub has_greatest_size : (s : Shape) → IsGood s → HasGreatestSize s
has_greatest_size s g = record { most = size-most s; had = size-had s (good_within s g) }
