-- Sums over the first disks, and a disk by its number.
use Rattle.std.proofs.Common.{◌≡◌, ℕ, suc, zero, ◌+◌, ◌-◌, ◌*◌, ◌<◌, ◌≤◌, if◌then◌else◌, List, [], ◌∷◌, length, take, drop, replicate, get_or, refl, arith, ap, ◌∙◌, ◌++◌, nat_lt}
use Rattle.std.proofs.Math.Nat.{mul-le-mul_right}
use Rattle.std.proofs.lemmas.List.{drop-replicate}
use Rattle.xv_base.specs.declared.unit.DiskShape.{DiskShape}
use Rattle.xv_base.specs.Padded.{padded_to}
use Rattle.xv_base.specs.Units.{blocks_of, bytes_of, bytes_before, blocks, block_size}
use Rattle.std.proofs.lemmas.Bool.Decides.{nat_tests}

-- a disk's numbers are those of the item at its place
pub blocks-get_or : (ds : List DiskShape) (k : ℕ) (d : DiskShape) → k < length ds → blocks ds k ≡ (get_or ds k d).blocks
blocks-get_or [] k d h = absurd (omega arith)
blocks-get_or (e ∷ ds) zero d h = refl
blocks-get_or (e ∷ ds) (suc k) d h = blocks-get_or ds k d (omega arith)

pub block_size-get_or : (ds : List DiskShape) (k : ℕ) (d : DiskShape) → k < length ds → block_size ds k ≡ (get_or ds k d).block_size
block_size-get_or [] k d h = absurd (omega arith)
block_size-get_or (e ∷ ds) zero d h = refl
block_size-get_or (e ∷ ds) (suc k) d h = block_size-get_or ds k d (omega arith)

-- the blocks before a disk, and its own, are among all
pub blocks_of-take : (ds : List DiskShape) (k : ℕ) → k < length ds → blocks_of (take k ds) + blocks ds k ≤ blocks_of ds
blocks_of-take [] k h = absurd (omega arith)
blocks_of-take (d ∷ ds) zero h = omega arith
blocks_of-take (d ∷ ds) (suc k) h = omega (arith, blocks_of-take ds k (omega arith))

step : (n z k m all : ℕ) → m ≤ all → (if nat_lt k n then k * z else n * z + m) ≤ n * z + all
step n z k m all h = grind (arith, nat_tests, mul-le-mul_right)

-- no more bytes lie before a block than all
pub bytes_before-bytes_of : (ds : List DiskShape) (k : ℕ) → bytes_before ds k ≤ bytes_of ds
bytes_before-bytes_of [] k = omega arith
bytes_before-bytes_of (d ∷ ds) k = step d.blocks d.block_size k (bytes_before ds (k - d.blocks)) (bytes_of ds) (bytes_before-bytes_of ds (k - d.blocks))

-- items written over blanks
pub padded-over : {A : Type 0} (blank : A) (xs ys : List A) → ys ≡ replicate (length ys) blank → xs ++ drop (length xs) ys ≡ padded_to blank (length ys) xs
padded-over blank xs ys h =
    ap (λ zs. xs ++ zs) (ap (drop (length xs)) h ∙ drop-replicate (length xs) (length ys) blank)
