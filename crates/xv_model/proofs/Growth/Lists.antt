-- Sums over lists in which one element is replaced.
use Rattle.std.proofs.Common.{◌≡◌, ℕ, zero, suc, ◌<◌, ◌≤◌, List, [], ◌∷◌, length, map, set, get_or, sum_by, refl, arith}
use Rattle.std.proofs.lemmas.List.Sums.{sum_by-cons}
use Rattle.xv_base.specs.declared.unit.DiskShape.{DiskShape}
use Rattle.xv_base.specs.Units.{blocks_of}
use Rattle.xv_model.specs.Job.{blocks}
use Rattle.xv_model.specs.View.{Disk, no_disk}
use Rattle.xv_model.specs.Effect.{without_region}

-- the blocks behind the cursors of a list of disks
abbrev pub cursors : List Disk → ℕ
cursors ds = sum_by (λ (d : Disk). d.cursor) ds

pub cursors-set_same : (ds : List Disk) (d : ℕ) (new : Disk) → new.cursor ≡ (get_or ds d no_disk).cursor → cursors (set ds d new) ≡ cursors ds
cursors-set_same [] d new e = refl
cursors-set_same (k ∷ ds) zero new e = omega (arith, sum_by-cons (λ (x : Disk). x.cursor) new ds, sum_by-cons (λ (x : Disk). x.cursor) k ds)
cursors-set_same (k ∷ ds) (suc d) new e = omega (arith, cursors-set_same ds d new e, sum_by-cons (λ (x : Disk). x.cursor) k (set ds d new), sum_by-cons (λ (x : Disk). x.cursor) k ds)

pub cursors-without : (ds : List Disk) → cursors (map without_region ds) ≡ cursors ds
cursors-without [] = refl
cursors-without (k ∷ ds) = omega (arith, cursors-without ds, sum_by-cons (λ (x : Disk). x.cursor) (without_region k) (map without_region ds), sum_by-cons (λ (x : Disk). x.cursor) k ds)

-- each cursor lies in its disk
pub cursors-within : (ss : List DiskShape) (ds : List Disk) → length ds ≡ length ss → ((d : ℕ) → d < length ds → (get_or ds d no_disk).cursor ≤ blocks ss d) → cursors ds ≤ blocks_of ss
cursors-within [] [] e le = omega arith
cursors-within [] (k ∷ ds) e le = absurd (omega arith)
cursors-within (s ∷ ss) [] e le = absurd (omega arith)
cursors-within (s ∷ ss) (k ∷ ds) e le =
    omega (
      arith,
      le 0 (omega arith),
      cursors-within ss ds (omega arith) (λ d l. le (suc d) (omega arith)),
      sum_by-cons (λ (x : Disk). x.cursor) k ds,
    )
