-- The blocks read of each disk's region, as a disk and its region change and as the history grows.
use Rattle.std.specs.Prelude.{◌≡◌, ◌<◌, ℕ, ◌+◌, List, [], ◌∷◌, ◌++◌, length, map, set, get_or}
use Rattle.std.proofs.Common.{arith, refl, ap, sym, ◌∙◌, subst, inl, inr}
use Rattle.std.proofs.lemmas.Bool.{cases_eq, cases_lt}
use Rattle.std.proofs.lemmas.List.{get_or-set_same, get_or-set_other, length-set, length-map, get_or-map, get_or_append_left, get_or_push, length_push}
use Rattle.xv_model.specs.Job.{Job, unit_of_block}
use Rattle.xv_model.specs.Guest.{Ended, content}
use Rattle.xv_model.specs.View.{Disk, no_disk}
use Rattle.xv_model.specs.Effect.{without_region}

-- the content that is to stand at a place of a region
abbrev pub block_content : Job → List Ended → ℕ → ℕ → ℕ → List ℕ
block_content job h d cursor k = content job h (unit_of_block job.copy d cursor + k) (length h)

-- a region has the blocks read, and each as the guest has it
pub record IsRegion (job : Job) (h : List Ended) (d : ℕ) (disk : Disk) (region : List (List ℕ)) : Type 0 where
  pub read : length region ≡ disk.got
  pub each : (k : ℕ) → k < disk.got → get_or region k [] ≡ block_content job h d disk.cursor k

pub record AreRegions (job : Job) (h : List Ended) (disks : List Disk) (regions : List (List (List ℕ))) : Type 0 where
  pub one_each : length regions ≡ length disks
  pub region : (d : ℕ) → d < length disks → IsRegion job h d (get_or disks d no_disk) (get_or regions d [])

-- one disk and its region anew
pub regions-set : (job : Job) (h : List Ended) (disks : List Disk) (regions : List (List (List ℕ))) (d : ℕ) (new : Disk) (region : List (List ℕ)) → AreRegions job h disks regions → IsRegion job h d new region → AreRegions job h (set disks d new) (set regions d region)
regions-set job h disks regions d new region are is = record { one_each = lengths; region = each }
  where
    lengths : length (set regions d region) ≡ length (set disks d new)
    lengths = length-set regions d region ∙ are.one_each ∙ sym (length-set disks d new)

    each : (i : ℕ) → i < length (set disks d new) → IsRegion job h i (get_or (set disks d new) i no_disk) (get_or (set regions d region) i [])
    each i lt =
        let in_disks : i < length disks = let l = length-set disks d new in omega arith in
        let in_regions : i < length regions = let l = are.one_each in omega arith in
        elim (cases_eq i d) [
          | inl e ↦
              let at_disk : get_or (set disks d new) i no_disk ≡ new = rw e (get_or-set_same disks d new no_disk (rw e at in_disks)) in
              let at_region : get_or (set regions d region) i [] ≡ region = rw e (get_or-set_same regions d region [] (rw e at in_regions)) in
              rw (at_disk, at_region) (subst (λ j. IsRegion job h j new region) (sym e) is)
          | inr other ↦
              rw (get_or-set_other disks d i new no_disk other, get_or-set_other regions d i region [] other) (are.region i in_disks)
        ]

-- no block read
pub region-none : (job : Job) (h : List Ended) (d : ℕ) (disk : Disk) → disk.got ≡ 0 → IsRegion job h d disk []
region-none job h d disk none = record { read = sym none; each = λ k lt. absurd (omega arith) }

-- one block more read
pub region-more : (job : Job) (h : List Ended) (d : ℕ) (disk new : Disk) (region : List (List ℕ)) (block : List ℕ) → IsRegion job h d disk region → new.cursor ≡ disk.cursor → new.got ≡ disk.got + 1 → block ≡ block_content job h d disk.cursor disk.got → IsRegion job h d new (region ++ block ∷ [])
region-more job h d disk new region block is cursor got read = record { read = lengths; each = each }
  where
    lengths : length (region ++ block ∷ []) ≡ new.got
    lengths = let l = length_push region block in let r = is.read in omega arith

    each : (k : ℕ) → k < new.got → get_or (region ++ block ∷ []) k [] ≡ block_content job h d new.cursor k
    each k lt = rw cursor (elim (cases_lt k disk.got) [
      | inl old ↦ get_or_append_left region (block ∷ []) [] k (let r = is.read in omega arith) ∙ is.each k old
      | inr new ↦
          let same : k ≡ disk.got = omega arith in
          get_or_push region block [] k (is.read ∙ sym same) ∙ read ∙ ap (block_content job h d disk.cursor) (sym same)
    ])

-- a disk anew with the same blocks read
pub regions-kept : (job : Job) (h : List Ended) (disks : List Disk) (regions : List (List (List ℕ))) (d : ℕ) (new : Disk) → AreRegions job h disks regions → new.cursor ≡ (get_or disks d no_disk).cursor → new.got ≡ (get_or disks d no_disk).got → AreRegions job h (set disks d new) regions
regions-kept job h disks regions d new are cursor got = record { one_each = are.one_each ∙ sym (length-set disks d new); region = each }
  where
    each : (i : ℕ) → i < length (set disks d new) → IsRegion job h i (get_or (set disks d new) i no_disk) (get_or regions i [])
    each i lt =
        let in_disks : i < length disks = let l = length-set disks d new in omega arith in
        elim (cases_eq i d) [
          | inl e ↦
              let at_disk : get_or (set disks d new) i no_disk ≡ new = rw e (get_or-set_same disks d new no_disk (rw e at in_disks)) in
              let old : IsRegion job h d (get_or disks d no_disk) (get_or regions d []) = are.region d (rw e at in_disks) in
              let now : IsRegion job h d new (get_or regions d []) = record { read = old.read ∙ sym got; each = λ k l. rw cursor (old.each k (omega arith)) } in
              rw at_disk (subst (λ j. IsRegion job h j new (get_or regions j [])) (sym e) now)
          | inr other ↦ rw (get_or-set_other disks d i new no_disk other) (are.region i in_disks)
        ]

-- a history that leaves the blocks read as they are
pub regions-later : (job : Job) (h later : List Ended) (disks : List Disk) (regions : List (List (List ℕ))) → AreRegions job h disks regions → ((d k : ℕ) → d < length disks → k < (get_or disks d no_disk).got → block_content job later d (get_or disks d no_disk).cursor k ≡ block_content job h d (get_or disks d no_disk).cursor k) → AreRegions job later disks regions
regions-later job h later disks regions are same = record {
  one_each = are.one_each;
  region = λ d lt. record { read = (are.region d lt).read; each = λ k l. (are.region d lt).each k l ∙ sym (same d k lt l) };
}

-- all regions given up
pub regions-given_up : (job : Job) (h : List Ended) (disks : List Disk) (regions : List (List (List ℕ))) → AreRegions job h disks regions → AreRegions job h (map without_region disks) (map (λ _. []) regions)
regions-given_up job h disks regions are = record {
  one_each = length-map regions (λ _. []) ∙ are.one_each ∙ sym (length-map disks without_region);
  region = λ d lt.
      let in_disks : d < length disks = let l = length-map disks without_region in omega arith in
      let in_regions : d < length regions = let l = are.one_each in omega arith in
      rw (get_or-map without_region disks d no_disk no_disk in_disks, get_or-map {Y = List (List ℕ)} (λ (r : List (List ℕ)). []) regions d [] [] in_regions)
      (region-none job h d (without_region (get_or disks d no_disk)) refl);
}
