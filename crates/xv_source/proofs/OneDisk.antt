-- A disk's copy in the fields, and what is seen of it.
use Rattle.std.specs.Prelude.{◌≡◌, ◌<◌, ℕ, List, [], length, map, set, get_or}
use Rattle.std.proofs.Common.{refl, sym, ap, ap₂, subst, ◌∙◌, arith}
use Rattle.std.proofs.lemmas.List.{map-set, get_or_read, length-map}
use Rattle.xv_base.specs.Units.{Shape, unit_of_block}
use Rattle.xv_model.specs.View.{Disk, no_disk}
use Rattle.xv_model.proofs.Contents.Sending.{get_or-map_same}
use Rattle.xv_source.specs.declared.disk.DiskCopy.{DiskCopy}
use Rattle.xv_source.specs.Half.{Source}
use Rattle.xv_source.specs.Kept.{numbers_of, no_copy}

-- the blocks read of a disk's region
abbrev pub blocks_of : DiskCopy → List (List ℕ)
blocks_of copy = copy.region.read

-- a disk that is seen has its copy
pub in-copies : (was old : Source) (copies : List DiskCopy) (d : ℕ) → was ≡ old → was.disks ≡ map numbers_of copies → d < length old.disks → d < length copies
in-copies was old copies d same disks lt = omega (arith, ap (λ (o : Source). length o.disks) same, ap (λ (ds : List Disk). length ds) disks, length-map copies numbers_of)

-- the unit of a disk's block, by numbers that are the same
pub unit-at : (s t : Shape) (d unit m n : ℕ) → unit ≡ unit_of_block s d m → s ≡ t → m ≡ n → unit ≡ unit_of_block t d n
unit-at s t d unit m n is same number = is ∙ ap₂ (λ (x : Shape) (k : ℕ). unit_of_block x d k) same number

-- as many disks are seen as the layout has
pub each-seen : (was old : Source) (copies : List DiskCopy) → was ≡ old → was.disks ≡ map numbers_of copies → length copies ≡ length was.shape.disks → length old.disks ≡ length old.shape.disks
each-seen was old copies same disks each =
    subst (λ (o : Source). length o.disks ≡ length o.shape.disks) same (ap (λ (ds : List Disk). length ds) disks ∙ length-map copies numbers_of ∙ each)

-- the copy at a place, in numbers, and its blocks
numbers-at : (copies : List DiskCopy) (d : ℕ) (copy : DiskCopy) → d < length copies → copy ≡ get_or copies d copy → numbers_of copy ≡ get_or (map numbers_of copies) d no_disk
numbers-at copies d copy lt is = ap numbers_of (get_or_read copies d copy lt is no_copy) ∙ sym (get_or-map_same numbers_of copies d no_copy no_disk refl)

blocks-at : (copies : List DiskCopy) (d : ℕ) (copy : DiskCopy) → d < length copies → copy ≡ get_or copies d copy → copy.region.read ≡ get_or (map blocks_of copies) d []
blocks-at copies d copy lt is = ap blocks_of (get_or_read copies d copy lt is no_copy) ∙ sym (get_or-map_same blocks_of copies d no_copy [] refl)

-- the same over what is seen
pub numbers-of : (was old : Source) (copies : List DiskCopy) (d : ℕ) (copy : DiskCopy) → was ≡ old → was.disks ≡ map numbers_of copies → d < length old.disks → copy ≡ get_or copies d copy → numbers_of copy ≡ get_or old.disks d no_disk
numbers-of was old copies d copy same disks lt is =
    numbers-at copies d copy (in-copies was old copies d same disks lt) is ∙ ap (λ (ds : List Disk). get_or ds d no_disk) (sym disks) ∙ ap (λ (o : Source). get_or o.disks d no_disk) same

pub read-of : (was old : Source) (copies : List DiskCopy) (d : ℕ) (copy : DiskCopy) → was ≡ old → was.disks ≡ map numbers_of copies → was.regions ≡ map blocks_of copies → d < length old.disks → copy ≡ get_or copies d copy → copy.region.read ≡ get_or old.regions d []
read-of was old copies d copy same disks regions lt is =
    blocks-at copies d copy (in-copies was old copies d same disks lt) is ∙ ap (λ (rs : List (List (List ℕ))). get_or rs d []) (sym regions) ∙ ap (λ (o : Source). get_or o.regions d []) same

-- the half, once a copy has become another, whose numbers and blocks are made of its own
pub changed : (f : Disk → Disk) (r : List (List ℕ) → List (List ℕ)) (was old : Source) (copies : List DiskCopy) (d : ℕ) (copy new : DiskCopy) →
    was ≡ old → was.disks ≡ map numbers_of copies → was.regions ≡ map blocks_of copies → d < length old.disks → copy ≡ get_or copies d copy →
    numbers_of new ≡ f (numbers_of copy) → new.region.read ≡ r copy.region.read →
    record was { disks = map numbers_of (set copies d new); regions = map blocks_of (set copies d new) }
    ≡ record old { disks = set old.disks d (f (get_or old.disks d no_disk)); regions = set old.regions d (r (get_or old.regions d [])) }
changed f r was old copies d copy new same disks regions lt is numbers blocks =
    let in_copies : d < length copies = in-copies was old copies d same disks lt in
    let ds : map numbers_of (set copies d new) ≡ set was.disks d (f (get_or was.disks d no_disk)) =
    map-set numbers_of copies d new ∙ ap (λ (x : Disk). set (map numbers_of copies) d x) (numbers ∙ ap f (numbers-at copies d copy in_copies is))
    ∙ ap (λ (xs : List Disk). set xs d (f (get_or xs d no_disk))) (sym disks) in
    let rs : map blocks_of (set copies d new) ≡ set was.regions d (r (get_or was.regions d [])) =
    map-set blocks_of copies d new ∙ ap (λ (x : List (List ℕ)). set (map blocks_of copies) d x) (blocks ∙ ap r (blocks-at copies d copy in_copies is))
    ∙ ap (λ (xs : List (List (List ℕ))). set xs d (r (get_or xs d []))) (sym regions) in
    ap (λ (xs : List Disk). record was { disks = xs; regions = map blocks_of (set copies d new) }) ds
    ∙ ap (λ (xs : List (List (List ℕ))). record was { disks = set was.disks d (f (get_or was.disks d no_disk)); regions = xs }) rs
    ∙ ap (λ (o : Source). record o { disks = set o.disks d (f (get_or o.disks d no_disk)); regions = set o.regions d (r (get_or o.regions d [])) }) same
