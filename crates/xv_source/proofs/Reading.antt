-- The reading of a block, in the fields and as the machine's step.
use Rattle.std.specs.Prelude.{◌≡◌, ◌<◌, ℕ, ◌+◌, false, List, [], ◌∷◌, ◌++◌, length, map, set, get_or, None, IfSome, Result, Ok, Err, OnOk, OnErr}
use Rattle.std.proofs.Common.{sym, ap, subst, ◌∙◌, arith}
use Rattle.std.proofs.lemmas.List.{set-get_or, length_push}
use Rattle.xv_base.specs.Units.{units, size, blocks, block_size, unit_of_block}
use Rattle.xv_base.proofs.Partition.{numbers_blocks}
use Rattle.xv_base.specs.declared.event.Event.TheVariants.{Read}
use Rattle.xv_device.specs.Device.{range_of}
use Rattle.xv_device.specs.Told.{Told}
use Rattle.xv_model.specs.View.{Disk, no_disk}
use Rattle.xv_region.specs.Copying.{Copying}
use Rattle.xv_source.specs.declared.disk.DiskCopy.{DiskCopy}
use Rattle.xv_source.specs.Half.{Source, next_unit}
use Rattle.xv_source.specs.Kept.{numbers_of, IsCopyOf}
use Rattle.xv_source.specs.Regions.{with_block, ReadsBlock}
use Rattle.xv_source.specs.Waits.{own_wait, plain_job, plain_view}
use Rattle.xv_model.proofs.GoesOn.{read_goes}
use Rattle.xv_source.proofs.OneDisk.{blocks_of, changed}

-- the next block is one of the disk's
pub next-in : (h : Source) (d unit : ℕ) (copy : DiskCopy) → own_wait false h (Read d) ≡ None → numbers_of copy ≡ get_or h.disks d no_disk → IsCopyOf h.shape h.config.region d copy → d < length h.shape.disks →
    unit ≡ unit_of_block h.shape d (copy.region.cursor + length copy.region.read) → (unit < units h.shape) × (size h.shape unit ≡ block_size h.shape.disks d)
next-in h d unit copy goes same of lt is =
    let left : length copy.region.read < copy.region.region = subst (λ (k : Disk). k.got < k.region) (sym same) (read_goes (plain_job false h) (plain_view h) d false goes).not_read in
    let here : copy.region.cursor + length copy.region.read < blocks h.shape.disks d = omega (arith, of.within, left) in
    let n = numbers_blocks h.shape in (
      subst (λ (u : ℕ). u < units h.shape) (sym is) (n.unit_in d (copy.region.cursor + length copy.region.read) lt here),
      ap (size h.shape) is ∙ n.size_of_disk d (copy.region.cursor + length copy.region.read) lt here,
    )

-- a region stays of its disk whether or not the read failed
pub region-same : {T E : Type 0} (r : Result T E) (old new : Copying) (content : List ℕ) → OnOk r (new ≡ record old { read = old.read ++ content ∷ []; next = new.next }) → OnErr r (new ≡ record old { next = new.next }) →
    record new { read = old.read; next = old.next } ≡ old
region-same (Ok x) old new content read failed = ap (λ (c : Copying). record c { read = old.read; next = old.next }) read
region-same (Err e) old new content read failed = ap (λ (c : Copying). record c { read = old.read; next = old.next }) failed

module _ (was old : Source) (copies : List DiskCopy) (d : ℕ) (copy : DiskCopy) (region : Copying) (told : Told) (faults : ℕ) where
  -- what is seen of the half with this region in the copy of the disk
  abbrev seen : Source
  seen = record was { disks = map numbers_of (set copies d (record copy { region = region })); regions = map blocks_of (set copies d (record copy { region = region })); told = told; faults = faults }

  pub block-read : (content : List ℕ) → was ≡ old → was.disks ≡ map numbers_of copies → was.regions ≡ map blocks_of copies → d < length old.disks → copy ≡ get_or copies d copy →
      region ≡ record copy.region { read = copy.region.read ++ content ∷ []; next = region.next } → seen ≡ with_block (record old { told = told; faults = faults }) d content
  block-read content same disks regions lt is read =
      changed (λ (k : Disk). record k { got = k.got + 1 }) (λ (bs : List (List ℕ)). bs ++ content ∷ []) (record was { told = told; faults = faults }) (record old { told = told; faults = faults }) copies d copy (record copy { region = region })
      (ap (λ (o : Source). record o { told = told; faults = faults }) same) disks regions lt is
      (ap (λ (r : Copying). numbers_of (record copy { region = r })) read ∙ ap (λ (n : ℕ). record (numbers_of copy) { got = n }) (length_push copy.region.read content))
      (ap (λ (r : Copying). r.read) read)

  pub block-unread : was ≡ old → was.disks ≡ map numbers_of copies → was.regions ≡ map blocks_of copies → d < length old.disks → copy ≡ get_or copies d copy →
      region ≡ record copy.region { next = region.next } → seen ≡ record old { told = told; faults = faults }
  block-unread same disks regions lt is unread =
      changed (λ (k : Disk). k) (λ (bs : List (List ℕ)). bs) (record was { told = told; faults = faults }) (record old { told = told; faults = faults }) copies d copy (record copy { region = region })
      (ap (λ (o : Source). record o { told = told; faults = faults }) same) disks regions lt is
      (ap (λ (r : Copying). numbers_of (record copy { region = r })) unread)
      (ap (λ (r : Copying). r.read) unread)
      ∙ ap (λ (ds : List Disk). record old { disks = ds; regions = set old.regions d (get_or old.regions d []); told = told; faults = faults }) (set-get_or old.disks d no_disk)
      ∙ ap (λ (rs : List (List (List ℕ))). record old { regions = rs; told = told; faults = faults }) (set-get_or old.regions d [])

  -- the block that came is the unit's content where that is told
  pub block-given : {T E : Type 0} (r : Result T E) (content : List ℕ) (unit : ℕ) → was ≡ old → was.disks ≡ map numbers_of copies → was.regions ≡ map blocks_of copies → d < length old.disks → copy ≡ get_or copies d copy →
      unit ≡ next_unit old d → copy.region.size ≡ size old.shape unit →
      OnOk r (region ≡ record copy.region { read = copy.region.read ++ content ∷ []; next = region.next }) → OnOk r (IfSome was.told.contents (λ contents. content ≡ range_of unit 0 copy.region.size contents)) →
      OnOk r (ReadsBlock old d seen)
  block-given (Err e) content unit same disks regions lt is here size_is read gives = tt
  block-given (Ok x) content unit same disks regions lt is here size_is read gives = record {
    content = content;
    part = block-read content same disks regions lt is read;
    gives =
        subst (λ (u : ℕ). IfSome old.told.contents (λ contents. content ≡ range_of u 0 (size old.shape u) contents)) here
        (subst (λ (n : ℕ). IfSome old.told.contents (λ contents. content ≡ range_of unit 0 n contents)) size_is
        (subst (λ (o : Source). IfSome o.told.contents (λ contents. content ≡ range_of unit 0 copy.region.size contents)) same gives));
  }
