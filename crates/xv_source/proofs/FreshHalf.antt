-- The half before anything has happened, in its fields.
use Rattle.std.specs.Prelude.{◌≡◌, ◌≤◌, ◌<◌, ℕ, zero, suc, ◌+◌, Bool, true, false, List, [], ◌∷◌, ◌++◌, length, map, take, get_or, replicate}
use Rattle.std.proofs.Common.{refl, sym, ap, ap₂, subst, ◌∙◌, arith}
use Rattle.std.proofs.lemmas.List.{take_more, map-append, length-map, length-replicate, get_or-map}
use Rattle.xv_base.specs.declared.unit.DiskShape.{DiskShape}
use Rattle.xv_base.specs.declared.limits.Config.{Config}
use Rattle.xv_base.specs.Units.{Shape, block_size, max_size}
use Rattle.xv_base.specs.Layout.{IsGood}
use Rattle.xv_credit.specs.Counts.{Count, untouched}
use Rattle.xv_device.specs.Told.{Told}
use Rattle.xv_dirty.specs.Pages.{no_pages}
use Rattle.xv_frame.specs.Frame.{Each}
use Rattle.xv_model.specs.View.{Disk, Waiting, no_disk}
use Rattle.xv_outbox.specs.Messages.{Outbox, fresh as fresh_outbox}
use Rattle.xv_region.specs.Copying.{Copying, fresh as fresh_region}
use Rattle.xv_source.specs.declared.disk.DiskCopy.{DiskCopy}
use Rattle.xv_source.specs.Kept.{numbers_of, source_of, no_copy, IsCopyOf, IsKept}
use Rattle.xv_source.specs.Limits.{AreLimits, fresh}
use Rattle.xv_source.specs.Parts.{fresh_copy, fresh_copies}
use Rattle.xv_source.proofs.OneDisk.{blocks_of}

-- the size of a disk's blocks
size-at : (ds : List DiskShape) (d : ℕ) (z : DiskShape) → d < length ds → block_size ds d ≡ (get_or ds d z).block_size
size-at [] d z lt = absurd (omega arith)
size-at (s ∷ ds) zero z lt = refl
size-at (s ∷ ds) (suc d) z lt = size-at ds d z (omega arith)

no_shape : DiskShape
no_shape = record { blocks = 0; block_size = 0 }

-- one copy more
pub copies-more : (most : ℕ) (ds : List DiskShape) (d : ℕ) (items : List DiskCopy) (copy : DiskCopy) → d < length ds → items ≡ fresh_copies most (take d ds) → copy.region ≡ fresh_region most (block_size ds d) → copy.queue ≡ [] →
    items ++ copy ∷ [] ≡ fresh_copies most (take (d + 1) ds)
copies-more most ds d items copy lt so_far region queue =
    let this : copy ≡ fresh_copy most (get_or ds d no_shape) =
    ap (λ (r : Copying). record copy { region = r }) (region ∙ ap (fresh_region most) (size-at ds d no_shape lt))
    ∙ ap (λ (ws : List Waiting). record { region = fresh_region most (get_or ds d no_shape).block_size; queue = ws }) queue in
    ap₂ (λ (xs : List DiskCopy) (x : DiskCopy). xs ++ x ∷ []) so_far this
    ∙ sym (map-append (fresh_copy most) (take d ds) (get_or ds d no_shape ∷ []))
    ∙ ap (fresh_copies most) (sym (take_more ds d no_shape lt))

-- what is seen of the copies
numbers-fresh : (most : ℕ) (ds : List DiskShape) → map numbers_of (fresh_copies most ds) ≡ map (λ _. no_disk) ds
numbers-fresh most [] = refl
numbers-fresh most (s ∷ ds) = ap (λ (ks : List Disk). no_disk ∷ ks) (numbers-fresh most ds)

blocks-fresh : (most : ℕ) (ds : List DiskShape) → map blocks_of (fresh_copies most ds) ≡ map (λ _. []) ds
blocks-fresh most [] = refl
blocks-fresh most (s ∷ ds) = ap (λ (bs : List (List (List ℕ))). [] ∷ bs) (blocks-fresh most ds)

module _ (s : Shape) (config : Config) (told : Told) (faults : ℕ) (copies : List DiskCopy) (dirty to_send : List Bool) (outbox : Outbox) (credit : Count) where
  pub seen-fresh : copies ≡ fresh_copies config.region s.disks → dirty ≡ replicate s.pages true → to_send ≡ no_pages s.pages → outbox ≡ fresh_outbox s config.outbox → credit ≡ untouched config.credit →
      source_of s config told faults copies dirty to_send 0 outbox credit ≡ fresh s config told faults
  seen-fresh is_copies is_dirty is_to_send is_outbox is_credit =
      ap (λ (cs : List DiskCopy). source_of s config told faults cs dirty to_send 0 outbox credit) is_copies
      ∙ ap (λ (ps : List Bool). source_of s config told faults (fresh_copies config.region s.disks) ps to_send 0 outbox credit) is_dirty
      ∙ ap (λ (ps : List Bool). source_of s config told faults (fresh_copies config.region s.disks) (replicate s.pages true) ps 0 outbox credit) is_to_send
      ∙ ap (λ (o : Outbox). source_of s config told faults (fresh_copies config.region s.disks) (replicate s.pages true) (no_pages s.pages) 0 o credit) is_outbox
      ∙ ap (λ (k : Count). source_of s config told faults (fresh_copies config.region s.disks) (replicate s.pages true) (no_pages s.pages) 0 (fresh_outbox s config.outbox) k) is_credit
      ∙ ap (λ (ds : List Disk). record (fresh s config told faults) { disks = ds; regions = map blocks_of (fresh_copies config.region s.disks) }) (numbers-fresh config.region s.disks)
      ∙ ap (λ (bs : List (List (List ℕ))). record (fresh s config told faults) { regions = bs }) (blocks-fresh config.region s.disks)

  -- each copy is of its disk
  fresh-copy-of : (d : ℕ) → d < length s.disks → IsCopyOf s config.region d (fresh_copy config.region (get_or s.disks d no_shape))
  fresh-copy-of d lt = record { within = omega arith; room = refl; size = sym (size-at s.disks d no_shape lt); queued = tt }

  copies-of : (d : ℕ) → d < length s.disks → IsCopyOf s config.region d (get_or (fresh_copies config.region s.disks) d no_copy)
  copies-of d lt = subst (IsCopyOf s config.region d) (sym (get_or-map (fresh_copy config.region) s.disks d no_shape no_copy lt)) (fresh-copy-of d lt)

  pub kept-fresh : (unit : List ℕ) → IsGood s → told.shape ≡ s → AreLimits config → copies ≡ fresh_copies config.region s.disks → dirty ≡ replicate s.pages true → to_send ≡ no_pages s.pages → outbox ≡ fresh_outbox s config.outbox →
      credit ≡ untouched config.credit → length unit ≡ max_size s → IsKept s config told copies dirty to_send outbox credit unit
  kept-fresh unit good layout limits is_copies is_dirty is_to_send is_outbox is_credit room = record {
    good = good;
    layout = layout;
    limits = limits;
    each_disk = ap (λ (cs : List DiskCopy). length cs) is_copies ∙ length-map s.disks (fresh_copy config.region);
    copies = λ d lt. subst (λ (cs : List DiskCopy). IsCopyOf s config.region d (get_or cs d no_copy)) (sym is_copies)
        (copies-of d (omega (arith, ap (λ (cs : List DiskCopy). length cs) is_copies, length-map s.disks (fresh_copy config.region))));
    dirty_pages = ap (λ (ps : List Bool). length ps) is_dirty ∙ length-replicate s.pages true;
    pages_to_send = ap (λ (ps : List Bool). length ps) is_to_send ∙ length-replicate s.pages false;
    outbox_of = (ap (λ (o : Outbox). o.shape) is_outbox, ap (λ (o : Outbox). o.limit) is_outbox);
    made = subst (λ (o : Outbox). Each (λ m. 1 ≤ m.head.version) o.messages) (sym is_outbox) tt;
    whole = ap (λ (k : Count). k.whole) is_credit;
    unit_room = room;
  }
