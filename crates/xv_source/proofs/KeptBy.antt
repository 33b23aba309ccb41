-- What the half keeps, once a part of it has changed.
use Rattle.std.specs.Prelude.{◌≡◌, ◌≤◌, ◌<◌, ℕ, ◌+◌, Bool, List, [], ◌∷◌, ◌++◌, length, set, get_or}
use Rattle.std.proofs.Common.{sym, ap, subst, ◌∙◌, inl, inr, arith}
use Rattle.std.proofs.lemmas.Bool.{cases_eq}
use Rattle.std.proofs.lemmas.List.{length-set, get_or-set_same, get_or-set_other, get_or_read}
use Rattle.xv_base.specs.Units.{Shape, blocks}
use Rattle.xv_base.specs.declared.limits.Config.{Config}
use Rattle.xv_credit.specs.Counts.{Count}
use Rattle.xv_device.specs.Told.{Told}
use Rattle.xv_frame.specs.Frame.{Each}
use Rattle.xv_outbox.specs.Messages.{Outbox}
use Rattle.xv_region.specs.Copying.{Copying}
use Rattle.xv_source.specs.declared.disk.DiskCopy.{DiskCopy}
use Rattle.xv_source.specs.Kept.{no_copy, IsCopyOf, IsKept}

copies-set : (s : Shape) (most : ℕ) (copies : List DiskCopy) (d : ℕ) (copy : DiskCopy) → ((i : ℕ) → i < length copies → IsCopyOf s most i (get_or copies i no_copy)) → IsCopyOf s most d copy →
    (i : ℕ) → i < length (set copies d copy) → IsCopyOf s most i (get_or (set copies d copy) i no_copy)
copies-set s most copies d copy each here i lt = elim (cases_eq i d) [
  | inl e ↦
      let in_range : d < length copies = omega (arith, length-set copies d copy) in
      subst (λ (k : ℕ). IsCopyOf s most k (get_or (set copies d copy) k no_copy)) (sym e) (subst (IsCopyOf s most d) (sym (get_or-set_same copies d copy no_copy in_range)) here)
  | inr n ↦ subst (IsCopyOf s most i) (sym (get_or-set_other copies d i copy no_copy n)) (each i (omega (arith, length-set copies d copy)))
]

-- one copy in the place of another, of the same disk, and a device of the same layout
pub kept-copy : (s : Shape) (config : Config) (told now : Told) (copies : List DiskCopy) (dirty to_send : List Bool) (outbox : Outbox) (credit : Count) (unit : List ℕ) (d : ℕ) (copy : DiskCopy) →
    IsKept s config told copies dirty to_send outbox credit unit → now.shape ≡ told.shape → IsCopyOf s config.region d copy → IsKept s config now (set copies d copy) dirty to_send outbox credit unit
kept-copy s config told now copies dirty to_send outbox credit unit d copy k same here = record {
  good = k.good;
  layout = same ∙ k.layout;
  limits = k.limits;
  each_disk = length-set copies d copy ∙ k.each_disk;
  copies = copies-set s config.region copies d copy k.copies here;
  dirty_pages = k.dirty_pages;
  pages_to_send = k.pages_to_send;
  outbox_of = k.outbox_of;
  made = k.made;
  whole = k.whole;
  unit_room = k.unit_room;
}

-- the copy at a place is of that disk
pub copy-at : (s : Shape) (config : Config) (told : Told) (copies : List DiskCopy) (dirty to_send : List Bool) (outbox : Outbox) (credit : Count) (unit : List ℕ) (d : ℕ) (copy : DiskCopy) →
    IsKept s config told copies dirty to_send outbox credit unit → d < length copies → copy ≡ get_or copies d copy → IsCopyOf s config.region d copy
copy-at s config told copies dirty to_send outbox credit unit d copy k lt is = subst (IsCopyOf s config.region d) (sym (get_or_read copies d copy lt is no_copy)) (k.copies d lt)

-- a region in which the same blocks lie, whatever was read of it
pub copy-same : (s : Shape) (most d : ℕ) (copy : DiskCopy) (region : Copying) → IsCopyOf s most d copy → record region { read = copy.region.read; next = copy.region.next } ≡ copy.region → IsCopyOf s most d (record copy { region = region })
copy-same s most d copy region is same = record {
  within = subst (λ (r : Copying). r.cursor + r.region ≤ blocks s.disks d) (sym same) is.within;
  room = ap (λ (r : Copying). r.most) same ∙ is.room;
  size = ap (λ (r : Copying). r.size) same ∙ is.size;
  queued = is.queued;
}

-- an outbox in the place of another, of the same units and limit
pub kept-outbox : (s : Shape) (config : Config) (told : Told) (copies : List DiskCopy) (dirty to_send : List Bool) (outbox box : Outbox) (credit : Count) (unit : List ℕ) →
    IsKept s config told copies dirty to_send outbox credit unit → box.shape ≡ outbox.shape → box.limit ≡ outbox.limit → Each (λ m. 1 ≤ m.head.version) box.messages → IsKept s config told copies dirty to_send box credit unit
kept-outbox s config told copies dirty to_send outbox box credit unit k shape limit each = record {
  good = k.good;
  layout = k.layout;
  limits = k.limits;
  each_disk = k.each_disk;
  copies = k.copies;
  dirty_pages = k.dirty_pages;
  pages_to_send = k.pages_to_send;
  outbox_of = (shape ∙ k.outbox_of.0, limit ∙ k.outbox_of.1);
  made = each;
  whole = k.whole;
  unit_room = k.unit_room;
}

-- what is so of each item is so with one more
pub each-push : {X : Type 0} (P : X → Type 0) (xs : List X) (x : X) → Each P xs → P x → Each P (xs ++ x ∷ [])
each-push P [] x each here = (here, each)
each-push P (y ∷ xs) x each here = (each.0, each-push P xs x each.1 here)
