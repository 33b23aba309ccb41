-- The queue of a disk, in the fields and as it is seen.
use Rattle.std.specs.Prelude.{◌≡◌, ◌<◌, ℕ, zero, suc, ◌==◌, ◌||◌, Bool, true, false, List, [], ◌∷◌, ◌++◌, length, map, drop, set, get_or}
use Rattle.std.specs.List.{list_any}
use Rattle.std.proofs.Common.{refl, sym, ap, subst, ◌∙◌, arith, inl, inr}
use Rattle.std.proofs.lemmas.Bool.{cases_eq}
use Rattle.std.proofs.lemmas.List.{get_or_read, length-set, set-get_or, get_or-set_same, get_or-set_other}
use Rattle.xv_base.specs.Units.{Shape}
use Rattle.xv_base.specs.declared.limits.Config.{Config}
use Rattle.xv_base.specs.declared.operation.Waiting.{Waiting}
use Rattle.xv_credit.specs.Counts.{Count}
use Rattle.xv_device.specs.Told.{Told}
use Rattle.xv_frame.specs.Frame.{Each}
use Rattle.xv_model.specs.View.{Disk, no_disk, waits_for, in_queue}
use Rattle.xv_model.proofs.Contents.Sending.{get_or-map_same}
use Rattle.xv_outbox.specs.Messages.{Outbox}
use Rattle.xv_source.specs.declared.disk.DiskCopy.{DiskCopy}
use Rattle.xv_source.specs.Half.{Source}
use Rattle.xv_source.specs.Kept.{numbers_of, no_copy, IsQueued, IsCopyOf, IsKept}
use Rattle.xv_source.proofs.OneDisk.{blocks_of, changed}

-- who waits, as the queue and as the machine tests it
same-waits : (ws : List Waiting) (guest : ℕ) → list_any (λ w. w.guest.0 == guest) ws ≡ waits_for ws guest
same-waits [] guest = refl
same-waits (w ∷ ws) guest = ap (λ b. (w.guest.0 == guest) || b) (same-waits ws guest)

neither : (a b : Bool) → (a || b) ≡ false → (a ≡ false) × (b ≡ false)
neither false b e = (refl, e)
neither true b e = absurd (cc)

absent-at : (ds : List Disk) (d guest : ℕ) → in_queue ds guest ≡ false → waits_for (get_or ds d no_disk).queue guest ≡ false
absent-at [] d guest none = refl
absent-at (k ∷ ds) zero guest none = (neither (waits_for k.queue guest) (in_queue ds guest) none).0
absent-at (k ∷ ds) (suc d) guest none = absent-at ds d guest (neither (waits_for k.queue guest) (in_queue ds guest) none).1

pub absent : (ds : List Disk) (d guest : ℕ) (ws : List Waiting) → in_queue ds guest ≡ false → ws ≡ (get_or ds d no_disk).queue → list_any (λ w. w.guest.0 == guest) ws ≡ false
absent ds d guest ws none is = same-waits ws guest ∙ ap (λ (q : List Waiting). waits_for q guest) is ∙ absent-at ds d guest none

-- the queue of a copy
pub queue-at : (was old : Source) (copies : List DiskCopy) (d : ℕ) (copy : DiskCopy) → was ≡ old → was.disks ≡ map numbers_of copies → d < length copies → copy ≡ get_or copies d copy → copy.queue ≡ (get_or old.disks d no_disk).queue
queue-at was old copies d copy same disks lt is =
    ap (λ (c : DiskCopy). c.queue) (get_or_read copies d copy lt is no_copy)
    ∙ sym (ap (λ (k : Disk). k.queue) (get_or-map_same numbers_of copies d no_copy no_disk refl))
    ∙ ap (λ (ds : List Disk). (get_or ds d no_disk).queue) (sym disks ∙ ap (λ (h : Source). h.disks) same)

-- one that waits more, and one less
pub each-push : (P : Waiting → Type 0) (ws : List Waiting) (w : Waiting) → Each P ws → P w → Each P (ws ++ w ∷ [])
each-push P [] w each here = (here, tt)
each-push P (v ∷ ws) w each here = (each.0, each-push P ws w each.1 here)

pub each-drop : (P : Waiting → Type 0) (ws : List Waiting) → Each P ws → Each P (drop 1 ws)
each-drop P [] each = each
each-drop P (w ∷ ws) each = each.1

-- what is kept of a disk whose queue has changed
pub kept-queue : (s : Shape) (config : Config) (told : Told) (copies : List DiskCopy) (dirty to_send : List Bool) (outbox : Outbox) (credit : Count) (unit : List ℕ) (d : ℕ) (copy : DiskCopy) (queue : List Waiting) →
    IsKept s config told copies dirty to_send outbox credit unit → d < length copies → copy ≡ get_or copies d copy → (Each (IsQueued s) copy.queue → Each (IsQueued s) queue) →
    IsKept s config told (set copies d (record { region = copy.region; queue = queue })) dirty to_send outbox credit unit
kept-queue s config told copies dirty to_send outbox credit unit d copy queue kept lt is keeps =
    let new : DiskCopy = record { region = copy.region; queue = queue } in
    let was : IsCopyOf s config.region d copy = subst (λ (c : DiskCopy). IsCopyOf s config.region d c) (sym (get_or_read copies d copy lt is no_copy)) (kept.copies d lt) in
    record {
      good = kept.good;
      layout = kept.layout;
      limits = kept.limits;
      each_disk = length-set copies d new ∙ kept.each_disk;
      copies = λ k k_in. elim (cases_eq k d) [
        | inl same ↦
            let P : ℕ → Type 0 = λ n. IsCopyOf s config.region n (get_or (set copies d new) n no_copy) in
            subst P (sym same) (subst (λ (c : DiskCopy). IsCopyOf s config.region d c) (sym (get_or-set_same copies d new no_copy lt))
            (record { within = was.within; room = was.room; size = was.size; queued = keeps was.queued }))
        | inr other ↦ subst (λ (c : DiskCopy). IsCopyOf s config.region k c) (sym (get_or-set_other copies d k new no_copy other)) (kept.copies k (omega (arith, length-set copies d new)))
      ];
      dirty_pages = kept.dirty_pages;
      pages_to_send = kept.pages_to_send;
      outbox_of = kept.outbox_of;
      made = kept.made;
      whole = kept.whole;
      unit_room = kept.unit_room;
    }

-- the half, once a queue has changed
pub queue-changed : (f : List Waiting → List Waiting) (was old : Source) (copies : List DiskCopy) (d : ℕ) (copy : DiskCopy) (queue : List Waiting) →
    was ≡ old → was.disks ≡ map numbers_of copies → was.regions ≡ map blocks_of copies → d < length old.disks → copy ≡ get_or copies d copy → queue ≡ f copy.queue →
    record was { disks = map numbers_of (set copies d (record { region = copy.region; queue = queue })); regions = map blocks_of (set copies d (record { region = copy.region; queue = queue })) }
    ≡ record old { disks = set old.disks d (record (get_or old.disks d no_disk) { queue = f (get_or old.disks d no_disk).queue }) }
queue-changed f was old copies d copy queue same disks regions lt is now =
    changed (λ (k : Disk). record k { queue = f k.queue }) (λ blocks. blocks) was old copies d copy (record { region = copy.region; queue = queue }) same disks regions lt is
    (ap (λ (q : List Waiting). numbers_of (record { region = copy.region; queue = q })) now) refl
    ∙ ap (λ (rs : List (List (List ℕ))). record old { disks = set old.disks d (record (get_or old.disks d no_disk) { queue = f (get_or old.disks d no_disk).queue }); regions = rs }) (set-get_or old.regions d [])
