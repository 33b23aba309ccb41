-- Whether all disks are copied, and whether nobody waits for any, disk by disk.
use Rattle.std.specs.Prelude.{◌≡◌, ◌<◌, ℕ, zero, suc, ◌+◌, ◌==◌, ◌&&◌, ◌||◌, Bool, true, false, List, [], ◌∷◌, length, map, drop, get_or}
use Rattle.std.proofs.Common.{refl, ap, sym, ◌∙◌, arith, add-one}
use Rattle.std.specs.List.{list_any}
use Rattle.xv_base.specs.declared.unit.DiskShape.{DiskShape}
use Rattle.xv_base.specs.Units.{blocks}
use Rattle.xv_model.specs.View.{Disk, Waiting, no_disk, is_copied, waits_for, in_queue, all_copied_by, queues_empty}

-- the same of the disks from one on
abbrev pub copied-from : List DiskShape → List Disk → ℕ → Bool
copied-from shapes disks d = all_copied_by (map (λ s. s.blocks) (drop d shapes)) (drop d disks)

abbrev pub free-from : List Disk → ℕ → Bool
free-from disks d = queues_empty (drop d disks)

copied-next : (shapes : List DiskShape) (disks : List Disk) (d : ℕ) → d < length shapes → length disks ≡ length shapes →
    copied-from shapes disks d ≡ (is_copied (blocks shapes d) (get_or disks d no_disk) && copied-from shapes disks (suc d))
copied-next [] disks d lt same = absurd (omega arith)
copied-next (s ∷ shapes) [] d lt same = absurd (omega arith)
copied-next (s ∷ shapes) (k ∷ disks) zero lt same = refl
copied-next (s ∷ shapes) (k ∷ disks) (suc d) lt same = copied-next shapes disks d (omega arith) (omega arith)

-- the test that is made, by a copy and a number of blocks that are the disk's
pub copied-test : (layout shapes : List DiskShape) (d n : ℕ) (copy seen : Disk) (test : Bool) → copy ≡ seen → n ≡ blocks layout d → layout ≡ shapes → test ≡ is_copied n copy → is_copied (blocks shapes d) seen ≡ test
copied-test layout shapes d n copy seen test here count same is =
    sym (is ∙ ap (λ (k : ℕ). is_copied k copy) (count ∙ ap (λ (ss : List DiskShape). blocks ss d) same) ∙ ap (is_copied (blocks shapes d)) here)

pub copied-none : (shapes : List DiskShape) (disks : List Disk) (d : ℕ) → copied-from shapes disks 0 ≡ copied-from shapes disks d → d < length shapes → length disks ≡ length shapes →
    is_copied (blocks shapes d) (get_or disks d no_disk) ≡ false → false ≡ copied-from shapes disks 0
copied-none shapes disks d so_far lt same off = sym (so_far ∙ copied-next shapes disks d lt same ∙ ap (λ (b : Bool). b && copied-from shapes disks (suc d)) off)

pub copied-here : (shapes : List DiskShape) (disks : List Disk) (d : ℕ) → d < length shapes → length disks ≡ length shapes → is_copied (blocks shapes d) (get_or disks d no_disk) ≡ true → copied-from shapes disks d ≡ copied-from shapes disks (d + 1)
copied-here shapes disks d lt same on = copied-next shapes disks d lt same ∙ ap (λ (b : Bool). b && copied-from shapes disks (suc d)) on ∙ ap (copied-from shapes disks) (sym (add-one d))

-- whether a guest waits in a queue, in the queue's own words
pub waits_same : (ws : List Waiting) (guest : ℕ) → list_any (λ w. w.guest.0 == guest) ws ≡ waits_for ws guest
waits_same [] guest = refl
waits_same (w ∷ ws) guest = ap (λ (b : Bool). (w.guest.0 == guest) || b) (waits_same ws guest)

-- and in the queue of one of the disks from one on
abbrev pub queued-from : List Disk → ℕ → ℕ → Bool
queued-from disks guest d = in_queue (drop d disks) guest
