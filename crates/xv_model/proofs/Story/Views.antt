-- The story that a view has, and how it follows what each event does.
use Rattle.std.specs.Prelude.{◌≡◌, ℕ, zero, suc, nat_lt, Bool, List, [], ◌∷◌, ◌++◌, map, drop, set, get_or}
use Rattle.std.proofs.Common.{refl, ap, sym, ◌∙◌}
use Rattle.std.proofs.lemmas.List.{map-append, map-set}
use Rattle.xv_model.specs.View.{View, Disk, Waiting, no_disk, no_waiting, disk, front, is_switched}
use Rattle.xv_model.specs.Effect.{without_region, joined, front_gone}
use Rattle.xv_model.specs.Story.{Story, queue}

-- what a view has of a story
abbrev pub guest_of : Waiting → ℕ
guest_of w = w.guest.0

abbrev pub queued : Disk → List ℕ
queued d = map guest_of d.queue

abbrev pub has_some : ℕ → Bool
has_some version = nat_lt 0 version

abbrev pub story_in : View → Story
story_in v = record {
  history = v.history;
  queues = map queued v.disks;
  written = map has_some v.hold.applied;
  stun = v.stun;
  switched = is_switched v.phase;
}

-- the queue of one disk, its front, and the rest behind it
pub queue-in : (ds : List Disk) (d : ℕ) → get_or (map queued ds) d [] ≡ queued (get_or ds d no_disk)
queue-in [] d = refl
queue-in (x ∷ ds) zero = refl
queue-in (x ∷ ds) (suc d) = queue-in ds d

front-in : (ws : List Waiting) → get_or (map guest_of ws) 0 0 ≡ guest_of (get_or ws 0 no_waiting)
front-in [] = refl
front-in (w ∷ ws) = refl

rest-in : (ws : List Waiting) → drop 1 (map guest_of ws) ≡ map guest_of (drop 1 ws)
rest-in [] = refl
rest-in (w ∷ ws) = refl

-- a disk that keeps its queue, and all disks without their regions
pub queues-same : (ds : List Disk) (d : ℕ) (new : Disk) → queued new ≡ queued (get_or ds d no_disk) → map queued (set ds d new) ≡ map queued ds
queues-same [] d new same = refl
queues-same (x ∷ ds) zero new same = ap (λ (q : List ℕ). q ∷ map queued ds) same
queues-same (x ∷ ds) (suc d) new same = ap (λ (qs : List (List ℕ)). queued x ∷ qs) (queues-same ds d new same)

pub queues-given_up : (ds : List Disk) → map queued (map without_region ds) ≡ map queued ds
queues-given_up [] = refl
queues-given_up (x ∷ ds) = ap (λ (qs : List (List ℕ)). queued x ∷ qs) (queues-given_up ds)

-- a disk whose queue has one guest more, and one that has lost its front
pub queues-joined : (ds : List Disk) (d guest unit : ℕ) → set (map queued ds) d (get_or (map queued ds) d [] ++ guest ∷ []) ≡ map queued (set ds d (joined (get_or ds d no_disk) guest unit))
queues-joined ds d guest unit =
    let at = get_or ds d no_disk in
    let now : queued (joined at guest unit) ≡ queued at ++ guest ∷ [] = map-append guest_of at.queue (record { guest = record { 0 = guest }; unit = record { 0 = unit } } ∷ []) in
    ap (λ (q : List ℕ). set (map queued ds) d (q ++ guest ∷ [])) (queue-in ds d)
    ∙ ap (λ (q : List ℕ). set (map queued ds) d q) (sym now)
    ∙ sym (map-set queued ds d (joined at guest unit))

pub queues-released : (ds : List Disk) (d : ℕ) → set (map queued ds) d (drop 1 (get_or (map queued ds) d [])) ≡ map queued (set ds d (front_gone (get_or ds d no_disk)))
queues-released ds d =
    let at = get_or ds d no_disk in
    ap (λ (q : List ℕ). set (map queued ds) d (drop 1 q)) (queue-in ds d)
    ∙ ap (λ (q : List ℕ). set (map queued ds) d q) (rest-in at.queue)
    ∙ sym (map-set queued ds d (front_gone at))

pub front-queued : (v : View) (d : ℕ) → get_or (queue (story_in v) d) 0 0 ≡ guest_of (front (disk v d))
front-queued v d = ap (λ (q : List ℕ). get_or q 0 0) (queue-in v.disks d) ∙ front-in (disk v d).queue
