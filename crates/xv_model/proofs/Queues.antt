-- A guest waits in at most one queue, for its next write.
use Rattle.std.proofs.Common.{◌≡◌, ℕ, zero, suc, ◌+◌, ◌<◌, ◌≤◌, ◌==◌, nat_lt, nat_le, is_some, Bool, true, false, if◌then◌else◌, List, [], ◌∷◌, ◌++◌, length, map, set, drop, get_or, refl, sym, ap, subst, ◌∙◌, inl, inr, arith}
use Rattle.std.proofs.lemmas.List.{length_push, get_or_append_left, get_or_at, get_or-drop, length-drop}
use Rattle.std.proofs.lemmas.Bool.{both_ways, cases_lt, cases_eq, and_parts, and_from, eq-eqb, ne_eqb, ltb-true}
use Rattle.xv_model.specs.Job.{Job, IsGoodJob, UnitOp, Shape, operation, disk_of, block_of, is_page, units}
use Rattle.xv_model.specs.Guest.{Ended, ended, writes_to}
use Rattle.xv_model.specs.View.{View, Phase, Disk, Waiting, disk, front, no_disk, no_waiting, is_running}
use Rattle.xv_model.specs.Wait.{Event, Aim, Alone, Store, Join, Mirror, next_operation, next_aim, fits}
use Rattle.xv_model.specs.Effect.{guest_by, joined, front_gone, without_region, region_length}
use Rattle.xv_model.specs.Step.{step}
use Rattle.xv_model.specs.Invariant.{QueuesWait, IsViewOf, waits_in, waits_in_all, waiting_at}
use Rattle.xv_base.specs.declared.event.Phase.TheVariants.{Stunned, Switched, Cancelled, Failed}
use Rattle.xv_base.specs.declared.operation.Outcome.TheVariants.{Done, Faulted}
use Rattle.xv_model.proofs.Facts.{mirror_unit}
use Rattle.xv_model.proofs.GoesOn.{GuestGoes, MeansJoin, aim-join, in_queue-waits_in_all}
use Rattle.xv_model.proofs.Histories.{push, ended-push_other}
use Rattle.xv_model.proofs.Regions.{each_after}
use Rattle.xv_model.proofs.Steps.{EffectsKeep, step_keeps}

-- the point of a view
abbrev pub QueuesOf : Job → View → Type 0
QueuesOf job w = QueuesWait job.copy w.phase w.disks (next_operation job w)

-- how often a guest waits
waits_in-place : (ws : List Waiting) (i g : ℕ) → i < length ws → (get_or ws i no_waiting).guest.0 ≡ g → 0 < waits_in ws g
waits_in-place [] i g l e = absurd (omega arith)
waits_in-place (w ∷ ws) zero g l e = rw (eq-eqb w.guest.0 g e) (omega arith)
waits_in-place (w ∷ ws) (suc i) g l e = omega (arith, waits_in-place ws i g (omega arith) e)

pub waits_in_all-place : (ds : List Disk) (d i g : ℕ) → i < length (get_or ds d no_disk).queue → (waiting_at ds d i).guest.0 ≡ g → 0 < waits_in_all ds g
waits_in_all-place [] d i g l e = absurd (omega arith)
waits_in_all-place (k ∷ ds) zero i g l e = omega (arith, waits_in-place k.queue i g l e)
waits_in_all-place (k ∷ ds) (suc d) i g l e = omega (arith, waits_in_all-place ds d i g l e)

waits_in-push : (ws : List Waiting) (w : Waiting) (g : ℕ) → waits_in (ws ++ w ∷ []) g ≡ waits_in ws g + (if w.guest.0 == g then 1 else 0)
waits_in-push [] w g = omega arith
waits_in-push (x ∷ ws) w g = omega (arith, waits_in-push ws w g)

waits_in-front : (ws : List Waiting) (g : ℕ) → 0 < length ws → (get_or ws 0 no_waiting).guest.0 ≡ g → waits_in (drop 1 ws) g + 1 ≡ waits_in ws g
waits_in-front [] g l e = absurd (omega arith)
waits_in-front (w ∷ ws) g l e = rw (eq-eqb w.guest.0 g e) (omega arith)

waits_in-drop : (ws : List Waiting) (g : ℕ) → waits_in (drop 1 ws) g ≤ waits_in ws g
waits_in-drop [] g = omega arith
waits_in-drop (w ∷ ws) g = omega arith

waits_in_all-set : (ds : List Disk) (d : ℕ) (new : Disk) (g : ℕ) → waits_in_all (set ds d new) g + waits_in (get_or ds d no_disk).queue g ≤ waits_in_all ds g + waits_in new.queue g
waits_in_all-set [] d new g = omega arith
waits_in_all-set (k ∷ ds) zero new g = omega arith
waits_in_all-set (k ∷ ds) (suc d) new g = omega (arith, waits_in_all-set ds d new g)

waits_in_all-map : (ds : List Disk) (g : ℕ) → waits_in_all (map without_region ds) g ≡ waits_in_all ds g
waits_in_all-map [] g = refl
waits_in_all-map (k ∷ ds) g = ap (λ n. waits_in k.queue g + n) (waits_in_all-map ds g)

-- one that waits on a disk
pub record Waits (shape : Shape) (p : Phase) (next : ℕ → UnitOp) (d : ℕ) (k : Disk) (w : Waiting) : Type 0 where
  pub of_disk : (is_page shape w.unit.0 ≡ false) × (w.unit.0 < units shape) × (disk_of shape w.unit.0 ≡ d)
  pub to_write : writes_to (next w.guest.0) w.unit.0 ≡ true
  pub not_ahead : is_running p ≡ true → block_of shape w.unit.0 < k.cursor + k.region

abbrev pub DiskWaits : Shape → Phase → (ℕ → UnitOp) → ℕ → Disk → Type 0
DiskWaits shape p next d k = (i : ℕ) → i < length k.queue → Waits shape p next d k (get_or k.queue i no_waiting)

pub each_waits : (shape : Shape) (p : Phase) (ds : List Disk) (next : ℕ → UnitOp) → QueuesWait shape p ds next → (d : ℕ) → DiskWaits shape p next d (get_or ds d no_disk)
each_waits shape p ds next q d i l = record { of_disk = q.of_disk d i l; to_write = q.to_write d i l; not_ahead = λ r. q.not_ahead d i r l }

queues_from : (shape : Shape) (p : Phase) (ds : List Disk) (next : ℕ → UnitOp) → ((g : ℕ) → waits_in_all ds g ≤ 1) → ((d : ℕ) → DiskWaits shape p next d (get_or ds d no_disk)) → QueuesWait shape p ds next
queues_from shape p ds next once each = record {
  once = once;
  of_disk = λ d i l. (each d i l).of_disk;
  to_write = λ d i l. (each d i l).to_write;
  not_ahead = λ d i r l. (each d i l).not_ahead r;
}

-- after one disk is put in the place of another
set_queues : (shape : Shape) (p : Phase) (ds : List Disk) (next : ℕ → UnitOp) (d : ℕ) (new : Disk) → QueuesWait shape p ds next → ((g : ℕ) → waits_in_all (set ds d new) g ≤ 1) → DiskWaits shape p next d new → QueuesWait shape p (set ds d new) next
set_queues shape p ds next d new q once waits =
    queues_from shape p (set ds d new) next once
    (λ j. each_after (DiskWaits shape p next) ds d new j (each_waits shape p ds next q j) (λ e. subst (λ x. DiskWaits shape p next x new) (sym e) waits))

-- with the same queue, and no less before the region's end
same_queue : (shape : Shape) (p : Phase) (ds : List Disk) (next : ℕ → UnitOp) (d cursor region got : ℕ) → QueuesWait shape p ds next → (get_or ds d no_disk).cursor + (get_or ds d no_disk).region ≤ cursor + region →
    QueuesWait shape p (set ds d (record { cursor = cursor; region = region; got = got; queue = (get_or ds d no_disk).queue })) next
same_queue shape p ds next d cursor region got q le =
    let new : Disk = record { cursor = cursor; region = region; got = got; queue = (get_or ds d no_disk).queue } in
    set_queues shape p ds next d new q (λ g. omega (arith, q.once g, waits_in_all-set ds d new g))
    (λ i l. let w = each_waits shape p ds next q d i l in record { of_disk = w.of_disk; to_write = w.to_write; not_ahead = λ r. omega (arith, w.not_ahead r, le) })

-- the same one on a disk whose region ends no earlier
at_disk : (shape : Shape) (p : Phase) (next : ℕ → UnitOp) (d : ℕ) (k k' : Disk) (w : Waiting) → k.cursor + k.region ≤ k'.cursor + k'.region → Waits shape p next d k w → Waits shape p next d k' w
at_disk shape p next d k k' w le h = record { of_disk = h.of_disk; to_write = h.to_write; not_ahead = λ r. omega (arith, h.not_ahead r, le) }

-- one more at the end
join_once : (ds : List Disk) (d g unit x : ℕ) → ((y : ℕ) → waits_in_all ds y ≤ 1) → waits_in_all ds g ≡ 0 → waits_in_all (set ds d (joined (get_or ds d no_disk) g unit)) x ≤ 1
join_once ds d g unit x once none =
    let new = joined (get_or ds d no_disk) g unit in
    let w : Waiting = record { guest = record { 0 = g }; unit = record { 0 = unit } } in
    elim (cases_eq g x) [
      | inl e ↦
          let here : waits_in_all ds x ≡ 0 = sym (ap (waits_in_all ds) e) ∙ none in
          let one = ap {B = ℕ} (λ (b : Bool). if b then 1 else 0) (eq-eqb g x e) in
          omega (arith, here, one, waits_in_all-set ds d new x, waits_in-push (get_or ds d no_disk).queue w x)
      | inr n ↦
          let zero_more = ap {B = ℕ} (λ (b : Bool). if b then 1 else 0) (ne_eqb g x n) in
          omega (arith, once x, zero_more, waits_in_all-set ds d new x, waits_in-push (get_or ds d no_disk).queue w x)
    ]

join_disk : (shape : Shape) (p : Phase) (next : ℕ → UnitOp) (d : ℕ) (k : Disk) (g unit : ℕ) → DiskWaits shape p next d k → Waits shape p next d k (record { guest = record { 0 = g }; unit = record { 0 = unit } }) → DiskWaits shape p next d (joined k g unit)
join_disk shape p next d k g unit old new i l =
    let w : Waiting = record { guest = record { 0 = g }; unit = record { 0 = unit } } in
    elim (cases_lt i (length k.queue)) [
      | inl before ↦ subst (Waits shape p next d (joined k g unit)) (sym (get_or_append_left k.queue (w ∷ []) no_waiting i before)) (at_disk shape p next d k (joined k g unit) _ (omega arith) (old i before))
      | inr past ↦
          let last : length k.queue ≡ i = omega (arith, length_push k.queue w) in
          subst (Waits shape p next d (joined k g unit)) (sym (get_or_at k.queue w [] no_waiting i last)) (at_disk shape p next d k (joined k g unit) w (omega arith) new)
    ]

joined_queues : (job : Job) (v : View) (g : ℕ) → IsGoodJob job → IsViewOf job v → GuestGoes job v g → MeansJoin job v (next_operation job v g) →
    QueuesWait job.copy v.phase (set v.disks (disk_of job.copy (next_operation job v g).unit.0) (joined (disk v (disk_of job.copy (next_operation job v g).unit.0)) g (next_operation job v g).unit.0)) (next_operation job v)
joined_queues job v g good i goes means =
    let op = next_operation job v g in
    let unit = op.unit.0 in
    let d = disk_of job.copy unit in
    let q = i.queues in
    let inside = ltb-true (block_of job.copy unit) ((disk v d).cursor + (disk v d).region) (and_parts (nat_le (disk v d).cursor (block_of job.copy unit)) (nat_lt (block_of job.copy unit) ((disk v d).cursor + (disk v d).region)) means.inside).1 in
    set_queues job.copy v.phase v.disks (next_operation job v) d (joined (disk v d) g unit) q
    (λ x. join_once v.disks d g unit x q.once (in_queue-waits_in_all v.disks g goes.in_no_queue))
    (join_disk job.copy v.phase (next_operation job v) d (disk v d) g unit (each_waits job.copy v.phase v.disks (next_operation job v) q d) (record {
      of_disk = (means.block, mirror_unit job v g good goes, refl);
      to_write = and_from (is_some op.write) (unit == unit) means.writes (eq-eqb unit unit refl);
      not_ahead = λ r. inside;
    }))

-- the front gone
gone_queues : (shape : Shape) (p : Phase) (ds : List Disk) (next : ℕ → UnitOp) (d : ℕ) → QueuesWait shape p ds next → QueuesWait shape p (set ds d (front_gone (get_or ds d no_disk))) next
gone_queues shape p ds next d q =
    let k = get_or ds d no_disk in
    set_queues shape p ds next d (front_gone k) q (λ g. omega (arith, q.once g, waits_in_all-set ds d (front_gone k) g, waits_in-drop k.queue g))
    (λ i l.
    let here : 1 + i < length k.queue = omega (arith, length-drop 1 k.queue) in
    let w = each_waits shape p ds next q d (1 + i) here in
    subst (Waits shape p next d (front_gone k)) (sym (get_or-drop 1 k.queue i no_waiting)) (at_disk shape p next d k (front_gone k) _ (omega arith) w))

gone_guest : (ds : List Disk) (d : ℕ) → ((g : ℕ) → waits_in_all ds g ≤ 1) → 0 < length (get_or ds d no_disk).queue → waits_in_all (set ds d (front_gone (get_or ds d no_disk))) (front (get_or ds d no_disk)).guest.0 ≡ 0
gone_guest ds d once some =
    let k = get_or ds d no_disk in
    let g = (front k).guest.0 in
    omega (arith, once g, waits_in_all-set ds d (front_gone k) g, waits_in-front k.queue g some refl)

-- one more entry of a guest that waits nowhere
pushed_queues : (job : Job) (p : Phase) (ds : List Disk) (h : List Ended) (e : Ended) → QueuesWait job.copy p ds (λ g. operation job g (ended h g)) → waits_in_all ds e.guest.0 ≡ 0 → QueuesWait job.copy p ds (λ g. operation job g (ended (push h e) g))
pushed_queues job p ds h e q none = record {
  once = q.once;
  of_disk = q.of_disk;
  to_write = λ d i l.
      let w = waiting_at ds d i in
      let other : e.guest.0 ≡ w.guest.0 → ⊥ = λ same. omega (arith, none, waits_in_all-place ds d i e.guest.0 l (sym same)) in
      subst (λ n. writes_to (operation job w.guest.0 n) w.unit.0 ≡ true) (sym (ended-push_other h e w.guest.0 other)) (q.to_write d i l);
  not_ahead = q.not_ahead;
}

guest_queues : (job : Job) (v : View) (g : ℕ) (a : Aim) → IsGoodJob job → IsViewOf job v → GuestGoes job v g → (a ≡ Join → MeansJoin job v (next_operation job v g)) → QueuesOf job (guest_by job v g (next_operation job v g) a)
guest_queues job v g Alone good i goes means = pushed_queues job v.phase v.disks v.history (record { guest = record { 0 = g }; outcome = Done }) i.queues (in_queue-waits_in_all v.disks g goes.in_no_queue)
guest_queues job v g Store good i goes means = pushed_queues job v.phase v.disks v.history (record { guest = record { 0 = g }; outcome = Done }) i.queues (in_queue-waits_in_all v.disks g goes.in_no_queue)
guest_queues job v g Join good i goes means = joined_queues job v g good i goes (means refl)
guest_queues job v g Mirror good i goes means = pushed_queues job v.phase v.disks v.history (record { guest = record { 0 = g }; outcome = Done }) i.queues (in_queue-waits_in_all v.disks g goes.in_no_queue)

-- the phase is no longer that in which the guest runs
still_queues : (shape : Shape) (p p' : Phase) (ds : List Disk) (next : ℕ → UnitOp) → QueuesWait shape p ds next → is_running p' ≡ false → QueuesWait shape p' ds next
still_queues shape p p' ds next q stops = record {
  once = q.once;
  of_disk = q.of_disk;
  to_write = q.to_write;
  not_ahead = λ d i r l. absurd (both_ways (is_running p') stops r);
}

queue_without : (ds : List Disk) (d : ℕ) → (get_or (map without_region ds) d no_disk).queue ≡ (get_or ds d no_disk).queue
queue_without [] d = refl
queue_without (k ∷ ds) zero = refl
queue_without (k ∷ ds) (suc d) = queue_without ds d

given_up_queues : (shape : Shape) (p p' : Phase) (ds : List Disk) (next : ℕ → UnitOp) → QueuesWait shape p ds next → is_running p' ≡ false → QueuesWait shape p' (map without_region ds) next
given_up_queues shape p p' ds next q stops = record {
  once = λ g. omega (arith, q.once g, waits_in_all-map ds g);
  of_disk = λ d i l. subst (λ ws. (is_page shape (get_or ws i no_waiting).unit.0 ≡ false) × ((get_or ws i no_waiting).unit.0 < units shape) × (disk_of shape (get_or ws i no_waiting).unit.0 ≡ d)) (sym (queue_without ds d)) (q.of_disk d i (subst (λ (ws : List Waiting). i < length ws) (queue_without ds d) l));
  to_write = λ d i l. subst (λ ws. writes_to (next (get_or ws i no_waiting).guest.0) (get_or ws i no_waiting).unit.0 ≡ true) (sym (queue_without ds d)) (q.to_write d i (subst (λ (ws : List Waiting). i < length ws) (queue_without ds d) l));
  not_ahead = λ d i r l. absurd (both_ways (is_running p') stops r);
}

pub queues-keep : (job : Job) (v : View) → IsGoodJob job → IsViewOf job v → EffectsKeep (QueuesOf job) job v
queues-keep job v good i =
    let q = i.queues in
    let next = next_operation job v in
    record {
      guest = λ g m goes. guest_queues job v g (next_aim job v g) good i goes (λ e. aim-join job v (next_operation job v g) e);
      guest_fault = λ g m goes. pushed_queues job v.phase v.disks v.history (record { guest = record { 0 = g }; outcome = Faulted }) q (in_queue-waits_in_all v.disks g goes.in_no_queue);
      begin = λ d l goes. same_queue job.copy v.phase v.disks next d (disk v d).cursor (region_length job v d) 0 q (omega (arith, goes.no_region));
      read = λ d l goes. same_queue job.copy v.phase v.disks next d (disk v d).cursor (disk v d).region ((disk v d).got + 1) q (omega arith);
      advance = λ d l goes. same_queue job.copy v.phase v.disks next d ((disk v d).cursor + (disk v d).region) 0 0 q (omega arith);
      release = λ d l goes. pushed_queues job v.phase (set v.disks d (front_gone (disk v d))) v.history (record { guest = (front (disk v d)).guest; outcome = Done }) (gone_queues job.copy v.phase v.disks next d q) (gone_guest v.disks d q.once goes.some_queue);
      release_fault = λ d l goes. pushed_queues job v.phase (set v.disks d (front_gone (disk v d))) v.history (record { guest = record { 0 = (front (disk v d)).guest.0 }; outcome = Faulted }) (gone_queues job.copy v.phase v.disks next d q) (gone_guest v.disks d q.once goes.some_queue);
      round = λ goes. q;
      page = λ goes. q;
      send = λ s m goes. q;
      deliver = λ s m goes. q;
      apply = λ goes. q;
      ack = λ goes. q;
      credit = λ goes. q;
      stun = λ goes. still_queues job.copy v.phase Stunned v.disks next q refl;
      switch = λ goes. still_queues job.copy v.phase Switched v.disks next q refl;
      cancel = λ goes. given_up_queues job.copy v.phase Cancelled v.disks next q refl;
      fail = λ live. given_up_queues job.copy v.phase Failed v.disks next q refl;
    }

pub queues-step : (job : Job) (v : View) (e : Event) (flag : Bool) → IsGoodJob job → fits job e ≡ true → IsViewOf job v → QueuesOf job (step job v e flag)
queues-step job v e flag good f i = step_keeps (QueuesOf job) job v e flag f i.queues (queues-keep job v good i)
