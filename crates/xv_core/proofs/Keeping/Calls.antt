-- What the calls of the halves require holds of a running migration: room on the streams and on the way back, a hold that
-- can take the front of a stream, counts within the credit, and operations that are legal.
use Rattle.std.specs.Prelude.{◌≡◌, ◌≤◌, ◌<◌, ℕ, zero, suc, ◌+◌, ◌*◌, ◌==◌, ◌||◌, min, Bool, true, false, List, [], ◌∷◌, length, map, get_or, sum, None, is_some, if◌then◌else◌}
use Rattle.std.proofs.Common.{arith, refl, ap, sym, subst, ◌∙◌, inl, inr}
use Rattle.std.proofs.Math.Nat.{mul-le-mul_right}
use Rattle.std.proofs.lemmas.Bool.{cases_lt, and_parts, eqb-true, false_from_ne_true}
use Rattle.std.proofs.lemmas.List.{length-map, length-append, get_or_past}
use Rattle.std.proofs.lemmas.List.Sums.{sum_by-cons}
use Rattle.xv_base.specs.Units.{Shape}
use Rattle.xv_base.specs.declared.limits.Config.{Config}
use Rattle.xv_base.specs.declared.event.Event.TheVariants.{Apply}
use Rattle.xv_frame.specs.Frame.{Message}
use Rattle.xv_streams.specs.Streamed.{LaneSeen, no_lane, lane, first_group}
use Rattle.xv_streams.specs.Carried.{most_bytes, joined}
use Rattle.xv_streams.specs.Fronts.{heads_of, heads_on, HasRoomFor}
use Rattle.xv_model.specs.Job.{Job, IsLegal, UnitOp, is_page, disk_of, trace, guest_count}
use Rattle.xv_model.specs.Guest.{ended, writes_to}
use Rattle.xv_model.specs.View.{View, Disk, UnitHead, Waiting, no_disk, number, disk, front, front_group, is_ready, is_stunned, is_switched}
use Rattle.xv_model.specs.Wait.{wait, next_operation}
use Rattle.xv_model.specs.Contents.{front_operation}
use Rattle.xv_model.specs.Outstanding.{any, count_groups, count_streams}
use Rattle.xv_model.specs.Invariant.{IsViewOf}
use Rattle.xv_job.specs.Written.{job_of}
use Rattle.xv_source.specs.Step.{batch_of}
use Rattle.xv_dest.specs.Half.{Dest, IsDestOf, CanTake, with_dest}
use Rattle.xv_core.specs.State.{State, view, IsRunning}
use Rattle.xv_model.proofs.Bags.{ready-on_the_way}
use Rattle.xv_model.proofs.GoesOn.{apply_goes, queues_empty-queue}
use Rattle.xv_model.proofs.Legal.{front_has_more}
use Rattle.xv_model.proofs.Points.CreditSteps.{count-any}
use Rattle.xv_model.proofs.Window.{front-fits, front-above, front-once, front-not_held, credit-fits}
use Rattle.xv_core.proofs.Keeping.Joined.{shows, is_dest_of, view-holds}

-- the messages on one stream are among those on all
joined-count : (groups : List (List Message)) → length (joined groups) ≡ count_groups any (map heads_of groups)
joined-count [] = refl
joined-count (g ∷ groups) = omega (arith, length-append g (joined groups), joined-count groups, count-any (heads_of g), length-map g (λ (m : Message). m.head))

on-stream : (lanes : List LaneSeen) (k : ℕ) → length (joined (get_or lanes k no_lane).groups) ≤ count_streams any (heads_on lanes)
on-stream [] k = omega arith
on-stream (l ∷ lanes) zero = omega (arith, joined-count l.groups)
on-stream (l ∷ lanes) (suc k) = omega (arith, on-stream lanes k)

-- There is room on each stream for as many messages as there is credit.
room-for-credit : (s : State) (k n : ℕ) → IsRunning s → k < (job_of s.job).config.streams → n ≤ (view s).credit → HasRoomFor (job_of s.job).shape (job_of s.job).format n (lane s.streams k)
room-for-credit s k n r there few =
    let job = job_of s.job in
    let v = view s in
    let on_streams : length (joined (lane s.streams k).groups) ≤ count_streams any v.streams = subst (λ (streams : List (List (List UnitHead))). length (joined (lane s.streams k).groups) ≤ count_streams any streams) (sym (shows s r).streams) (on-stream s.streams.lanes k) in
    let fits : length (joined (lane s.streams k).groups) + n ≤ job.config.credit = omega (arith, on_streams, few, (view-holds s r).credit.sums) in
    omega (arith, mul-le-mul_right (most_bytes job.shape job.format) fits, r.parts.wires_room k there)

-- The same in the half's own numbers, whatever else a send waits for.
batch-credit : (b : Bool) (most messages credit : ℕ) → 0 < credit → (if b then 1 else min most (min messages credit)) ≤ credit
batch-credit true most messages credit some = omega arith
batch-credit false most messages credit some = omega arith

pub source-has-room : (s : State) (k : ℕ) → IsRunning s → k < (job_of s.job).config.streams → 0 < s.source.credit → HasRoomFor s.source.shape s.streams.format (batch_of s.streams.format (job_of s.job).group s.source) (lane s.streams k)
source-has-room s k r there some =
    let format = s.streams.format in
    let most = (job_of s.job).group in
    let few : batch_of format most s.source ≤ (view s).credit = omega (arith, batch-credit (format == 1) most (length s.source.messages) s.source.credit some, (shows s r).credit) in
    subst (λ (shape : Shape). HasRoomFor shape format (batch_of format most s.source) (lane s.streams k)) (sym r.parts.source_shape)
    (subst (λ (f : ℕ). HasRoomFor (job_of s.job).shape f (batch_of format most s.source) (lane s.streams k)) (sym r.parts.streams_format) (room-for-credit s k (batch_of format most s.source) r there few))

-- The hold can take the front of each stream.
front-heads : (groups : List (List Message)) → get_or (map heads_of groups) 0 [] ≡ heads_of (first_group groups)
front-heads [] = refl
front-heads (g ∷ groups) = refl

stream-heads : (lanes : List LaneSeen) (k : ℕ) → get_or (get_or (heads_on lanes) k []) 0 [] ≡ heads_of (first_group (get_or lanes k no_lane).groups)
stream-heads [] k = refl
stream-heads (l ∷ lanes) zero = front-heads l.groups
stream-heads (l ∷ lanes) (suc k) = stream-heads lanes k

pub front-group : (s : State) (k : ℕ) → IsRunning s → front_group (view s) k ≡ heads_of (first_group (lane s.streams k).groups)
front-group s k r = ap (λ (streams : List (List (List UnitHead))). get_or (get_or streams k []) 0 []) (shows s r).streams ∙ stream-heads s.streams.lanes k

takes-front : (job : Job) (v : View) (h : Dest) (k : ℕ) → IsViewOf job v → IsDestOf job v h → CanTake h (front_group v k)
takes-front job v h k inv is =
    let own : IsViewOf job (with_dest v h) = subst (IsViewOf job) (sym is.part) inv in
    record {
      room = omega (arith, front-fits job (with_dest v h) k own, is.limit);
      above = λ i lt. front-above job (with_dest v h) k i own lt;
      once = λ i lt. front-once job (with_dest v h) k i own lt;
      not_held = λ i lt. front-not_held job (with_dest v h) k i own lt;
    }

pub can-take : (s : State) (k : ℕ) → IsRunning s → CanTake s.dest (heads_of (first_group (lane s.streams k).groups))
can-take s k r = subst (CanTake s.dest) (front-group s k r) (takes-front (job_of s.job) (view s) s.dest k (view-holds s r) (is_dest_of s r))

-- Where a message is ready, what is written and not acknowledged is below the credit.
pub ready-below : (s : State) → IsRunning s → is_ready (view s).hold ≡ true → s.dest.freed + 1 ≤ (job_of s.job).config.credit
ready-below s r ready = omega (arith, (shows s r).freed, (view-holds s r).credit.sums, ready-on_the_way (view s) ready any refl)

pub ready-few : (s : State) → IsRunning s → is_ready (view s).hold ≡ true → s.dest.freed < 1024
ready-few s r ready = omega (arith, ready-below s r ready, r.good.credit.1)

pub apply-few : (s : State) (flag : Bool) → IsRunning s → wait (job_of s.job) (view s) Apply flag ≡ None → s.dest.freed < 1024
apply-few s flag r goes = ready-few s r (apply_goes (job_of s.job) (view s) flag goes).ready

-- There is room on the way back for one acknowledgement more, and what comes back fits the credit.
length-acks : (acks : List ℕ) → ((i : ℕ) → i < length acks → 1 ≤ number acks i) → length acks ≤ sum acks
length-acks [] each = omega arith
length-acks (a ∷ acks) each = omega (arith, length-acks acks (λ i lt. each (suc i) (omega arith)), each 0 (omega arith), sum_by-cons (λ (n : ℕ). n) a acks)

pub ack-has-room : (s : State) → IsRunning s → 0 < s.dest.freed → 24 * (length s.back.counts + 1) ≤ s.back.wire.capacity
ack-has-room s r some =
    let v = view s in
    let whole = (view-holds s r).credit in
    let acks : length v.acks ≡ length s.back.counts = ap (λ (ns : List ℕ). length ns) (shows s r).acks in
    omega (arith, (shows s r).freed, whole.sums, length-acks v.acks whole.each_ack, acks, r.parts.back_room)

pub credit-within : (s : State) → IsRunning s → s.source.credit + number s.back.counts 0 ≤ s.source.config.credit
credit-within s r =
    let first : number (view s).acks 0 ≡ number s.back.counts 0 = ap (λ (ns : List ℕ). number ns 0) (shows s r).acks in
    let limit : s.source.config.credit ≡ (job_of s.job).config.credit = ap (λ (c : Config). c.credit) r.parts.source_limits in
    omega (arith, (shows s r).credit, first, limit, credit-fits (job_of s.job) (view s) (view-holds s r))

-- Operations are legal: a guest's next one, and the one at the front of a queue, which writes to the block that it waits for.
pub next-legal : (s : State) (g : ℕ) → IsRunning s → ended (view s).history g < length (trace (job_of s.job) g) → IsLegal (job_of s.job).shape (next_operation (job_of s.job) (view s) g)
next-legal s g r more = r.good.legal g (ended (view s).history g) more

-- a guest with a trace is one of the job's
pub guest-there : (job : Job) (g : ℕ) → 0 < length (trace job g) → g < guest_count job
guest-there job g some = elim (cases_lt g (guest_count job)) [
  | inl there ↦ there
  | inr past ↦ absurd (omega (arith, some, ap (λ (ops : List UnitOp). length ops) (get_or_past job.traces g [] past)))
]

-- the operation that waits at the front of a disk's queue
pub record WaitsInFront (s : State) (d : ℕ) : Type 0 where
  pub guest_there : (front (get_or s.source.disks d no_disk)).guest.0 < guest_count (job_of s.job)
  pub few_guests : (front (get_or s.source.disks d no_disk)).guest.0 < 16
  pub more : ended (view s).history (front (get_or s.source.disks d no_disk)).guest.0 < length (trace (job_of s.job) (front (get_or s.source.disks d no_disk)).guest.0)
  pub operation : front_operation (job_of s.job) (view s) d ≡ next_operation (job_of s.job) (view s) (front (get_or s.source.disks d no_disk)).guest.0
  pub to_write : writes_to (front_operation (job_of s.job) (view s) d) (front (get_or s.source.disks d no_disk)).unit.0 ≡ true
  pub writes : is_some (front_operation (job_of s.job) (view s) d).write ≡ true
  pub unit : (front_operation (job_of s.job) (view s) d).unit.0 ≡ (front (get_or s.source.disks d no_disk)).unit.0
  pub block : is_page (job_of s.job).copy (front_operation (job_of s.job) (view s) d).unit.0 ≡ false
  pub of_disk : disk_of (job_of s.job).copy (front_operation (job_of s.job) (view s) d).unit.0 ≡ d
  pub legal : IsLegal (job_of s.job).shape (front_operation (job_of s.job) (view s) d)
  pub not_still : (is_stunned (view s).phase || is_switched (view s).phase) ≡ false

-- the same of a view
record FrontOf (job : Job) (v : View) (d : ℕ) (ds : List Disk) : Type 0 where
  more : ended v.history (front (get_or ds d no_disk)).guest.0 < length (trace job (front (get_or ds d no_disk)).guest.0)
  operation : front_operation job v d ≡ next_operation job v (front (get_or ds d no_disk)).guest.0
  to_write : writes_to (front_operation job v d) (front (get_or ds d no_disk)).unit.0 ≡ true
  block : is_page job.copy (front (get_or ds d no_disk)).unit.0 ≡ false
  of_disk : disk_of job.copy (front (get_or ds d no_disk)).unit.0 ≡ d

front-of : (job : Job) (v : View) (d : ℕ) → IsViewOf job v → 0 < length (disk v d).queue → FrontOf job v d v.disks
front-of job v d inv some =
    let place = inv.queues.of_disk d 0 some in
    record {
      more = front_has_more job v d inv some;
      operation = refl;
      to_write = inv.queues.to_write d 0 some;
      block = place.0;
      of_disk = place.2;
    }

still-none : (job : Job) (v : View) (d : ℕ) → IsViewOf job v → 0 < length (disk v d).queue → (is_stunned v.phase || is_switched v.phase) ≡ false
still-none job v d inv some = false_from_ne_true (is_stunned v.phase || is_switched v.phase) (λ still.
    omega (arith, some, ap (λ (ws : List Waiting). length ws) (queues_empty-queue v.disks d (inv.quiet.no_queue still))))

pub waits-in-front : (s : State) (d : ℕ) → IsRunning s → 0 < length (get_or s.source.disks d no_disk).queue → WaitsInFront s d
waits-in-front s d r some =
    let job = job_of s.job in
    let v = view s in
    let inv = view-holds s r in
    let here : 0 < length (disk v d).queue = subst (λ (ds : List Disk). 0 < length (get_or ds d no_disk).queue) (sym (shows s r).disks) some in
    let is : FrontOf job v d s.source.disks = subst (FrontOf job v d) (shows s r).disks (front-of job v d inv here) in
    let op = front_operation job v d in
    let w = front (get_or s.source.disks d no_disk) in
    let write = and_parts (is_some op.write) (op.unit.0 == w.unit.0) is.to_write in
    let unit : op.unit.0 ≡ w.unit.0 = eqb-true op.unit.0 w.unit.0 write.1 in
    let there = guest-there job w.guest.0 (omega (arith, is.more)) in
    record {
      guest_there = there;
      few_guests = omega (arith, there, r.good.guests.1);
      more = is.more;
      operation = is.operation;
      to_write = is.to_write;
      writes = write.0;
      unit = unit;
      block = ap (is_page job.copy) unit ∙ is.block;
      of_disk = ap (disk_of job.copy) unit ∙ is.of_disk;
      legal = subst (IsLegal job.shape) (sym is.operation) (next-legal s w.guest.0 r is.more);
      not_still = still-none job v d inv here;
    }

-- the disks and the guests of the job are those of the source
pub disk-there : (s : State) (d : ℕ) → IsRunning s → d < length (job_of s.job).copy.disks → d < length s.source.disks
disk-there s d r there = omega (arith, there, (view-holds s r).lists.disks, ap (λ (ds : List Disk). length ds) (shows s r).disks)
