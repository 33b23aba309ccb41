-- A guest's operation by its aim, and a queued write released, keep the contents.
use Rattle.std.specs.Prelude.{◌≡◌, ◌<◌, ℕ, ◌+◌, ◌==◌, ◌||◌, Bool, true, false, List, [], ◌∷◌, ◌++◌, length, map, set, is_some, if◌then◌else◌}
use Rattle.std.proofs.Common.{arith, refl, ap, sym, ◌∙◌, subst}
use Rattle.std.proofs.lemmas.Bool.{eqb-true, and_parts, false_from_ne_true, or_right}
use Rattle.std.proofs.lemmas.List.{map_push, length_push}
use Rattle.xv_model.specs.Job.{Job, UnitOp, IsGoodJob, unit_count, is_page, disk_of, block_of}
use Rattle.xv_model.specs.Guest.{Ended, content, is_done, writes_to}
use Rattle.xv_model.specs.View.{View, Outbox, disk, front, is_running, is_live, is_stunned, is_switched, is_behind, is_inside}
use Rattle.xv_model.specs.Wait.{Aim, Alone, Store, Join, Mirror, aim, is_join, is_mirror, next_operation, next_aim}
use Rattle.xv_model.specs.Effect.{cursor_unit, joined, front_gone, made, guest_by, guest_done, released, ended_as, with_disk}
use Rattle.xv_model.specs.Invariant.{IsViewOf}
use Rattle.xv_model.specs.Contents.{Contents, HoldsContents, unit_content, after_operation, read_of, message_content, guest_moves, release_moves, front_operation}
use Rattle.xv_model.proofs.Facts.{mirror_unit}
use Rattle.xv_model.proofs.GoesOn.{GuestGoes, ReleaseGoes, MeansStore, MeansMirror, MeansJoin, MeansAlone, aim-store, aim-mirror, aim-join, aim-alone, queues_empty-queue, running_is_live, live_not_switched}
use Rattle.xv_model.proofs.Contents.Histories.{operation_of}
use Rattle.xv_model.proofs.Contents.Entries.{device-after, read_of-write}
use Rattle.xv_model.proofs.Contents.Regions.{regions-kept}
use Rattle.xv_model.proofs.Contents.Copying.{regions_of}
use Rattle.xv_model.proofs.Contents.Guests.{entry_done, entry_failed, regions_after, outbox-later, IsRead, is_read}
use Rattle.xv_base.specs.declared.operation.Outcome.TheVariants.{Done, Faulted}

-- the entry of a guest's operation, done or failed
abbrev done_by : ℕ → Ended
done_by guest = record { guest = record { 0 = guest }; outcome = Done }

abbrev failed_by : ℕ → Ended
failed_by guest = record { guest = record { 0 = guest }; outcome = Faulted }

-- what a guest's operation does to the contents, by its aim
abbrev guest_moves_by : View → UnitOp → Aim → Contents → Contents
guest_moves_by v op a c = record c {
  source = if is_switched v.phase || is_join a then c.source else after_operation op c.source;
  dest = if is_switched v.phase then after_operation op c.dest else c.dest;
  outbox = if is_mirror a then c.outbox ++ unit_content (after_operation op c.source) op.unit.0 ∷ [] else c.outbox;
  reads = c.reads ++ read_of op (if is_switched v.phase then c.dest else c.source);
}

-- an operation that is neither queued nor mirrored, or that is mirrored
or_false : (b : Bool) → b ≡ (b || false)
or_false true = refl
or_false false = refl

guest_entry : (job : Job) (v : View) (c : Contents) (g : ℕ) (mark : ℕ) (dirty : List Bool) (box : Outbox) (out : List (List ℕ)) → IsViewOf job v → HoldsContents job v c →
    (next_operation job v g).unit.0 < unit_count job →
    ((unit : ℕ) → IsRead job v unit → writes_to (next_operation job v g) unit ≡ false) →
    out ≡ map (message_content job (v.history ++ done_by g ∷ [])) box.messages →
    HoldsContents job (record v { history = v.history ++ done_by g ∷ []; mark = mark; dirty = dirty; outbox = box })
    (record c {
      source = if is_switched v.phase || false then c.source else after_operation (next_operation job v g) c.source;
      dest = if is_switched v.phase then after_operation (next_operation job v g) c.dest else c.dest;
      outbox = out;
      reads = c.reads ++ read_of (next_operation job v g) (if is_switched v.phase then c.dest else c.source);
    })
guest_entry job v c g mark dirty box out inv holds lt untouched outbox =
    subst (λ b. HoldsContents job (record v { history = v.history ++ done_by g ∷ []; mark = mark; dirty = dirty; outbox = box })
    (record c {
      source = if b then c.source else after_operation (next_operation job v g) c.source;
      dest = if is_switched v.phase then after_operation (next_operation job v g) c.dest else c.dest;
      outbox = out;
      reads = c.reads ++ read_of (next_operation job v g) (if is_switched v.phase then c.dest else c.source);
    })) (or_false (is_switched v.phase))
    (entry_done job v c (done_by g) (next_operation job v g) mark dirty v.disks box out inv holds refl refl lt
    (regions_after job v c (done_by g) holds (λ d k l m. untouched (cursor_unit job v d + k) (is_read job v d k inv l m))) outbox)

-- the unit that an operation writes to
unit_of_write : (op : UnitOp) (unit : ℕ) → writes_to op unit ≡ true → (is_some op.write ≡ true) × (op.unit.0 ≡ unit)
unit_of_write op unit e = let parts = and_parts (is_some op.write) (op.unit.0 == unit) e in (parts.0, eqb-true op.unit.0 unit parts.1)

-- an operation that is not queued writes to no block that was read
store_untouched : (job : Job) (v : View) (op : UnitOp) (unit : ℕ) → MeansStore job v op → IsRead job v unit → writes_to op unit ≡ false
store_untouched job v op unit means read = false_from_ne_true (writes_to op unit) (λ e.
    (let page : is_page job.copy unit ≡ true = subst (λ u. is_page job.copy u ≡ true) (unit_of_write op unit e).1 means.page in
    let block = read.no_page in
    cc))

mirror_untouched : (job : Job) (v : View) (op : UnitOp) (unit : ℕ) → MeansMirror job v op → IsRead job v unit → writes_to op unit ≡ false
mirror_untouched job v op unit means read = false_from_ne_true (writes_to op unit) (λ e.
    (let behind : is_behind (disk v (disk_of job.copy unit)) (block_of job.copy unit) ≡ true = subst (λ u. is_behind (disk v (disk_of job.copy u)) (block_of job.copy u) ≡ true) (unit_of_write op unit e).1 means.behind in
    let ahead = read.not_behind in
    cc))

alone_untouched : (job : Job) (v : View) (op : UnitOp) (unit : ℕ) → MeansAlone job v op → IsRead job v unit → writes_to op unit ≡ false
alone_untouched job v op unit means read = false_from_ne_true (writes_to op unit) (λ e.
    (let outside : is_inside (disk v (disk_of job.copy unit)) (block_of job.copy unit) ≡ false = subst (λ u. is_inside (disk v (disk_of job.copy u)) (block_of job.copy u) ≡ false) (unit_of_write op unit e).1 (means.not_inside read.running (unit_of_write op unit e).0) in
    let inside = read.inside in
    cc))

-- the message of a write that was just done
mirror_content : (job : Job) (v : View) (c : Contents) (e : Ended) (op : UnitOp) (unit : ℕ) → IsViewOf job v → HoldsContents job v c → is_switched v.phase ≡ false → is_done e.outcome ≡ true → op ≡ operation_of job v.history e → op.unit.0 < unit_count job → unit < unit_count job →
    c.outbox ++ unit_content (after_operation op c.source) unit ∷ [] ≡ map (message_content job (v.history ++ e ∷ [])) (made v.outbox unit (length v.history + 1)).messages
mirror_content job v c e op unit inv holds off done is lt in_range =
    let f = message_content job (v.history ++ e ∷ []) in
    let now : unit_content (after_operation op c.source) unit ≡ content job (v.history ++ e ∷ []) unit (length (v.history ++ e ∷ [])) = device-after job v.history e op c.source unit done is (let n = holds.source_length in omega arith) (holds.source_is unit in_range off) in
    ap (λ x. c.outbox ++ x ∷ []) (now ∙ ap (content job (v.history ++ e ∷ []) unit) (length_push v.history e))
    ∙ ap (λ x. x ++ content job (v.history ++ e ∷ []) unit (length v.history + 1) ∷ []) (holds.outbox_is ∙ sym (outbox-later job v (e ∷ []) inv))
    ∙ sym (map_push f v.outbox.messages _)

contents-joined : (job : Job) (v : View) (c : Contents) (g : ℕ) (op : UnitOp) (dirty : List Bool) (mark : ℕ) → IsViewOf job v → MeansJoin job v op → HoldsContents job v c →
    HoldsContents job (record v { mark = mark; dirty = dirty; disks = set v.disks (disk_of job.copy op.unit.0) (joined (disk v (disk_of job.copy op.unit.0)) g op.unit.0) })
    (record c {
      source = if is_switched v.phase || true then c.source else after_operation op c.source;
      dest = if is_switched v.phase then after_operation op c.dest else c.dest;
      reads = c.reads ++ read_of op (if is_switched v.phase then c.dest else c.source);
    })
contents-joined job v c g op dirty mark inv means holds =
    let off = live_not_switched v.phase (running_is_live v.phase means.running) in
    let source : (if is_switched v.phase || true then c.source else after_operation op c.source) ≡ c.source = ap (λ b. if b || true then c.source else after_operation op c.source) off in
    let dest : (if is_switched v.phase then after_operation op c.dest else c.dest) ≡ c.dest = ap (λ b. if b then after_operation op c.dest else c.dest) off in
    let are = regions-kept job v.history v.disks c.regions (disk_of job.copy op.unit.0) (joined (disk v (disk_of job.copy op.unit.0)) g op.unit.0) (regions_of job v c holds) refl refl in
    record {
      source_length = ap length source ∙ holds.source_length;
      dest_length = ap length dest ∙ holds.dest_length;
      source_is = λ unit l here. ap (λ x. unit_content x unit) source ∙ holds.source_is unit l here;
      outbox_is = holds.outbox_is;
      streams_are = holds.streams_are;
      held_is = holds.held_is;
      dest_is = λ unit l here some. ap (λ x. unit_content x unit) dest ∙ holds.dest_is unit l here some;
      regions_length = are.one_each;
      region_length = λ d l. (are.region d l).read;
      region_is = λ d k l m. (are.region d l).each k m;
      dest_switched = λ unit l on. ap (λ x. unit_content x unit) dest ∙ holds.dest_switched unit l on;
      source_switched = λ unit l on. ap (λ x. unit_content x unit) source ∙ holds.source_switched unit l on;
      reads_are = read_of-write op _ c.reads means.writes ∙ holds.reads_are;
    }

guest_aimed : (job : Job) (v : View) (c : Contents) (g : ℕ) (a : Aim) → IsViewOf job v → HoldsContents job v c → (next_operation job v g).unit.0 < unit_count job → aim job v (next_operation job v g) ≡ a → HoldsContents job (guest_by job v g (next_operation job v g) a) (guest_moves_by v (next_operation job v g) a c)
guest_aimed job v c g Alone inv holds lt is =
    guest_entry job v c g _ v.dirty v.outbox c.outbox inv holds lt
    (λ unit read. alone_untouched job v (next_operation job v g) unit (aim-alone job v (next_operation job v g) is) read)
    (holds.outbox_is ∙ sym (outbox-later job v (done_by g ∷ []) inv))
guest_aimed job v c g Store inv holds lt is =
    guest_entry job v c g _ _ v.outbox c.outbox inv holds lt
    (λ unit read. store_untouched job v (next_operation job v g) unit (aim-store job v (next_operation job v g) is) read)
    (holds.outbox_is ∙ sym (outbox-later job v (done_by g ∷ []) inv))
guest_aimed job v c g Mirror inv holds lt is =
    let means = aim-mirror job v (next_operation job v g) is in
    let off = live_not_switched v.phase (running_is_live v.phase means.running) in
    guest_entry job v c g _ v.dirty (made v.outbox (next_operation job v g).unit.0 (length v.history + 1)) _ inv holds lt
    (λ unit read. mirror_untouched job v (next_operation job v g) unit means read)
    (mirror_content job v c (done_by g) (next_operation job v g) (next_operation job v g).unit.0 inv holds off refl refl lt lt)
guest_aimed job v c g Join inv holds lt is = contents-joined job v c g (next_operation job v g) v.dirty v.mark inv (aim-join job v (next_operation job v g) is) holds

pub contents-guest_done : (job : Job) (v : View) (c : Contents) (g : ℕ) → IsGoodJob job → IsViewOf job v → GuestGoes job v g → HoldsContents job v c → HoldsContents job (guest_done job v g) (guest_moves job v g c)
contents-guest_done job v c g good inv goes holds = guest_aimed job v c g (next_aim job v g) inv holds (mirror_unit job v g good goes) refl

-- a guest's operation that failed
pub contents-guest_failed : (job : Job) (v : View) (c : Contents) (g : ℕ) → IsViewOf job v → HoldsContents job v c → HoldsContents job (ended_as v g Faulted) c
contents-guest_failed job v c g inv holds =
    entry_failed job v c (failed_by g) _ v.disks inv holds refl (regions_after job v c (failed_by g) holds (λ d k l m. refl))

-- what is known of the write at the front of a queue
record IsFront (job : Job) (v : View) (d : ℕ) : Type 0 where
  writes : is_some (front_operation job v d).write ≡ true
  unit : (front_operation job v d).unit.0 ≡ (front (disk v d)).unit.0
  in_range : (front (disk v d)).unit.0 < unit_count job
  of_disk : disk_of job.copy (front (disk v d)).unit.0 ≡ d
  not_switched : is_switched v.phase ≡ false

is_front : (job : Job) (v : View) (d : ℕ) → IsViewOf job v → ReleaseGoes job v d → IsFront job v d
is_front job v d inv goes =
    let write = unit_of_write (front_operation job v d) (front (disk v d)).unit.0 (inv.queues.to_write d 0 goes.some_queue) in
    let place = inv.queues.of_disk d 0 goes.some_queue in
    record {
      writes = write.0;
      unit = write.1;
      in_range = place.1;
      of_disk = place.2;
      not_switched = false_from_ne_true (is_switched v.phase) (λ on.
          (let none : length (disk v d).queue ≡ 0 = ap length (queues_empty-queue v.disks d (inv.quiet.no_queue (or_right (is_stunned v.phase) (is_switched v.phase) on))) in
          let some = goes.some_queue in
          omega arith));
    }

front_untouched : (job : Job) (v : View) (d unit : ℕ) → ReleaseGoes job v d → IsFront job v d → IsRead job v unit → writes_to (front_operation job v d) unit ≡ false
front_untouched job v d unit goes is read = false_from_ne_true (writes_to (front_operation job v d) unit) (λ e.
    (let same : unit ≡ (front (disk v d)).unit.0 = sym (unit_of_write (front_operation job v d) unit e).1 ∙ is.unit in
    let inside : is_inside (disk v (disk_of job.copy (front (disk v d)).unit.0)) (block_of job.copy (front (disk v d)).unit.0) ≡ true = subst (λ u. is_inside (disk v (disk_of job.copy u)) (block_of job.copy u) ≡ true) same read.inside in
    let here : is_inside (disk v d) (block_of job.copy (front (disk v d)).unit.0) ≡ true = subst (λ i. is_inside (disk v i) (block_of job.copy (front (disk v d)).unit.0) ≡ true) is.of_disk inside in
    let outside = goes.not_inside read.running in
    cc))

-- the entry of the write at the front of a queue
abbrev done_front : View → ℕ → Ended
done_front v d = record { guest = (front (disk v d)).guest; outcome = Done }

front_outbox : (job : Job) (v : View) (c : Contents) (d : ℕ) (b : Bool) → IsViewOf job v → IsFront job v d → HoldsContents job v c →
    (if b then c.outbox ++ unit_content (after_operation (front_operation job v d) c.source) (front (disk v d)).unit.0 ∷ [] else c.outbox)
    ≡ map (message_content job (v.history ++ done_front v d ∷ [])) (if b then made v.outbox (front (disk v d)).unit.0 (length v.history + 1) else v.outbox).messages
front_outbox job v c d true inv is holds =
    mirror_content job v c (done_front v d) (front_operation job v d) (front (disk v d)).unit.0 inv holds is.not_switched refl refl (let u = is.unit in let i = is.in_range in omega arith) is.in_range
front_outbox job v c d false inv is holds = holds.outbox_is ∙ sym (outbox-later job v (done_front v d ∷ []) inv)

pub contents-released : (job : Job) (v : View) (c : Contents) (d : ℕ) → IsViewOf job v → ReleaseGoes job v d → HoldsContents job v c → HoldsContents job (released v d) (release_moves job v d c)
contents-released job v c d inv goes holds =
    let is = is_front job v d inv goes in
    let op = front_operation job v d in
    let are = regions-kept job (v.history ++ done_front v d ∷ []) v.disks c.regions d (front_gone (disk v d))
    (regions_after job v c (done_front v d) holds (λ i k l m. front_untouched job v d (cursor_unit job v i + k) goes is (is_read job v i k inv l m))) refl refl in
    let done = entry_done job v c (done_front v d) op (if is_live v.phase then length v.history + 1 else v.mark) v.dirty _ (if is_running v.phase then made v.outbox (front (disk v d)).unit.0 (length v.history + 1) else v.outbox) _
    inv holds refl refl (let u = is.unit in let i = is.in_range in omega arith) are (front_outbox job v c d (is_running v.phase) inv is holds) in
    let off = subst (λ b. HoldsContents job (released v d) (record c {
      source = if b then c.source else after_operation op c.source;
      dest = if b then after_operation op c.dest else c.dest;
      outbox = (release_moves job v d c).outbox;
      reads = c.reads ++ read_of op (if b then c.dest else c.source);
    })) is.not_switched done in
    subst (λ reads. HoldsContents job (released v d) (record (release_moves job v d c) { reads = reads })) (read_of-write op c.source c.reads is.writes) off

-- a queued write that failed
pub contents-release_failed : (job : Job) (v : View) (c : Contents) (d : ℕ) → IsViewOf job v → HoldsContents job v c → HoldsContents job (with_disk (ended_as v (front (disk v d)).guest.0 Faulted) d (front_gone (disk v d))) c
contents-release_failed job v c d inv holds =
    let e = failed_by (front (disk v d)).guest.0 in
    entry_failed job v c e _ _ inv holds refl
    (regions-kept job (v.history ++ e ∷ []) v.disks c.regions d (front_gone (disk v d)) (regions_after job v c e holds (λ i k l m. refl)) refl refl)
