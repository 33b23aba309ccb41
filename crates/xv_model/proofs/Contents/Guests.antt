-- The events that add an entry to the history: a guest's operation, alone, stored, mirrored or failed, and a queued
-- write released.
use Rattle.std.specs.Prelude.{◌≡◌, ◌<◌, ℕ, ◌+◌, ◌&&◌, Bool, true, false, List, [], ◌∷◌, ◌++◌, length, map, unwrap_or, if◌then◌else◌}
use Rattle.std.proofs.Common.{arith, ap, sym, ◌∙◌, inl, inr}
use Rattle.std.proofs.lemmas.Bool.{cases_Bool, and_from, or_right, le-leb, lt-ltb, le-ltb}
use Rattle.std.proofs.lemmas.List.{length-set}
use Rattle.xv_model.specs.Job.{Job, UnitOp, unit_count, is_page, disk_of, block_of}
use Rattle.xv_model.specs.Guest.{Ended, content, reads, is_done, writes_to}
use Rattle.xv_model.specs.View.{View, Disk, Outbox, UnitHead, disk, number, is_running, is_stunned, is_switched, is_behind, is_inside}
use Rattle.xv_model.specs.Effect.{cursor_unit}
use Rattle.xv_model.specs.Outstanding.{outstanding}
use Rattle.xv_model.specs.Invariant.{IsViewOf}
use Rattle.xv_model.specs.Contents.{Contents, HoldsContents, unit_content, after_operation, read_of, message_content}
use Rattle.xv_model.proofs.Layouts.{is_block_after}
use Rattle.xv_model.proofs.Contents.Histories.{operation_of, content-append}
use Rattle.xv_model.proofs.Contents.Messages.{is_this, map-same, map_streams-same}
use Rattle.xv_model.proofs.Contents.Entries.{content-unwritten, device-after, reads-after, reads-faulted}
use Rattle.xv_model.proofs.Contents.Regions.{AreRegions, regions-later}
use Rattle.xv_model.proofs.Contents.Copying.{regions_of}

-- what stands on the way, and what was written, does not change by later entries
message-later : (job : Job) (v : View) (t : List Ended) (m : UnitHead) → IsViewOf job v → 0 < outstanding v (is_this m) → message_content job (v.history ++ t) m ≡ message_content job v.history m
message-later job v t m inv some =
    let at = inv.times.to_mark m.unit.0 m.version m.at some in
    let mark = inv.history.mark_within in
    content-append job v.history t m.unit.0 m.at (omega arith)

pub outbox-later : (job : Job) (v : View) (t : List Ended) → IsViewOf job v → map (message_content job (v.history ++ t)) v.outbox.messages ≡ map (message_content job v.history) v.outbox.messages
outbox-later job v t inv = map-same (message_content job (v.history ++ t)) (message_content job v.history) v.outbox.messages (λ m some. message-later job v t m inv (omega arith))

pub streams-later : (job : Job) (v : View) (t : List Ended) → IsViewOf job v → map (map (map (message_content job (v.history ++ t)))) v.streams ≡ map (map (map (message_content job v.history))) v.streams
streams-later job v t inv = map_streams-same (message_content job (v.history ++ t)) (message_content job v.history) v.streams (λ m some. message-later job v t m inv (omega arith))

pub held-later : (job : Job) (v : View) (t : List Ended) → IsViewOf job v → map (message_content job (v.history ++ t)) v.hold.held ≡ map (message_content job v.history) v.hold.held
held-later job v t inv = map-same (message_content job (v.history ++ t)) (message_content job v.history) v.hold.held (λ m some. message-later job v t m inv (omega arith))

pub recorded-later : (job : Job) (v : View) (t : List Ended) (unit : ℕ) → IsViewOf job v → content job (v.history ++ t) unit (number v.hold.recorded unit) ≡ content job v.history unit (number v.hold.recorded unit)
recorded-later job v t unit inv =
    let at = inv.times.recorded_to_mark unit in
    let mark = inv.history.mark_within in
    content-append job v.history t unit (number v.hold.recorded unit) (omega arith)

pub stun-later : (job : Job) (v : View) (t : List Ended) (unit : ℕ) → IsViewOf job v → is_switched v.phase ≡ true → content job (v.history ++ t) unit (unwrap_or v.stun 0) ≡ content job v.history unit (unwrap_or v.stun 0)
stun-later job v t unit inv on =
    let stun : unwrap_or v.stun 0 ≡ v.mark = ap (λ o. unwrap_or o 0) (inv.quiet.has_stun (or_right (is_stunned v.phase) (is_switched v.phase) on)) in
    let mark = inv.history.mark_within in
    content-append job v.history t unit (unwrap_or v.stun 0) (omega arith)

-- a block that was read is in its disk's region, and the guest runs
pub record IsRead (job : Job) (v : View) (unit : ℕ) : Type 0 where
  pub running : is_running v.phase ≡ true
  pub no_page : is_page job.copy unit ≡ false
  pub not_behind : is_behind (disk v (disk_of job.copy unit)) (block_of job.copy unit) ≡ false
  pub inside : is_inside (disk v (disk_of job.copy unit)) (block_of job.copy unit) ≡ true

pub is_read : (job : Job) (v : View) (d k : ℕ) → IsViewOf job v → d < length v.disks → k < (disk v d).got → IsRead job v (cursor_unit job v d + k)
is_read job v d k inv lt l =
    let got = inv.regions.read_fits d in
    let fits = inv.regions.cursor_fits d lt in
    let running : is_running v.phase ≡ true = elim (cases_Bool (is_running v.phase)) [
      | inl e ↦ e
      | inr e ↦ let none = inv.regions.only_running d e in absurd (omega arith)
    ] in
    let is = is_block_after job.copy d (disk v d).cursor k (let n = inv.lists.disks in omega arith) (omega arith) in
    record {
      running = running;
      no_page = is.no_page;
      not_behind = rw (is.disk, is.block) (le-ltb ((disk v d).cursor + k) (disk v d).cursor (omega arith));
      inside = rw (is.disk, is.block) (and_from _ _ (le-leb (disk v d).cursor ((disk v d).cursor + k) (omega arith)) (lt-ltb ((disk v d).cursor + k) ((disk v d).cursor + (disk v d).region) (omega arith)));
    }

-- an entry that writes to no block that was read leaves the regions as they are
pub regions_after : (job : Job) (v : View) (c : Contents) (e : Ended) → HoldsContents job v c → ((d k : ℕ) → d < length v.disks → k < (disk v d).got → (is_done e.outcome && writes_to (operation_of job v.history e) (cursor_unit job v d + k)) ≡ false) → AreRegions job (v.history ++ e ∷ []) v.disks c.regions
regions_after job v c e holds untouched =
    regions-later job v.history (v.history ++ e ∷ []) v.disks c.regions (regions_of job v c holds)
    (λ d k lt l. content-unwritten job v.history e (cursor_unit job v d + k) (untouched d k lt l))

-- an operation done
pub entry_done : (job : Job) (v : View) (c : Contents) (e : Ended) (op : UnitOp) (mark : ℕ) (dirty : List Bool) (disks : List Disk) (box : Outbox) (out : List (List ℕ)) → IsViewOf job v → HoldsContents job v c →
    is_done e.outcome ≡ true → op ≡ operation_of job v.history e → op.unit.0 < unit_count job → AreRegions job (v.history ++ e ∷ []) disks c.regions → out ≡ map (message_content job (v.history ++ e ∷ [])) box.messages →
    HoldsContents job (record v { history = v.history ++ e ∷ []; mark = mark; dirty = dirty; disks = disks; outbox = box })
    (record c {
      source = if is_switched v.phase then c.source else after_operation op c.source;
      dest = if is_switched v.phase then after_operation op c.dest else c.dest;
      outbox = out;
      reads = c.reads ++ read_of op (if is_switched v.phase then c.dest else c.source);
    })
entry_done job v c e op mark dirty disks box out inv holds done is lt are outbox = record {
  source_length = elim (is_switched v.phase) as (λ b. length (if b then c.source else after_operation op c.source) ≡ unit_count job) [
    | true ↦ holds.source_length
    | false ↦ length-set c.source op.unit.0 _ ∙ holds.source_length
  ];
  dest_length = elim (is_switched v.phase) as (λ b. length (if b then after_operation op c.dest else c.dest) ≡ unit_count job) [
    | true ↦ length-set c.dest op.unit.0 _ ∙ holds.dest_length
    | false ↦ holds.dest_length
  ];
  source_is = λ unit l off.
      ap (λ b. unit_content (if b then c.source else after_operation op c.source) unit) off
      ∙ device-after job v.history e op c.source unit done is (let n = holds.source_length in omega arith) (holds.source_is unit l off);
  outbox_is = outbox;
  streams_are = holds.streams_are ∙ sym (streams-later job v (e ∷ []) inv);
  held_is = holds.held_is ∙ sym (held-later job v (e ∷ []) inv);
  dest_is = λ unit l off some.
      ap (λ b. unit_content (if b then after_operation op c.dest else c.dest) unit) off
      ∙ holds.dest_is unit l off some ∙ sym (recorded-later job v (e ∷ []) unit inv);
  regions_length = are.one_each;
  region_length = λ d l. (are.region d l).read;
  region_is = λ d k l m. (are.region d l).each k m;
  dest_switched = λ unit l on.
      ap (λ b. unit_content (if b then after_operation op c.dest else c.dest) unit) on
      ∙ device-after job v.history e op c.dest unit done is (let n = holds.dest_length in omega arith) (holds.dest_switched unit l on);
  source_switched = λ unit l on.
      ap (λ b. unit_content (if b then c.source else after_operation op c.source) unit) on
      ∙ holds.source_switched unit l on ∙ sym (stun-later job v (e ∷ []) unit inv on);
  reads_are = read_now;
}
  where
    read_now : c.reads ++ read_of op (if is_switched v.phase then c.dest else c.source) ≡ reads job (v.history ++ e ∷ []) (length (v.history ++ e ∷ []))
    read_now = elim (cases_Bool (is_switched v.phase)) [
      | inl on ↦
          ap (λ b. c.reads ++ read_of op (if b then c.dest else c.source)) on ∙ ap (λ x. x ++ read_of op c.dest) holds.reads_are
          ∙ sym (reads-after job v.history e op c.dest done is (holds.dest_switched op.unit.0 lt on))
      | inr off ↦
          ap (λ b. c.reads ++ read_of op (if b then c.dest else c.source)) off ∙ ap (λ x. x ++ read_of op c.source) holds.reads_are
          ∙ sym (reads-after job v.history e op c.source done is (holds.source_is op.unit.0 lt off))
    ]

-- an operation that failed
pub entry_failed : (job : Job) (v : View) (c : Contents) (e : Ended) (mark : ℕ) (disks : List Disk) → IsViewOf job v → HoldsContents job v c → is_done e.outcome ≡ false → AreRegions job (v.history ++ e ∷ []) disks c.regions → HoldsContents job (record v { history = v.history ++ e ∷ []; mark = mark; disks = disks }) c
entry_failed job v c e mark disks inv holds failed are =
    let same : (unit : ℕ) → content job (v.history ++ e ∷ []) unit (length (v.history ++ e ∷ [])) ≡ content job v.history unit (length v.history)
    = λ unit. content-unwritten job v.history e unit (ap (λ b. b && writes_to (operation_of job v.history e) unit) failed) in
    record {
      source_length = holds.source_length;
      dest_length = holds.dest_length;
      source_is = λ unit l off. holds.source_is unit l off ∙ sym (same unit);
      outbox_is = holds.outbox_is ∙ sym (outbox-later job v (e ∷ []) inv);
      streams_are = holds.streams_are ∙ sym (streams-later job v (e ∷ []) inv);
      held_is = holds.held_is ∙ sym (held-later job v (e ∷ []) inv);
      dest_is = λ unit l off some. holds.dest_is unit l off some ∙ sym (recorded-later job v (e ∷ []) unit inv);
      regions_length = are.one_each;
      region_length = λ d l. (are.region d l).read;
      region_is = λ d k l m. (are.region d l).each k m;
      dest_switched = λ unit l on. holds.dest_switched unit l on ∙ sym (same unit);
      source_switched = λ unit l on. holds.source_switched unit l on ∙ sym (stun-later job v (e ∷ []) unit inv on);
      reads_are = holds.reads_are ∙ sym (reads-faulted job v.history e failed);
    }
