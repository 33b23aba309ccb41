-- Each event that goes on, and each call that fails, lowers the work left.
use Rattle.std.proofs.Common.{◌≡◌, ℕ, ◌+◌, ◌-◌, ◌*◌, ◌<◌, ◌≤◌, ◌==◌, not, nat_lt, nat_le, Bool, true, false, if◌then◌else◌, List, [], ◌∷◌, length, map, set, drop, get_or, refl, sym, ap, subst, inl, inr, arith}
use Rattle.std.proofs.lemmas.List.{length_push, length-append, length-drop, get_or_past}
use Rattle.std.proofs.lemmas.Bool.{cases_Bool, cases_lt, and_parts, eqb-true, ltb-true, ne_eqb}
use Rattle.xv_model.specs.Job.{Job, IsGoodJob, UnitOp, operation_count, blocks, disk_of, block_of}
use Rattle.xv_model.specs.Guest.{Ended}
use Rattle.xv_model.specs.View.{View, Phase, Disk, Outbox, UnitHead, disk, front, no_disk, member, members, least, is_running, is_live, is_inside, all_copied, stream, front_group, ready}
use Rattle.xv_model.specs.Wait.{Aim, Alone, Store, Join, Mirror}
use Rattle.xv_model.specs.Outstanding.{any, count}
use Rattle.xv_model.specs.Effect.{made, guest_by, ended_as, joined, front_gone, begun, block_read, advanced, released, round_begun, page_sent_off, sent, batch, delivered, applied_next, acknowledged, credited, stunned, switched, given_up, without_region, region_length, cursor_unit, no_pages, fault_effect}
use Rattle.xv_model.specs.Invariant.{IsViewOf, are_good_groups, is_good_group}
use Rattle.xv_model.specs.Work.{waiting_count, operation_weight, dirty_weight, operations_left, work_left}
use Rattle.xv_base.specs.declared.event.Event.TheVariants.{Release}
use Rattle.xv_base.specs.declared.event.Phase.TheVariants.{Switched}
use Rattle.xv_base.specs.declared.operation.Outcome.TheVariants.{Done, Faulted}
use Rattle.xv_model.proofs.Histories.{push}
use Rattle.xv_model.proofs.GoesOn.{MeansStore, MeansMirror, MeansJoin, BeginGoes, ReadGoes, AdvanceGoes, ReleaseGoes, RoundGoes, PageGoes, SendGoes, DeliverGoes, ApplyGoes, AckGoes, CreditGoes, StunGoes, SwitchGoes, batch_fits, stunned_is_live, members-none, members-some, members-no_pages, members-set_false, members-set_true}
use Rattle.xv_model.proofs.Bags.{count-remove, length-messages-run, on_the_way-sent, on_the_way-delivered, count-take-drop, ready-held}
use Rattle.xv_model.proofs.Bound.Weights.{weights, work_of, copies_of, messages_of, lower_operations, lower_running, lower_messages, lower_released, lower_stunned, lower_over, ended_weighs, released_weighs, joined_weighs, dirty_weighs, dirty_more, dirty_limit, waiting_count-set, waiting_count-without, copies-set}

-- a view has less work left than another; what waits is left
abbrev pub Lowers : Job → View → View → Type 0
Lowers job v w = work_left job w + 1 ≤ work_left job v

abbrev pub WaitingFits : Job → View → Type 0
WaitingFits job w = length w.history + waiting_count w.disks ≤ operation_count job

-- the work left in operations, where n have ended and q wait
abbrev operations_of : Job → ℕ → ℕ → ℕ
operations_of job n q = operation_weight job.format * (operation_count job - n) - q

ended_less : (job : Job) (h : List Ended) (e : Ended) (q : ℕ) → IsGoodJob job → length (push h e) + q ≤ operation_count job → operations_of job (length (push h e)) q + dirty_weight job.format + 1 ≤ operations_of job (length h) q
ended_less job h e q good l = subst (λ n. operations_of job n q + dirty_weight job.format + 1 ≤ operations_of job (length h) q) (sym (length_push h e)) (ended_weighs (operation_weight job.format) (dirty_weight job.format) (operation_count job) (length h) q (weights job good) (omega (arith, l, length_push h e)))

released_less : (job : Job) (h : List Ended) (e : Ended) (q q' : ℕ) → IsGoodJob job → q ≡ q' + 1 → length (push h e) + q' ≤ operation_count job → operations_of job (length (push h e)) q' + 6 ≤ operations_of job (length h) q
released_less job h e q q' good one l = subst (λ n. operations_of job n q' + 6 ≤ operations_of job (length h) q) (sym (length_push h e)) (released_weighs (operation_weight job.format) (dirty_weight job.format) (operation_count job) (length h) q q' (weights job good) one (omega (arith, l, length_push h e)))

joined_less : (job : Job) (n q q' : ℕ) → IsGoodJob job → q' ≡ q + 1 → n + q' ≤ operation_count job → operations_of job n q' + 1 ≤ operations_of job n q
joined_less job n q q' good one l = subst (λ k. operations_of job n k + 1 ≤ operations_of job n q) (sym one) (joined_weighs (operation_weight job.format) (dirty_weight job.format) (operation_count job) n q (weights job good) (omega (arith, l, one)))

-- a guest's operation
stored_members : (b : Bool) (dirty : List Bool) (unit : ℕ) → members (if b then set dirty unit true else dirty) ≤ members dirty + 1
stored_members true dirty unit = members-set_true dirty unit
stored_members false dirty unit = omega arith

stored_messages : (job : Job) (v : View) (g : ℕ) (op : UnitOp) → IsGoodJob job → messages_of job (guest_by job v g op Store) ≤ messages_of job v + dirty_weight job.format
stored_messages job v g op good =
    let after = guest_by job v g op Store in
    let more = dirty_more (operation_weight job.format) (dirty_weight job.format) (members v.dirty) (members after.dirty) (weights job good) (stored_members (not (member v.to_send op.unit.0)) v.dirty op.unit.0) in
    omega (arith, more)

made_messages : (job : Job) (v w : View) → w.to_send ≡ v.to_send → w.dirty ≡ v.dirty → w.streams ≡ v.streams → w.hold ≡ v.hold → w.freed ≡ v.freed → w.acks ≡ v.acks → length w.outbox.messages ≡ length v.outbox.messages + 1 → messages_of job w ≡ messages_of job v + 5
made_messages job v w t d s h f a one = rw (t, d, s, h, f, a, one) (omega arith)

inside-disk : (ds : List Disk) (d block : ℕ) → is_inside (get_or ds d no_disk) block ≡ true → d < length ds
inside-disk ds d block h = elim (cases_lt d (length ds)) [
  | inl l ↦ l
  | inr past ↦
      let none = get_or_past ds d no_disk past in
      let k = subst (λ x. is_inside x block ≡ true) none h in
      absurd (let l = ltb-true block 0 (and_parts (nat_le 0 block) (nat_lt block 0) k).1 in omega arith)
]

pub guest_lowers : (job : Job) (v : View) (g : ℕ) (op : UnitOp) (a : Aim) → IsGoodJob job → IsViewOf job v →
    (a ≡ Store → MeansStore job v op) → (a ≡ Mirror → MeansMirror job v op) → (a ≡ Join → MeansJoin job v op) →
    WaitingFits job (guest_by job v g op a) → Lowers job v (guest_by job v g op a)
guest_lowers job v g op Alone good i store mirror join fits =
    let less = ended_less job v.history (record { guest = record { 0 = g }; outcome = Done }) (waiting_count v.disks) good fits in
    lower_operations v.phase (operations_left job v) (operations_left job (guest_by job v g op Alone)) (copies_of job v.disks) (messages_of job v) (job.config.rounds - v.rounds) (omega (arith, less))
guest_lowers job v g op Store good i store mirror join fits =
    let less = ended_less job v.history (record { guest = record { 0 = g }; outcome = Done }) (waiting_count v.disks) good fits in
    let after = guest_by job v g op Store in
    let rounds = job.config.rounds - v.rounds in
    lower_running v.phase (operations_left job v) (operations_left job after) (copies_of job v.disks) (copies_of job v.disks) (messages_of job v) (messages_of job after) rounds rounds (store refl).running
    (omega (arith, less, stored_messages job v g op good))
guest_lowers job v g op Join good i store mirror join fits =
    let d = disk_of job.copy op.unit.0 in
    let new = joined (disk v d) g op.unit.0 in
    let there = inside-disk v.disks d (block_of job.copy op.unit.0) (join refl).inside in
    let one : waiting_count (set v.disks d new) ≡ waiting_count v.disks + 1 = omega (arith, waiting_count-set v.disks d new there, length_push (disk v d).queue (record { guest = record { 0 = g }; unit = record { 0 = op.unit.0 } })) in
    let less = joined_less job (length v.history) (waiting_count v.disks) (waiting_count (set v.disks d new)) good one fits in
    let copies = copies-set job v.disks d new (subst (λ n. d < n) i.lists.disks there) i.lists.disks in
    let rounds = job.config.rounds - v.rounds in
    lower_running v.phase (operations_left job v) (operations_left job (guest_by job v g op Join)) (copies_of job v.disks) (copies_of job (set v.disks d new)) (messages_of job v) (messages_of job v) rounds rounds (join refl).running
    (omega (arith, less, copies))
guest_lowers job v g op Mirror good i store mirror join fits =
    let less = ended_less job v.history (record { guest = record { 0 = g }; outcome = Done }) (waiting_count v.disks) good fits in
    let after = guest_by job v g op Mirror in
    let rounds = job.config.rounds - v.rounds in
    let limit = dirty_limit (operation_weight job.format) (dirty_weight job.format) (weights job good) in
    let one = made_messages job v after refl refl refl refl refl refl (length_push v.outbox.messages _) in
    lower_running v.phase (operations_left job v) (operations_left job after) (copies_of job v.disks) (copies_of job v.disks) (messages_of job v) (messages_of job after) rounds rounds (mirror refl).running
    (omega (arith, less, one, limit.0))

-- an operation that fails, outside a queue
pub fault_lowers : (job : Job) (v : View) (g : ℕ) → IsGoodJob job → WaitingFits job (ended_as v g Faulted) → Lowers job v (ended_as v g Faulted)
fault_lowers job v g good fits =
    let less = ended_less job v.history (record { guest = record { 0 = g }; outcome = Faulted }) (waiting_count v.disks) good fits in
    lower_operations v.phase (operations_left job v) (operations_left job (ended_as v g Faulted)) (copies_of job v.disks) (messages_of job v) (job.config.rounds - v.rounds) (omega (arith, less))

-- the front of a queue
front-waiting : (job : Job) (v : View) (d : ℕ) → IsViewOf job v → d < length job.copy.disks → 0 < length (disk v d).queue → waiting_count v.disks ≡ waiting_count (set v.disks d (front_gone (disk v d))) + 1
front-waiting job v d i l some = omega (arith, some, i.lists.disks, waiting_count-set v.disks d (front_gone (disk v d)) (omega (arith, l, i.lists.disks)), length-drop 1 (disk v d).queue)

front-copies : (job : Job) (v : View) (d : ℕ) → IsViewOf job v → d < length job.copy.disks → copies_of job (set v.disks d (front_gone (disk v d))) ≡ copies_of job v.disks
front-copies job v d i l = omega (arith, copies-set job v.disks d (front_gone (disk v d)) l i.lists.disks)

released_box : (b : Bool) (box : Outbox) (unit at : ℕ) → 5 * length (if b then made box unit at else box).messages ≡ 5 * length box.messages + (if b then 5 else 0)
released_box true box unit at = omega (arith, length_push box.messages (record { unit = record { 0 = unit }; version = get_or box.issued unit 0 + 1; at = at }))
released_box false box unit at = omega arith

pub release_lowers : (job : Job) (v : View) (d : ℕ) → IsGoodJob job → IsViewOf job v → d < length job.copy.disks → ReleaseGoes job v d → WaitingFits job (released v d) → Lowers job v (released v d)
release_lowers job v d good i l goes fits =
    let after = released v d in
    let less = released_less job v.history (record { guest = (front (disk v d)).guest; outcome = Done }) (waiting_count v.disks) (waiting_count after.disks) good (front-waiting job v d i l goes.some_queue) fits in
    let box = released_box (is_running v.phase) v.outbox (front (disk v d)).unit.0 (length v.history + 1) in
    subst (λ c. work_of v.phase (operations_left job after) c (messages_of job after) (job.config.rounds - v.rounds) + 1 ≤ work_left job v) (sym (front-copies job v d i l))
    (lower_released v.phase (operations_left job v) (operations_left job after) (copies_of job v.disks) (messages_of job v) (messages_of job after) (job.config.rounds - v.rounds) less (omega (arith, box)))

pub release_fault_lowers : (job : Job) (v : View) (d : ℕ) → IsGoodJob job → IsViewOf job v → d < length job.copy.disks → ReleaseGoes job v d → WaitingFits job (fault_effect v (Release d)) → Lowers job v (fault_effect v (Release d))
release_fault_lowers job v d good i l goes fits =
    let after = fault_effect v (Release d) in
    let less = released_less job v.history (record { guest = record { 0 = (front (disk v d)).guest.0 }; outcome = Faulted }) (waiting_count v.disks) (waiting_count after.disks) good (front-waiting job v d i l goes.some_queue) fits in
    subst (λ c. work_of v.phase (operations_left job after) c (messages_of job v) (job.config.rounds - v.rounds) + 1 ≤ work_left job v) (sym (front-copies job v d i l))
    (lower_operations v.phase (operations_left job v) (operations_left job after) (copies_of job v.disks) (messages_of job v) (job.config.rounds - v.rounds) (omega (arith, less)))

-- the copy of a disk
begun_less : (count cursor region got n : ℕ) → region ≡ 0 → got ≡ 0 → cursor < count → 0 < n → 8 * (count - cursor) - ((if n == 0 then 0 else 1) + 0) + 1 ≤ 8 * (count - cursor) - ((if region == 0 then 0 else 1) + got)
begun_less count cursor region got n none unread l some = rw (none, unread, ne_eqb n 0 (λ e. omega arith)) (omega arith)

read_less : (count cursor region got : ℕ) → cursor + region ≤ count → got < region → 8 * (count - cursor) - ((if region == 0 then 0 else 1) + (got + 1)) + 1 ≤ 8 * (count - cursor) - ((if region == 0 then 0 else 1) + got)
read_less count cursor region got l more = rw (ne_eqb region 0 (λ e. omega arith)) (omega arith)

advanced_less : (count cursor region got : ℕ) → cursor + region ≤ count → 0 < region → got ≤ region → 8 * (count - (cursor + region)) - (0 + 0) + 5 * region + 1 ≤ 8 * (count - cursor) - ((if region == 0 then 0 else 1) + got)
advanced_less count cursor region got l some le = rw (ne_eqb region 0 (λ e. omega arith)) (omega arith)

pub begin_lowers : (job : Job) (v : View) (d : ℕ) → IsGoodJob job → IsViewOf job v → d < length job.copy.disks → BeginGoes job v d → Lowers job v (begun job v d)
begin_lowers job v d good i l goes =
    let k = disk v d in
    let new : Disk = record k { region = region_length job v d; got = 0 } in
    let there : d < length v.disks = omega (arith, l, i.lists.disks) in
    let below : k.cursor < blocks job.copy.disks d = let n = goes.not_copied in omega (arith, i.regions.cursor_fits d there, n) in
    let some : 0 < region_length job v d = omega (arith, below, good.region.0) in
    let less = begun_less (blocks job.copy.disks d) k.cursor k.region k.got (region_length job v d) goes.no_region (omega (arith, i.regions.read_fits d, goes.no_region)) below some in
    let copies = copies-set job v.disks d new l i.lists.disks in
    let queue = waiting_count-set v.disks d new there in
    let same : waiting_count (set v.disks d new) ≡ waiting_count v.disks = omega (arith, queue) in
    let o = ap (operations_of job (length v.history)) same in
    let rounds = job.config.rounds - v.rounds in
    lower_running v.phase (operations_left job v) (operations_left job (begun job v d)) (copies_of job v.disks) (copies_of job (set v.disks d new)) (messages_of job v) (messages_of job v) rounds rounds goes.running
    (omega (arith, less, copies, o))

pub read_lowers : (job : Job) (v : View) (d : ℕ) → IsViewOf job v → d < length job.copy.disks → ReadGoes job v d → Lowers job v (block_read v d)
read_lowers job v d i l goes =
    let k = disk v d in
    let new : Disk = record k { got = k.got + 1 } in
    let there : d < length v.disks = omega (arith, l, i.lists.disks) in
    let less = read_less (blocks job.copy.disks d) k.cursor k.region k.got (i.regions.cursor_fits d there) goes.not_read in
    let copies = copies-set job v.disks d new l i.lists.disks in
    let queue = waiting_count-set v.disks d new there in
    let same : waiting_count (set v.disks d new) ≡ waiting_count v.disks = omega (arith, queue) in
    let o = ap (operations_of job (length v.history)) same in
    let rounds = job.config.rounds - v.rounds in
    lower_running v.phase (operations_left job v) (operations_left job (block_read v d)) (copies_of job v.disks) (copies_of job (set v.disks d new)) (messages_of job v) (messages_of job v) rounds rounds goes.running
    (omega (arith, less, copies, o))

pub advance_lowers : (job : Job) (v : View) (d : ℕ) → IsViewOf job v → d < length job.copy.disks → AdvanceGoes job v d → Lowers job v (advanced job v d)
advance_lowers job v d i l goes =
    let k = disk v d in
    let after = advanced job v d in
    let new : Disk = record k { cursor = k.cursor + k.region; region = 0; got = 0 } in
    let there : d < length v.disks = omega (arith, l, i.lists.disks) in
    let less = advanced_less (blocks job.copy.disks d) k.cursor k.region k.got (i.regions.cursor_fits d there) goes.some_region (i.regions.read_fits d) in
    let copies = copies-set job v.disks d new l i.lists.disks in
    let queue = waiting_count-set v.disks d new there in
    let same : waiting_count (set v.disks d new) ≡ waiting_count v.disks = omega (arith, queue) in
    let o = ap (operations_of job (length v.history)) same in
    let made_all = length-messages-run v.outbox (cursor_unit job v d) (length v.history) k.region in
    let messages : messages_of job after ≡ messages_of job v + 5 * k.region = omega (arith, made_all) in
    let rounds = job.config.rounds - v.rounds in
    lower_running v.phase (operations_left job v) (operations_left job after) (copies_of job v.disks) (copies_of job (set v.disks d new)) (messages_of job v) (messages_of job after) rounds rounds goes.running
    (omega (arith, less, copies, o, messages))

-- a round: beside the copy of the disks each page that it takes weighs one less
round_messages : (job : Job) (v : View) → RoundGoes job v → messages_of job (round_begun v) + dirty_weight job.format * members v.dirty ≡ messages_of job v + 6 * members v.dirty
round_messages job v goes =
    let none = members-none v.to_send goes.none_to_send in
    let gone : dirty_weight job.format * members (no_pages v.dirty) ≡ 0 = rw members-no_pages (omega arith) in
    omega (arith, none, gone)

taken_weighs : (job : Job) (v : View) → IsGoodJob job → RoundGoes job v → all_copied job v ≡ false → 6 * members v.dirty + 1 ≤ dirty_weight job.format * members v.dirty
taken_weighs job v good goes copied =
    let some = members-some v.dirty (goes.some_dirty copied) in
    rw (goes.format_two copied) (omega (arith, some))

pub round_lowers : (job : Job) (v : View) → IsGoodJob job → RoundGoes job v → Lowers job v (round_begun v)
round_lowers job v good goes =
    let m = round_messages job v goes in
    let le = dirty_weighs (operation_weight job.format) (dirty_weight job.format) (members v.dirty) (weights job good) in
    lower_running v.phase (operations_left job v) (operations_left job v) (copies_of job v.disks) (copies_of job v.disks) (messages_of job v) (messages_of job (round_begun v)) (job.config.rounds - v.rounds) (job.config.rounds - (v.rounds + 1)) goes.running
    (elim (cases_Bool (all_copied job v)) [
      | inl c ↦ omega (arith, m, le, goes.below_limit c)
      | inr c ↦ omega (arith, m, taken_weighs job v good goes c)
    ])

-- messages
pub count-any : (ms : List UnitHead) → count any ms ≡ length ms
count-any [] = refl
count-any (m ∷ ms) = omega (arith, count-any ms)

pub page_lowers : (job : Job) (v : View) → PageGoes job v → Lowers job v (page_sent_off v)
page_lowers job v goes =
    let after = page_sent_off v in
    let less = members-set_false v.to_send (least v.to_send) goes.is_member in
    let one : length after.outbox.messages ≡ length v.outbox.messages + 1 = length_push v.outbox.messages _ in
    lower_messages v.phase (operations_left job v) (copies_of job v.disks) (messages_of job v) (messages_of job after) (job.config.rounds - v.rounds) goes.live (omega (arith, less, one))

pub send_lowers : (job : Job) (v : View) (s : ℕ) → IsGoodJob job → IsViewOf job v → s < job.config.streams → SendGoes job v → Lowers job v (sent job v s)
send_lowers job v s good i l goes =
    let after = sent job v s in
    let n = batch job v in
    let fits = batch_fits job v good goes in
    let way = on_the_way-sent job v s (omega (arith, l, i.lists.streams)) any in
    let parts = count-take-drop any n v.outbox.messages in
    let left = length-drop n v.outbox.messages in
    lower_messages v.phase (operations_left job v) (copies_of job v.disks) (messages_of job v) (messages_of job after) (job.config.rounds - v.rounds) goes.live
    (omega (arith, fits.some, fits.of_messages, way, parts, left, count-any v.outbox.messages, count-any (drop n v.outbox.messages)))

good_group : (job : Job) (group : List UnitHead) → is_good_group job group ≡ true → 0 < length group
good_group job group h = elim (cases_Bool (job.format == 1)) [
  | inl one ↦ let k = rw one at h in omega (arith, eqb-true (length group) 1 k)
  | inr two ↦ let k = rw two at h in ltb-true 0 (length group) (and_parts (nat_lt 0 (length group)) (not (nat_lt job.group (length group))) k).0
]

first_group : (job : Job) (groups : List (List UnitHead)) → are_good_groups job groups ≡ true → 0 < length groups → 0 < length (get_or groups 0 [])
first_group job [] h some = absurd (omega arith)
first_group job (group ∷ groups) h some = good_group job group (and_parts (is_good_group job group) (are_good_groups job groups) h).0

pub deliver_lowers : (job : Job) (v : View) (s : ℕ) → IsViewOf job v → s < job.config.streams → DeliverGoes job v s false → Lowers job v (delivered v s)
deliver_lowers job v s i l goes =
    let after = delivered v s in
    let some = first_group job (stream v s) (i.lists.groups s) (goes.some_group refl) in
    let way = on_the_way-delivered v s (omega (arith, l, i.lists.streams)) any in
    let more = length-append v.hold.held (front_group v s) in
    lower_messages v.phase (operations_left job v) (copies_of job v.disks) (messages_of job v) (messages_of job after) (job.config.rounds - v.rounds) goes.live
    (omega (arith, some, way, more, count-any v.hold.held, count-any after.hold.held))

pub apply_lowers : (job : Job) (v : View) → ApplyGoes job v → Lowers job v (applied_next v)
apply_lowers job v goes =
    let after = applied_next v in
    let gone = count-remove any v.hold.held (ready v.hold) (ready-held v.hold goes.ready) in
    lower_messages v.phase (operations_left job v) (copies_of job v.disks) (messages_of job v) (messages_of job after) (job.config.rounds - v.rounds) goes.live
    (omega (arith, gone, count-any v.hold.held, count-any after.hold.held))

pub ack_lowers : (job : Job) (v : View) → AckGoes job v → Lowers job v (acknowledged v)
ack_lowers job v goes =
    let one = length_push v.acks v.freed in
    lower_messages v.phase (operations_left job v) (copies_of job v.disks) (messages_of job v) (messages_of job (acknowledged v)) (job.config.rounds - v.rounds) goes.live
    (omega (arith, goes.some_freed, one))

pub credit_lowers : (job : Job) (v : View) → CreditGoes job v false → Lowers job v (credited v)
credit_lowers job v goes =
    let less = length-drop 1 v.acks in
    lower_messages v.phase (operations_left job v) (copies_of job v.disks) (messages_of job v) (messages_of job (credited v)) (job.config.rounds - v.rounds) goes.live
    (omega (arith, goes.some_ack refl, less))

-- the ends of the phases
pub stun_lowers : (job : Job) (v : View) → IsGoodJob job → StunGoes job v → Lowers job v (stunned v)
stun_lowers job v good goes =
    let le = dirty_weighs (operation_weight job.format) (dirty_weight job.format) (members v.dirty) (weights job good) in
    let gone : dirty_weight job.format * members (no_pages v.dirty) ≡ 0 = rw members-no_pages (omega arith) in
    lower_stunned v.phase (operations_left job v) (copies_of job v.disks) (messages_of job v) (messages_of job (stunned v)) (job.config.rounds - v.rounds) goes.running (omega (arith, le, gone))

pub switch_lowers : (job : Job) (v : View) → SwitchGoes job v → Lowers job v (switched v)
switch_lowers job v goes =
    lower_over v.phase Switched (operations_left job v) (copies_of job v.disks) (copies_of job v.disks) (messages_of job v) (messages_of job v) (job.config.rounds - v.rounds) (stunned_is_live v.phase goes.stunned) refl

pub giving_up_lowers : (job : Job) (v : View) (p : Phase) → is_live v.phase ≡ true → is_live p ≡ false → Lowers job v (given_up v p)
giving_up_lowers job v p live ends =
    let same = ap (operations_of job (length v.history)) (waiting_count-without v.disks) in
    subst (λ o. work_of p o (copies_of job (map without_region v.disks)) (messages_of job v) (job.config.rounds - v.rounds) + 1 ≤ work_left job v) (sym same)
    (lower_over v.phase p (operations_left job v) (copies_of job v.disks) (copies_of job (map without_region v.disks)) (messages_of job v) (messages_of job v) (job.config.rounds - v.rounds) live ends)
