-- A block that is behind has one version for its copy and one for each write done from then on: kept by every step.
use Rattle.std.proofs.Common.{◌≡◌, ◌≤◌, ◌<◌, ◌⊎◌, inl, inr, ℕ, zero, suc, ◌+◌, ◌-◌, Bool, true, false, List, length, set, map, None, refl, sym, ap, subst, ◌∙◌, arith}
use Rattle.std.specs.Prelude.{◌==◌, is_some, if◌then◌else◌}
use Rattle.std.proofs.lemmas.Bool.{cases_eq, ltb-true, eq-eqb, and_from, both_ways, cond-true}
use Rattle.xv_model.specs.Job.{Job, IsGoodJob, is_page, disk_of, block_of, operation}
use Rattle.xv_model.specs.Guest.{Ended, ended, wrote, writes, writes_to}
use Rattle.xv_model.specs.View.{View, Disk, Phase, disk, front, number, least, is_running, is_live, ready_message}
use Rattle.xv_model.specs.Wait.{Event, Aim, Alone, Store, Join, Mirror, aim, next_operation, next_aim, fits, wait}
use Rattle.xv_model.specs.Effect.{made, joined, front_gone, without_region, cursor_unit, ended_as, guest_by, guest_done, begun, block_read, advanced, released, page_sent_off, sent, delivered, applied_next, given_up, effect, fault_effect}
use Rattle.xv_model.specs.Step.{step}
use Rattle.xv_model.specs.Outstanding.{outstanding, on_the_way, is_message}
use Rattle.xv_model.specs.Invariant.{EachWriteOnce, IsMirrorAt, IsViewOf, is_behind_block}
use Rattle.xv_base.specs.declared.event.Phase.TheVariants.{Cancelled, Failed}
use Rattle.xv_base.specs.declared.operation.Outcome.TheVariants.{Faulted}
use Rattle.xv_base.specs.declared.event.Event.TheVariants.{Guest, Begin, Read, Advance, Release, Round, Page, Send, Deliver, Apply, Ack, Credit, Stun, Switch, Cancel}
use Rattle.xv_model.proofs.Facts.{mirror_unit}
use Rattle.xv_model.proofs.GoesOn.{aim-store, aim-mirror, GuestGoes, guest_goes, advance_goes, ReleaseGoes, release_goes, PageGoes, page_goes, ApplyGoes, apply_goes, running_is_live}
use Rattle.xv_model.proofs.Layouts.{SameCursors, cursors_kept, no_regions, same_behind, behind_after, settled_block, page_from, behind_block, behind_block_from, cursor_of}
use Rattle.xv_model.proofs.Histories.{push, wrote-push_before, wrote-push_at, writes-push_before, writes-suc}
use Rattle.xv_model.proofs.Bags.{outstanding-sent-bag, outstanding-delivered-bag, message-has-version, version-within, version-above}
use Rattle.xv_model.proofs.Makes.{with_rest, MadeOne, made-other, made-one, run-other, run-one}
use Rattle.xv_model.proofs.Steps.{step_cases}
use Rattle.xv_model.proofs.Unsent.{front_is, run_cases, run_fits, run_is}
use Rattle.xv_model.proofs.Tips.{done_entry, faulted_entry, faulted_wrote, writes_unit, wrote_other, alone_writes_none, released_by, released_not_stunned, AppliedIs, applied_is}

abbrev pub MirrorsOf : Job → View → Type 0
MirrorsOf job v = EachWriteOnce (wrote job v.history) (writes job v.history) v.mark (outstanding v) v.outbox.issued v.hold.applied v.hold.recorded v.outbox.first (is_behind_block job.copy v.disks)

abbrev pub MirrorAt : Job → View → ℕ → ℕ → ℕ → Type 0
MirrorAt job v unit version at = IsMirrorAt (wrote job v.history) (writes job v.history) v.outbox.first unit version at

-- the point at one unit
pub record MirrorsUnit (job : Job) (v : View) (unit : ℕ) : Type 0 where
  pub counted : number v.outbox.issued unit + writes job v.history unit (number v.outbox.first unit) ≡ 1 + writes job v.history unit v.mark
  pub outstanding : (version at : ℕ) → 0 < outstanding v (is_message unit version at) → MirrorAt job v unit version at
  pub applied_last : 0 < number v.hold.applied unit → MirrorAt job v unit (number v.hold.applied unit) (number v.hold.recorded unit)

pub mirrors_unit : (job : Job) (v : View) (unit : ℕ) → MirrorsOf job v → is_behind_block job.copy v.disks unit ≡ true → MirrorsUnit job v unit
mirrors_unit job v unit h b = record {
  counted = h.counted unit b;
  outstanding = λ version at k. h.outstanding unit version at b k;
  applied_last = h.applied_last unit b;
}

pub mirrors_by : (job : Job) (v : View) → ((unit : ℕ) → is_behind_block job.copy v.disks unit ≡ true → MirrorsUnit job v unit) → MirrorsOf job v
mirrors_by job v each = record {
  counted = λ unit b. (each unit b).counted;
  outstanding = λ unit version at b k. (each unit b).outstanding version at k;
  applied_last = λ unit b. (each unit b).applied_last;
}

-- the history up to the mark stays as it was for a unit, and so does its first `at`
pub record HistoryKept (job : Job) (v v' : View) (unit : ℕ) : Type 0 where
  pub first : number v'.outbox.first unit ≡ number v.outbox.first unit
  pub writes_before : (n : ℕ) → n ≤ v.mark → writes job v'.history unit n ≡ writes job v.history unit n
  pub wrote_before : (i : ℕ) → i < v.mark → wrote job v.history unit i ≡ true → wrote job v'.history unit i ≡ true

positive_at : (job : Job) (h : List Ended) (unit version a at : ℕ) → version + a ≡ 1 + writes job h unit at → 1 < version → 0 < at
positive_at job h unit version a zero e l = absurd (omega arith)
positive_at job h unit version a (suc at) e l = omega arith

pub mirror_at_kept : (job : Job) (v v' : View) (unit version at : ℕ) → HistoryKept job v v' unit → number v.outbox.first unit ≤ v.mark → at ≤ v.mark → MirrorAt job v unit version at → MirrorAt job v' unit version at
mirror_at_kept job v v' unit version at k f l m =
    let first_writes : writes job v'.history unit (number v'.outbox.first unit) ≡ writes job v.history unit (number v.outbox.first unit) = ap (writes job v'.history unit) k.first ∙ k.writes_before (number v.outbox.first unit) f in
    record {
      copy = λ e. m.copy e ∙ sym k.first;
      counted = ap (λ (n : ℕ). version + n) first_writes ∙ m.counted ∙ ap (λ (n : ℕ). 1 + n) (sym (k.writes_before at l));
      after_write = λ h.
          let some = positive_at job v.history unit version (writes job v.history unit (number v.outbox.first unit)) at m.counted h in
          k.wrote_before (at - 1) (omega (arith, some, l)) (m.after_write h);
    }

-- a unit of which no message is made and that is not written to
pub record MirrorKept (job : Job) (v v' : View) (unit : ℕ) : Type 0 where
  pub kept : HistoryKept job v v' unit
  pub issued : number v'.outbox.issued unit ≡ number v.outbox.issued unit
  pub applied : number v'.hold.applied unit ≡ number v.hold.applied unit
  pub recorded : number v'.hold.recorded unit ≡ number v.hold.recorded unit
  pub messages : (version at : ℕ) → 0 < outstanding v' (is_message unit version at) → 0 < outstanding v (is_message unit version at)
  pub writes_mark : writes job v'.history unit v'.mark ≡ writes job v.history unit v.mark

pub unit_kept : (job : Job) (v v' : View) (unit : ℕ) → IsViewOf job v → MirrorKept job v v' unit → MirrorsUnit job v unit → MirrorsUnit job v' unit
unit_kept job v v' unit inv k h =
    let f = inv.lists.first_to_mark unit in
    let first_writes : writes job v'.history unit (number v'.outbox.first unit) ≡ writes job v.history unit (number v.outbox.first unit) = ap (writes job v'.history unit) k.kept.first ∙ k.kept.writes_before (number v.outbox.first unit) f in
    record {
      counted = omega (arith, first_writes, k.issued, k.writes_mark, h.counted);
      outstanding = λ version at m.
          let before = k.messages version at m in
          mirror_at_kept job v v' unit version at k.kept f (inv.times.to_mark unit version at before) (h.outstanding version at before);
      applied_last = λ some.
          let m = mirror_at_kept job v v' unit (number v.hold.applied unit) (number v.hold.recorded unit) k.kept f (inv.times.recorded_to_mark unit) (h.applied_last (omega (arith, some, k.applied))) in
          subst (λ (n : ℕ). MirrorAt job v' unit n (number v'.hold.recorded unit)) (sym k.applied) (subst (λ (n : ℕ). MirrorAt job v' unit (number v.hold.applied unit) n) (sym k.recorded) m);
    }

-- one more entry in the history
pub history_kept : (job : Job) (v v' : View) (e : Ended) (unit : ℕ) → IsViewOf job v → v'.history ≡ push v.history e → number v'.outbox.first unit ≡ number v.outbox.first unit → HistoryKept job v v' unit
history_kept job v v' e unit inv h f =
    let within = inv.history.mark_within in
    record {
      first = f;
      writes_before = λ n l. ap (λ hs. writes job hs unit n) h ∙ writes-push_before job v.history e unit n (omega (arith, l, within));
      wrote_before = λ i l w. ap (λ hs. wrote job hs unit i) h ∙ wrote-push_before job v.history e unit i (omega (arith, l, within)) ∙ w;
    }

pub writes_new : (job : Job) (h : List Ended) (e : Ended) (unit : ℕ) (b : Bool) → wrote job (push h e) unit (length h) ≡ b → writes job (push h e) unit (length h + 1) ≡ (if b then 1 else 0) + writes job h unit (length h)
writes_new job h e unit b w =
    writes-suc job (push h e) unit (length h)
    ∙ ap (λ c. (if c then 1 else 0) + writes job (push h e) unit (length h)) w
    ∙ ap (λ (k : ℕ). (if b then 1 else 0) + k) (writes-push_before job h e unit (length h) (omega arith))

writes_mark_by : (job : Job) (h : List Ended) (e : Ended) (unit : ℕ) (live : Bool) (mark : ℕ) → (live ≡ true → mark ≡ length h) → mark ≤ length h → (live ≡ true → wrote job (push h e) unit (length h) ≡ false) →
    writes job (push h e) unit (if live then length h + 1 else mark) ≡ writes job h unit mark
writes_mark_by job h e unit true mark m l none =
    let new : writes job (push h e) unit (length h + 1) ≡ 0 + writes job h unit (length h) = writes_new job h e unit false (none refl) in
    let same : writes job h unit mark ≡ writes job h unit (length h) = ap (writes job h unit) (m refl) in
    omega (arith, new, same)
writes_mark_by job h e unit false mark m l none = writes-push_before job h e unit mark l

pub writes_mark_none : (job : Job) (v : View) (e : Ended) (unit : ℕ) → IsViewOf job v → (is_live v.phase ≡ true → wrote job (push v.history e) unit (length v.history) ≡ false) →
    writes job (push v.history e) unit (if is_live v.phase then length v.history + 1 else v.mark) ≡ writes job v.history unit v.mark
writes_mark_none job v e unit inv none = writes_mark_by job v.history e unit (is_live v.phase) v.mark inv.history.marked inv.history.mark_within none

-- what leaves every cursor
mirrors_cursors : (job : Job) (v : View) (ds : List Disk) → SameCursors ds v.disks → MirrorsOf job v → MirrorsOf job (record v { disks = ds })
mirrors_cursors job v ds same h = subst (EachWriteOnce (wrote job v.history) (writes job v.history) v.mark (outstanding v) v.outbox.issued v.hold.applied v.hold.recorded v.outbox.first) (sym (same_behind job.copy ds v.disks same)) h

behind_same : (job : Job) (v : View) (ds : List Disk) (unit : ℕ) → SameCursors ds v.disks → is_behind_block job.copy ds unit ≡ true → is_behind_block job.copy v.disks unit ≡ true
behind_same job v ds unit same b = sym (ap (λ (f : ℕ → Bool). f unit) (same_behind job.copy ds v.disks same)) ∙ b

-- an operation ended that wrote to no block behind
pub mirrors_ended : (job : Job) (v : View) (e : Ended) → IsViewOf job v → ((unit : ℕ) → is_behind_block job.copy v.disks unit ≡ true → is_live v.phase ≡ true → wrote job (push v.history e) unit (length v.history) ≡ false) →
    MirrorsOf job (record v { history = push v.history e; mark = if is_live v.phase then length v.history + 1 else v.mark })
mirrors_ended job v e inv none =
    let v' : View = record v { history = push v.history e; mark = if is_live v.phase then length v.history + 1 else v.mark } in
    mirrors_by job v' (λ unit b. unit_kept job v v' unit inv (record {
      kept = history_kept job v v' e unit inv refl refl;
      issued = refl;
      applied = refl;
      recorded = refl;
      messages = λ version at m. m;
      writes_mark = writes_mark_none job v e unit inv (none unit b);
    }) (mirrors_unit job v unit inv.mirrors b))

-- a block behind has a version
pub behind_issued : (job : Job) (v : View) (unit : ℕ) → IsViewOf job v → is_behind_block job.copy v.disks unit ≡ true → 1 ≤ number v.outbox.issued unit
behind_issued job v unit inv b = inv.tips.made unit (settled_block job.copy v.disks v.dirty v.to_send unit b)

-- a mirrored write: its own unit
abbrev mirrored : View → Ended → List Disk → ℕ → View
mirrored v e ds u = record v { history = push v.history e; mark = if is_live v.phase then length v.history + 1 else v.mark; disks = ds; outbox = made v.outbox u (length v.history + 1) }

new_mirror : (job : Job) (v : View) (e : Ended) (ds : List Disk) (u version at : ℕ) → wrote job (push v.history e) u (length v.history) ≡ true → 1 < version → version + writes job (push v.history e) u (number (mirrored v e ds u).outbox.first u) ≡ 1 + writes job (push v.history e) u (length v.history + 1) →
    at ≡ length v.history + 1 → MirrorAt job (mirrored v e ds u) u version at
new_mirror job v e ds u version at w l c is = record {
  copy = λ one. absurd (omega (arith, one, l));
  counted = c ∙ ap (λ (n : ℕ). 1 + writes job (push v.history e) u n) (sym is);
  after_write = λ h. let before : at - 1 ≡ length v.history = omega (arith, is) in ap (wrote job (push v.history e) u) before ∙ w;
}

mirrored_own : (job : Job) (v : View) (e : Ended) (ds : List Disk) (u : ℕ) → IsViewOf job v → is_live v.phase ≡ true → is_behind_block job.copy v.disks u ≡ true → MadeOne (on_the_way v) v.outbox (made v.outbox u (length v.history + 1)) u (length v.history + 1) →
    wrote job (push v.history e) u (length v.history) ≡ true → MirrorsUnit job (mirrored v e ds u) u
mirrored_own job v e ds u inv live b one w =
    let v' : View = mirrored v e ds u in
    let h = mirrors_unit job v u inv.mirrors b in
    let some = behind_issued job v u inv b in
    let f = inv.lists.first_to_mark u in
    let first_same : number v'.outbox.first u ≡ number v.outbox.first u = one.first_kept (λ z. absurd (omega (arith, z, some))) in
    let kept = history_kept job v v' e u inv refl first_same in
    let first_writes : writes job (push v.history e) u (number v'.outbox.first u) ≡ writes job v.history u (number v.outbox.first u) = ap (writes job (push v.history e) u) first_same ∙ kept.writes_before (number v.outbox.first u) f in
    let new : writes job (push v.history e) u (length v.history + 1) ≡ 1 + writes job v.history u (length v.history) = writes_new job v.history e u true w in
    let at_mark : writes job v.history u v.mark ≡ writes job v.history u (length v.history) = ap (writes job v.history u) (inv.history.marked live) in
    let now : v'.mark ≡ length v.history + 1 = cond-true (is_live v.phase) (length v.history + 1) v.mark live in
    let mark_writes : writes job (push v.history e) u v'.mark ≡ writes job (push v.history e) u (length v.history + 1) = ap (writes job (push v.history e) u) now in
    record {
      counted = omega (arith, one.issued, first_writes, new, at_mark, mark_writes, h.counted);
      outstanding = λ version at m. elim (one.messages version at m) [
        | inl old ↦ mirror_at_kept job v v' u version at kept f (inv.times.to_mark u version at old) (h.outstanding version at old)
        | inr is ↦ new_mirror job v e ds u version at w (omega (arith, is.0, some)) (omega (arith, is.0, first_writes, new, at_mark, h.counted)) is.1
      ];
      applied_last = λ s. mirror_at_kept job v v' u (number v.hold.applied u) (number v.hold.recorded u) kept f (inv.times.recorded_to_mark u) (h.applied_last s);
    }

pub mirrors_made : (job : Job) (v : View) (e : Ended) (ds : List Disk) (u : ℕ) → SameCursors ds v.disks → IsViewOf job v → is_live v.phase ≡ true → is_behind_block job.copy v.disks u ≡ true →
    (operation job e.guest.0 (ended v.history e.guest.0)).unit.0 ≡ u → wrote job (push v.history e) u (length v.history) ≡ true → MirrorsOf job (mirrored v e ds u)
mirrors_made job v e ds u same inv live behind writes_u w =
    let v' : View = mirrored v e ds u in
    let l = (behind_block job.copy v.disks u behind).in_range in
    let one = made-one (on_the_way v) v.outbox u (length v.history + 1) (omega (arith, l, inv.lists.issued)) (omega (arith, l, inv.lists.first)) in
    mirrors_by job v' (λ unit b. elim (cases_eq unit u) [
      | inl is ↦ subst (MirrorsUnit job v') (sym is) (mirrored_own job v e ds u inv live behind one w)
      | inr other ↦
          let none = made-other (on_the_way v) v.outbox u (length v.history + 1) unit other in
          unit_kept job v v' unit inv (record {
            kept = history_kept job v v' e unit inv refl none.first;
            issued = none.issued;
            applied = refl;
            recorded = refl;
            messages = none.messages;
            writes_mark = writes_mark_none job v e unit inv (λ _. wrote_other job v.history e unit (λ x. other (x ∙ writes_u)));
          }) (mirrors_unit job v unit inv.mirrors (behind_same job v ds unit same b))
    ])

-- each effect
mirrors_guest_by : (job : Job) (v : View) (g : ℕ) (a : Aim) → aim job v (next_operation job v g) ≡ a → IsGoodJob job → IsViewOf job v → GuestGoes job v g → MirrorsOf job (guest_by job v g (next_operation job v g) a)
mirrors_guest_by job v g Alone e good inv goes =
    mirrors_ended job v (done_entry g) inv (λ unit b live. alone_writes_none job v g unit goes e (settled_block job.copy v.disks v.dirty v.to_send unit b) live)
mirrors_guest_by job v g Store e good inv goes =
    let page = (aim-store job v (next_operation job v g) e).page in
    mirrors_ended job v (done_entry g) inv (λ unit b live. wrote_other job v.history (done_entry g) unit (λ same.
    both_ways (is_page job.copy unit) (behind_block job.copy v.disks unit b).no_page (subst (λ u. is_page job.copy u ≡ true) (sym same) page)))
mirrors_guest_by job v g Join e good inv goes =
    let op = next_operation job v g in
    mirrors_cursors job v (set v.disks (disk_of job.copy op.unit.0) (joined (disk v (disk_of job.copy op.unit.0)) g op.unit.0)) (cursors_kept v.disks (disk_of job.copy op.unit.0) _ refl) inv.mirrors
mirrors_guest_by job v g Mirror e good inv goes =
    let op = next_operation job v g in
    let m = aim-mirror job v op e in
    let behind = behind_block_from job.copy v.disks op.unit.0 (record {
      in_range = mirror_unit job v g good goes;
      no_page = m.block;
      behind = ltb-true (block_of job.copy op.unit.0) (cursor_of job.copy v.disks op.unit.0) m.behind;
    }) in
    let w : writes_to op op.unit.0 ≡ true = and_from (is_some op.write) (op.unit.0 == op.unit.0) m.writes (eq-eqb op.unit.0 op.unit.0 refl) in
    mirrors_made job v (done_entry g) v.disks op.unit.0 (λ i. refl) inv (running_is_live v.phase m.running) behind refl (wrote-push_at job v.history (done_entry g) op.unit.0 ∙ w)

pub mirrors-guest : (job : Job) (v : View) (g : ℕ) → IsGoodJob job → IsViewOf job v → GuestGoes job v g → MirrorsOf job (guest_done job v g)
mirrors-guest job v g good inv goes = mirrors_guest_by job v g (next_aim job v g) refl good inv goes

pub mirrors-begun : (job : Job) (v : View) (d : ℕ) → IsViewOf job v → MirrorsOf job (begun job v d)
mirrors-begun job v d inv = mirrors_cursors job v (begun job v d).disks (cursors_kept v.disks d _ refl) inv.mirrors

pub mirrors-block_read : (job : Job) (v : View) (d : ℕ) → IsViewOf job v → MirrorsOf job (block_read v d)
mirrors-block_read job v d inv = mirrors_cursors job v (block_read v d).disks (cursors_kept v.disks d _ refl) inv.mirrors

pub mirrors-given_up : (job : Job) (v : View) (phase : Phase) → IsViewOf job v → MirrorsOf job (given_up v phase)
mirrors-given_up job v phase inv = mirrors_cursors job v (map without_region v.disks) (no_regions v.disks) inv.mirrors

pub mirrors-sent : (job : Job) (v : View) (s : ℕ) → s < job.config.streams → IsViewOf job v → MirrorsOf job (sent job v s)
mirrors-sent job v s l inv =
    subst (λ bag. EachWriteOnce (wrote job v.history) (writes job v.history) v.mark bag v.outbox.issued v.hold.applied v.hold.recorded v.outbox.first (is_behind_block job.copy v.disks)) (sym (outstanding-sent-bag job v s (omega (arith, l, inv.lists.streams)))) inv.mirrors

pub mirrors-delivered : (job : Job) (v : View) (s : ℕ) → s < job.config.streams → IsViewOf job v → MirrorsOf job (delivered v s)
mirrors-delivered job v s l inv =
    subst (λ bag. EachWriteOnce (wrote job v.history) (writes job v.history) v.mark bag v.outbox.issued v.hold.applied v.hold.recorded v.outbox.first (is_behind_block job.copy v.disks)) (sym (outstanding-delivered-bag v s (omega (arith, l, inv.lists.streams)))) inv.mirrors

-- the history, the mark and the writes as they were
same_history : (job : Job) (v v' : View) (unit : ℕ) → v'.history ≡ v.history → number v'.outbox.first unit ≡ number v.outbox.first unit → HistoryKept job v v' unit
same_history job v v' unit h f = record {
  first = f;
  writes_before = λ n l. ap (λ hs. writes job hs unit n) h;
  wrote_before = λ i l w. ap (λ hs. wrote job hs unit i) h ∙ w;
}

pub mirrors-page : (job : Job) (v : View) → PageGoes job v → IsViewOf job v → MirrorsOf job (page_sent_off v)
mirrors-page job v goes inv =
    let page = page_from job.copy (least v.to_send) (omega (arith, goes.in_range, inv.lists.to_send)) in
    mirrors_by job (page_sent_off v) (λ unit b.
    let none = made-other (on_the_way v) v.outbox (least v.to_send) (length v.history) unit (λ same.
    both_ways (is_page job.copy unit) (behind_block job.copy v.disks unit b).no_page (subst (λ u. is_page job.copy u ≡ true) (sym same) page)) in
    unit_kept job v (page_sent_off v) unit inv (record {
      kept = same_history job v (page_sent_off v) unit refl none.first;
      issued = none.issued;
      applied = refl;
      recorded = refl;
      messages = none.messages;
      writes_mark = refl;
    }) (mirrors_unit job v unit inv.mirrors b))

-- a region is sent off: each of its units has its copy
advanced_behind : (job : Job) (v : View) (d unit : ℕ) → d < length v.disks → is_behind_block job.copy (advanced job v d).disks unit ≡ true → (unit < cursor_unit job v d) ⊎ (cursor_unit job v d + (disk v d).region ≤ unit) → is_behind_block job.copy v.disks unit ≡ true
advanced_behind job v d unit l b out = elim (behind_after job.copy v.disks d (record (disk v d) { cursor = (disk v d).cursor + (disk v d).region; region = 0; got = 0 }) unit l b) [
  | inl old ↦ old
  | inr came ↦ absurd (elim out [ inl x ↦ omega (arith, x, came.within, came.unit) | inr x ↦ omega (arith, x, came.within, came.unit) ])
]

copy_of : (job : Job) (v v' : View) (unit version at : ℕ) → v'.history ≡ v.history → version ≡ 1 → at ≡ number v'.outbox.first unit → MirrorAt job v' unit version at
copy_of job v v' unit version at h one is = record {
  copy = λ _. is;
  counted = let same : writes job v'.history unit at ≡ writes job v'.history unit (number v'.outbox.first unit) = ap (writes job v'.history unit) is in omega (arith, one, same);
  after_write = λ more. absurd (omega (arith, one, more));
}

copied_unit : (job : Job) (v v' : View) (unit : ℕ) → IsViewOf job v → is_live v.phase ≡ true → number v.outbox.issued unit ≡ 0 → v'.history ≡ v.history → v'.mark ≡ v.mark → number v'.hold.applied unit ≡ number v.hold.applied unit →
    ((version at : ℕ) → 0 < outstanding v' (is_message unit version at) → 0 < with_rest (on_the_way v) v'.outbox (is_message unit version at)) → MadeOne (on_the_way v) v.outbox v'.outbox unit (length v.history) → MirrorsUnit job v' unit
copied_unit job v v' unit inv live unsent h m applied bag one =
    let first = one.first_now unsent in
    let mark = inv.history.marked live in
    let at_mark : writes job v'.history unit (number v'.outbox.first unit) ≡ writes job v'.history unit v'.mark = ap (writes job v'.history unit) (first ∙ sym mark ∙ sym m) in
    let below = inv.versions.in_order unit in
    record {
      counted = omega (arith, one.issued, unsent, at_mark);
      outstanding = λ version at k. elim (one.messages version at (bag version at k)) [
        | inl old ↦
            let there = message-has-version v unit version at old in
            let above = version-above (outstanding v) v.outbox.issued v.hold.applied unit version inv.versions there in
            let within = version-within (outstanding v) v.outbox.issued v.hold.applied unit version inv.versions there in
            absurd (omega (arith, above, within, unsent))
        | inr is ↦ copy_of job v v' unit version at h (omega (arith, is.0, unsent)) (is.1 ∙ sym first)
      ];
      applied_last = λ some. absurd (omega (arith, some, applied, below, unsent));
    }

pub mirrors-advanced : (job : Job) (v : View) (d : ℕ) → d < length job.copy.disks → is_live v.phase ≡ true → IsViewOf job v → MirrorsOf job (advanced job v d)
mirrors-advanced job v d l live inv =
    let in_view : d < length v.disks = omega (arith, l, inv.lists.disks) in
    mirrors_by job (advanced job v d) (λ unit b. elim (run_cases (cursor_unit job v d) (disk v d).region unit) [
      | inl out ↦
          let none = run-other (on_the_way v) v.outbox (cursor_unit job v d) (length v.history) (disk v d).region unit out in
          unit_kept job v (advanced job v d) unit inv (record {
            kept = same_history job v (advanced job v d) unit refl none.first;
            issued = none.issued;
            applied = refl;
            recorded = refl;
            messages = none.messages;
            writes_mark = refl;
          }) (mirrors_unit job v unit inv.mirrors (advanced_behind job v d unit in_view b out))
      | inr run ↦
          let fits = run_fits job v d l inv (omega (arith, run.0, run.1)) in
          let one = run-one (on_the_way v) v.outbox (cursor_unit job v d) (length v.history) (disk v d).region unit run.0 run.1 (omega (arith, fits, inv.lists.issued)) (omega (arith, fits, inv.lists.first)) in
          copied_unit job v (advanced job v d) unit inv live (inv.unsent.none unit (run_is job v d unit inv l run.0 run.1).unsent) refl refl refl (λ version at k. k) one
    ])

-- the next message is written
applied_unit : (job : Job) (v : View) (u version at : ℕ) → AppliedIs job v u version at → MirrorsUnit job v u → MirrorsUnit job (applied_next v) u
applied_unit job v u version at a h = record {
  counted = h.counted;
  outstanding = λ n m k. h.outstanding n m (a.fewer (is_message u n m) k);
  applied_last = λ some.
      subst (λ (n : ℕ). MirrorAt job v u n (number (applied_next v).hold.recorded u)) (sym a.applied) (subst (λ (n : ℕ). MirrorAt job v u version n) (sym a.recorded) (h.outstanding version at a.there));
}

pub mirrors-applied : (job : Job) (v : View) → ApplyGoes job v → IsViewOf job v → MirrorsOf job (applied_next v)
mirrors-applied job v goes inv =
    let a = applied_is job v goes inv in
    let u = (ready_message v.hold).unit.0 in
    mirrors_by job (applied_next v) (λ unit b. elim (cases_eq unit u) [
      | inl is ↦ subst (MirrorsUnit job (applied_next v)) (sym is) (applied_unit job v u (ready_message v.hold).version (ready_message v.hold).at a (subst (MirrorsUnit job v) is (mirrors_unit job v unit inv.mirrors b)))
      | inr n ↦ unit_kept job v (applied_next v) unit inv (record {
        kept = same_history job v (applied_next v) unit refl refl;
        issued = refl;
        applied = a.other_applied unit n;
        recorded = a.other_recorded unit n;
        messages = λ version at k. a.fewer (is_message unit version at) k;
        writes_mark = refl;
      }) (mirrors_unit job v unit inv.mirrors b)
    ])

-- a write at the front of a queue is done
mirrors_released_by : (job : Job) (v : View) (d : ℕ) (running : Bool) → is_running v.phase ≡ running → ReleaseGoes job v d → IsViewOf job v → MirrorsOf job (released_by v d running)
mirrors_released_by job v d true r goes inv =
    let at_front = front_is job v d inv goes in
    let u = (front (disk v d)).unit.0 in
    let g = (front (disk v d)).guest.0 in
    let to_write = inv.queues.to_write d 0 goes.some_queue in
    let behind = behind_block_from job.copy v.disks u (record {
      in_range = at_front.in_range;
      no_page = at_front.block;
      behind = ltb-true (block_of job.copy u) (cursor_of job.copy v.disks u) (at_front.behind r);
    }) in
    mirrors_made job v (done_entry g) (set v.disks d (front_gone (disk v d))) u (cursors_kept v.disks d _ refl) inv (running_is_live v.phase r) behind (writes_unit (next_operation job v g) u to_write).1
    (wrote-push_at job v.history (done_entry g) u ∙ to_write)
mirrors_released_by job v d false r goes inv =
    mirrors_cursors job (record v { history = push v.history (done_entry (front (disk v d)).guest.0); mark = if is_live v.phase then length v.history + 1 else v.mark }) (set v.disks d (front_gone (disk v d))) (cursors_kept v.disks d _ refl)
    (mirrors_ended job v (done_entry (front (disk v d)).guest.0) inv (λ unit b live. absurd (released_not_stunned job v d goes inv live r)))

pub mirrors-released : (job : Job) (v : View) (d : ℕ) → ReleaseGoes job v d → IsViewOf job v → MirrorsOf job (released v d)
mirrors-released job v d goes inv = mirrors_released_by job v d (is_running v.phase) refl goes inv

pub mirrors-ended_as : (job : Job) (v : View) (g : ℕ) → IsViewOf job v → MirrorsOf job (ended_as v g Faulted)
mirrors-ended_as job v g inv = mirrors_ended job v (faulted_entry g) inv (λ unit b live. faulted_wrote job v.history g unit)

pub mirrors-release_fault : (job : Job) (v : View) (d : ℕ) → IsViewOf job v → MirrorsOf job (fault_effect v (Release d))
mirrors-release_fault job v d inv =
    mirrors_cursors job (ended_as v (front (disk v d)).guest.0 Faulted) (set v.disks d (front_gone (disk v d))) (cursors_kept v.disks d _ refl) (mirrors-ended_as job v (front (disk v d)).guest.0 inv)

mirrors_effect : (job : Job) (v : View) (e : Event) (flag : Bool) → IsGoodJob job → fits job e ≡ true → IsViewOf job v → wait job v e flag ≡ None → MirrorsOf job (effect job v e)
mirrors_effect job v (Guest g) flag good f inv w = mirrors-guest job v g.0 good inv (guest_goes job v g.0 flag w)
mirrors_effect job v (Begin d) flag good f inv w = mirrors-begun job v d inv
mirrors_effect job v (Read d) flag good f inv w = mirrors-block_read job v d inv
mirrors_effect job v (Advance d) flag good f inv w = mirrors-advanced job v d (ltb-true d (length job.copy.disks) f) (running_is_live v.phase (advance_goes job v d flag w).running) inv
mirrors_effect job v (Release d) flag good f inv w = mirrors-released job v d (release_goes job v d flag w) inv
mirrors_effect job v Round flag good f inv w = inv.mirrors
mirrors_effect job v Page flag good f inv w = mirrors-page job v (page_goes job v flag w) inv
mirrors_effect job v (Send s) flag good f inv w = mirrors-sent job v s (ltb-true s job.config.streams f) inv
mirrors_effect job v (Deliver s) flag good f inv w = mirrors-delivered job v s (ltb-true s job.config.streams f) inv
mirrors_effect job v Apply flag good f inv w = mirrors-applied job v (apply_goes job v flag w) inv
mirrors_effect job v Ack flag good f inv w = inv.mirrors
mirrors_effect job v Credit flag good f inv w = inv.mirrors
mirrors_effect job v Stun flag good f inv w = inv.mirrors
mirrors_effect job v Switch flag good f inv w = inv.mirrors
mirrors_effect job v Cancel flag good f inv w = mirrors-given_up job v Cancelled inv

mirrors_fault : (job : Job) (v : View) (e : Event) → IsViewOf job v → MirrorsOf job (fault_effect v e)
mirrors_fault job v (Guest g) inv = mirrors-ended_as job v g.0 inv
mirrors_fault job v (Release d) inv = mirrors-release_fault job v d inv
mirrors_fault job v (Begin d) inv = mirrors-given_up job v Failed inv
mirrors_fault job v (Read d) inv = mirrors-given_up job v Failed inv
mirrors_fault job v (Advance d) inv = mirrors-given_up job v Failed inv
mirrors_fault job v Round inv = mirrors-given_up job v Failed inv
mirrors_fault job v Page inv = mirrors-given_up job v Failed inv
mirrors_fault job v (Send s) inv = mirrors-given_up job v Failed inv
mirrors_fault job v (Deliver s) inv = mirrors-given_up job v Failed inv
mirrors_fault job v Apply inv = mirrors-given_up job v Failed inv
mirrors_fault job v Ack inv = mirrors-given_up job v Failed inv
mirrors_fault job v Credit inv = mirrors-given_up job v Failed inv
mirrors_fault job v Stun inv = mirrors-given_up job v Failed inv
mirrors_fault job v Switch inv = mirrors-given_up job v Failed inv
mirrors_fault job v Cancel inv = mirrors-given_up job v Failed inv

pub mirrors-step : (job : Job) (v : View) (e : Event) (flag : Bool) → IsGoodJob job → fits job e ≡ true → IsViewOf job v → MirrorsOf job (step job v e flag)
mirrors-step job v e flag good f inv = step_cases (MirrorsOf job) job v e flag inv.mirrors (λ w b. mirrors_effect job v e flag good f inv w) (λ w b. mirrors_fault job v e inv)
