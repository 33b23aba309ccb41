-- A settled unit has a version, and its tip covers every write done to it: kept by every step.
use Rattle.std.proofs.Common.{◌≡◌, ◌≢◌, ◌≤◌, ◌<◌, ◌⊎◌, inl, inr, ℕ, ◌+◌, Bool, true, false, not, ◌&&◌, ◌||◌, List, [], ◌∷◌, ◌++◌, length, get_or, set, map, None, refl, sym, ap, subst, ◌∙◌, arith}
use Rattle.std.specs.Prelude.{◌==◌, nat_lt, is_some, if◌then◌else◌}
use Rattle.std.proofs.lemmas.Bool.{cases_Bool, cases_eq, cases_lt, ltb-true, lt-ltb, eqb-true, ne_eqb, and_parts, and_right, both_ways, cond-true}
use Rattle.std.proofs.lemmas.List.{get_or-set_same, get_or-set_other}
use Rattle.xv_model.specs.Job.{Job, Shape, UnitOp, IsGoodJob, units, unit_count, is_page, disk_of, block_of, operation}
use Rattle.xv_model.specs.Guest.{Ended, ended, wrote, writes_to}
use Rattle.xv_model.specs.View.{View, Disk, Outbox, UnitHead, Waiting, is_switched, Phase, no_disk, disk, front, number, member, least, is_running, is_stunned, is_live, is_behind, is_empty_set, ready_message}
use Rattle.xv_model.specs.Wait.{Event, Aim, Alone, Store, Join, Mirror, aim, next_operation, next_aim, fits, wait}
use Rattle.xv_model.specs.Effect.{made, joined, front_gone, without_region, cursor_unit, no_pages, ended_as, guest_by, guest_done, begun, block_read, advanced, released, round_begun, page_sent_off, sent, delivered, applied_next, stunned, given_up, effect, fault_effect}
use Rattle.xv_model.specs.Step.{step}
use Rattle.xv_model.specs.Outstanding.{Bag, outstanding, on_the_way, is_message}
use Rattle.xv_model.specs.Invariant.{TipCovers, IsTip, EachVersionOnce, IsViewOf, is_settled}
use Rattle.xv_base.specs.declared.event.Phase.TheVariants.{Running, Stunned, Switched, Cancelled, Failed}
use Rattle.xv_base.specs.declared.operation.Outcome.TheVariants.{Done, Faulted}
use Rattle.xv_base.specs.declared.event.Event.TheVariants.{Guest, Begin, Read, Advance, Release, Round, Page, Send, Deliver, Apply, Ack, Credit, Stun, Switch, Cancel}
use Rattle.xv_model.proofs.Facts.{mirror_unit}
use Rattle.xv_model.proofs.GoesOn.{aim-alone, aim-store, aim-mirror, MeansAlone, GuestGoes, guest_goes, advance_goes, ReleaseGoes, release_goes, RoundGoes, round_goes, PageGoes, page_goes, ApplyGoes, apply_goes, StunGoes, stun_goes, running_is_live, live_is_running, queues_empty-queue, none-member, member-none, member-set_same, member-set_other}
use Rattle.xv_model.proofs.Layouts.{SameCursors, cursors_kept, no_regions, same_settled, behind_after, settled_cases, settled_page, settled_block, page_below, behind_block, cursor_of}
use Rattle.xv_model.proofs.Histories.{push, wrote-push_before, wrote-push_at}
use Rattle.xv_model.proofs.Bags.{outstanding-sent-bag, outstanding-delivered-bag, outstanding-applied, ready-next, message-has-version, version-within, is_message-from, issued-unit}
use Rattle.xv_model.proofs.Makes.{with_rest, MadeNone, MadeOne, made-other, made-one, run-other, run-one}
use Rattle.xv_model.proofs.Steps.{step_cases}
use Rattle.xv_model.proofs.Unsent.{front_is, run_cases, run_fits}

abbrev pub settled_of : Job → View → ℕ → Bool
settled_of job v = is_settled job.copy v.disks v.dirty v.to_send

abbrev pub TipsOf : Job → View → Type 0
TipsOf job v = TipCovers (wrote job v.history) v.mark (outstanding v) v.outbox.issued v.hold.applied v.hold.recorded (settled_of job v)

abbrev pub TipAt : View → ℕ → ℕ → Type 0
TipAt v unit at = IsTip (outstanding v) v.outbox.issued v.hold.applied v.hold.recorded unit at

-- a unit settled before and after whose tip is what it was, and that was not written to
pub record TipKept (job : Job) (v v' : View) (unit : ℕ) : Type 0 where
  pub settled : settled_of job v unit ≡ true
  pub issued : number v.outbox.issued unit ≤ number v'.outbox.issued unit
  pub tip : (at : ℕ) → TipAt v' unit at → TipAt v unit at
  pub written : (i : ℕ) → i < v'.mark → wrote job v'.history unit i ≡ true → (i < v.mark) × (wrote job v.history unit i ≡ true)

-- a unit whose tip is as late as can be
pub record TipNew (v' : View) (unit : ℕ) : Type 0 where
  pub some : 1 ≤ number v'.outbox.issued unit
  pub at_mark : (at : ℕ) → TipAt v' unit at → v'.mark ≤ at

tip_made : (job : Job) (v v' : View) (unit : ℕ) → TipsOf job v → TipKept job v v' unit ⊎ TipNew v' unit → 1 ≤ number v'.outbox.issued unit
tip_made job v v' unit h (inl k) = let m = h.made unit k.settled in omega (arith, m, k.issued)
tip_made job v v' unit h (inr n) = n.some

tip_covers : (job : Job) (v v' : View) (unit at i : ℕ) → TipsOf job v → TipKept job v v' unit ⊎ TipNew v' unit → TipAt v' unit at → i < v'.mark → wrote job v'.history unit i ≡ true → i < at
tip_covers job v v' unit at i h (inl k) t l w = let x = k.written i l w in h.covers unit at i k.settled (k.tip at t) x.0 x.1
tip_covers job v v' unit at i h (inr n) t l w = let x = n.at_mark at t in omega (arith, x, l)

pub tips_by : (job : Job) (v v' : View) → TipsOf job v → ((unit : ℕ) → settled_of job v' unit ≡ true → TipKept job v v' unit ⊎ TipNew v' unit) → TipsOf job v'
tips_by job v v' h each = record {
  made = λ unit s. tip_made job v v' unit h (each unit s);
  covers = λ unit at i s t l w. tip_covers job v v' unit at i h (each unit s) t l w;
}

-- what one more entry in the history writes
written_by : (job : Job) (h : List Ended) (e : Ended) (unit : ℕ) (live : Bool) (mark : ℕ) → (live ≡ true → mark ≡ length h) → mark ≤ length h → (live ≡ true → wrote job (push h e) unit (length h) ≡ false) →
    (i : ℕ) → i < (if live then length h + 1 else mark) → wrote job (push h e) unit i ≡ true → (i < mark) × (wrote job h unit i ≡ true)
written_by job h e unit true mark m l none i lt w = elim (cases_eq i (length h)) [
  | inl same ↦ absurd (both_ways (wrote job (push h e) unit i) (ap (wrote job (push h e) unit) same ∙ none refl) w)
  | inr other ↦
      let before : i < length h = omega arith in
      let m' = m refl in
      (omega (arith, m', before), sym (wrote-push_before job h e unit i before) ∙ w)
]
written_by job h e unit false mark m l none i lt w = (lt, sym (wrote-push_before job h e unit i (omega (arith, lt, l))) ∙ w)

pub written_none : (job : Job) (v : View) (e : Ended) (unit : ℕ) → IsViewOf job v → (is_live v.phase ≡ true → wrote job (push v.history e) unit (length v.history) ≡ false) →
    (i : ℕ) → i < (if is_live v.phase then length v.history + 1 else v.mark) → wrote job (push v.history e) unit i ≡ true → (i < v.mark) × (wrote job v.history unit i ≡ true)
written_none job v e unit inv none = written_by job v.history e unit (is_live v.phase) v.mark inv.history.marked inv.history.mark_within none

pub writes_unit : (op : UnitOp) (unit : ℕ) → writes_to op unit ≡ true → (is_some op.write ≡ true) × (op.unit.0 ≡ unit)
writes_unit op unit e = let p = and_parts (is_some op.write) (op.unit.0 == unit) e in (p.0, eqb-true op.unit.0 unit p.1)

pub writes_other : (op : UnitOp) (unit : ℕ) → unit ≢ op.unit.0 → writes_to op unit ≡ false
writes_other op unit n = and_right (is_some op.write) (op.unit.0 == unit) (ne_eqb op.unit.0 unit (λ e. n (sym e)))

pub wrote_other : (job : Job) (h : List Ended) (e : Ended) (unit : ℕ) → unit ≢ (operation job e.guest.0 (ended h e.guest.0)).unit.0 → wrote job (push h e) unit (length h) ≡ false
wrote_other job h e unit n = wrote-push_at job h e unit ∙ and_right _ (writes_to (operation job e.guest.0 (ended h e.guest.0)) unit) (writes_other (operation job e.guest.0 (ended h e.guest.0)) unit n)

abbrev pub done_entry : ℕ → Ended
done_entry g = record { guest = record { 0 = g }; outcome = Done }

abbrev pub faulted_entry : ℕ → Ended
faulted_entry g = record { guest = record { 0 = g }; outcome = Faulted }

-- tips where no message is made, and where one is
tip_none : (rest : Bag) (box new : Outbox) (applied recorded : List ℕ) (unit at : ℕ) → MadeNone rest box new unit → IsTip (with_rest rest new) new.issued applied recorded unit at → IsTip (with_rest rest box) box.issued applied recorded unit at
tip_none rest box new applied recorded unit at m t = record {
  outstanding = λ h. m.messages (number box.issued unit) at (subst (λ n. 0 < with_rest rest new (is_message unit n at)) m.issued (t.outstanding (rw m.issued h)));
  all_applied = λ e. t.all_applied (e ∙ sym m.issued);
}

tip_one_by : (v : View) (unit at a version : ℕ) → version ≡ number v.outbox.issued unit + 1 → EachVersionOnce (outstanding v) v.outbox.issued v.hold.applied → (0 < outstanding v (is_message unit version a)) ⊎ ((version ≡ number v.outbox.issued unit + 1) × (a ≡ at)) → a ≡ at
tip_one_by v unit at a version e once (inl old) = let within = version-within (outstanding v) v.outbox.issued v.hold.applied unit version once (message-has-version v unit version a old) in absurd (omega (arith, within, e))
tip_one_by v unit at a version e once (inr new) = new.1

tip_one : (v : View) (new : Outbox) (unit at a : ℕ) → MadeOne (on_the_way v) v.outbox new unit at → EachVersionOnce (outstanding v) v.outbox.issued v.hold.applied → IsTip (with_rest (on_the_way v) new) new.issued v.hold.applied v.hold.recorded unit a → a ≡ at
tip_one v new unit at a m once t =
    let below = once.in_order unit in
    tip_one_by v unit at a (number new.issued unit) m.issued once (m.messages (number new.issued unit) a (t.outstanding (omega (arith, below, m.issued))))

-- what leaves every cursor
tips_cursors : (job : Job) (v : View) (ds : List Disk) → SameCursors ds v.disks → TipsOf job v → TipsOf job (record v { disks = ds })
tips_cursors job v ds same h = subst (TipCovers (wrote job v.history) v.mark (outstanding v) v.outbox.issued v.hold.applied v.hold.recorded) (sym (same_settled job.copy ds v.disks v.dirty v.to_send same)) h

-- an operation ended that wrote to no settled unit
pub tips_ended : (job : Job) (v : View) (e : Ended) (dirty : List Bool) → IsViewOf job v → ((unit : ℕ) → is_settled job.copy v.disks dirty v.to_send unit ≡ true → settled_of job v unit ≡ true) →
    ((unit : ℕ) → is_settled job.copy v.disks dirty v.to_send unit ≡ true → is_live v.phase ≡ true → wrote job (push v.history e) unit (length v.history) ≡ false) →
    TipsOf job (record v { history = push v.history e; mark = if is_live v.phase then length v.history + 1 else v.mark; dirty = dirty })
tips_ended job v e dirty inv before none = tips_by job v (record v { history = push v.history e; mark = if is_live v.phase then length v.history + 1 else v.mark; dirty = dirty }) inv.tips (λ unit s. inl (record {
  settled = before unit s;
  issued = omega arith;
  tip = λ at t. t;
  written = written_none job v e unit inv (none unit s);
}))

-- a guest's operation alone writes to no settled unit
alone_by : (job : Job) (v : View) (op : UnitOp) (unit : ℕ) → MeansAlone job v op → is_running v.phase ≡ true → settled_of job v unit ≡ true → writes_to op unit ≡ true → ⊥
alone_by job v op unit a r s w =
    let x = writes_unit op unit w in
    elim (settled_cases job.copy v.disks v.dirty v.to_send unit s) [
      | inl page ↦ both_ways (is_page job.copy unit) (subst (λ u. is_page job.copy u ≡ false) x.1 (a.block r x.0)) page.0
      | inr behind ↦
          let b = behind_block job.copy v.disks unit behind in
          let n = subst (λ u. is_behind (disk v (disk_of job.copy u)) (block_of job.copy u) ≡ false) x.1 (a.not_behind r x.0) in
          both_ways (is_behind (disk v (disk_of job.copy unit)) (block_of job.copy unit)) n (lt-ltb (block_of job.copy unit) (cursor_of job.copy v.disks unit) b.behind)
    ]

pub alone_writes_none : (job : Job) (v : View) (g : ℕ) (unit : ℕ) → GuestGoes job v g → aim job v (next_operation job v g) ≡ Alone → settled_of job v unit ≡ true → is_live v.phase ≡ true → wrote job (push v.history (done_entry g)) unit (length v.history) ≡ false
alone_writes_none job v g unit goes a s live =
    let none : writes_to (next_operation job v g) unit ≡ false = elim (cases_Bool (writes_to (next_operation job v g) unit)) [
      | inl w ↦ absurd (alone_by job v (next_operation job v g) unit (aim-alone job v (next_operation job v g) a) (live_is_running v.phase live goes.not_stunned) s w)
      | inr n ↦ n
    ] in
    wrote-push_at job v.history (done_entry g) unit ∙ none

-- a stored page is settled no more
abbrev pub stored : View → ℕ → List Bool
stored v page = if not (member v.to_send page) then set v.dirty page true else v.dirty

stored_by : (b : Bool) (dirty : List Bool) (page unit : ℕ) → unit ≢ page → member (if b then set dirty page true else dirty) unit ≡ member dirty unit
stored_by true dirty page unit n = member-set_other dirty page unit true n
stored_by false dirty page unit n = refl

stored_is : (to_send dirty : List Bool) (page : ℕ) → page < length dirty → member to_send page ≡ false → member (if not (member to_send page) then set dirty page true else dirty) page ≡ true
stored_is to_send dirty page l e = rw e (member-set_same dirty page true l)

store_settled : (job : Job) (v : View) (page unit : ℕ) → IsViewOf job v → is_page job.copy page ≡ true → is_settled job.copy v.disks (stored v page) v.to_send unit ≡ true → (unit ≢ page) × (settled_of job v unit ≡ true)
store_settled job v page unit inv p s =
    let below = page_below job.copy page p in
    elim (settled_cases job.copy v.disks (stored v page) v.to_send unit s) [
      | inl q ↦
          let ne : unit ≢ page = λ e.
          both_ways (member (stored v page) page) (subst (λ u. member (stored v page) u ≡ false) e q.1)
          (stored_is v.to_send v.dirty page (omega (arith, below, inv.lists.dirty)) (subst (λ u. member v.to_send u ≡ false) e q.2)) in
          let unit_below = page_below job.copy unit q.0 in
          (ne, settled_page job.copy v.disks v.dirty v.to_send unit (omega (arith, unit_below)) q.0 (sym (stored_by (not (member v.to_send page)) v.dirty page unit ne) ∙ q.1) q.2)
      | inr b ↦
          let block = behind_block job.copy v.disks unit b in
          ((λ e. both_ways (is_page job.copy page) (subst (λ u. is_page job.copy u ≡ false) e block.no_page) p), settled_block job.copy v.disks v.dirty v.to_send unit b)
    ]

-- a mirrored write's own unit has a new tip, and the others keep theirs
pub tips_made : (job : Job) (v : View) (e : Ended) (ds : List Disk) (u : ℕ) → SameCursors ds v.disks → IsViewOf job v → is_live v.phase ≡ true → u < unit_count job → (operation job e.guest.0 (ended v.history e.guest.0)).unit.0 ≡ u →
    TipsOf job (record v { history = push v.history e; mark = if is_live v.phase then length v.history + 1 else v.mark; disks = ds; outbox = made v.outbox u (length v.history + 1) })
tips_made job v e ds u same inv live l writes =
    let v' : View = record v { history = push v.history e; mark = if is_live v.phase then length v.history + 1 else v.mark; disks = ds; outbox = made v.outbox u (length v.history + 1) } in
    let one = made-one (on_the_way v) v.outbox u (length v.history + 1) (omega (arith, l, inv.lists.issued)) (omega (arith, l, inv.lists.first)) in
    let now : v'.mark ≡ length v.history + 1 = cond-true (is_live v.phase) (length v.history + 1) v.mark live in
    tips_by job v v' inv.tips (λ unit s. elim (cases_eq unit u) [
      | inl is ↦ inr (subst (TipNew v') (sym is) (record {
        some = omega (arith, one.issued);
        at_mark = λ at t. let tip = tip_one v v'.outbox u (length v.history + 1) at one inv.versions t in omega (arith, tip, now);
      }))
      | inr other ↦
          let none = made-other (on_the_way v) v.outbox u (length v.history + 1) unit other in
          inl (record {
            settled = sym (ap (λ (f : ℕ → Bool). f unit) (same_settled job.copy ds v.disks v.dirty v.to_send same)) ∙ s;
            issued = omega (arith, none.issued);
            tip = λ at t. tip_none (on_the_way v) v.outbox v'.outbox v.hold.applied v.hold.recorded unit at none t;
            written = written_none job v e unit inv (λ _. wrote_other job v.history e unit (λ x. other (x ∙ writes)));
          })
    ])

-- each effect
tips_guest_by : (job : Job) (v : View) (g : ℕ) (a : Aim) → aim job v (next_operation job v g) ≡ a → IsGoodJob job → IsViewOf job v → GuestGoes job v g → TipsOf job (guest_by job v g (next_operation job v g) a)
tips_guest_by job v g Alone e good inv goes = tips_ended job v (done_entry g) v.dirty inv (λ unit s. s) (λ unit s live. alone_writes_none job v g unit goes e s live)
tips_guest_by job v g Store e good inv goes =
    let page = (aim-store job v (next_operation job v g) e).page in
    let u = (next_operation job v g).unit.0 in
    tips_ended job v (done_entry g) (stored v u) inv (λ unit s. (store_settled job v u unit inv page s).1) (λ unit s live. wrote_other job v.history (done_entry g) unit (store_settled job v u unit inv page s).0)
tips_guest_by job v g Join e good inv goes =
    let op = next_operation job v g in
    tips_cursors job v (set v.disks (disk_of job.copy op.unit.0) (joined (disk v (disk_of job.copy op.unit.0)) g op.unit.0)) (cursors_kept v.disks (disk_of job.copy op.unit.0) _ refl) inv.tips
tips_guest_by job v g Mirror e good inv goes =
    let m = aim-mirror job v (next_operation job v g) e in
    tips_made job v (done_entry g) v.disks (next_operation job v g).unit.0 (λ i. refl) inv (running_is_live v.phase m.running) (mirror_unit job v g good goes) refl

pub tips-guest : (job : Job) (v : View) (g : ℕ) → IsGoodJob job → IsViewOf job v → GuestGoes job v g → TipsOf job (guest_done job v g)
tips-guest job v g good inv goes = tips_guest_by job v g (next_aim job v g) refl good inv goes

pub tips-begun : (job : Job) (v : View) (d : ℕ) → IsViewOf job v → TipsOf job (begun job v d)
tips-begun job v d inv = tips_cursors job v (begun job v d).disks (cursors_kept v.disks d _ refl) inv.tips

pub tips-block_read : (job : Job) (v : View) (d : ℕ) → IsViewOf job v → TipsOf job (block_read v d)
tips-block_read job v d inv = tips_cursors job v (block_read v d).disks (cursors_kept v.disks d _ refl) inv.tips

pub tips-given_up : (job : Job) (v : View) (phase : Phase) → IsViewOf job v → TipsOf job (given_up v phase)
tips-given_up job v phase inv = tips_cursors job v (map without_region v.disks) (no_regions v.disks) inv.tips

-- a round begins: the dirty pages are those to be sent
sets_by : (a b c d : Bool) → a ≡ false → d ≡ false → not (a || b) ≡ not (b || d)
sets_by true b c d e f = absurd (cc)
sets_by false true c d e f = refl
sets_by false false c true e f = absurd (cc)
sets_by false false c false e f = refl

same_round : (s : Shape) (ds : List Disk) (dirty to_send : List Bool) → is_empty_set to_send ≡ true → is_settled s ds (no_pages dirty) dirty ≡ is_settled s ds dirty to_send
same_round s ds dirty to_send e = λ i u.
    ap (λ b. nat_lt u (units s) && (if is_page s u then b else is_behind (get_or ds (disk_of s u) no_disk) (block_of s u)))
    (sets_by (member (no_pages dirty) u) (member dirty u) true (member to_send u) (member-none (length dirty) u) (none-member to_send u e)) i

pub tips-round : (job : Job) (v : View) → RoundGoes job v → IsViewOf job v → TipsOf job (round_begun v)
tips-round job v goes inv = subst (TipCovers (wrote job v.history) v.mark (outstanding v) v.outbox.issued v.hold.applied v.hold.recorded) (sym (same_round job.copy v.disks v.dirty v.to_send goes.none_to_send)) inv.tips

pub tips-stunned : (job : Job) (v : View) → StunGoes job v → IsViewOf job v → TipsOf job (stunned v)
tips-stunned job v goes inv = subst (TipCovers (wrote job v.history) v.mark (outstanding v) v.outbox.issued v.hold.applied v.hold.recorded) (sym (same_round job.copy v.disks v.dirty v.to_send goes.none_to_send)) inv.tips

pub tips-sent : (job : Job) (v : View) (s : ℕ) → s < job.config.streams → IsViewOf job v → TipsOf job (sent job v s)
tips-sent job v s l inv = subst (λ bag. TipCovers (wrote job v.history) v.mark bag v.outbox.issued v.hold.applied v.hold.recorded (settled_of job v)) (sym (outstanding-sent-bag job v s (omega (arith, l, inv.lists.streams)))) inv.tips

pub tips-delivered : (job : Job) (v : View) (s : ℕ) → s < job.config.streams → IsViewOf job v → TipsOf job (delivered v s)
tips-delivered job v s l inv = subst (λ bag. TipCovers (wrote job v.history) v.mark bag v.outbox.issued v.hold.applied v.hold.recorded (settled_of job v)) (sym (outstanding-delivered-bag v s (omega (arith, l, inv.lists.streams)))) inv.tips

-- a page is sent off: it alone may be settled anew
page_settled : (job : Job) (v : View) (unit : ℕ) → settled_of job (page_sent_off v) unit ≡ true → unit ≢ least v.to_send → settled_of job v unit ≡ true
page_settled job v unit s n = elim (settled_cases job.copy v.disks v.dirty (set v.to_send (least v.to_send) false) unit s) [
  | inl q ↦
      let below = page_below job.copy unit q.0 in
      settled_page job.copy v.disks v.dirty v.to_send unit (omega (arith, below)) q.0 q.1 (sym (member-set_other v.to_send (least v.to_send) unit false n) ∙ q.2)
  | inr b ↦ settled_block job.copy v.disks v.dirty v.to_send unit b
]

pub tips-page : (job : Job) (v : View) → PageGoes job v → IsViewOf job v → TipsOf job (page_sent_off v)
tips-page job v goes inv =
    let u = least v.to_send in
    let below : u < unit_count job = omega (arith, goes.in_range, inv.lists.to_send) in
    let one = made-one (on_the_way v) v.outbox u (length v.history) (omega (arith, below, inv.lists.issued)) (omega (arith, below, inv.lists.first)) in
    let now = inv.history.marked goes.live in
    tips_by job v (page_sent_off v) inv.tips (λ unit s. elim (cases_eq unit u) [
      | inl is ↦ inr (subst (TipNew (page_sent_off v)) (sym is) (record {
        some = omega (arith, one.issued);
        at_mark = λ at t. let tip = tip_one v (page_sent_off v).outbox u (length v.history) at one inv.versions t in omega (arith, tip, now);
      }))
      | inr other ↦
          let none = made-other (on_the_way v) v.outbox u (length v.history) unit other in
          inl (record {
            settled = page_settled job v unit s other;
            issued = omega (arith, none.issued);
            tip = λ at t. tip_none (on_the_way v) v.outbox (page_sent_off v).outbox v.hold.applied v.hold.recorded unit at none t;
            written = λ i l w. (l, w);
          })
    ])

-- a region is sent off: its units are settled anew
advanced_settled : (job : Job) (v : View) (d unit : ℕ) → d < length v.disks → settled_of job (advanced job v d) unit ≡ true → (unit < cursor_unit job v d) ⊎ (cursor_unit job v d + (disk v d).region ≤ unit) → settled_of job v unit ≡ true
advanced_settled job v d unit l s out = elim (settled_cases job.copy (advanced job v d).disks v.dirty v.to_send unit s) [
  | inl q ↦
      let below = page_below job.copy unit q.0 in
      settled_page job.copy v.disks v.dirty v.to_send unit (omega (arith, below)) q.0 q.1 q.2
  | inr b ↦ elim (behind_after job.copy v.disks d (record (disk v d) { cursor = (disk v d).cursor + (disk v d).region; region = 0; got = 0 }) unit l b) [
    | inl old ↦ settled_block job.copy v.disks v.dirty v.to_send unit old
    | inr came ↦ absurd (elim out [ inl x ↦ omega (arith, x, came.within, came.unit) | inr x ↦ omega (arith, x, came.within, came.unit) ])
  ]
]

pub tips-advanced : (job : Job) (v : View) (d : ℕ) → d < length job.copy.disks → is_live v.phase ≡ true → IsViewOf job v → TipsOf job (advanced job v d)
tips-advanced job v d l live inv =
    let in_view : d < length v.disks = omega (arith, l, inv.lists.disks) in
    let now = inv.history.marked live in
    tips_by job v (advanced job v d) inv.tips (λ unit s. elim (run_cases (cursor_unit job v d) (disk v d).region unit) [
      | inl out ↦
          let none = run-other (on_the_way v) v.outbox (cursor_unit job v d) (length v.history) (disk v d).region unit out in
          inl (record {
            settled = advanced_settled job v d unit in_view s out;
            issued = omega (arith, none.issued);
            tip = λ at t. tip_none (on_the_way v) v.outbox (advanced job v d).outbox v.hold.applied v.hold.recorded unit at none t;
            written = λ i l w. (l, w);
          })
      | inr run ↦
          let fits = run_fits job v d l inv (omega (arith, run.0, run.1)) in
          let one = run-one (on_the_way v) v.outbox (cursor_unit job v d) (length v.history) (disk v d).region unit run.0 run.1 (omega (arith, fits, inv.lists.issued)) (omega (arith, fits, inv.lists.first)) in
          inr (record {
            some = omega (arith, one.issued);
            at_mark = λ at t. let tip = tip_one v (advanced job v d).outbox unit (length v.history) at one inv.versions t in omega (arith, tip, now);
          })
    ])

-- a write at the front of a queue is done
abbrev pub released_by : View → ℕ → Bool → View
released_by v d running = record v {
  history = v.history ++ record { guest = (front (disk v d)).guest; outcome = Done } ∷ [];
  mark = if is_live v.phase then length v.history + 1 else v.mark;
  disks = set v.disks d (front_gone (disk v d));
  outbox = if running then made v.outbox (front (disk v d)).unit.0 (length v.history + 1) else v.outbox;
}

-- a queue waits in no view that is stunned
live_by : (p : Phase) → is_live p ≡ true → is_running p ≡ false → (is_stunned p || is_switched p) ≡ true
live_by Running e f = absurd (cc)
live_by Stunned e f = refl
live_by Switched e f = absurd (cc)
live_by Cancelled e f = absurd (cc)
live_by Failed e f = absurd (cc)

pub released_not_stunned : (job : Job) (v : View) (d : ℕ) → ReleaseGoes job v d → IsViewOf job v → is_live v.phase ≡ true → is_running v.phase ≡ false → ⊥
released_not_stunned job v d goes inv live not_running =
    let none = queues_empty-queue v.disks d (inv.quiet.no_queue (live_by v.phase live not_running)) in
    let zero_long : length (disk v d).queue ≡ 0 = ap (λ (ws : List Waiting). length ws) none in
    omega (arith, zero_long, goes.some_queue)

tips_released_by : (job : Job) (v : View) (d : ℕ) (running : Bool) → is_running v.phase ≡ running → ReleaseGoes job v d → IsViewOf job v → TipsOf job (released_by v d running)
tips_released_by job v d true r goes inv =
    let at_front = front_is job v d inv goes in
    let writes = writes_unit (next_operation job v (front (disk v d)).guest.0) (front (disk v d)).unit.0 (inv.queues.to_write d 0 goes.some_queue) in
    tips_made job v (done_entry (front (disk v d)).guest.0) (set v.disks d (front_gone (disk v d))) (front (disk v d)).unit.0 (cursors_kept v.disks d _ refl) inv (running_is_live v.phase r) at_front.in_range writes.1
tips_released_by job v d false r goes inv =
    tips_cursors job (record v { history = push v.history (done_entry (front (disk v d)).guest.0); mark = if is_live v.phase then length v.history + 1 else v.mark }) (set v.disks d (front_gone (disk v d))) (cursors_kept v.disks d _ refl)
    (tips_ended job v (done_entry (front (disk v d)).guest.0) v.dirty inv (λ unit s. s) (λ unit s live. absurd (released_not_stunned job v d goes inv live r)))

pub tips-released : (job : Job) (v : View) (d : ℕ) → ReleaseGoes job v d → IsViewOf job v → TipsOf job (released v d)
tips-released job v d goes inv = tips_released_by job v d (is_running v.phase) refl goes inv

-- an operation that failed writes nothing
pub faulted_wrote : (job : Job) (h : List Ended) (g unit : ℕ) → wrote job (push h (faulted_entry g)) unit (length h) ≡ false
faulted_wrote job h g unit = wrote-push_at job h (faulted_entry g) unit

pub tips-ended_as : (job : Job) (v : View) (g : ℕ) → IsViewOf job v → TipsOf job (ended_as v g Faulted)
tips-ended_as job v g inv = tips_ended job v (faulted_entry g) v.dirty inv (λ unit s. s) (λ unit s live. faulted_wrote job v.history g unit)

pub tips-release_fault : (job : Job) (v : View) (d : ℕ) → IsViewOf job v → TipsOf job (fault_effect v (Release d))
tips-release_fault job v d inv =
    tips_cursors job (ended_as v (front (disk v d)).guest.0 Faulted) (set v.disks d (front_gone (disk v d))) (cursors_kept v.disks d _ refl) (tips-ended_as job v (front (disk v d)).guest.0 inv)

-- the next message is written: what it was, and what is then applied and recorded
pub record AppliedIs (job : Job) (v : View) (u version at : ℕ) : Type 0 where
  pub next : version ≡ number v.hold.applied u + 1
  pub there : 0 < outstanding v (is_message u version at)
  pub within : version ≤ number v.outbox.issued u
  pub in_range : u < unit_count job
  pub applied : number (applied_next v).hold.applied u ≡ version
  pub recorded : number (applied_next v).hold.recorded u ≡ at
  pub other_applied : (unit : ℕ) → unit ≢ u → number (applied_next v).hold.applied unit ≡ number v.hold.applied unit
  pub other_recorded : (unit : ℕ) → unit ≢ u → number (applied_next v).hold.recorded unit ≡ number v.hold.recorded unit
  pub fewer : (test : UnitHead → Bool) → 0 < outstanding (applied_next v) test → 0 < outstanding v test

fewer_by : (b : Bool) (before after : ℕ) → before ≡ (if b then 1 else 0) + after → 0 < after → 0 < before
fewer_by b before after e h = omega (arith, e, h)

there_by : (b : Bool) (before after : ℕ) → before ≡ (if b then 1 else 0) + after → b ≡ true → 0 < before
there_by true before after e t = omega (arith, e)
there_by false before after e t = absurd (cc)

pub applied_is : (job : Job) (v : View) → ApplyGoes job v → IsViewOf job v → AppliedIs job v (ready_message v.hold).unit.0 (ready_message v.hold).version (ready_message v.hold).at
applied_is job v goes inv =
    let m : UnitHead = ready_message v.hold in
    let test = is_message m.unit.0 m.version m.at in
    let there : 0 < outstanding v test = there_by (test m) (outstanding v test) (outstanding (applied_next v) test) (outstanding-applied v goes.ready test) (is_message-from m.unit.0 m.version m.at m refl refl refl) in
    let next = ready-next v.hold goes.ready in
    let within = version-within (outstanding v) v.outbox.issued v.hold.applied m.unit.0 m.version inv.versions (message-has-version v m.unit.0 m.version m.at there) in
    let in_issued = issued-unit v.outbox.issued m.unit.0 (omega (arith, next, within)) in
    record {
      next = next;
      there = there;
      within = within;
      in_range = omega (arith, in_issued, inv.lists.issued);
      applied = get_or-set_same v.hold.applied m.unit.0 m.version 0 (omega (arith, in_issued, inv.lists.issued, inv.lists.applied));
      recorded = get_or-set_same v.hold.recorded m.unit.0 m.at 0 (omega (arith, in_issued, inv.lists.issued, inv.lists.recorded));
      other_applied = λ unit n. get_or-set_other v.hold.applied m.unit.0 unit m.version 0 n;
      other_recorded = λ unit n. get_or-set_other v.hold.recorded m.unit.0 unit m.at 0 n;
      fewer = λ t h. fewer_by (t m) (outstanding v t) (outstanding (applied_next v) t) (outstanding-applied v goes.ready t) h;
    }

tip_applied-other : (job : Job) (v : View) (u version at' unit at : ℕ) → AppliedIs job v u version at' → unit ≢ u → TipAt (applied_next v) unit at → TipAt v unit at
tip_applied-other job v u version at' unit at a n t = record {
  outstanding = λ h. a.fewer (is_message unit (number v.outbox.issued unit) at) (t.outstanding (omega (arith, h, a.other_applied unit n)));
  all_applied = λ e. t.all_applied (a.other_applied unit n ∙ e) ∙ a.other_recorded unit n;
}

tip_applied-own : (job : Job) (v : View) (u version at' at : ℕ) → AppliedIs job v u version at' → TipAt (applied_next v) u at → TipAt v u at
tip_applied-own job v u version at' at a t = record {
  outstanding = λ h. elim (cases_lt version (number v.outbox.issued u)) [
    | inl lt ↦ a.fewer (is_message u (number v.outbox.issued u) at) (t.outstanding (omega (arith, lt, a.applied)))
    | inr ge ↦
        let last : version ≡ number v.outbox.issued u = omega (arith, ge, a.within) in
        let here : at' ≡ at = sym (t.all_applied (a.applied ∙ last) ∙ a.recorded) in
        subst (λ k. 0 < outstanding v (is_message u k at)) last (subst (λ k. 0 < outstanding v (is_message u version k)) here a.there)
  ];
  all_applied = λ e. absurd (omega (arith, e, a.next, a.within));
}

pub tips-applied : (job : Job) (v : View) → ApplyGoes job v → IsViewOf job v → TipsOf job (applied_next v)
tips-applied job v goes inv =
    let a = applied_is job v goes inv in
    let u = (ready_message v.hold).unit.0 in
    tips_by job v (applied_next v) inv.tips (λ unit s. inl (record {
      settled = s;
      issued = omega arith;
      tip = λ at t. elim (cases_eq unit u) [
        | inl is ↦ subst (λ w. TipAt v w at) (sym is) (tip_applied-own job v u (ready_message v.hold).version (ready_message v.hold).at at a (subst (λ w. TipAt (applied_next v) w at) is t))
        | inr n ↦ tip_applied-other job v u (ready_message v.hold).version (ready_message v.hold).at unit at a n t
      ];
      written = λ i l w. (l, w);
    }))

tips_effect : (job : Job) (v : View) (e : Event) (flag : Bool) → IsGoodJob job → fits job e ≡ true → IsViewOf job v → wait job v e flag ≡ None → TipsOf job (effect job v e)
tips_effect job v (Guest g) flag good f inv w = tips-guest job v g.0 good inv (guest_goes job v g.0 flag w)
tips_effect job v (Begin d) flag good f inv w = tips-begun job v d inv
tips_effect job v (Read d) flag good f inv w = tips-block_read job v d inv
tips_effect job v (Advance d) flag good f inv w = tips-advanced job v d (ltb-true d (length job.copy.disks) f) (running_is_live v.phase (advance_goes job v d flag w).running) inv
tips_effect job v (Release d) flag good f inv w = tips-released job v d (release_goes job v d flag w) inv
tips_effect job v Round flag good f inv w = tips-round job v (round_goes job v flag w) inv
tips_effect job v Page flag good f inv w = tips-page job v (page_goes job v flag w) inv
tips_effect job v (Send s) flag good f inv w = tips-sent job v s (ltb-true s job.config.streams f) inv
tips_effect job v (Deliver s) flag good f inv w = tips-delivered job v s (ltb-true s job.config.streams f) inv
tips_effect job v Apply flag good f inv w = tips-applied job v (apply_goes job v flag w) inv
tips_effect job v Ack flag good f inv w = inv.tips
tips_effect job v Credit flag good f inv w = inv.tips
tips_effect job v Stun flag good f inv w = tips-stunned job v (stun_goes job v flag w) inv
tips_effect job v Switch flag good f inv w = inv.tips
tips_effect job v Cancel flag good f inv w = tips-given_up job v Cancelled inv

tips_fault : (job : Job) (v : View) (e : Event) → IsViewOf job v → TipsOf job (fault_effect v e)
tips_fault job v (Guest g) inv = tips-ended_as job v g.0 inv
tips_fault job v (Release d) inv = tips-release_fault job v d inv
tips_fault job v (Begin d) inv = tips-given_up job v Failed inv
tips_fault job v (Read d) inv = tips-given_up job v Failed inv
tips_fault job v (Advance d) inv = tips-given_up job v Failed inv
tips_fault job v Round inv = tips-given_up job v Failed inv
tips_fault job v Page inv = tips-given_up job v Failed inv
tips_fault job v (Send s) inv = tips-given_up job v Failed inv
tips_fault job v (Deliver s) inv = tips-given_up job v Failed inv
tips_fault job v Apply inv = tips-given_up job v Failed inv
tips_fault job v Ack inv = tips-given_up job v Failed inv
tips_fault job v Credit inv = tips-given_up job v Failed inv
tips_fault job v Stun inv = tips-given_up job v Failed inv
tips_fault job v Switch inv = tips-given_up job v Failed inv
tips_fault job v Cancel inv = tips-given_up job v Failed inv

pub tips-step : (job : Job) (v : View) (e : Event) (flag : Bool) → IsGoodJob job → fits job e ≡ true → IsViewOf job v → TipsOf job (step job v e flag)
tips-step job v e flag good f inv = step_cases (TipsOf job) job v e flag inv.tips (λ w b. tips_effect job v e flag good f inv w) (λ w b. tips_fault job v e inv)
