-- How many versions are made in all: one for each block behind, and no more than the journal has entries beside.
use Rattle.std.specs.Prelude.{◌≡◌, ◌≤◌, ◌<◌, ℕ, zero, suc, ◌+◌, ◌^◌, Bool, true, false, List, [], ◌∷◌, length, map, set, replicate, get_or, sum, sum_by, if◌then◌else◌}
use Rattle.std.specs.List.{list_all}
use Rattle.std.proofs.Common.{arith, refl, sym, ap, subst, ◌∙◌}
use Rattle.std.proofs.lemmas.Bool.{and_parts}
use Rattle.std.proofs.lemmas.List.Sums.{sum_by-cons}
use Rattle.xv_base.specs.declared.unit.DiskShape.{DiskShape}
use Rattle.xv_base.specs.Units.{blocks, blocks_of, units}
use Rattle.xv_base.proofs.Within.{good_within}
use Rattle.xv_model.specs.Job.{Job, IsGoodJob, disk_of, unit_count}
use Rattle.xv_model.specs.View.{View, Disk, Outbox, no_disk, number, first_view, disk, front, least, is_running}
use Rattle.xv_model.specs.Wait.{Event, Aim, Alone, Store, Join, Mirror, fits, next_operation, next_aim}
use Rattle.xv_model.specs.Guest.{Ended}
use Rattle.xv_model.specs.Effect.{made, made_run, guest_by, cursor_unit, joined, front_gone, without_region, region_length}
use Rattle.xv_model.specs.Step.{Entry, step, after, run, is_flagged}
use Rattle.xv_model.specs.Invariant.{IsViewOf}
use Rattle.xv_job.specs.Written.{job_of}
use Rattle.xv_core.specs.State.{State, view, IsRunning}
use Rattle.xv_model.proofs.Steps.{EffectsKeep, step_keeps}
use Rattle.xv_core.proofs.Keeping.Joined.{shows, view-holds}
use Rattle.xv_core.proofs.Keeping.Counts.{journal-short, bound-small, history-within}

-- the blocks behind
abbrev pub behind : List Disk → ℕ
behind disks = sum_by (λ d. d.cursor) disks

cons-behind : (d : Disk) (disks : List Disk) → behind (d ∷ disks) ≡ d.cursor + behind disks
cons-behind d disks = sum_by-cons (λ (x : Disk). x.cursor) d disks

cons-sum : (n : ℕ) (ns : List ℕ) → sum (n ∷ ns) ≡ n + sum ns
cons-sum n ns = sum_by-cons (λ (k : ℕ). k) n ns

-- a disk with the cursor that it had
same-behind : (disks : List Disk) (d : ℕ) (new : Disk) → new.cursor ≡ (get_or disks d no_disk).cursor → behind (set disks d new) ≡ behind disks
same-behind [] d new e = refl
same-behind (x ∷ disks) zero new e = omega (arith, cons-behind new disks, cons-behind x disks, e)
same-behind (x ∷ disks) (suc d) new e = omega (arith, cons-behind x (set disks d new), cons-behind x disks, same-behind disks d new e)

advance-behind : (disks : List Disk) (d : ℕ) → behind (set disks d (record (get_or disks d no_disk) { cursor = (get_or disks d no_disk).cursor + (get_or disks d no_disk).region; region = 0; got = 0 })) ≡ behind disks + (get_or disks d no_disk).region
advance-behind [] d = refl
advance-behind (x ∷ disks) zero = omega (arith, cons-behind (record x { cursor = x.cursor + x.region; region = 0; got = 0 }) disks, cons-behind x disks)
advance-behind (x ∷ disks) (suc d) =
    let y = get_or disks d no_disk in
    omega (arith, cons-behind x (set disks d (record y { cursor = y.cursor + y.region; region = 0; got = 0 })), cons-behind x disks, advance-behind disks d)

given-behind : (disks : List Disk) → behind (map without_region disks) ≡ behind disks
given-behind [] = refl
given-behind (x ∷ disks) = omega (arith, cons-behind (without_region x) (map without_region disks), cons-behind x disks, given-behind disks)

-- a message that is made raises one unit's number by one
bumped : (issued : List ℕ) (unit : ℕ) → sum (set issued unit (number issued unit + 1)) ≤ sum issued + 1
bumped [] unit = omega arith
bumped (n ∷ issued) zero = omega (arith, cons-sum (n + 1) issued, cons-sum n issued)
bumped (n ∷ issued) (suc unit) = omega (arith, cons-sum n (set issued unit (number issued unit + 1)), cons-sum n issued, bumped issued unit)

made-more : (box : Outbox) (unit at : ℕ) → sum (made box unit at).issued ≤ sum box.issued + 1
made-more box unit at = bumped box.issued unit

made_if-more : (b : Bool) (box : Outbox) (unit at : ℕ) → sum (if b then made box unit at else box).issued ≤ sum box.issued + 1
made_if-more true box unit at = made-more box unit at
made_if-more false box unit at = omega arith

run-more : (box : Outbox) (unit at n : ℕ) → sum (made_run box unit at n).issued ≤ sum box.issued + n
run-more box unit at zero = omega arith
run-more box unit at (suc n) = omega (arith, run-more box unit at n, made-more (made_run box unit at n) (unit + n) at)

-- beside the blocks that fall behind, a step makes at most one version
abbrev OneMore : View → View → Type 0
OneMore v w = sum w.outbox.issued + behind v.disks ≤ sum v.outbox.issued + behind w.disks + 1

guest-more : (job : Job) (v : View) (g : ℕ) (a : Aim) → OneMore v (guest_by job v g (next_operation job v g) a)
guest-more job v g Alone = omega arith
guest-more job v g Store = omega arith
guest-more job v g Join =
    let d = disk_of job.copy (next_operation job v g).unit.0 in
    omega (arith, same-behind v.disks d (joined (disk v d) g (next_operation job v g).unit.0) refl)
guest-more job v g Mirror = omega (arith, made-more v.outbox (next_operation job v g).unit.0 (length v.history + 1))

effects-more : (job : Job) (v : View) → EffectsKeep (OneMore v) job v
effects-more job v =
    let same : OneMore v v = omega arith in
    record {
      guest = λ g there goes. guest-more job v g (next_aim job v g);
      guest_fault = λ g there goes. same;
      begin = λ d there goes. omega (arith, same-behind v.disks d (record (disk v d) { region = region_length job v d; got = 0 }) refl);
      read = λ d there goes. omega (arith, same-behind v.disks d (record (disk v d) { got = (disk v d).got + 1 }) refl);
      advance = λ d there goes. omega (arith, advance-behind v.disks d, run-more v.outbox (cursor_unit job v d) (length v.history) (disk v d).region);
      release = λ d there goes. omega (arith, same-behind v.disks d (front_gone (disk v d)) refl, made_if-more (is_running v.phase) v.outbox (front (disk v d)).unit.0 (length v.history + 1));
      release_fault = λ d there goes. omega (arith, same-behind v.disks d (front_gone (disk v d)) refl);
      round = λ goes. same;
      page = λ goes. omega (arith, made-more v.outbox (least v.to_send) (length v.history));
      send = λ s there goes. same;
      deliver = λ s there goes. same;
      apply = λ goes. same;
      ack = λ goes. same;
      credit = λ goes. same;
      stun = λ goes. same;
      switch = λ goes. same;
      cancel = λ goes. omega (arith, given-behind v.disks);
      fail = λ live. omega (arith, given-behind v.disks);
    }

step-more : (job : Job) (v : View) (e : Event) (flag : Bool) → fits job e ≡ true → OneMore v (step job v e flag)
step-more job v e flag fit = step_keeps (OneMore v) job v e flag fit (omega arith) (effects-more job v)

after-more : (job : Job) (v : View) (journal : List Entry) → list_all (λ (e : Entry). fits job e.event) journal ≡ true → sum (after job v journal).outbox.issued + behind v.disks ≤ sum v.outbox.issued + behind (after job v journal).disks + length journal
after-more job v [] fit = omega arith
after-more job v (e ∷ es) fit =
    let both = and_parts (fits job e.event) (list_all (λ (x : Entry). fits job x.event) es) fit in
    let next = step job v e.event (is_flagged e.turn) in
    omega (arith, after-more job next es both.1, step-more job v e.event (is_flagged e.turn) both.0)

none-issued : (n : ℕ) → sum (replicate n 0) ≡ 0
none-issued zero = refl
none-issued (suc n) = omega (arith, cons-sum 0 (replicate n 0), none-issued n)

run-more-issued : (job : Job) (journal : List Entry) → list_all (λ (e : Entry). fits job e.event) journal ≡ true → sum (run job journal).outbox.issued ≤ behind (run job journal).disks + length journal
run-more-issued job journal fit = omega (arith, after-more job (first_view job) journal fit, none-issued (unit_count job))

-- the blocks behind are no more than there are
behind-le : (shapes : List DiskShape) (disks : List Disk) → length disks ≡ length shapes → ((d : ℕ) → d < length disks → (get_or disks d no_disk).cursor + (get_or disks d no_disk).region ≤ blocks shapes d) → behind disks ≤ blocks_of shapes
behind-le [] [] same le = omega arith
behind-le [] (x ∷ disks) same le = absurd (omega arith)
behind-le (s ∷ shapes) [] same le = absurd (omega arith)
behind-le (s ∷ shapes) (x ∷ disks) same le =
    let here = le 0 (omega arith) in
    omega (arith, here, cons-behind x disks, behind-le shapes disks (omega arith) (λ d lt. le (suc d) (omega arith)))

pub few-behind : (job : Job) (v : View) → IsGoodJob job → IsViewOf job v → behind v.disks ≤ 1048576
few-behind job v good inv =
    let units = (good_within job.shape good.machine).few_units in
    let most : 2 ^ 20 ≡ 1048576 = refl in
    omega (arith, behind-le job.copy.disks v.disks inv.lists.disks inv.regions.cursor_fits, good.same_units)

pub few-issued : (s : State) → IsRunning s → sum (view s).outbox.issued ≤ 17825872
few-issued s r =
    let job = job_of s.job in
    omega (arith, run-more-issued job s.journal r.fitting, few-behind job (view s) r.good (view-holds s r), journal-short s r, bound-small job r.good)

-- and no more are written
sum-le : (ns ms : List ℕ) → length ns ≡ length ms → ((k : ℕ) → number ns k ≤ number ms k) → sum ns ≤ sum ms
sum-le [] ms same le = omega arith
sum-le (n ∷ ns) [] same le = absurd (omega arith)
sum-le (n ∷ ns) (m ∷ ms) same le = let here = le 0 in omega (arith, here, cons-sum n ns, cons-sum m ms, sum-le ns ms (omega arith) (λ k. le (suc k)))

pub few-applied : (s : State) → IsRunning s → sum (view s).hold.applied ≤ 17825872
few-applied s r =
    let inv = view-holds s r in
    omega (arith, few-issued s r, sum-le (view s).hold.applied (view s).outbox.issued (inv.lists.applied ∙ sym inv.lists.issued) inv.versions.in_order)

-- the view's `at` of each unit is that of the half
recorded-is : (s : State) → IsRunning s → (view s).hold.recorded ≡ s.dest.recorded
recorded-is s r = subst (λ (v : View). v.hold.recorded ≡ s.dest.recorded) r.shows refl

-- the sums over the halves fit 32 bits, and so does each `at` of what was written
pub record FewInAll (s : State) : Type 0 where
  pub disks : length s.source.disks ≡ length s.job.shape.disks
  pub blocks : behind s.source.disks < 2 ^ 32
  pub issued_each : length s.source.issued ≡ units s.job.shape
  pub issued : sum s.source.issued < 2 ^ 32
  pub applied_each : length s.dest.applied ≡ units s.job.shape
  pub applied : sum s.dest.applied < 2 ^ 32
  pub recorded : (unit : ℕ) → number s.dest.recorded unit < 2 ^ 32

pub few-in-all : (s : State) → IsRunning s → FewInAll s
few-in-all s r =
    let shown = shows s r in
    let inv = view-holds s r in
    record {
      disks = ap (λ (disks : List Disk). length disks) (sym shown.disks) ∙ inv.lists.disks;
      blocks = omega (arith, ap behind shown.disks, few-behind (job_of s.job) (view s) r.good inv);
      issued_each = ap (λ (ns : List ℕ). length ns) (sym shown.issued) ∙ inv.lists.issued;
      issued = omega (arith, ap (λ (ns : List ℕ). sum ns) shown.issued, few-issued s r);
      applied_each = ap (λ (ns : List ℕ). length ns) (sym shown.applied) ∙ inv.lists.applied;
      applied = omega (arith, ap (λ (ns : List ℕ). sum ns) shown.applied, few-applied s r);
      recorded = λ unit. omega (arith, ap (λ (ns : List ℕ). number ns unit) (recorded-is s r), inv.times.recorded_to_mark unit, inv.history.mark_within, ap (λ (h : List Ended). length h) shown.history, history-within s r, r.good.operations);
    }
