-- A block that is not behind has no version: kept by every step.
use Rattle.std.proofs.Common.{◌≡◌, ◌≤◌, ◌<◌, ◌⊎◌, inl, inr, ℕ, ◌+◌, ◌-◌, Bool, true, false, not, ◌&&◌, List, length, get_or, set, map, None, refl, sym, ap, subst, ◌∙◌, arith}
use Rattle.std.specs.Prelude.{nat_lt, nat_le, if◌then◌else◌}
use Rattle.std.proofs.lemmas.Bool.{cases_eq, cases_lt, ltb-true, lt-ltb, le-leb, both_ways}
use Rattle.std.proofs.lemmas.List.{get_or-set_other}
use Rattle.xv_model.specs.Job.{Job, Shape, UnitOp, IsGoodJob, units, unit_count, is_page, disk_of, block_of}
use Rattle.xv_model.specs.View.{View, Disk, Outbox, Phase, no_disk, disk, front, number, least, is_running, is_behind}
use Rattle.xv_model.specs.Wait.{Event, Aim, Alone, Store, Join, Mirror, aim, next_operation, next_aim, fits, wait}
use Rattle.xv_model.specs.Effect.{made, joined, without_region, cursor_unit, ended_as, guest_by, guest_done, begun, block_read, advanced, released, page_sent_off, given_up, effect, fault_effect, Outcome}
use Rattle.xv_model.specs.Step.{step}
use Rattle.xv_model.specs.Invariant.{UnsentHaveNone, IsViewOf, is_unsent_block, is_behind_block}
use Rattle.xv_base.specs.declared.event.Phase.TheVariants.{Cancelled, Failed}
use Rattle.xv_base.specs.declared.operation.Outcome.TheVariants.{Faulted}
use Rattle.xv_base.specs.declared.event.Event.TheVariants.{Guest, Begin, Read, Advance, Release, Round, Page, Send, Deliver, Apply, Ack, Credit, Stun, Switch, Cancel}
use Rattle.xv_model.proofs.GoesOn.{aim-mirror, PageGoes, page_goes, ReleaseGoes, release_goes}
use Rattle.xv_model.proofs.Layouts.{is_block_after, SameCursors, cursors_kept, no_regions, same_unsent, unsent_before, behind_now, page_from, behind_block, cursor_of}
use Rattle.xv_model.proofs.Bags.{issued-run-other}
use Rattle.xv_model.proofs.Steps.{step_cases}

abbrev pub UnsentOf : Job → View → Type 0
UnsentOf job v = UnsentHaveNone v.outbox.issued (is_unsent_block job.copy v.disks)

-- which units are not unsent blocks
third_false : (a b c : Bool) → c ≡ true → (a && b && not c) ≡ false
third_false true true true e = refl
third_false true true false e = absurd (cc)
third_false true false c e = refl
third_false false b c e = refl

second_false : (a b c : Bool) → b ≡ true → (a && not b && c) ≡ false
second_false true true c e = refl
second_false true false c e = absurd (cc)
second_false false b c e = refl

pub behind-not_unsent : (s : Shape) (ds : List Disk) (u : ℕ) → is_behind (get_or ds (disk_of s u) no_disk) (block_of s u) ≡ true → is_unsent_block s ds u ≡ false
behind-not_unsent s ds u e = third_false (nat_lt u (units s)) (not (is_page s u)) (is_behind (get_or ds (disk_of s u) no_disk) (block_of s u)) e

pub page-not_unsent : (s : Shape) (ds : List Disk) (u : ℕ) → is_page s u ≡ true → is_unsent_block s ds u ≡ false
page-not_unsent s ds u e = second_false (nat_lt u (units s)) (is_page s u) (not (is_behind (get_or ds (disk_of s u) no_disk) (block_of s u))) e

-- the front of a queue whose write may be released lies behind the cursor
behind_by : (block cursor region : ℕ) → block < cursor + region → (nat_le cursor block && nat_lt block (cursor + region)) ≡ false → nat_lt block cursor ≡ true
behind_by block cursor region l e = elim (cases_lt block cursor) [
  | inl h ↦ lt-ltb block cursor h
  | inr h ↦
      let both : (nat_le cursor block && nat_lt block (cursor + region)) ≡ true = rw (le-leb cursor block h, lt-ltb block (cursor + region) l) refl in
      absurd (both_ways _ e both)
]

pub record FrontIs (job : Job) (v : View) (d : ℕ) : Type 0 where
  pub in_range : (front (disk v d)).unit.0 < units job.copy
  pub block : is_page job.copy (front (disk v d)).unit.0 ≡ false
  pub of_disk : disk_of job.copy (front (disk v d)).unit.0 ≡ d
  pub behind : is_running v.phase ≡ true → is_behind (get_or v.disks (disk_of job.copy (front (disk v d)).unit.0) no_disk) (block_of job.copy (front (disk v d)).unit.0) ≡ true

pub front_is : (job : Job) (v : View) (d : ℕ) → IsViewOf job v → ReleaseGoes job v d → FrontIs job v d
front_is job v d inv goes =
    let q = inv.queues.of_disk d 0 goes.some_queue in
    record {
      in_range = q.1;
      block = q.0;
      of_disk = q.2;
      behind = λ r.
          let here = behind_by (block_of job.copy (front (disk v d)).unit.0) (disk v d).cursor (disk v d).region (inv.queues.not_ahead d 0 r goes.some_queue) (goes.not_inside r) in
          subst (λ k. is_behind (get_or v.disks k no_disk) (block_of job.copy (front (disk v d)).unit.0) ≡ true) (sym q.2) here;
    }

-- what leaves every cursor, and what makes a message for a unit that is no unsent block
unsent_cursors : (s : Shape) (ds ds' : List Disk) (issued : List ℕ) → SameCursors ds' ds → UnsentHaveNone issued (is_unsent_block s ds) → UnsentHaveNone issued (is_unsent_block s ds')
unsent_cursors s ds ds' issued same h = subst (UnsentHaveNone issued) (sym (same_unsent s ds' ds same)) h

unsent_set : (issued : List ℕ) (unsent : ℕ → Bool) (u n : ℕ) → unsent u ≡ false → UnsentHaveNone issued unsent → UnsentHaveNone (set issued u n) unsent
unsent_set issued unsent u n e h = record {
  none = λ w t. elim (cases_eq w u) [
    | inl f ↦ absurd (both_ways (unsent u) e (ap unsent (sym f) ∙ t))
    | inr f ↦ get_or-set_other issued u w n 0 f ∙ h.none w t
  ];
}

-- each effect
unsent_guest_by : (job : Job) (v : View) (g : ℕ) (op : UnitOp) (a : Aim) → aim job v op ≡ a → IsViewOf job v → UnsentOf job (guest_by job v g op a)
unsent_guest_by job v g op Alone e inv = inv.unsent
unsent_guest_by job v g op Store e inv = inv.unsent
unsent_guest_by job v g op Join e inv = unsent_cursors job.copy v.disks (set v.disks (disk_of job.copy op.unit.0) (joined (disk v (disk_of job.copy op.unit.0)) g op.unit.0)) v.outbox.issued (cursors_kept v.disks (disk_of job.copy op.unit.0) _ refl) inv.unsent
unsent_guest_by job v g op Mirror e inv = unsent_set v.outbox.issued _ op.unit.0 (number v.outbox.issued op.unit.0 + 1) (behind-not_unsent job.copy v.disks op.unit.0 (aim-mirror job v op e).behind) inv.unsent

pub unsent-guest : (job : Job) (v : View) (g : ℕ) → IsViewOf job v → UnsentOf job (guest_done job v g)
unsent-guest job v g inv = unsent_guest_by job v g (next_operation job v g) (next_aim job v g) refl inv

pub unsent-begun : (job : Job) (v : View) (d : ℕ) → IsViewOf job v → UnsentOf job (begun job v d)
unsent-begun job v d inv = unsent_cursors job.copy v.disks (begun job v d).disks v.outbox.issued (cursors_kept v.disks d _ refl) inv.unsent

pub unsent-block_read : (job : Job) (v : View) (d : ℕ) → IsViewOf job v → UnsentOf job (block_read v d)
unsent-block_read job v d inv = unsent_cursors job.copy v.disks (block_read v d).disks v.outbox.issued (cursors_kept v.disks d _ refl) inv.unsent

-- where a unit lies against a run of units
pub run_cases : (first n u : ℕ) → ((u < first) ⊎ (first + n ≤ u)) ⊎ ((first ≤ u) × (u < first + n))
run_cases first n u = elim (cases_lt u first) [
  | inl a ↦ inl (inl a)
  | inr a ↦ elim (cases_lt u (first + n)) [ inl b ↦ inr (a, b) | inr b ↦ inl (inr b) ]
]

behind-is_behind : (s : Shape) (ds : List Disk) (u : ℕ) → is_behind_block s ds u ≡ true → is_behind (get_or ds (disk_of s u) no_disk) (block_of s u) ≡ true
behind-is_behind s ds u h = lt-ltb (block_of s u) (cursor_of s ds u) (behind_block s ds u h).behind

-- the units of a region that is sent off were unsent, and are behind then
pub record RunIs (job : Job) (v : View) (d u : ℕ) : Type 0 where
  pub behind : is_behind_block job.copy (advanced job v d).disks u ≡ true
  pub unsent : is_unsent_block job.copy v.disks u ≡ true

pub run_is : (job : Job) (v : View) (d u : ℕ) → IsViewOf job v → d < length job.copy.disks → cursor_unit job v d ≤ u → u < cursor_unit job v d + (disk v d).region → RunIs job v d u
run_is job v d u inv l a b =
    let k = u - cursor_unit job v d in
    let same : cursor_unit job v d + k ≡ u = omega (arith, a) in
    let in_view : d < length v.disks = omega (arith, l, inv.lists.disks) in
    let now = behind_now job.copy v.disks d (record (disk v d) { cursor = (disk v d).cursor + (disk v d).region; region = 0; got = 0 }) k in_view l (inv.regions.cursor_fits d in_view) (omega (arith, a, b)) in
    record {
      behind = subst (λ w. is_behind_block job.copy (advanced job v d).disks w ≡ true) same now.0;
      unsent = subst (λ w. is_unsent_block job.copy v.disks w ≡ true) same now.1;
    }

-- and their units are in range
pub run_fits : (job : Job) (v : View) (d : ℕ) → d < length job.copy.disks → IsViewOf job v → 0 < (disk v d).region → cursor_unit job v d + (disk v d).region ≤ unit_count job
run_fits job v d l inv some =
    let in_view : d < length v.disks = omega (arith, l, inv.lists.disks) in
    let fits = inv.regions.cursor_fits d in_view in
    let last = is_block_after job.copy d (disk v d).cursor ((disk v d).region - 1) l (omega (arith, fits, some)) in
    omega (arith, last.in_range, some)

pub unsent-advanced : (job : Job) (v : View) (d : ℕ) → d < length job.copy.disks → IsViewOf job v → UnsentOf job (advanced job v d)
unsent-advanced job v d l inv =
    let new : Disk = record (disk v d) { cursor = (disk v d).cursor + (disk v d).region; region = 0; got = 0 } in
    let in_view : d < length v.disks = omega (arith, l, inv.lists.disks) in
    record {
      none = λ u t. elim (run_cases (cursor_unit job v d) (disk v d).region u) [
        | inl out ↦ issued-run-other v.outbox (cursor_unit job v d) (length v.history) (disk v d).region u out ∙ inv.unsent.none u (unsent_before job.copy v.disks d new u in_view (omega arith) t)
        | inr run ↦ absurd (both_ways (is_unsent_block job.copy (advanced job v d).disks u) (behind-not_unsent job.copy (advanced job v d).disks u (behind-is_behind job.copy (advanced job v d).disks u (run_is job v d u inv l run.0 run.1).behind)) t)
      ];
    }

unsent_if : (b : Bool) (unsent : ℕ → Bool) (box : Outbox) (u at : ℕ) → (b ≡ true → unsent u ≡ false) → UnsentHaveNone box.issued unsent → UnsentHaveNone (if b then made box u at else box).issued unsent
unsent_if true unsent box u at e h = unsent_set box.issued unsent u (number box.issued u + 1) (e refl) h
unsent_if false unsent box u at e h = h

pub unsent-released : (job : Job) (v : View) (d : ℕ) → ReleaseGoes job v d → IsViewOf job v → UnsentOf job (released v d)
unsent-released job v d goes inv =
    let at_front = front_is job v d inv goes in
    unsent_cursors job.copy v.disks (released v d).disks (released v d).outbox.issued (cursors_kept v.disks d _ refl)
    (unsent_if (is_running v.phase) (is_unsent_block job.copy v.disks) v.outbox (front (disk v d)).unit.0 (length v.history + 1)
    (λ r. behind-not_unsent job.copy v.disks (front (disk v d)).unit.0 (at_front.behind r)) inv.unsent)

pub unsent-page : (job : Job) (v : View) → PageGoes job v → IsViewOf job v → UnsentOf job (page_sent_off v)
unsent-page job v goes inv =
    unsent_set v.outbox.issued (is_unsent_block job.copy v.disks) (least v.to_send) (number v.outbox.issued (least v.to_send) + 1)
    (page-not_unsent job.copy v.disks (least v.to_send) (page_from job.copy (least v.to_send) (omega (arith, goes.in_range, inv.lists.to_send)))) inv.unsent

pub unsent-given_up : (job : Job) (v : View) (phase : Phase) → IsViewOf job v → UnsentOf job (given_up v phase)
unsent-given_up job v phase inv = unsent_cursors job.copy v.disks (map without_region v.disks) v.outbox.issued (no_regions v.disks) inv.unsent

pub unsent-ended_as : (job : Job) (v : View) (g : ℕ) (outcome : Outcome) → IsViewOf job v → UnsentOf job (ended_as v g outcome)
unsent-ended_as job v g outcome inv = inv.unsent

pub unsent-release_fault : (job : Job) (v : View) (d : ℕ) → IsViewOf job v → UnsentOf job (fault_effect v (Release d))
unsent-release_fault job v d inv = unsent_cursors job.copy v.disks (fault_effect v (Release d)).disks v.outbox.issued (cursors_kept v.disks d _ refl) inv.unsent

unsent_effect : (job : Job) (v : View) (e : Event) (flag : Bool) → fits job e ≡ true → IsViewOf job v → wait job v e flag ≡ None → UnsentOf job (effect job v e)
unsent_effect job v (Guest g) flag f inv w = unsent-guest job v g.0 inv
unsent_effect job v (Begin d) flag f inv w = unsent-begun job v d inv
unsent_effect job v (Read d) flag f inv w = unsent-block_read job v d inv
unsent_effect job v (Advance d) flag f inv w = unsent-advanced job v d (ltb-true d (length job.copy.disks) f) inv
unsent_effect job v (Release d) flag f inv w = unsent-released job v d (release_goes job v d flag w) inv
unsent_effect job v Round flag f inv w = inv.unsent
unsent_effect job v Page flag f inv w = unsent-page job v (page_goes job v flag w) inv
unsent_effect job v (Send s) flag f inv w = inv.unsent
unsent_effect job v (Deliver s) flag f inv w = inv.unsent
unsent_effect job v Apply flag f inv w = inv.unsent
unsent_effect job v Ack flag f inv w = inv.unsent
unsent_effect job v Credit flag f inv w = inv.unsent
unsent_effect job v Stun flag f inv w = inv.unsent
unsent_effect job v Switch flag f inv w = inv.unsent
unsent_effect job v Cancel flag f inv w = unsent-given_up job v Cancelled inv

unsent_fault : (job : Job) (v : View) (e : Event) → IsViewOf job v → UnsentOf job (fault_effect v e)
unsent_fault job v (Guest g) inv = unsent-ended_as job v g.0 Faulted inv
unsent_fault job v (Release d) inv = unsent-release_fault job v d inv
unsent_fault job v (Begin d) inv = unsent-given_up job v Failed inv
unsent_fault job v (Read d) inv = unsent-given_up job v Failed inv
unsent_fault job v (Advance d) inv = unsent-given_up job v Failed inv
unsent_fault job v Round inv = unsent-given_up job v Failed inv
unsent_fault job v Page inv = unsent-given_up job v Failed inv
unsent_fault job v (Send s) inv = unsent-given_up job v Failed inv
unsent_fault job v (Deliver s) inv = unsent-given_up job v Failed inv
unsent_fault job v Apply inv = unsent-given_up job v Failed inv
unsent_fault job v Ack inv = unsent-given_up job v Failed inv
unsent_fault job v Credit inv = unsent-given_up job v Failed inv
unsent_fault job v Stun inv = unsent-given_up job v Failed inv
unsent_fault job v Switch inv = unsent-given_up job v Failed inv
unsent_fault job v Cancel inv = unsent-given_up job v Failed inv

pub unsent-step : (job : Job) (v : View) (e : Event) (flag : Bool) → IsGoodJob job → fits job e ≡ true → IsViewOf job v → UnsentOf job (step job v e flag)
unsent-step job v e flag good f inv = step_cases (UnsentOf job) job v e flag inv.unsent (λ w b. unsent_effect job v e flag f inv w) (λ w b. unsent_fault job v e inv)
