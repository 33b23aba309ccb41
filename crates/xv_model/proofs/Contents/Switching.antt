-- At the switchover nothing is outstanding, every unit is settled, and so the destination has the guest's contents.
use Rattle.std.specs.Prelude.{◌≡◌, ◌≤◌, ◌<◌, ℕ, zero, suc, ◌==◌, ◌||◌, ◌&&◌, Bool, true, false, List, [], ◌∷◌, length, map, get_or, None, unwrap_or, if◌then◌else◌}
use Rattle.std.proofs.Common.{arith, refl, ap, sym, ◌∙◌, inl, inr}
use Rattle.std.proofs.lemmas.Bool.{cases_lt, cases_Bool, eqb-true, and_parts, or_left, false_from_ne_true}
use Rattle.xv_base.specs.declared.unit.DiskShape.{DiskShape}
use Rattle.xv_model.specs.Job.{Job, unit_count, is_page, disk_of, blocks}
use Rattle.xv_model.specs.Guest.{Ended, content, wrote, written, operation_at}
use Rattle.xv_model.specs.View.{View, Disk, UnitHead, no_disk, number, all_copied_by, is_stunned, is_switched}
use Rattle.xv_model.specs.Wait.{wait}
use Rattle.xv_model.specs.Effect.{switched}
use Rattle.xv_model.specs.Outstanding.{count, count_groups, count_streams, outstanding, any, is_version}
use Rattle.xv_model.specs.Invariant.{IsViewOf, is_settled}
use Rattle.xv_model.specs.Contents.{Contents, HoldsContents}
use Rattle.xv_model.proofs.GoesOn.{SwitchGoes, switch_goes, none-member, stunned_is_live, live_not_switched}
use Rattle.xv_model.proofs.Layouts.{disk_in, block_in, settled_page, settled_block, behind_block_from}
use Rattle.xv_base.specs.declared.event.Event.TheVariants.{Switch}

count-any : (test : UnitHead → Bool) (ms : List UnitHead) → count test ms ≤ count any ms
count-any test [] = omega arith
count-any test (m ∷ ms) =
    let rest = count-any test ms in
    let here : (if test m then 1 else 0) ≤ 1 = elim (test m) as (λ b. (if b then 1 else 0) ≤ 1) [ true ↦ omega arith | false ↦ omega arith ] in
    omega arith

count_groups-any : (test : UnitHead → Bool) (gs : List (List UnitHead)) → count_groups test gs ≤ count_groups any gs
count_groups-any test [] = omega arith
count_groups-any test (g ∷ gs) = let here = count-any test g in let rest = count_groups-any test gs in omega arith

count_streams-any : (test : UnitHead → Bool) (ss : List (List (List UnitHead))) → count_streams test ss ≤ count_streams any ss
count_streams-any test [] = omega arith
count_streams-any test (s ∷ ss) = let here = count_groups-any test s in let rest = count_streams-any test ss in omega arith

none_outstanding : (job : Job) (v : View) (test : UnitHead → Bool) → IsViewOf job v → SwitchGoes job v → outstanding v test ≡ 0
none_outstanding job v test inv goes =
    let whole = inv.credit.sums in
    let back = goes.credit_back in
    let streams = count_streams-any test v.streams in
    let held = count-any test v.hold.held in
    let made : count test v.outbox.messages ≡ 0 = ap (count test) goes.none_made in
    omega arith

pub switched_means_nothing_outstanding : (job : Job) (v : View) (flag : Bool) (test : UnitHead → Bool) → IsViewOf job v → wait job v Switch flag ≡ None → outstanding v test ≡ 0
switched_means_nothing_outstanding job v flag test inv goes = none_outstanding job v test inv (switch_goes job v flag goes)

-- every version made is applied
applied_all : (job : Job) (v : View) (unit : ℕ) → IsViewOf job v → SwitchGoes job v → number v.hold.applied unit ≡ number v.outbox.issued unit
applied_all job v unit inv goes =
    let order = inv.versions.in_order unit in
    elim (cases_lt (number v.hold.applied unit) (number v.outbox.issued unit)) [
      | inl lt ↦
          let one = inv.versions.once unit (number v.outbox.issued unit) lt (omega arith) in
          let none = none_outstanding job v (is_version unit (number v.outbox.issued unit)) inv goes in
          absurd (omega arith)
      | inr le ↦ omega arith
    ]

-- a disk that is copied has all its blocks behind its cursor
copied-cursor : (shapes : List DiskShape) (ds : List Disk) (d : ℕ) → all_copied_by (map (λ s. s.blocks) shapes) ds ≡ true → d < length shapes → (get_or ds d no_disk).cursor ≡ blocks shapes d
copied-cursor [] ds d e lt = absurd (omega arith)
copied-cursor (s ∷ shapes) [] d e lt = absurd (cc)
copied-cursor (s ∷ shapes) (x ∷ ds) zero e lt = eqb-true x.cursor s.blocks (and_parts (x.cursor == s.blocks) (x.region == 0) (and_parts ((x.cursor == s.blocks) && (x.region == 0)) (all_copied_by (map (λ s. s.blocks) shapes) ds) e).0).0
copied-cursor (s ∷ shapes) (x ∷ ds) (suc d) e lt = copied-cursor shapes ds d (and_parts ((x.cursor == s.blocks) && (x.region == 0)) (all_copied_by (map (λ s. s.blocks) shapes) ds) e).1 (omega arith)

settled_all : (job : Job) (v : View) (unit : ℕ) → IsViewOf job v → SwitchGoes job v → unit < unit_count job → is_settled job.copy v.disks v.dirty v.to_send unit ≡ true
settled_all job v unit inv goes lt =
    let quiet : (is_stunned v.phase || is_switched v.phase) ≡ true = or_left (is_stunned v.phase) (is_switched v.phase) goes.stunned in
    elim (cases_Bool (is_page job.copy unit)) [
      | inl page ↦ settled_page job.copy v.disks v.dirty v.to_send unit lt page (none-member v.dirty unit (inv.quiet.none_dirty quiet)) (none-member v.to_send unit goes.none_to_send)
      | inr block ↦
          let cursor = copied-cursor job.copy.disks v.disks (disk_of job.copy unit) (inv.quiet.all_copied quiet) (disk_in job.copy unit block lt) in
          let below = block_in job.copy unit block lt in
          settled_block job.copy v.disks v.dirty v.to_send unit (behind_block_from job.copy v.disks unit (record { in_range = lt; no_page = block; behind = omega arith }))
    ]

-- entries that write nothing to a unit leave its content as it was
pub content-unwritten_from : (job : Job) (h : List Ended) (unit a n : ℕ) → a ≤ n → ((i : ℕ) → a ≤ i → i < n → wrote job h unit i ≡ false) → content job h unit n ≡ content job h unit a
content-unwritten_from job h unit a zero le none = let e : zero ≡ a = omega arith in ap (content job h unit) e
content-unwritten_from job h unit a (suc n) le none = elim (cases_lt n a) [
  | inl lt ↦ let e : suc n ≡ a = omega arith in ap (content job h unit) e
  | inr from ↦ ap (λ b. written b (operation_at job h n) (content job h unit n)) (none n from (omega arith)) ∙ content-unwritten_from job h unit a n from (λ i l m. none i l (omega arith))
]

-- what was last applied to each unit is the guest's content after the whole history
pub applied_is_last : (job : Job) (v : View) (unit : ℕ) → IsViewOf job v → SwitchGoes job v → unit < unit_count job → (0 < number v.hold.applied unit) × (content job v.history unit (number v.hold.recorded unit) ≡ content job v.history unit (length v.history))
applied_is_last job v unit inv goes lt =
    let settled = settled_all job v unit inv goes lt in
    let issued = inv.tips.made unit settled in
    let all = applied_all job v unit inv goes in
    let mark = inv.history.marked (stunned_is_live v.phase goes.stunned) in
    let recorded = inv.times.recorded_to_mark unit in
    let none : (i : ℕ) → number v.hold.recorded unit ≤ i → i < length v.history → wrote job v.history unit i ≡ false
    = λ i le l. false_from_ne_true (wrote job v.history unit i) (λ wrote. (let before = inv.tips.covers unit (number v.hold.recorded unit) i settled (record { outstanding = λ some. absurd (omega arith); all_applied = λ e. refl }) (omega arith) wrote in omega arith)) in
    (omega arith, sym (content-unwritten_from job v.history unit (number v.hold.recorded unit) (length v.history) (omega arith) none))

pub contents-switched : (job : Job) (v : View) (c : Contents) → IsViewOf job v → SwitchGoes job v → HoldsContents job v c → HoldsContents job (switched v) c
contents-switched job v c inv goes holds =
    let live = stunned_is_live v.phase goes.stunned in
    let off = live_not_switched v.phase live in
    let stun : unwrap_or v.stun 0 ≡ length v.history = ap (λ o. unwrap_or o 0) (inv.quiet.has_stun (or_left (is_stunned v.phase) (is_switched v.phase) goes.stunned)) ∙ inv.history.marked live in
    record {
      source_length = holds.source_length;
      dest_length = holds.dest_length;
      source_is = λ unit lt on. absurd (cc);
      outbox_is = holds.outbox_is;
      streams_are = holds.streams_are;
      held_is = holds.held_is;
      dest_is = λ unit lt on. absurd (cc);
      regions_length = holds.regions_length;
      region_length = holds.region_length;
      region_is = holds.region_is;
      dest_switched = λ unit lt on. let last = applied_is_last job v unit inv goes lt in holds.dest_is unit lt off last.0 ∙ last.1;
      source_switched = λ unit lt on. holds.source_is unit lt off ∙ ap (content job v.history unit) (sym stun);
      reads_are = holds.reads_are;
    }
