-- A settled unit with nothing outstanding has on the destination what the guest has now.
use Rattle.std.specs.Prelude.{◌≡◌, ◌≤◌, ◌<◌, ℕ, nat_lt, true, false, length}
use Rattle.std.proofs.Common.{arith, refl, sym, ◌∙◌}
use Rattle.std.proofs.lemmas.Bool.{and_parts, ltb-true, false_from_ne_true}
use Rattle.xv_model.specs.Job.{Job, unit_count, units}
use Rattle.xv_model.specs.Guest.{content, wrote}
use Rattle.xv_model.specs.View.{View, number, is_live}
use Rattle.xv_model.specs.Outstanding.{outstanding, of_unit}
use Rattle.xv_model.specs.Invariant.{IsViewOf, is_settled}
use Rattle.xv_model.specs.Contents.{Contents, HoldsContents, unit_content}
use Rattle.xv_model.proofs.GoesOn.{live_not_switched}
use Rattle.xv_model.proofs.Contents.Switching.{content-unwritten_from}
use Rattle.xv_model.proofs.Sums.Versions.{issued-sum}

abbrev settled_in : Job → View → ℕ → Type 0
settled_in job v unit = is_settled job.copy v.disks v.dirty v.to_send unit ≡ true

pub settled-applied : (job : Job) (v : View) (unit : ℕ) → IsViewOf job v → settled_in job v unit → outstanding v (of_unit unit) ≡ 0 → 0 < number v.hold.applied unit
settled-applied job v unit inv settled none =
    let sum = issued-sum job v unit inv in
    let made = inv.tips.made unit settled in
    omega arith

pub settled-last : (job : Job) (v : View) (unit : ℕ) → IsViewOf job v → is_live v.phase ≡ true → settled_in job v unit → outstanding v (of_unit unit) ≡ 0 → content job v.history unit (number v.hold.recorded unit) ≡ content job v.history unit (length v.history)
settled-last job v unit inv live settled none =
    let sum = issued-sum job v unit inv in
    let mark = inv.history.marked live in
    let recorded = inv.times.recorded_to_mark unit in
    let unwritten : (i : ℕ) → number v.hold.recorded unit ≤ i → i < length v.history → wrote job v.history unit i ≡ false
    = λ i le l. false_from_ne_true (wrote job v.history unit i) (λ wrote. (let before = inv.tips.covers unit (number v.hold.recorded unit) i settled (record { outstanding = λ some. absurd (omega arith); all_applied = λ e. refl }) (omega arith) wrote in omega arith)) in
    sym (content-unwritten_from job v.history unit (number v.hold.recorded unit) (length v.history) (omega arith) unwritten)

settled-unit : (job : Job) (v : View) (unit : ℕ) → settled_in job v unit → unit < unit_count job
settled-unit job v unit settled = ltb-true unit (units job.copy) (and_parts (nat_lt unit (units job.copy)) _ settled).0

pub settled-sides : (job : Job) (v : View) (c : Contents) (unit : ℕ) → IsViewOf job v → HoldsContents job v c → is_live v.phase ≡ true → settled_in job v unit → outstanding v (of_unit unit) ≡ 0 → unit_content c.dest unit ≡ unit_content c.source unit
settled-sides job v c unit inv holds live settled none =
    let there = settled-unit job v unit settled in
    let off = live_not_switched v.phase live in
    holds.dest_is unit there off (settled-applied job v unit inv settled none) ∙ settled-last job v unit inv live settled none ∙ sym (holds.source_is unit there off)
