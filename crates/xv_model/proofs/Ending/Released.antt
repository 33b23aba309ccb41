-- A write that waits where the migration has ended is done on the source, and ends.
use Rattle.std.specs.Prelude.{◌≡◌, ◌≢◌, ◌<◌, ℕ, ◌&&◌, Bool, true, false, [], ◌∷◌, ◌++◌, length, drop, set, Some, None, if◌then◌else◌}
use Rattle.std.proofs.Common.{refl, ap, ◌∙◌, inl, inr}
use Rattle.std.proofs.lemmas.Bool.{and_right, both_ways, cases_lt, or_right}
use Rattle.std.proofs.lemmas.List.{get_or-set_same, get_or-set_other, get_or_past}
use Rattle.xv_model.specs.Job.{Job, block_of}
use Rattle.xv_model.specs.View.{View, Disk, no_disk, disk, front, is_empty, is_running, is_stunned, is_switched, is_live, is_inside}
use Rattle.xv_model.specs.Wait.{reaches, is_full, unless, wait}
use Rattle.xv_model.specs.Effect.{Outcome, front_gone}
use Rattle.xv_model.specs.Step.{step, view_by}
use Rattle.xv_model.specs.Invariant.{IsViewOf}
use Rattle.xv_model.specs.Contents.{Contents, unit_content, after_operation, front_operation, contents_by, step_contents}
use Rattle.xv_base.specs.declared.operation.Outcome.TheVariants.{Done, Faulted}
use Rattle.xv_base.specs.declared.answer.Why.TheVariants.{CancelDue, NotNow, NothingThere, Throttled}
use Rattle.xv_base.specs.declared.event.Event.TheVariants.{Release}
use Rattle.xv_model.proofs.GoesOn.{queues_empty-queue}
use Rattle.xv_model.proofs.Ending.Dead.{with_ended, dead_not_running, dead_release, dead_release_fault}

-- the four tests that a release makes
release_passes : (empty due inside full : Bool) → empty ≡ false → due ≡ false → inside ≡ false → full ≡ false → unless empty NothingThere (unless due CancelDue (unless inside NotNow (unless full Throttled None))) ≡ None
release_passes false false false false a b c d = refl
release_passes true due inside full a b c d = absurd (cc)
release_passes false true inside full a b c d = absurd (cc)
release_passes false false true full a b c d = absurd (cc)
release_passes false false false true a b c d = absurd (cc)

not_and : (a b : Bool) → a ≡ false → (a && b) ≡ false
not_and true b h = absurd (cc)
not_and false b h = refl

pub release-goes : (job : Job) (v : View) (d : ℕ) (flag : Bool) → is_live v.phase ≡ false → is_empty (disk v d).queue ≡ false → wait job v (Release d) flag ≡ None
release-goes job v d flag dead some =
    let still = dead_not_running v.phase dead in
    release_passes (is_empty (disk v d).queue) (reaches job.config.cancel (length v.history) && is_live v.phase) (is_running v.phase && is_inside (disk v d) (block_of job.copy (front (disk v d)).unit.0)) (is_running v.phase && is_full job v)
    some (and_right (reaches job.config.cancel (length v.history)) (is_live v.phase) dead) (not_and (is_running v.phase) _ still) (not_and (is_running v.phase) _ still)

abbrev pub outcome_of : Bool → Outcome
outcome_of flag = if flag then Faulted else Done

released-step : (job : Job) (v : View) (d : ℕ) (flag : Bool) → is_live v.phase ≡ false → is_empty (disk v d).queue ≡ false → step job v (Release d) flag ≡ with_ended v (outcome_of flag) (front (disk v d)).guest.0 (set v.disks d (front_gone (disk v d)))
released-step job v d true dead some = ap (λ w. view_by w true job v (Release d)) (release-goes job v d true dead some) ∙ dead_release_fault v d dead
released-step job v d false dead some = ap (λ w. view_by w false job v (Release d)) (release-goes job v d false dead some) ∙ dead_release v d dead

pub released-history : (job : Job) (v : View) (d : ℕ) (flag : Bool) → is_live v.phase ≡ false → is_empty (disk v d).queue ≡ false → (step job v (Release d) flag).history ≡ v.history ++ record { guest = (front (disk v d)).guest; outcome = if flag then Faulted else Done } ∷ []
released-history job v d flag dead some = ap (λ (w : View). w.history) (released-step job v d flag dead some)

-- a disk where somebody waits is there
disk_there : (v : View) (d : ℕ) → is_empty (disk v d).queue ≡ false → d < length v.disks
disk_there v d some = elim (cases_lt d (length v.disks)) [
  | inl lt ↦ lt
  | inr past ↦ absurd (both_ways (is_empty (disk v d).queue) some (ap (λ (k : Disk). is_empty k.queue) (get_or_past v.disks d no_disk past)))
]

pub released-queue : (job : Job) (v : View) (d : ℕ) (flag : Bool) → is_live v.phase ≡ false → is_empty (disk v d).queue ≡ false → (disk (step job v (Release d) flag) d).queue ≡ drop 1 (disk v d).queue
released-queue job v d flag dead some =
    ap (λ (w : View). (disk w d).queue) (released-step job v d flag dead some)
    ∙ ap (λ (k : Disk). k.queue) (get_or-set_same v.disks d (front_gone (disk v d)) no_disk (disk_there v d some))

pub released-others : (job : Job) (v : View) (d other : ℕ) (flag : Bool) → is_live v.phase ≡ false → is_empty (disk v d).queue ≡ false → other ≢ d → disk (step job v (Release d) flag) other ≡ disk v other
released-others job v d other flag dead some apart =
    ap (λ (w : View). disk w other) (released-step job v d flag dead some)
    ∙ get_or-set_other v.disks d other (front_gone (disk v d)) no_disk apart

-- what is done to the contents
pub released-written : (job : Job) (v : View) (c : Contents) (d : ℕ) → is_live v.phase ≡ false → is_empty (disk v d).queue ≡ false → step_contents job v (Release d) false c ≡ record c { source = after_operation (front_operation job v d) c.source }
released-written job v c d dead some =
    ap (λ w. contents_by w false job v (Release d) c) (release-goes job v d false dead some)
    ∙ ap (λ (b : Bool). record c {
      source = after_operation (front_operation job v d) c.source;
      outbox = if b then c.outbox ++ unit_content (after_operation (front_operation job v d) c.source) (front (disk v d)).unit.0 ∷ [] else c.outbox;
    }) (dead_not_running v.phase dead)

pub released-failed : (job : Job) (v : View) (c : Contents) (d : ℕ) → is_live v.phase ≡ false → is_empty (disk v d).queue ≡ false → step_contents job v (Release d) true c ≡ c
released-failed job v c d dead some = ap (λ w. contents_by w true job v (Release d) c) (release-goes job v d true dead some)

-- once switched nobody waits
pub switched-none_waits : (job : Job) (v : View) (d : ℕ) (flag : Bool) → IsViewOf job v → is_switched v.phase ≡ true → wait job v (Release d) flag ≡ Some NothingThere
switched-none_waits job v d flag inv on =
    let none : is_empty (disk v d).queue ≡ true = ap is_empty (queues_empty-queue v.disks d (inv.quiet.no_queue (or_right (is_stunned v.phase) (is_switched v.phase) on))) in
    rw none refl
