-- A cancel and a failure keep every cursor, and every queue but that of a queued write that failed.
use Rattle.std.specs.Prelude.{◌≡◌, ℕ, zero, suc, Bool, true, false, List, [], ◌∷◌, map, set, get_or, None}
use Rattle.std.proofs.Common.{refl, ap}
use Rattle.std.proofs.lemmas.Bool.{both_ways}
use Rattle.xv_model.specs.Job.{Job}
use Rattle.xv_model.specs.View.{View, Disk, Phase, no_disk, disk, is_live, is_switched}
use Rattle.xv_model.specs.Wait.{Event, wait}
use Rattle.xv_model.specs.Effect.{front_gone, without_region, given_up, effect, fault_effect}
use Rattle.xv_model.specs.Step.{step, breaks}
use Rattle.xv_model.specs.Ending.{is_guests}
use Rattle.xv_base.specs.declared.event.Event.TheVariants.{Guest, Release, Stun, Switch, Cancel}
use Rattle.xv_model.proofs.Layouts.{kept_by}
use Rattle.xv_model.proofs.Steps.{step_cases}

given_up-disk : (ds : List Disk) (d : ℕ) → get_or (map without_region ds) d no_disk ≡ without_region (get_or ds d no_disk)
given_up-disk [] d = refl
given_up-disk (k ∷ ds) zero = refl
given_up-disk (k ∷ ds) (suc d) = given_up-disk ds d

-- what a step leaves of each disk where it ends the migration
record Leaves (v w : View) (d : ℕ) : Type 0 where
  cursor : (disk w d).cursor ≡ (disk v d).cursor
  queue : (disk w d).queue ≡ (disk v d).queue
  region : is_switched w.phase ≡ false → (disk w d).region ≡ 0

leaves-given_up : (v : View) (phase : Phase) (d : ℕ) → Leaves v (given_up v phase) d
leaves-given_up v phase d = record {
  cursor = ap (λ (k : Disk). k.cursor) (given_up-disk v.disks d);
  queue = ap (λ (k : Disk). k.queue) (given_up-disk v.disks d);
  region = λ off. ap (λ (k : Disk). k.region) (given_up-disk v.disks d);
}

went_to_its_end : (job : Job) (v : View) (e : Event) (d : ℕ) → is_live v.phase ≡ true → is_live (effect job v e).phase ≡ false → Leaves v (effect job v e) d
went_to_its_end job v Stun d live over = absurd (cc)
went_to_its_end job v Switch d live over = record { cursor = refl; queue = refl; region = λ off. absurd (cc) }
went_to_its_end job v Cancel d live over = leaves-given_up v _ d
went_to_its_end job v e d live over = absurd (both_ways (is_live v.phase) over live)

broke_to_its_end : (v : View) (e : Event) (d : ℕ) → is_live v.phase ≡ true → is_live (fault_effect v e).phase ≡ false → Leaves v (fault_effect v e) d
broke_to_its_end v (Guest g) d live over = absurd (both_ways (is_live v.phase) over live)
broke_to_its_end v (Release i) d live over = absurd (both_ways (is_live v.phase) over live)
broke_to_its_end v e d live over = leaves-given_up v _ d

ended : (job : Job) (v : View) (e : Event) (flag : Bool) (d : ℕ) → is_live v.phase ≡ true → is_live (step job v e flag).phase ≡ false → Leaves v (step job v e flag) d
ended job v e flag d live =
    step_cases (λ w. is_live w.phase ≡ false → Leaves v w d) job v e flag (λ over. absurd (both_ways (is_live v.phase) over live))
    (λ w b over. went_to_its_end job v e d live over) (λ w b over. broke_to_its_end v e d live over)

pub ended-cursor : (job : Job) (v : View) (e : Event) (flag : Bool) (d : ℕ) → is_live v.phase ≡ true → is_live (step job v e flag).phase ≡ false → (disk (step job v e flag) d).cursor ≡ (disk v d).cursor
ended-cursor job v e flag d live over = (ended job v e flag d live over).cursor

pub ended-queue : (job : Job) (v : View) (e : Event) (flag : Bool) (d : ℕ) → is_live v.phase ≡ true → is_live (step job v e flag).phase ≡ false → (disk (step job v e flag) d).queue ≡ (disk v d).queue
ended-queue job v e flag d live over = (ended job v e flag d live over).queue

pub ended-region : (job : Job) (v : View) (e : Event) (flag : Bool) (d : ℕ) → is_live v.phase ≡ true → is_live (step job v e flag).phase ≡ false → is_switched (step job v e flag).phase ≡ false → (disk (step job v e flag) d).region ≡ 0
ended-region job v e flag d live over off = (ended job v e flag d live over).region off

-- a failed call keeps the cursors, and the queues where it is no queued write's
broken_cursor : (v : View) (e : Event) (d : ℕ) → (disk (fault_effect v e) d).cursor ≡ (disk v d).cursor
broken_cursor v (Guest g) d = refl
broken_cursor v (Release i) d = kept_by (λ (k : Disk). k.cursor) v.disks i (front_gone (disk v i)) no_disk d refl
broken_cursor v e d = ap (λ (k : Disk). k.cursor) (given_up-disk v.disks d)

broken_queue : (v : View) (e : Event) (d : ℕ) → is_guests e ≡ false → (disk (fault_effect v e) d).queue ≡ (disk v d).queue
broken_queue v (Guest g) d other = absurd (cc)
broken_queue v (Release i) d other = absurd (cc)
broken_queue v e d other = ap (λ (k : Disk). k.queue) (given_up-disk v.disks d)

pub failed-cursor : (job : Job) (v : View) (e : Event) (flag : Bool) (d : ℕ) → breaks job v e flag ≡ true → (disk (step job v e flag) d).cursor ≡ (disk v d).cursor
failed-cursor job v e flag d broken =
    step_cases (λ w. (disk w d).cursor ≡ (disk v d).cursor) job v e flag refl (λ w whole. absurd (both_ways (breaks job v e flag) whole broken)) (λ w b. broken_cursor v e d)

pub failed-queue : (job : Job) (v : View) (e : Event) (flag : Bool) (d : ℕ) → breaks job v e flag ≡ true → is_guests e ≡ false → (disk (step job v e flag) d).queue ≡ (disk v d).queue
failed-queue job v e flag d broken other =
    step_cases (λ w. (disk w d).queue ≡ (disk v d).queue) job v e flag refl (λ w whole. absurd (both_ways (breaks job v e flag) whole broken)) (λ w b. broken_queue v e d other)

pub failed-guest : (job : Job) (v : View) (g : ℕ) (flag : Bool) → breaks job v (Guest (record { 0 = g })) flag ≡ true → (step job v (Guest (record { 0 = g })) flag).disks ≡ v.disks
failed-guest job v g flag broken =
    step_cases (λ w. w.disks ≡ v.disks) job v (Guest (record { 0 = g })) flag refl (λ w whole. absurd (both_ways (breaks job v (Guest (record { 0 = g })) flag) whole broken)) (λ w b. refl)

pub failed-release : (job : Job) (v : View) (d : ℕ) → wait job v (Release d) true ≡ None → (step job v (Release d) true).disks ≡ set v.disks d (front_gone (disk v d))
failed-release job v d goes = rw goes refl
