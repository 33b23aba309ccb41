-- Where the migration has ended, the guests act on one side alone.
use Rattle.std.specs.Prelude.{◌≡◌, Bool, true, false, Option, Some, None, if◌then◌else◌}
use Rattle.std.proofs.Common.{refl, ap}
use Rattle.std.proofs.lemmas.Bool.{or_left}
use Rattle.xv_model.specs.Job.{Job}
use Rattle.xv_model.specs.View.{View, is_live, is_switched}
use Rattle.xv_model.specs.Wait.{Event, Why, wait, next_operation, next_aim, is_join}
use Rattle.xv_model.specs.Step.{breaks}
use Rattle.xv_model.specs.Invariant.{IsViewOf}
use Rattle.xv_model.specs.Contents.{Contents, after_operation, moves, fault_moves, contents_by, step_contents}
use Rattle.xv_model.specs.Ending.{is_guests}
use Rattle.xv_base.specs.declared.event.Phase.{Phase}
use Rattle.xv_base.specs.declared.event.Phase.TheVariants.{Running, Stunned, Switched, Cancelled, Failed}
use Rattle.xv_base.specs.declared.event.Event.TheVariants.{Guest, Release}
use Rattle.xv_model.proofs.Ending.Dead.{dead_goes}
use Rattle.xv_model.proofs.Ending.Released.{switched-none_waits}

switched_is_dead : (p : Phase) → is_switched p ≡ true → is_live p ≡ false
switched_is_dead Running h = absurd (cc)
switched_is_dead Stunned h = absurd (cc)
switched_is_dead Switched h = refl
switched_is_dead Cancelled h = absurd (cc)
switched_is_dead Failed h = absurd (cc)

dest_moved : (job : Job) (v : View) (e : Event) (c : Contents) → is_switched v.phase ≡ false → is_guests e ≡ true → (moves job v e c).dest ≡ c.dest
dest_moved job v (Guest g) c off own = ap (λ (b : Bool). if b then after_operation (next_operation job v g.0) c.dest else c.dest) off
dest_moved job v (Release d) c off own = refl
dest_moved job v e c off own = absurd (cc)

dest_failed : (e : Event) (c : Contents) → is_guests e ≡ true → (fault_moves e c).dest ≡ c.dest
dest_failed (Guest g) c own = refl
dest_failed (Release d) c own = refl
dest_failed e c own = absurd (cc)

dest_by : (job : Job) (v : View) (e : Event) (c : Contents) (why : Option Why) (broken : Bool) → is_switched v.phase ≡ false → (why ≡ None → is_guests e ≡ true) → (contents_by why broken job v e c).dest ≡ c.dest
dest_by job v e c (Some why) broken off own = refl
dest_by job v e c None false off own = dest_moved job v e c off (own refl)
dest_by job v e c None true off own = dest_failed e c (own refl)

pub dest-stays : (job : Job) (v : View) (c : Contents) (e : Event) (flag : Bool) → is_live v.phase ≡ false → is_switched v.phase ≡ false → (step_contents job v e flag c).dest ≡ c.dest
dest-stays job v c e flag dead off = dest_by job v e c (wait job v e flag) (breaks job v e flag) off (λ w. dead_goes job v e flag dead w)

source_moved : (job : Job) (v : View) (e : Event) (flag : Bool) (c : Contents) → IsViewOf job v → is_switched v.phase ≡ true → wait job v e flag ≡ None → is_guests e ≡ true → (moves job v e c).source ≡ c.source
source_moved job v (Guest g) flag c inv on w own =
    ap (λ (b : Bool). if b then c.source else after_operation (next_operation job v g.0) c.source) (or_left (is_switched v.phase) (is_join (next_aim job v g.0)) on)
source_moved job v (Release d) flag c inv on w own = let waits = switched-none_waits job v d flag inv on in absurd (cc)
source_moved job v e flag c inv on w own = absurd (cc)

source_failed : (e : Event) (c : Contents) → is_guests e ≡ true → (fault_moves e c).source ≡ c.source
source_failed (Guest g) c own = refl
source_failed (Release d) c own = refl
source_failed e c own = absurd (cc)

source_by : (job : Job) (v : View) (e : Event) (flag : Bool) (c : Contents) (why : Option Why) (broken : Bool) → wait job v e flag ≡ why → IsViewOf job v → is_switched v.phase ≡ true → (contents_by why broken job v e c).source ≡ c.source
source_by job v e flag c (Some why) broken w inv on = refl
source_by job v e flag c None false w inv on = source_moved job v e flag c inv on w (dead_goes job v e flag (switched_is_dead v.phase on) w)
source_by job v e flag c None true w inv on = source_failed e c (dead_goes job v e flag (switched_is_dead v.phase on) w)

pub source-stays : (job : Job) (v : View) (c : Contents) (e : Event) (flag : Bool) → IsViewOf job v → is_switched v.phase ≡ true → (step_contents job v e flag c).source ≡ c.source
source-stays job v c e flag inv on = source_by job v e flag c (wait job v e flag) (breaks job v e flag) refl inv on
