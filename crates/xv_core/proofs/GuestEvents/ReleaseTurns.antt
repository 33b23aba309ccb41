-- What was answered to the write that waits first for a disk, in the words of the calls that make it.
use Rattle.std.specs.Prelude.{◌≡◌, ◌<◌, ℕ, ◌&&◌, ◌||◌, not, Bool, true, false, List, [], ◌∷◌, length, get_or, slice_get, Option, Some, None, is_some}
use Rattle.std.proofs.Common.{arith, refl, ap, sym, subst, ◌∙◌}
use Rattle.std.proofs.lemmas.Bool.{lt-ltb}
use Rattle.std.proofs.lemmas.Option.{get_or_from_slice_get}
use Rattle.xv_base.specs.Units.{Shape, is_page}
use Rattle.xv_base.specs.declared.answer.Why.TheVariants.{NothingThere, CancelDue}
use Rattle.xv_base.specs.declared.event.Event.TheVariants.{Release}
use Rattle.xv_base.specs.declared.event.Phase.TheVariants.{Running, Stunned, Switched, Cancelled, Failed}
use Rattle.xv_model.specs.Job.{Job, UnitOp, IsLegal, trace}
use Rattle.xv_model.specs.Guest.{Ended, ended, writes_to}
use Rattle.xv_model.specs.View.{View, Disk, Waiting, Phase, no_disk, no_waiting, disk, front, is_empty, is_running, is_live, is_stunned, is_switched}
use Rattle.xv_model.specs.Wait.{Why, wait, unless, cancel_due, next_operation}
use Rattle.xv_model.specs.Effect.{Turn}
use Rattle.xv_model.specs.Contents.{front_operation}
use Rattle.xv_job.specs.Written.{job_of}
use Rattle.xv_source.specs.Half.{Source}
use Rattle.xv_source.specs.Step.{is_let, Allows, StepsSource, MakesCall, operation_call}
use Rattle.xv_core.specs.Seen.{Seen, view_of}
use Rattle.xv_core.specs.State.{State, seen_of, view}
use Rattle.xv_core.specs.Kept.{IsState}
use Rattle.xv_core.specs.Answered.{ended_by}
use Rattle.xv_core.proofs.Keeping.Joined.{shows, is_source_of, view-holds}
use Rattle.xv_core.proofs.Keeping.Calls.{waits-in-front}
use Rattle.xv_core.proofs.GuestEvents.OperationSteps.{Answers}
use Rattle.xv_core.proofs.GuestEvents.OperationAnswers.{release-answers}

-- the disks of the half are the job's
disks-by : (s : State) (d : ℕ) → IsState s → d < length s.job.shape.disks → d < length s.source.disks
disks-by s d k there = omega (arith, there, (view-holds s k.running).lists.disks, ap (λ (ds : List Disk). length ds) (shows s k.running).disks)

pub disks-there : (s : State) (m : Seen) (d : ℕ) → IsState s → seen_of s ≡ m → d < length m.job.shape.disks → d < length s.source.disks
disks-there s m d k seen there = disks-by s d k (subst (λ (n : Seen). d < length n.job.shape.disks) (sym seen) there)

-- who waits first
some-wait : (ws : List Waiting) (w : Waiting) → slice_get ws 0 ≡ Some w → 0 < length ws
some-wait [] w first = absurd (cc)
some-wait (x ∷ ws) w first = omega arith

none-wait : (ws : List Waiting) → slice_get ws 0 ≡ None → is_empty ws ≡ true
none-wait [] none = refl
none-wait (x ∷ ws) none = absurd (cc)

not-empty : (ws : List Waiting) → 0 < length ws → is_empty ws ≡ false
not-empty [] some = absurd (omega arith)
not-empty (x ∷ ws) some = refl

-- the first that waits for a disk, as the half has it
pub record First (s : State) (d : ℕ) (w : Waiting) : Type 0 where
  pub some : 0 < length (get_or s.source.disks d no_disk).queue
  pub is : front (get_or s.source.disks d no_disk) ≡ w
  pub more : ended (view s).history w.guest.0 < length (trace (job_of s.job) w.guest.0)

first-by : (s : State) (d : ℕ) (w : Waiting) → IsState s → slice_get (disk (view s) d).queue 0 ≡ Some w → First s d w
first-by s d w k first =
    let here : slice_get (get_or s.source.disks d no_disk).queue 0 ≡ Some w = ap (λ (ds : List Disk). slice_get (get_or ds d no_disk).queue 0) (sym (shows s k.running).disks) ∙ first in
    let some = some-wait (get_or s.source.disks d no_disk).queue w here in
    let is = get_or_from_slice_get (get_or s.source.disks d no_disk).queue 0 w no_waiting here in
    record {
      some = some;
      is = is;
      more = subst (λ (x : Waiting). ended (view s).history x.guest.0 < length (trace (job_of s.job) x.guest.0)) is (waits-in-front s d k.running some).more;
    }

pub first-of : (s : State) (m : Seen) (d : ℕ) (w : Waiting) → IsState s → seen_of s ≡ m → slice_get (disk (view_of m) d).queue 0 ≡ Some w → First s d w
first-of s m d w k seen first = first-by s d w k (subst (λ (n : Seen). slice_get (disk (view_of n) d).queue 0 ≡ Some w) (sym seen) first)

pub has-more : (s : State) (m : Seen) (d : ℕ) (w : Waiting) → IsState s → seen_of s ≡ m → slice_get (disk (view_of m) d).queue 0 ≡ Some w → ended (view_of m).history w.guest.0 < length (trace (job_of m.job) w.guest.0)
has-more s m d w k seen first = subst (λ (n : Seen). ended (view_of n).history w.guest.0 < length (trace (job_of n.job) w.guest.0)) seen (first-of s m d w k seen first).more

-- its operation is a write that the half may make
pub record Ready (s : State) (d : ℕ) (op : UnitOp) : Type 0 where
  pub next : front_operation (job_of s.job) (view s) d ≡ op
  pub writes : is_some op.write ≡ true
  pub front_of : writes_to op (front (get_or s.source.disks d no_disk)).unit.0 ≡ true
  pub block : is_page s.source.shape op.unit.0 ≡ false
  pub legal : IsLegal s.source.shape op

ready-by : (s : State) (d : ℕ) (w : Waiting) (op : UnitOp) → IsState s → First s d w → op ≡ next_operation (job_of s.job) (view s) w.guest.0 → Ready s d op
ready-by s d w op k first next =
    let job = job_of s.job in
    let v = view s in
    let waits = waits-in-front s d k.running first.some in
    let own : front_operation job v d ≡ op = waits.operation ∙ ap (λ (x : Waiting). next_operation job v x.guest.0) first.is ∙ sym next in
    let shape = sym k.running.parts.source_shape in
    record {
      next = own;
      writes = subst (λ (o : UnitOp). is_some o.write ≡ true) own waits.writes;
      front_of = subst (λ (o : UnitOp). writes_to o (front (get_or s.source.disks d no_disk)).unit.0 ≡ true) own waits.to_write;
      block = subst (λ (x : Shape). is_page x op.unit.0 ≡ false) shape (subst (λ (o : UnitOp). is_page job.copy o.unit.0 ≡ false) own waits.block);
      legal = subst (λ (x : Shape). IsLegal x op) shape (subst (λ (o : UnitOp). IsLegal job.shape o) own waits.legal);
    }

-- what is asked of it, of a migration as contracts see it
pub record AskedRelease (m : Seen) (d : ℕ) (w : Waiting) (op : UnitOp) : Type 0 where
  pub there : d < length m.job.shape.disks
  pub first : slice_get (disk (view_of m) d).queue 0 ≡ Some w
  pub not_due : cancel_due (job_of m.job) (view_of m) ≡ false
  pub next : op ≡ next_operation (job_of m.job) (view_of m) w.guest.0

pub ready : (s : State) (m : Seen) (d : ℕ) (w : Waiting) (op : UnitOp) → IsState s → seen_of s ≡ m → AskedRelease m d w op → Ready s d op
ready s m d w op k seen asked =
    ready-by s d w op k (first-of s m d w k seen asked.first) (subst (λ (n : Seen). op ≡ next_operation (job_of n.job) (view_of n) w.guest.0) (sym seen) asked.next)

pub let-by : (empty due : Bool) → empty ≡ false → due ≡ false → (not empty && not due) ≡ true
let-by false false e f = refl
let-by true due e f = absurd (cc)
let-by false true e f = absurd (cc)

lets : (s : State) (d : ℕ) (w : Waiting) (op : UnitOp) → AskedRelease (seen_of s) d w op → is_let (job_of s.job) (view s) (Release d) ≡ true
lets s d w op asked =
    let-by (is_empty (disk (view s) d).queue) (cancel_due (job_of s.job) (view s)) (not-empty (disk (view s) d).queue (some-wait (disk (view s) d).queue w asked.first)) asked.not_due

-- while the migration runs
running-by : (s : State) (d : ℕ) (w : Waiting) (a : Turn) (new : Source) (op : UnitOp) (n : ℕ) → IsState s → n ≡ length s.history → AskedRelease (seen_of s) d w op → is_running (view s).phase ≡ true →
    ((job : Job) (v : View) → Allows job v (Release d) s.source → is_running v.phase ≡ true → front_operation job v d ≡ op → length v.history ≡ n → StepsSource job v (Release d) a s.source new) →
    MakesCall (operation_call s.source.shape op) a s.source new →
    Answers s (Release d) a (ended_by w.guest a) new s.dest []
running-by s d w a new op n k is_length asked running steps call =
    let job = job_of s.job in
    let v = view s in
    let own = ready s (seen_of s) d w op k refl asked in
    let long : length v.history ≡ n = ap (λ (h : List Ended). length h) (shows s k.running).history ∙ sym is_length in
    release-answers s d a new op w k (lt-ltb d (length job.shape.disks) asked.there) (first-of s (seen_of s) d w k refl asked.first).is own.next own.writes
    (steps job v (record { of = is_source_of s k.running; lets = lets s d w op asked }) running own.next long) call

pub release-running-answers : (s : State) (m : Seen) (d : ℕ) (w : Waiting) (a : Turn) (new : Source) (op : UnitOp) (n : ℕ) → IsState s → n ≡ length s.history → seen_of s ≡ m → AskedRelease m d w op → is_running (view_of m).phase ≡ true →
    ((job : Job) (v : View) → Allows job v (Release d) s.source → is_running v.phase ≡ true → front_operation job v d ≡ op → length v.history ≡ n → StepsSource job v (Release d) a s.source new) →
    MakesCall (operation_call s.source.shape op) a s.source new →
    Answers s (Release d) a (ended_by w.guest a) new s.dest []
release-running-answers s m d w a new op n k is_length seen asked running steps call =
    running-by s d w a new op n k is_length (subst (λ (x : Seen). AskedRelease x d w op) (sym seen) asked) (subst (λ (x : Seen). is_running (view_of x).phase ≡ true) (sym seen) running) steps call

-- once it is over: the guest is on the source, since nobody waits while it is stopped or once it is taken over
over-not-live : (p : Phase) → is_running p ≡ false → (is_stunned p || is_switched p) ≡ false → is_live p ≡ false
over-not-live Running over still = absurd (cc)
over-not-live Stunned over still = absurd (cc)
over-not-live Switched over still = refl
over-not-live Cancelled over still = refl
over-not-live Failed over still = refl

over-not-switched : (p : Phase) → (is_stunned p || is_switched p) ≡ false → is_switched p ≡ false
over-not-switched Running still = refl
over-not-switched Stunned still = refl
over-not-switched Switched still = absurd (cc)
over-not-switched Cancelled still = refl
over-not-switched Failed still = refl

alone-by : (s : State) (d : ℕ) (w : Waiting) (a : Turn) (new : Source) (op : UnitOp) → IsState s → AskedRelease (seen_of s) d w op → is_running (view s).phase ≡ false →
    ((job : Job) (v : View) → Allows job v (Release d) s.source → is_live v.phase ≡ false → is_switched v.phase ≡ false → front_operation job v d ≡ op → StepsSource job v (Release d) a s.source new) →
    MakesCall (operation_call s.source.shape op) a s.source new →
    Answers s (Release d) a (ended_by w.guest a) new s.dest []
alone-by s d w a new op k asked over steps call =
    let job = job_of s.job in
    let v = view s in
    let own = ready s (seen_of s) d w op k refl asked in
    let first = first-of s (seen_of s) d w k refl asked.first in
    let still = (waits-in-front s d k.running first.some).not_still in
    release-answers s d a new op w k (lt-ltb d (length job.shape.disks) asked.there) first.is own.next own.writes
    (steps job v (record { of = is_source_of s k.running; lets = lets s d w op asked }) (over-not-live v.phase over still) (over-not-switched v.phase still) own.next) call

pub release-alone-answers : (s : State) (m : Seen) (d : ℕ) (w : Waiting) (a : Turn) (new : Source) (op : UnitOp) → IsState s → seen_of s ≡ m → AskedRelease m d w op → is_running (view_of m).phase ≡ false →
    ((job : Job) (v : View) → Allows job v (Release d) s.source → is_live v.phase ≡ false → is_switched v.phase ≡ false → front_operation job v d ≡ op → StepsSource job v (Release d) a s.source new) →
    MakesCall (operation_call s.source.shape op) a s.source new →
    Answers s (Release d) a (ended_by w.guest a) new s.dest []
release-alone-answers s m d w a new op k seen asked over steps call =
    alone-by s d w a new op k (subst (λ (x : Seen). AskedRelease x d w op) (sym seen) asked) (subst (λ (x : Seen). is_running (view_of x).phase ≡ false) (sym seen) over) steps call

-- the waits that the migration judges
first-wait : (empty : Bool) (later : Option Why) → empty ≡ true → unless empty NothingThere later ≡ Some NothingThere
first-wait true later e = refl
first-wait false later e = absurd (cc)

second-wait : (empty due : Bool) (later : Option Why) → empty ≡ false → due ≡ true → unless empty NothingThere (unless due CancelDue later) ≡ Some CancelDue
second-wait false true later e f = refl
second-wait true due later e f = absurd (cc)
second-wait false false later e f = absurd (cc)

nothing-by : (s : State) (d : ℕ) → IsState s → slice_get (get_or s.source.disks d no_disk).queue 0 ≡ None → wait (job_of s.job) (view s) (Release d) false ≡ Some NothingThere
nothing-by s d k none =
    let here : slice_get (disk (view s) d).queue 0 ≡ None = ap (λ (ds : List Disk). slice_get (get_or ds d no_disk).queue 0) (shows s k.running).disks ∙ none in
    first-wait (is_empty (disk (view s) d).queue) _ (none-wait (disk (view s) d).queue here)

pub nothing-there : (s : State) (m : Seen) (d : ℕ) → IsState s → seen_of s ≡ m → slice_get (get_or s.source.disks d no_disk).queue 0 ≡ None → wait (job_of m.job) (view_of m) (Release d) false ≡ Some NothingThere
nothing-there s m d k seen none = subst (λ (x : Seen). wait (job_of x.job) (view_of x) (Release d) false ≡ Some NothingThere) seen (nothing-by s d k none)

pub due-waits : (m : Seen) (d : ℕ) (w : Waiting) → slice_get (disk (view_of m) d).queue 0 ≡ Some w → cancel_due (job_of m.job) (view_of m) ≡ true → wait (job_of m.job) (view_of m) (Release d) false ≡ Some CancelDue
due-waits m d w first due =
    let v = view_of m in
    second-wait (is_empty (disk v d).queue) (cancel_due (job_of m.job) v) _ (not-empty (disk v d).queue (some-wait (disk v d).queue w first)) due

pub first-in-view : (s : State) (m : Seen) (d : ℕ) (w : Waiting) → IsState s → seen_of s ≡ m → slice_get (get_or s.source.disks d no_disk).queue 0 ≡ Some w → slice_get (disk (view_of m) d).queue 0 ≡ Some w
first-in-view s m d w k seen first =
    subst (λ (x : Seen). slice_get (disk (view_of x) d).queue 0 ≡ Some w) seen (ap (λ (ds : List Disk). slice_get (get_or ds d no_disk).queue 0) (shows s k.running).disks ∙ first)
