-- The copy's and the pages' events are of the source alone; what each asks of the migration, and what its half's call says.
use Rattle.std.specs.Prelude.{◌≡◌, ◌<◌, ℕ, ◌+◌, ◌==◌, not, Bool, true, false, List, length, get_or, Option, Some, None}
use Rattle.std.proofs.Common.{refl, ap, sym, subst, ◌∙◌}
use Rattle.std.proofs.lemmas.Bool.{lt-ltb, and_from}
use Rattle.xv_base.specs.Units.{Shape, size, unit_of_block}
use Rattle.xv_base.specs.declared.event.Event.TheVariants.{Begin, Read, Advance, Round, Page, Stun}
use Rattle.xv_base.specs.declared.event.Phase.TheVariants.{Stunned}
use Rattle.xv_device.specs.Device.{ReadRange}
use Rattle.xv_device.specs.Told.{Told}
use Rattle.xv_model.specs.Job.{Job}
use Rattle.xv_model.specs.Guest.{Ended}
use Rattle.xv_model.specs.View.{View, Phase, Disk, no_disk, is_running, is_live, least}
use Rattle.xv_model.specs.Wait.{Event, Why, is_before, wait, fits}
use Rattle.xv_model.specs.Effect.{Turn, answer, fault_answer}
use Rattle.xv_model.specs.Step.{turn, turn_by, breaks, is_flagged, is_wait}
use Rattle.xv_model.specs.Outside.{Outside, NoOutside, ReadSource, whole, outside}
use Rattle.xv_job.specs.Written.{job_of}
use Rattle.xv_source.specs.Half.{Source, next_unit}
use Rattle.xv_source.specs.Step.{Allows, StepsSource, MakesCall, MakesNoCall, unit_read, went_out}
use Rattle.xv_core.specs.Seen.{Seen}
use Rattle.xv_core.specs.State.{State, view, seen_of, on_source, IsRunning}
use Rattle.xv_core.specs.Calls.{Made, CallsSource}
use Rattle.xv_core.specs.Kept.{IsState}
use Rattle.xv_core.proofs.Keeping.Calls.{disk-there}
use Rattle.xv_core.proofs.Keeping.Joined.{is_source_of, shows, source-part}
use Rattle.xv_core.proofs.CopyingEvents.SourceAlone.{IsOfSource, DoneByHalf, is_at_source}

pub begins : (job : Job) (v : View) (d : ℕ) → IsOfSource job v (Begin d) v.phase v.stun
begins job v d = record {
  rest = record { history = refl; stun = refl; phase = refl; streams = refl; hold = refl; freed = refl; acks = refl };
  bytes = λ c. record { dest = refl; streams = refl; held = refl; reads = refl };
  ends = refl;
  gives_up = λ c. refl;
  after = refl;
  done = refl;
  no_wait = refl;
  kinds = refl;
}

pub reads-block : (job : Job) (v : View) (d : ℕ) → IsOfSource job v (Read d) v.phase v.stun
reads-block job v d = record {
  rest = record { history = refl; stun = refl; phase = refl; streams = refl; hold = refl; freed = refl; acks = refl };
  bytes = λ c. record { dest = refl; streams = refl; held = refl; reads = refl };
  ends = refl;
  gives_up = λ c. refl;
  after = refl;
  done = refl;
  no_wait = refl;
  kinds = refl;
}

pub advances : (job : Job) (v : View) (d : ℕ) → IsOfSource job v (Advance d) v.phase v.stun
advances job v d = record {
  rest = record { history = refl; stun = refl; phase = refl; streams = refl; hold = refl; freed = refl; acks = refl };
  bytes = λ c. record { dest = refl; streams = refl; held = refl; reads = refl };
  ends = refl;
  gives_up = λ c. refl;
  after = refl;
  done = refl;
  no_wait = refl;
  kinds = refl;
}

pub begins-round : (job : Job) (v : View) → IsOfSource job v Round v.phase v.stun
begins-round job v = record {
  rest = record { history = refl; stun = refl; phase = refl; streams = refl; hold = refl; freed = refl; acks = refl };
  bytes = λ c. record { dest = refl; streams = refl; held = refl; reads = refl };
  ends = refl;
  gives_up = λ c. refl;
  after = refl;
  done = refl;
  no_wait = refl;
  kinds = refl;
}

pub sends-page : (job : Job) (v : View) → IsOfSource job v Page v.phase v.stun
sends-page job v = record {
  rest = record { history = refl; stun = refl; phase = refl; streams = refl; hold = refl; freed = refl; acks = refl };
  bytes = λ c. record { dest = refl; streams = refl; held = refl; reads = refl };
  ends = refl;
  gives_up = λ c. refl;
  after = refl;
  done = refl;
  no_wait = refl;
  kinds = refl;
}

pub stuns : (job : Job) (v : View) → IsOfSource job v Stun Stunned (Some (length v.history))
stuns job v = record {
  rest = record { history = refl; stun = refl; phase = refl; streams = refl; hold = refl; freed = refl; acks = refl };
  bytes = λ c. record { dest = refl; streams = refl; held = refl; reads = refl };
  ends = refl;
  gives_up = λ c. refl;
  after = refl;
  done = refl;
  no_wait = refl;
  kinds = refl;
}

-- A call of the half, as it is made in a migration: the event is of the source alone, and the half has done it.
pub record OfHalf (s : State) (e : Event) (a : Turn) (half : Source) (at_phase : Phase) (at_stun : Option ℕ) : Type 0 where
  pub fit : fits (job_of s.job) e ≡ true
  pub of : IsOfSource (job_of s.job) (view s) e at_phase at_stun
  pub steps : StepsSource (job_of s.job) (view s) e a s.source half
  pub done : is_wait a ≡ false → DoneByHalf s e a half

-- in the phase and with the stun of the state
at-state : (s : State) (e : Event) → IsRunning s → IsOfSource (job_of s.job) (view s) e (view s).phase (view s).stun → IsOfSource (job_of s.job) (view s) e s.phase s.stun
at-state s e r of =
    subst (λ (stun : Option ℕ). IsOfSource (job_of s.job) (view s) e s.phase stun) (shows s r).stun
    (subst (λ (phase : Phase). IsOfSource (job_of s.job) (view s) e phase (view s).stun) (shows s r).phase of)

-- the phase, as it is asked for
is-running : (s : State) → IsRunning s → true ≡ is_running s.phase → is_running (view s).phase ≡ true
is-running s r running = ap is_running (shows s r).phase ∙ sym running

-- an event that makes no call
no-call : (s : State) (e : Event) (a : Turn) (half : Source) → outside (job_of s.job) (view s) e ≡ NoOutside → StepsSource (job_of s.job) (view s) e a s.source half → MakesNoCall s.source half → DoneByHalf s e a half
no-call s e a half none steps call = record {
  steps = steps;
  at_source = ap is_at_source none;
  calls = subst (λ (o : Outside). CallsSource o (is_flagged a) (on_source s.source) (on_source half)) (sym none)
      (ap (λ (told : Told). record { told = told; faults = half.faults }) call.told ∙ ap (λ (n : ℕ). record { told = s.source.told; faults = n }) call.faults);
  layout = ap (λ (told : Told). told.shape) call.told;
}

-- an event that reads a unit
went-by : (w : Option Why) (b : Bool) (job : Job) (v : View) (e : Event) → went_out (answer job v e) ≡ true → went_out (fault_answer e) ≡ true → is_wait (turn_by w b job v e) ≡ false → went_out (turn_by w b job v e) ≡ true
went-by None true job v e done failed goes = failed
went-by None false job v e done failed goes = done
went-by (Some why) b job v e done failed goes = absurd (cc)

went : (job : Job) (v : View) (e : Event) (a : Turn) → went_out (answer job v e) ≡ true → went_out (fault_answer e) ≡ true → a ≡ turn job v e (is_flagged a) → is_wait a ≡ false → went_out a ≡ true
went job v e a done failed answers goes =
    ap went_out answers
    ∙ went-by (wait job v e (is_flagged a)) (breaks job v e (is_flagged a)) job v e done failed (subst (λ (x : Turn). is_wait x ≡ false) answers goes)

unit-call : (s : State) (e : Event) (a : Turn) (half : Source) (unit : ℕ) → IsRunning s → outside (job_of s.job) (view s) e ≡ ReadSource (whole (job_of s.job) unit) →
    went_out (answer (job_of s.job) (view s) e) ≡ true → went_out (fault_answer e) ≡ true → StepsSource (job_of s.job) (view s) e a s.source half →
    MakesCall (unit_read s.source.shape unit) a s.source half → is_wait a ≡ false → DoneByHalf s e a half
unit-call s e a half unit r reads done failed steps call goes =
    let made = call.made (went (job_of s.job) (view s) e a done failed steps.answers goes) in
    let here : Made (ReadRange unit 0 (size (job_of s.job).shape unit)) (is_flagged a) (on_source s.source) (on_source half) =
    subst (λ (p : Shape). Made (ReadRange unit 0 (size p unit)) (is_flagged a) (on_source s.source) (on_source half)) r.parts.source_shape made in
    record {
      steps = steps;
      at_source = ap is_at_source reads;
      calls = subst (λ (o : Outside). CallsSource o (is_flagged a) (on_source s.source) (on_source half)) (sym reads) here;
      layout = ap (λ (told : Told). told.shape) made.told;
    }

-- a disk of the job as it is seen, and of the source's half
pub disk-seen : (s : State) (m : Seen) (d : ℕ) → seen_of s ≡ m → d < length (job_of m.job).shape.disks → d < length (job_of s.job).shape.disks
disk-seen s m d sees lt = subst (λ (x : Seen). d < length (job_of x.job).shape.disks) (sym sees) lt

pub disk-of-half : (s : State) (m : Seen) (d : ℕ) → IsState s → seen_of s ≡ m → d < length (job_of m.job).shape.disks → d < length s.source.disks
disk-of-half s m d k sees lt = disk-there s d k.running (disk-seen s m d sees lt)

-- the length of the history, and the units that the half reads
pub history-length : (s : State) → IsRunning s → length (view s).history ≡ length s.history
history-length s r = ap (λ (h : List Ended). length h) (shows s r).history

read-unit : (s : State) (d : ℕ) → IsRunning s → outside (job_of s.job) (view s) (Read d) ≡ ReadSource (whole (job_of s.job) (next_unit s.source d))
read-unit s d r =
    ap (λ (ds : List Disk). ReadSource (whole (job_of s.job) (unit_of_block (job_of s.job).shape d (get_or ds d no_disk).cursor + (get_or ds d no_disk).got))) (shows s r).disks
    ∙ ap (λ (p : Shape). ReadSource (whole (job_of s.job) (unit_of_block p d (get_or s.source.disks d no_disk).cursor + (get_or s.source.disks d no_disk).got))) (sym r.parts.source_shape)

page-unit : (s : State) → IsRunning s → outside (job_of s.job) (view s) Page ≡ ReadSource (whole (job_of s.job) (least s.source.to_send))
page-unit s r = ap (λ (v : View). ReadSource (whole (job_of s.job) (least v.to_send))) (sym (source-part s (view s) r.shows))

-- The events, each from what its half's call ensures.
abbrev pub Steps : Event → Turn → Source → Source → Type 0
Steps e a old new = (job : Job) (v : View) → Allows job v e old → StepsSource job v e a old new

pub begin-of : (s : State) (m : Seen) (d : ℕ) (a : Turn) (half : Source) → IsState s → seen_of s ≡ m → d < length (job_of m.job).shape.disks → true ≡ is_running s.phase →
    Steps (Begin d) a s.source half → MakesNoCall s.source half → OfHalf s (Begin d) a half s.phase s.stun
begin-of s m d a half k sees there running steps call =
    let r = k.running in
    let by = steps (job_of s.job) (view s) (record { of = is_source_of s r; lets = is-running s r running }) in
    record {
      fit = lt-ltb d (length (job_of s.job).shape.disks) (disk-seen s m d sees there);
      of = at-state s (Begin d) r (begins (job_of s.job) (view s) d);
      steps = by;
      done = λ goes. no-call s (Begin d) a half refl by call;
    }

pub read-of : (s : State) (m : Seen) (d : ℕ) (a : Turn) (half : Source) → IsState s → seen_of s ≡ m → d < length (job_of m.job).shape.disks → true ≡ is_running s.phase →
    Steps (Read d) a s.source half → MakesCall (unit_read s.source.shape (next_unit s.source d)) a s.source half → OfHalf s (Read d) a half s.phase s.stun
read-of s m d a half k sees there running steps call =
    let r = k.running in
    let job = job_of s.job in
    let v = view s in
    let by = steps job v (record { of = is_source_of s r; lets = is-running s r running }) in
    record {
      fit = lt-ltb d (length job.shape.disks) (disk-seen s m d sees there);
      of = at-state s (Read d) r (reads-block job v d);
      steps = by;
      done = unit-call s (Read d) a half (next_unit s.source d) r (read-unit s d r) refl refl by call;
    }

pub advance-of : (s : State) (m : Seen) (d at : ℕ) (a : Turn) (half : Source) → IsState s → seen_of s ≡ m → d < length (job_of m.job).shape.disks → true ≡ is_running s.phase → at ≡ length s.history →
    ((job : Job) (v : View) → Allows job v (Advance d) s.source → length v.history ≡ at → StepsSource job v (Advance d) a s.source half) → MakesNoCall s.source half →
    OfHalf s (Advance d) a half s.phase s.stun
advance-of s m d at a half k sees there running is steps call =
    let r = k.running in
    let by = steps (job_of s.job) (view s) (record { of = is_source_of s r; lets = is-running s r running }) (history-length s r ∙ sym is) in
    record {
      fit = lt-ltb d (length (job_of s.job).shape.disks) (disk-seen s m d sees there);
      of = at-state s (Advance d) r (advances (job_of s.job) (view s) d);
      steps = by;
      done = λ goes. no-call s (Advance d) a half refl by call;
    }

pub round-of : (s : State) (a : Turn) (half : Source) (beside : Bool) → IsState s → true ≡ is_running s.phase → beside ≡ ((job_of s.job).format == 2) →
    ((job : Job) (v : View) → Allows job v Round s.source → beside ≡ (job.format == 2) → StepsSource job v Round a s.source half) → MakesNoCall s.source half →
    OfHalf s Round a half s.phase s.stun
round-of s a half beside k running format steps call =
    let r = k.running in
    let by = steps (job_of s.job) (view s) (record { of = is_source_of s r; lets = is-running s r running }) format in
    record {
      fit = refl;
      of = at-state s Round r (begins-round (job_of s.job) (view s));
      steps = by;
      done = λ goes. no-call s Round a half refl by call;
    }

pub page-of : (s : State) (at : ℕ) (a : Turn) (half : Source) → IsState s → true ≡ is_live s.phase → at ≡ length s.history →
    ((job : Job) (v : View) → Allows job v Page s.source → length v.history ≡ at → StepsSource job v Page a s.source half) →
    MakesCall (unit_read s.source.shape (least s.source.to_send)) a s.source half → OfHalf s Page a half s.phase s.stun
page-of s at a half k live is steps call =
    let r = k.running in
    let by = steps (job_of s.job) (view s) (record { of = is_source_of s r; lets = ap is_live (shows s r).phase ∙ sym live }) (history-length s r ∙ sym is) in
    record {
      fit = refl;
      of = at-state s Page r (sends-page (job_of s.job) (view s));
      steps = by;
      done = unit-call s Page a half (least s.source.to_send) r (page-unit s r) refl refl by call;
    }

pub stun-of : (s : State) (at : ℕ) (a : Turn) (half : Source) → IsState s → true ≡ is_running s.phase → at ≡ length s.history → false ≡ is_before (job_of s.job).config.cancel at → Steps Stun a s.source half → MakesNoCall s.source half →
    OfHalf s Stun a half Stunned (Some (length s.history))
stun-of s at a half k running is due steps call =
    let r = k.running in
    let job = job_of s.job in
    let v = view s in
    let not_early : not (is_before job.config.cancel (length v.history)) ≡ true = ap (λ (n : ℕ). not (is_before job.config.cancel n)) (history-length s r ∙ sym is) ∙ ap not (sym due) in
    let by = steps job v (record { of = is_source_of s r; lets = and_from (is_running v.phase) (not (is_before job.config.cancel (length v.history))) (is-running s r running) not_early }) in
    record {
      fit = refl;
      of = subst (λ (n : ℕ). IsOfSource job v Stun Stunned (Some n)) (history-length s r) (stuns job v);
      steps = by;
      done = λ goes. no-call s Stun a half refl by call;
    }
