-- An event that touches the source's half alone: from what the half ensures of it to what happened to the migration.
use Rattle.std.specs.Prelude.{◌≡◌, ℕ, ◌&&◌, Bool, true, false, List, [], ◌∷◌, ◌++◌, length, Option, Some, None, unwrap_or, if◌then◌else◌}
use Rattle.std.proofs.Common.{refl, ap, sym, subst, ◌∙◌, inl, inr, append-nil}
use Rattle.std.proofs.lemmas.Bool.{cases_Bool}
use Rattle.xv_base.specs.declared.answer.Turn.TheVariants.{Done, Queued, Faulted, Wait as Waits, Failed as Broke}
use Rattle.xv_base.specs.declared.answer.Why.{Why}
use Rattle.xv_base.specs.declared.event.Phase.TheVariants.{Failed as FailedPhase}
use Rattle.xv_device.specs.Told.{Told}
use Rattle.xv_model.specs.Job.{Job}
use Rattle.xv_model.specs.Guest.{Ended, reads}
use Rattle.xv_model.specs.View.{View, Hold, Phase}
use Rattle.xv_model.specs.Wait.{Event, wait, fits}
use Rattle.xv_model.specs.Effect.{Turn, effect, fault_effect, answer, fault_answer, given_up}
use Rattle.xv_model.specs.Step.{call, is_call, breaks, turn, turn_by, step, view_by, entry_of, is_flagged, is_wait}
use Rattle.xv_model.specs.Contents.{Contents, moves, fault_moves, give_up_moves, contents_by, step_contents}
use Rattle.xv_model.specs.Outside.{Outside, NoOutside, ReadSource, WriteSource, ReadDest, WriteDest, FlushDest, PutOn, TakeFrom, PutBack, TakeBack, outside}
use Rattle.xv_job.specs.Written.{job_of}
use Rattle.xv_source.specs.Half.{Source, IsSourceOf, HasSourceBytes, AreWhole}
use Rattle.xv_source.specs.Step.{after_fault, StepsSource}
use Rattle.xv_dest.specs.Half.{Dest, with_dest, with_dest_bytes}
use Rattle.xv_core.specs.Seen.{OnDevice}
use Rattle.xv_core.specs.Calls.{CallsSource}
use Rattle.xv_core.specs.State.{State, view, both_tell, contents_of, on_source, ArePartsOf, IsRunning, IsCarriedOver}
use Rattle.xv_core.specs.Happening.{OneCall, Happened}
use Rattle.xv_core.specs.Settling.{is_failed, Abandoned}
use Rattle.xv_core.proofs.Keeping.Joined.{dest-part, has_source_bytes, joined, joined-contents, shows}
use Rattle.xv_core.proofs.Keeping.Reads.{source-whole}

-- what stays of a view beside the source's part of it, its phase and its stun
pub record RestStays (v w : View) (at_phase : Phase) (at_stun : Option ℕ) : Type 0 where
  pub history : w.history ≡ v.history
  pub stun : w.stun ≡ at_stun
  pub phase : w.phase ≡ at_phase
  pub streams : w.streams ≡ v.streams
  pub hold : w.hold ≡ v.hold
  pub freed : w.freed ≡ v.freed
  pub acks : w.acks ≡ v.acks

-- what stays of contents beside the source's part of them
pub record BytesStay (c d : Contents) : Type 0 where
  pub dest : d.dest ≡ c.dest
  pub streams : d.streams ≡ c.streams
  pub held : d.held ≡ c.held
  pub reads : d.reads ≡ c.reads

-- the destination's part stays that of the view and of the contents
set-dest : (w : View) (hold : Hold) (freed : ℕ) → hold ≡ w.hold → freed ≡ w.freed → record w { hold = hold; freed = freed } ≡ w
set-dest w hold freed e f = rw (e, f) refl

dest-stays : (v w : View) (d : Dest) → with_dest v d ≡ v → w.hold ≡ v.hold → w.freed ≡ v.freed → with_dest w d ≡ w
dest-stays v w d part hold freed =
    set-dest w (record { held = d.held; applied = d.applied; recorded = d.recorded }) d.freed
    (ap (λ (x : View). x.hold) part ∙ sym hold) (ap (λ (x : View). x.freed) part ∙ sym freed)

set-dest-bytes : (c : Contents) (dest held : List (List ℕ)) → dest ≡ c.dest → held ≡ c.held → record c { dest = dest; held = held } ≡ c
set-dest-bytes c dest held e f = rw (e, f) refl

dest-bytes-stay : (c e : Contents) (d : Dest) → with_dest_bytes c d ≡ c → e.dest ≡ c.dest → e.held ≡ c.held → with_dest_bytes e d ≡ e
dest-bytes-stay c e d part dest held =
    set-dest-bytes e (unwrap_or d.told.contents []) d.contents
    (ap (λ (x : Contents). x.dest) part ∙ sym dest) (ap (λ (x : Contents). x.held) part ∙ sym held)

-- the migration with this half, phase and stun, and one entry more
abbrev pub with_half : State → Event → Turn → Source → Phase → Option ℕ → State
with_half s e a half phase stun = record s {
  journal = s.journal ++ record { event = e; turn = a } ∷ [];
  phase = phase;
  stun = stun;
  source = half;
}

-- What the half is after a step, and what its call was.
pub record IsAfter (s : State) (e : Event) (a : Turn) (half : Source) (at_phase : Phase) (at_stun : Option ℕ) : Type 0 where
  pub rest : RestStays (view s) (step (job_of s.job) (view s) e (is_flagged a)) at_phase at_stun
  pub bytes : BytesStay (contents_of s) (step_contents (job_of s.job) (view s) e (is_flagged a) (contents_of s))
  pub part : IsSourceOf (job_of s.job) (step (job_of s.job) (view s) e (is_flagged a)) half
  pub has : both_tell s ≡ true → HasSourceBytes (step_contents (job_of s.job) (view s) e (is_flagged a) (contents_of s)) half
  pub layout : half.told.shape ≡ s.source.told.shape
  pub calls : OneCall (outside (job_of s.job) (view s) e) (is_flagged a) s (with_half s e a half at_phase at_stun)

parts-with : (s : State) (half : Source) (w : View) → IsRunning s → IsSourceOf (job_of s.job) w half → half.told.shape ≡ s.source.told.shape → ArePartsOf (job_of s.job) half s.dest s.streams s.back
parts-with s half w r of layout = record {
  source_shape = ap (λ (j : Job). j.shape) of.limits;
  source_copy = ap (λ (j : Job). j.copy) of.limits;
  source_limits = ap (λ (j : Job). j.config) of.limits;
  source_layout = layout ∙ r.parts.source_layout;
  dest_shape = r.parts.dest_shape;
  dest_limit = r.parts.dest_limit;
  dest_layout = r.parts.dest_layout;
  streams_shape = r.parts.streams_shape;
  streams_format = r.parts.streams_format;
  each_stream = r.parts.each_stream;
  none_made = r.parts.none_made;
  wires_room = r.parts.wires_room;
  back_room = r.parts.back_room;
}

pub happens : (s : State) (e : Event) (a : Turn) (half : Source) (phase : Phase) (stun : Option ℕ) → IsRunning s → IsCarriedOver s.streams s.back → fits (job_of s.job) e ≡ true →
    is_wait a ≡ false → a ≡ turn (job_of s.job) (view s) e (is_flagged a) → IsAfter s e a half phase stun → Happened s e a (with_half s e a half phase stun)
happens s e a half phase stun r carried fit goes answers is =
    let job = job_of s.job in
    let next = step job (view s) e (is_flagged a) in
    let t = with_half s e a half phase stun in
    let was = shows s r in
    record {
      job = refl;
      fitting = fit;
      goes_on = goes;
      answers = answers;
      journal = refl;
      parts = parts-with s half next r is.part is.layout;
      shows = joined t next (is.rest.history ∙ was.history) is.rest.stun is.rest.phase (is.rest.streams ∙ was.streams) (is.rest.acks ∙ was.acks) is.part.part
          (dest-stays (view s) next s.dest (dest-part s (view s) r.shows) is.rest.hold is.rest.freed);
      contents = λ both.
          joined-contents t (step_contents job (view s) e (is_flagged a) (contents_of s)) is.bytes.streams is.bytes.reads (is.has both).part
          (dest-bytes-stay (contents_of s) (step_contents job (view s) e (is_flagged a) (contents_of s)) s.dest refl is.bytes.dest is.bytes.held);
      read = [];
      behind = sym (append-nil s.reads);
      reads_long = r.reads_long ∙ ap (λ (h : List Ended). length (reads job h (length h))) (sym is.rest.history);
      calls = is.calls;
      carried = carried;
    }

-- An answer of the machine that is not flagged says that no call failed.
pub unflagged-unfailed : (a : Turn) → is_flagged a ≡ false → is_failed a ≡ false
unflagged-unfailed (Done n) e = refl
unflagged-unfailed Queued e = refl
unflagged-unfailed Faulted e = absurd (cc)
unflagged-unfailed (Waits why) e = refl
unflagged-unfailed (Broke cause) e = absurd (cc)

-- an answer that is no wait comes of an event that goes on
goes-by : (w : Option Why) (b : Bool) (job : Job) (v : View) (e : Event) → is_wait (turn_by w b job v e) ≡ false → w ≡ None
goes-by None b job v e h = refl
goes-by (Some why) b job v e h = absurd (cc)

pub goes-on : (job : Job) (v : View) (e : Event) (a : Turn) (flag : Bool) → is_wait a ≡ false → a ≡ turn job v e flag → wait job v e flag ≡ None
goes-on job v e a flag goes answers = goes-by (wait job v e flag) (breaks job v e flag) job v e (subst (λ (x : Turn). is_wait x ≡ false) answers goes)

-- What an event is that touches the source's half alone: it leaves the rest where it is done, ends the migration where its
-- call fails, and answers accordingly.
pub record IsOfSource (job : Job) (v : View) (e : Event) (at_phase : Phase) (at_stun : Option ℕ) : Type 0 where
  pub rest : RestStays v (effect job v e) at_phase at_stun
  pub bytes : (c : Contents) → BytesStay c (moves job v e c)
  pub ends : fault_effect v e ≡ given_up v FailedPhase
  pub gives_up : (c : Contents) → fault_moves e c ≡ give_up_moves c
  pub after : after_fault v e ≡ v
  pub done : is_flagged (answer job v e) ≡ false
  pub no_wait : is_wait (answer job v e) ≡ false
  pub kinds : is_failed (fault_answer e) ≡ is_call (call job v e)

-- where such an answer is flagged, the event's call broke, and the answer says that the migration failed
breaks-by : (w : Option Why) (calls : Bool) (job : Job) (v : View) (e : Event) → is_flagged (answer job v e) ≡ false → is_flagged (turn_by w (true && calls) job v e) ≡ true → (w ≡ None) × (calls ≡ true)
breaks-by None true job v e done flagged = (refl, refl)
breaks-by None false job v e done flagged = absurd (cc)
breaks-by (Some why) calls job v e done flagged = absurd (cc)

pub record Broken (job : Job) (v : View) (e : Event) (a : Turn) : Type 0 where
  pub goes : wait job v e true ≡ None
  pub broke : breaks job v e true ≡ true
  pub failed : is_failed a ≡ true

pub broken : (job : Job) (v : View) (e : Event) (a : Turn) (at_phase : Phase) (at_stun : Option ℕ) → IsOfSource job v e at_phase at_stun → a ≡ turn job v e (is_flagged a) → is_flagged a ≡ true → Broken job v e a
broken job v e a at_phase at_stun of answers flagged =
    let answered : a ≡ turn job v e true = subst (λ (f : Bool). a ≡ turn job v e f) flagged answers in
    let both = breaks-by (wait job v e true) (is_call (call job v e)) job v e of.done (subst (λ (x : Turn). is_flagged x ≡ true) answered flagged) in
    let broke : breaks job v e true ≡ true = both.1 in
    let is : a ≡ fault_answer e = answered ∙ ap (λ (w : Option Why). turn_by w (breaks job v e true) job v e) both.0 ∙ ap (λ (b : Bool). turn_by None b job v e) broke in
    record { goes = both.0; broke = broke; failed = ap is_failed is ∙ of.kinds ∙ both.1 }

-- an event whose call is made of the source alone, if of anything
abbrev pub is_at_source : Outside → Bool
is_at_source NoOutside = true
is_at_source (ReadSource p) = true
is_at_source (WriteSource p) = true
is_at_source (ReadDest p) = false
is_at_source (WriteDest p) = false
is_at_source FlushDest = false
is_at_source (PutOn s) = false
is_at_source (TakeFrom s) = false
is_at_source PutBack = false
is_at_source TakeBack = false

one-call : (o : Outside) (failed : Bool) (s : State) (e : Event) (a : Turn) (half : Source) (phase : Phase) (stun : Option ℕ) → is_at_source o ≡ true → CallsSource o failed (on_source s.source) (on_source half) → OneCall o failed s (with_half s e a half phase stun)
one-call NoOutside failed s e a half phase stun at call = record { source = call; dest = refl; streams = refl; back = refl }
one-call (ReadSource p) failed s e a half phase stun at call = record { source = call; dest = refl; streams = refl; back = refl }
one-call (WriteSource p) failed s e a half phase stun at call = record { source = call; dest = refl; streams = refl; back = refl }
one-call (ReadDest p) failed s e a half phase stun at call = absurd (cc)
one-call (WriteDest p) failed s e a half phase stun at call = absurd (cc)
one-call FlushDest failed s e a half phase stun at call = absurd (cc)
one-call (PutOn k) failed s e a half phase stun at call = absurd (cc)
one-call (TakeFrom k) failed s e a half phase stun at call = absurd (cc)
one-call PutBack failed s e a half phase stun at call = absurd (cc)
one-call TakeBack failed s e a half phase stun at call = absurd (cc)

-- What the half ensures of such an event, of a state that runs and its half afterwards.
pub record DoneByHalf (s : State) (e : Event) (a : Turn) (half : Source) : Type 0 where
  pub steps : StepsSource (job_of s.job) (view s) e a s.source half
  pub at_source : is_at_source (outside (job_of s.job) (view s) e) ≡ true
  pub calls : CallsSource (outside (job_of s.job) (view s) e) (is_flagged a) (on_source s.source) (on_source half)
  pub layout : half.told.shape ≡ s.source.told.shape

whole-source : (s : State) → IsRunning s → both_tell s ≡ true → AreWhole s.source.shape (contents_of s).source
whole-source s r both = rw r.parts.source_shape (record { whole = λ unit there. source-whole s unit r both there })

-- the half where the event is done
done-after : (s : State) (e : Event) (a : Turn) (half : Source) (phase : Phase) (stun : Option ℕ) → IsRunning s → is_wait a ≡ false → is_flagged a ≡ false →
    IsOfSource (job_of s.job) (view s) e phase stun → DoneByHalf s e a half → IsAfter s e a half phase stun
done-after s e a half phase stun r goes unflagged of by =
    let job = job_of s.job in
    let v = view s in
    let answered : a ≡ turn job v e false = subst (λ (f : Bool). a ≡ turn job v e f) unflagged by.steps.answers in
    let none : wait job v e false ≡ None = goes-on job v e a false goes answered in
    record {
      rest = subst (λ (f : Bool). RestStays v (step job v e f) phase stun) (sym unflagged) (subst (λ (w : Option Why). RestStays v (view_by w false job v e) phase stun) (sym none) of.rest);
      bytes = subst (λ (f : Bool). BytesStay (contents_of s) (step_contents job v e f (contents_of s))) (sym unflagged)
          (subst (λ (w : Option Why). BytesStay (contents_of s) (contents_by w false job v e (contents_of s))) (sym none) (of.bytes (contents_of s)));
      part = subst (λ (f : Bool). IsSourceOf job (step job v e f) half) (sym unflagged) (by.steps.part unflagged);
      has = λ both.
          subst (λ (f : Bool). HasSourceBytes (step_contents job v e f (contents_of s)) half) (sym unflagged)
          (by.steps.bytes (contents_of s) unflagged (has_source_bytes s both) (whole-source s r both));
      layout = by.layout;
      calls = one-call (outside job v e) (is_flagged a) s e a half phase stun by.at_source by.calls;
    }

-- the half where the event's call failed, and all was given up
after-failed : (s : State) (e : Event) (a : Turn) (half gone : Source) (phase : Phase) (stun : Option ℕ) → IsRunning s → is_flagged a ≡ true →
    IsOfSource (job_of s.job) (view s) e phase stun → DoneByHalf s e a half → Abandoned half gone → IsAfter s e a gone FailedPhase s.stun
after-failed s e a half gone phase stun r flagged of by given =
    let job = job_of s.job in
    let v = view s in
    let c = contents_of s in
    let how = broken job v e a phase stun of by.steps.answers flagged in
    let next : step job v e (is_flagged a) ≡ given_up v FailedPhase =
    ap (λ (f : Bool). step job v e f) flagged ∙ ap (λ (w : Option Why). view_by w (breaks job v e true) job v e) how.goes ∙ ap (λ (b : Bool). view_by None b job v e) how.broke ∙ of.ends in
    let moved : step_contents job v e (is_flagged a) c ≡ give_up_moves c =
    ap (λ (f : Bool). step_contents job v e f c) flagged ∙ ap (λ (w : Option Why). contents_by w (breaks job v e true) job v e c) how.goes ∙ ap (λ (b : Bool). contents_by None b job v e c) how.broke ∙ of.gives_up c in
    let same : on_source gone ≡ on_source half = ap (λ (told : Told). record { told = told; faults = gone.faults }) given.call.told ∙ ap (λ (n : ℕ). record { told = half.told; faults = n }) given.call.faults in
    record {
      rest = subst (λ (w : View). RestStays v w FailedPhase s.stun) (sym next) (record {
        history = refl;
        stun = (shows s r).stun;
        phase = refl;
        streams = refl;
        hold = refl;
        freed = refl;
        acks = refl;
      });
      bytes = subst (BytesStay c) (sym moved) (record { dest = refl; streams = refl; held = refl; reads = refl });
      part = subst (λ (w : View). IsSourceOf job w gone) (sym next) (given.part job v FailedPhase (subst (λ (w : View). IsSourceOf job w half) of.after (by.steps.failed flagged)));
      has = λ both.
          subst (λ (d : Contents). HasSourceBytes d gone) (sym moved) (given.bytes c (by.steps.failed_bytes c flagged (has_source_bytes s both)));
      layout = ap (λ (told : Told). told.shape) given.call.told ∙ by.layout;
      calls = one-call (outside job v e) (is_flagged a) s e a gone FailedPhase s.stun by.at_source
          (subst (λ (d : OnDevice). CallsSource (outside job v e) (is_flagged a) (on_source s.source) d) (sym same) by.calls);
    }

-- the state as `settle` leaves it: the phase and the half, those of before or given up
pub record Settled (s : State) (e : Event) (a : Turn) (half : Source) (at_phase : Phase) (at_stun : Option ℕ) (t : State) : Type 0 where
  pub rest : t ≡ record s { journal = t.journal; phase = t.phase; stun = t.stun; source = t.source }
  pub journal : t.journal ≡ s.journal ++ entry_of e a
  pub phase : t.phase ≡ (if is_failed a then FailedPhase else at_phase)
  pub stun : t.stun ≡ (if is_failed a then s.stun else at_stun)
  pub going : is_failed a ≡ false → t.source ≡ half
  pub given_up : is_failed a ≡ true → Abandoned half t.source

settled-is : (s t : State) (e : Event) (a : Turn) (half : Source) (phase : Phase) (stun : Option ℕ) → t ≡ record s { journal = t.journal; phase = t.phase; stun = t.stun; source = t.source } →
    t.journal ≡ s.journal ++ entry_of e a → is_wait a ≡ false → t.phase ≡ phase → t.stun ≡ stun → t.source ≡ half → with_half s e a half phase stun ≡ t
settled-is s t e a half phase stun rest journal goes is_phase is_stun is_half =
    let entries : t.journal ≡ s.journal ++ record { event = e; turn = a } ∷ [] = journal ∙ ap (λ (b : Bool). s.journal ++ (if b then [] else record { event = e; turn = a } ∷ [])) goes in
    rw (← entries, ← is_phase, ← is_stun, ← is_half) (sym rest)

-- An event of the source alone happened, once it is settled.
pub settles : (s t : State) (e : Event) (a : Turn) (half : Source) (phase : Phase) (stun : Option ℕ) → IsRunning s → IsCarriedOver s.streams s.back → fits (job_of s.job) e ≡ true → is_wait a ≡ false →
    IsOfSource (job_of s.job) (view s) e phase stun → DoneByHalf s e a half → Settled s e a half phase stun t → Happened s e a t
settles s t e a half phase stun r carried fit goes of by is = elim (cases_Bool (is_flagged a)) [
  | inl flagged ↦
      let failed : is_failed a ≡ true = (broken (job_of s.job) (view s) e a phase stun of by.steps.answers flagged).failed in
      subst (Happened s e a)
      (settled-is s t e a t.source FailedPhase s.stun is.rest is.journal goes
      (is.phase ∙ ap (λ (b : Bool). if b then FailedPhase else phase) failed) (is.stun ∙ ap (λ (b : Bool). if b then s.stun else stun) failed) refl)
      (happens s e a t.source FailedPhase s.stun r carried fit goes by.steps.answers (after-failed s e a half t.source phase stun r flagged of by (is.given_up failed)))
  | inr unflagged ↦
      let unfailed : is_failed a ≡ false = unflagged-unfailed a unflagged in
      subst (Happened s e a)
      (settled-is s t e a half phase stun is.rest is.journal goes
      (is.phase ∙ ap (λ (b : Bool). if b then FailedPhase else phase) unfailed) (is.stun ∙ ap (λ (b : Bool). if b then s.stun else stun) unfailed) (is.going unfailed))
      (happens s e a half phase stun r carried fit goes by.steps.answers (done-after s e a half phase stun r goes unflagged of by))
]

-- an event that makes no call is never flagged
pub unflagged : (job : Job) (v : View) (e : Event) (a : Turn) (at_phase : Phase) (at_stun : Option ℕ) → IsOfSource job v e at_phase at_stun → is_call (call job v e) ≡ false → a ≡ turn job v e (is_flagged a) → is_flagged a ≡ false
unflagged job v e a at_phase at_stun of silent answers = elim (cases_Bool (is_flagged a)) [
  | inl flagged ↦ absurd (let broke = (broken job v e a at_phase at_stun of answers flagged).broke in cc)
  | inr plain ↦ plain
]
