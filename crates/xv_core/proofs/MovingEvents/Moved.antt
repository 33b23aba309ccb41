-- An event that moves messages: from what the halves ensure of its call to what happened to the migration.
use Rattle.std.specs.Prelude.{◌≡◌, ℕ, ◌&&◌, Bool, true, false, List, [], ◌∷◌, ◌++◌, length, Option, Some, None, if◌then◌else◌}
use Rattle.std.proofs.Common.{refl, ap, sym, subst, ◌∙◌, inl, inr, append-nil}
use Rattle.std.proofs.lemmas.Bool.{cases_Bool}
use Rattle.xv_base.specs.declared.answer.Turn.TheVariants.{Done, Queued, Faulted, Wait as Waits, Failed as Broke}
use Rattle.xv_base.specs.declared.answer.Why.{Why}
use Rattle.xv_base.specs.declared.event.Phase.TheVariants.{Failed as FailedPhase}
use Rattle.xv_device.specs.Told.{Told}
use Rattle.xv_model.specs.Job.{Job}
use Rattle.xv_model.specs.Guest.{Ended, reads}
use Rattle.xv_model.specs.View.{View, Phase}
use Rattle.xv_model.specs.Wait.{Event, wait, fits}
use Rattle.xv_model.specs.Effect.{Turn, effect, fault_effect, answer, fault_answer, given_up}
use Rattle.xv_model.specs.Step.{Entry, call, is_call, breaks, turn, turn_by, step, view_by, entry_of, is_flagged, is_wait}
use Rattle.xv_model.specs.Contents.{Contents, moves, fault_moves, give_up_moves, contents_by, step_contents}
use Rattle.xv_model.specs.Outside.{outside}
use Rattle.xv_job.specs.Written.{job_of}
use Rattle.xv_streams.specs.Streamed.{lane}
use Rattle.xv_streams.specs.Fronts.{heads_on, contents_on}
use Rattle.xv_source.specs.Half.{Source, IsSourceOf, HasSourceBytes}
use Rattle.xv_dest.specs.Half.{IsDestOf, HasDestBytes, with_dest, with_dest_bytes}
use Rattle.xv_core.specs.Seen.{OnDevice}
use Rattle.xv_core.specs.Calls.{CallsSource}
use Rattle.xv_core.specs.State.{State, view, shown, both_tell, contents_of, on_source, ArePartsOf, IsRunning, IsCarriedOver}
use Rattle.xv_core.specs.Happening.{OneCall, Happened}
use Rattle.xv_core.specs.Settling.{is_failed, Abandoned}
use Rattle.xv_core.proofs.Keeping.Joined.{joined, joined-contents, shows}

-- the parts of a state are those of a view and of contents, whatever their phase
pub record ArePartsIn (job : Job) (w : View) (m : State) : Type 0 where
  pub history : w.history ≡ m.history
  pub stun : w.stun ≡ m.stun
  pub streams : w.streams ≡ heads_on m.streams.lanes
  pub acks : w.acks ≡ m.back.counts
  pub source : IsSourceOf job w m.source
  pub dest : IsDestOf job w m.dest

pub record HaveBytesIn (c : Contents) (m : State) : Type 0 where
  pub streams : c.streams ≡ contents_on m.streams.lanes
  pub reads : c.reads ≡ m.reads
  pub source : HasSourceBytes c m.source
  pub dest : HasDestBytes c m.dest

-- the layouts, the streams and the room on the wires are as before
pub record IsMadeAlike (s m : State) : Type 0 where
  pub source_layout : m.source.told.shape ≡ s.source.told.shape
  pub dest_layout : m.dest.told.shape ≡ s.dest.told.shape
  pub streams_shape : m.streams.shape ≡ s.streams.shape
  pub streams_format : m.streams.format ≡ s.streams.format
  pub none_made : m.streams.making ≡ []
  pub many : length m.streams.lanes ≡ length s.streams.lanes
  pub room : (k : ℕ) → (lane m.streams k).wire.capacity ≡ (lane s.streams k).wire.capacity
  pub back_room : m.back.wire.capacity ≡ s.back.wire.capacity

-- What a half's call of an event made of a state, before the event is settled.
pub record Called (s : State) (e : Event) (a : Turn) (m : State) : Type 0 where
  pub job : m.job ≡ s.job
  pub journal : m.journal ≡ s.journal
  pub history : m.history ≡ s.history
  pub reads : m.reads ≡ s.reads
  pub alike : IsMadeAlike s m
  pub done : is_flagged a ≡ false → ArePartsIn (job_of s.job) (effect (job_of s.job) (view s) e) m
  pub done_phase : is_flagged a ≡ false → (effect (job_of s.job) (view s) e).phase ≡ m.phase
  pub done_bytes : is_flagged a ≡ false → both_tell s ≡ true → HaveBytesIn (moves (job_of s.job) (view s) e (contents_of s)) m
  pub failed : is_flagged a ≡ true → ArePartsIn (job_of s.job) (view s) m
  pub failed_bytes : is_flagged a ≡ true → both_tell s ≡ true → HaveBytesIn (contents_of s) m
  pub calls : OneCall (outside (job_of s.job) (view s) e) (is_flagged a) s m
  pub carried : IsCarriedOver m.streams m.back

-- the state as `settle` leaves it
pub record IsSettled (m : State) (e : Event) (a : Turn) (t : State) : Type 0 where
  pub rest : t ≡ record m { journal = t.journal; phase = t.phase; source = t.source }
  pub journal : t.journal ≡ m.journal ++ entry_of e a
  pub phase : t.phase ≡ (if is_failed a then FailedPhase else m.phase)
  pub going : is_failed a ≡ false → t.source ≡ m.source
  pub given_up : is_failed a ≡ true → Abandoned m.source t.source

-- an event whose failed call ends the migration
pub record IsMove (job : Job) (v : View) (e : Event) : Type 0 where
  pub ends : fault_effect v e ≡ given_up v FailedPhase
  pub gives_up : (c : Contents) → fault_moves e c ≡ give_up_moves c
  pub done : is_flagged (answer job v e) ≡ false
  pub no_wait : is_wait (answer job v e) ≡ false
  pub fails : is_failed (fault_answer e) ≡ true

-- the answer of a group is no failure and no wait
pub either-done : (b : Bool) (x y : Turn) → is_flagged x ≡ false → is_flagged y ≡ false → is_flagged (if b then x else y) ≡ false
either-done true x y e f = e
either-done false x y e f = f

pub either-goes : (b : Bool) (x y : Turn) → is_wait x ≡ false → is_wait y ≡ false → is_wait (if b then x else y) ≡ false
either-goes true x y e f = e
either-goes false x y e f = f

-- The parts of the job after an event are those of it.
parts-of : (s m : State) (w : View) → IsRunning s → IsMadeAlike s m → IsSourceOf (job_of s.job) w m.source → IsDestOf (job_of s.job) w m.dest → ArePartsOf (job_of s.job) m.source m.dest m.streams m.back
parts-of s m w r alike source dest =
    let job = job_of s.job in
    record {
      source_shape = ap (λ (j : Job). j.shape) source.limits;
      source_copy = ap (λ (j : Job). j.copy) source.limits;
      source_limits = ap (λ (j : Job). j.config) source.limits;
      source_layout = alike.source_layout ∙ r.parts.source_layout;
      dest_shape = dest.shape;
      dest_limit = dest.limit;
      dest_layout = alike.dest_layout ∙ r.parts.dest_layout;
      streams_shape = alike.streams_shape ∙ r.parts.streams_shape;
      streams_format = alike.streams_format ∙ r.parts.streams_format;
      each_stream = alike.many ∙ r.parts.each_stream;
      none_made = alike.none_made;
      wires_room = λ k there. rw (alike.room k) (r.parts.wires_room k there);
      back_room = rw alike.back_room r.parts.back_room;
    }

-- A state whose parts are those of the view and the contents after an event is what happened.
record IsAfter (s : State) (e : Event) (a : Turn) (w : View) (d : Contents) (u : State) : Type 0 where
  next : step (job_of s.job) (view s) e (is_flagged a) ≡ w
  moved : step_contents (job_of s.job) (view s) e (is_flagged a) (contents_of s) ≡ d
  job : u.job ≡ s.job
  journal : u.journal ≡ s.journal ++ record { event = e; turn = a } ∷ []
  history : u.history ≡ s.history
  reads : u.reads ≡ s.reads
  alike : IsMadeAlike s u
  parts : ArePartsIn (job_of s.job) w u
  phase : w.phase ≡ u.phase
  bytes : both_tell s ≡ true → HaveBytesIn d u
  calls : OneCall (outside (job_of s.job) (view s) e) (is_flagged a) s u
  carried : IsCarriedOver u.streams u.back

happened : (s u : State) (e : Event) (a : Turn) (w : View) (d : Contents) → IsRunning s → fits (job_of s.job) e ≡ true → is_wait a ≡ false → a ≡ turn (job_of s.job) (view s) e (is_flagged a) → IsAfter s e a w d u → Happened s e a u
happened s u e a w d r fit goes answers is =
    let job = job_of s.job in
    let long : w.history ≡ (view s).history = is.parts.history ∙ is.history ∙ sym (shows s r).history in
    record {
      job = is.job;
      fitting = fit;
      goes_on = goes;
      answers = answers;
      journal = is.journal;
      parts = parts-of s u w r is.alike is.parts.source is.parts.dest;
      shows = subst (λ (x : View). shown u x ≡ x) (sym is.next) (joined u w is.parts.history is.parts.stun is.phase is.parts.streams is.parts.acks is.parts.source.part is.parts.dest.part);
      contents = λ both.
          let has = is.bytes both in
          joined-contents u d has.streams has.reads has.source.part has.dest.part ∙ sym is.moved;
      read = [];
      behind = is.reads ∙ sym (append-nil s.reads);
      reads_long =
          ap (λ (ns : List ℕ). length ns) is.reads ∙ r.reads_long ∙ ap (λ (h : List Ended). length (reads job h (length h))) (sym long)
          ∙ ap (λ (x : View). length (reads job x.history (length x.history))) (sym is.next);
      calls = is.calls;
      carried = is.carried;
    }

-- Answers that are flagged or not.
unfailed : (a : Turn) → is_flagged a ≡ false → is_failed a ≡ false
unfailed (Done n) e = refl
unfailed Queued e = refl
unfailed Faulted e = absurd (cc)
unfailed (Waits why) e = refl
unfailed (Broke cause) e = absurd (cc)

-- what is waited for where an answer is no wait
nothing : (w : Option Why) (b : Bool) (job : Job) (v : View) (e : Event) → is_wait (turn_by w b job v e) ≡ false → w ≡ None
nothing None b job v e h = refl
nothing (Some why) b job v e h = absurd (cc)

pub goes-on : (job : Job) (v : View) (e : Event) (a : Turn) (flag : Bool) → is_wait a ≡ false → a ≡ turn job v e flag → wait job v e flag ≡ None
goes-on job v e a flag goes answers = nothing (wait job v e flag) (breaks job v e flag) job v e (subst (λ (x : Turn). is_wait x ≡ false) answers goes)

-- what both answers of an event are, an answer that is no wait is
either-by : (is : Turn → Bool) (w : Option Why) (b : Bool) (job : Job) (v : View) (e : Event) → is_wait (turn_by w b job v e) ≡ false → is (answer job v e) ≡ true → is (fault_answer e) ≡ true → is (turn_by w b job v e) ≡ true
either-by is None false job v e goes done fails = done
either-by is None true job v e goes done fails = fails
either-by is (Some why) b job v e goes done fails = absurd (cc)

pub either-way : (is : Turn → Bool) (job : Job) (v : View) (e : Event) (a : Turn) → is_wait a ≡ false → a ≡ turn job v e (is_flagged a) → is (answer job v e) ≡ true → is (fault_answer e) ≡ true → is a ≡ true
either-way is job v e a goes answers done fails =
    let flag = is_flagged a in
    ap is answers ∙ either-by is (wait job v e flag) (breaks job v e flag) job v e (subst (λ (x : Turn). is_wait x ≡ false) answers goes) done fails

-- what a call that failed leaves, and what one that went well makes
pub goes-well : {A : Type 0} (failed : Bool) (x y z : A) → z ≡ (if failed then x else y) → failed ≡ false → z ≡ y
goes-well failed x y z e n = e ∙ ap (λ (b : Bool). if b then x else y) n

pub goes-wrong : {A : Type 0} (failed : Bool) (x y z : A) → z ≡ (if failed then x else y) → failed ≡ true → z ≡ x
goes-wrong failed x y z e n = e ∙ ap (λ (b : Bool). if b then x else y) n

-- the step of an event that went on, as it would go without the flag
pub effect-is : (job : Job) (v : View) (e : Event) (a : Turn) → is_wait a ≡ false → a ≡ turn job v e (is_flagged a) → is_flagged a ≡ false → step job v e false ≡ effect job v e
effect-is job v e a goes answers unflagged =
    ap (λ (w : Option Why). view_by w false job v e) (goes-on job v e a false goes (subst (λ (f : Bool). a ≡ turn job v e f) unflagged answers))

pub moves-is : (job : Job) (v : View) (e : Event) (a : Turn) (c : Contents) → is_wait a ≡ false → a ≡ turn job v e (is_flagged a) → is_flagged a ≡ false → step_contents job v e false c ≡ moves job v e c
moves-is job v e a c goes answers unflagged =
    ap (λ (w : Option Why). contents_by w false job v e c) (goes-on job v e a false goes (subst (λ (f : Bool). a ≡ turn job v e f) unflagged answers))

-- the step of an event that went on
record IsDone (job : Job) (v : View) (e : Event) (a : Turn) (c : Contents) : Type 0 where
  next : step job v e (is_flagged a) ≡ effect job v e
  moved : step_contents job v e (is_flagged a) c ≡ moves job v e c

is-done : (job : Job) (v : View) (e : Event) (a : Turn) (c : Contents) → is_wait a ≡ false → a ≡ turn job v e (is_flagged a) → is_flagged a ≡ false → IsDone job v e a c
is-done job v e a c goes answers unflagged = record {
  next = ap (λ (f : Bool). step job v e f) unflagged ∙ effect-is job v e a goes answers unflagged;
  moved = ap (λ (f : Bool). step_contents job v e f c) unflagged ∙ moves-is job v e a c goes answers unflagged;
}

-- the step of an event whose call failed
record HasEnded (job : Job) (v : View) (e : Event) (a : Turn) (c : Contents) : Type 0 where
  next : step job v e (is_flagged a) ≡ given_up v FailedPhase
  moved : step_contents job v e (is_flagged a) c ≡ give_up_moves c
  failed : is_failed a ≡ true

breaks-by : (calls : Bool) (job : Job) (v : View) (e : Event) → is_flagged (answer job v e) ≡ false → is_flagged (turn_by None (true && calls) job v e) ≡ true → calls ≡ true
breaks-by true job v e done flagged = refl
breaks-by false job v e done flagged = absurd (cc)

has-ended : (job : Job) (v : View) (e : Event) (a : Turn) (c : Contents) → IsMove job v e → is_wait a ≡ false → a ≡ turn job v e (is_flagged a) → is_flagged a ≡ true → HasEnded job v e a c
has-ended job v e a c move goes answers flagged =
    let answered : a ≡ turn job v e true = subst (λ (f : Bool). a ≡ turn job v e f) flagged answers in
    let none : wait job v e true ≡ None = goes-on job v e a true goes answered in
    let by_call : a ≡ turn_by None (breaks job v e true) job v e = answered ∙ ap (λ (w : Option Why). turn_by w (breaks job v e true) job v e) none in
    let broke : breaks job v e true ≡ true = breaks-by (is_call (call job v e)) job v e move.done (subst (λ (x : Turn). is_flagged x ≡ true) by_call flagged) in
    let is : a ≡ fault_answer e = by_call ∙ ap (λ (b : Bool). turn_by None b job v e) broke in
    record {
      next = ap (λ (f : Bool). step job v e f) flagged ∙ ap (λ (w : Option Why). view_by w (breaks job v e true) job v e) none ∙ ap (λ (b : Bool). view_by None b job v e) broke ∙ move.ends;
      moved = ap (λ (f : Bool). step_contents job v e f c) flagged ∙ ap (λ (w : Option Why). contents_by w (breaks job v e true) job v e c) none ∙ ap (λ (b : Bool). contents_by None b job v e c) broke ∙ move.gives_up c;
      failed = ap is_failed is ∙ move.fails;
    }

-- What is not the source's stays where all is given up.
dest-given-up : (job : Job) (v : View) (m : State) → IsDestOf job v m.dest → IsDestOf job (given_up v FailedPhase) m.dest
dest-given-up job v m is = record {
  shape = is.shape;
  limit = is.limit;
  part = subst (λ (w : View). with_dest (given_up w FailedPhase) m.dest ≡ given_up w FailedPhase) is.part refl;
}

bytes-given-up : (c : Contents) (m : State) → HasDestBytes c m.dest → HasDestBytes (give_up_moves c) m.dest
bytes-given-up c m has = record {
  told = has.told;
  part = subst (λ (d : Contents). with_dest_bytes (give_up_moves d) m.dest ≡ give_up_moves d) has.part refl;
}

-- An event that was settled where its call went well, and one where it failed.
is-after : (s m t : State) (e : Event) (a : Turn) → is_wait a ≡ false → a ≡ turn (job_of s.job) (view s) e (is_flagged a) → Called s e a m → is_flagged a ≡ false →
    IsAfter s e a (effect (job_of s.job) (view s) e) (moves (job_of s.job) (view s) e (contents_of s)) (record m { journal = s.journal ++ record { event = e; turn = a } ∷ [] })
is-after s m t e a goes answers by unflagged =
    let done = is-done (job_of s.job) (view s) e a (contents_of s) goes answers unflagged in
    let parts = by.done unflagged in
    record {
      next = done.next;
      moved = done.moved;
      job = by.job;
      journal = refl;
      history = by.history;
      reads = by.reads;
      alike = record {
        source_layout = by.alike.source_layout;
        dest_layout = by.alike.dest_layout;
        streams_shape = by.alike.streams_shape;
        streams_format = by.alike.streams_format;
        none_made = by.alike.none_made;
        many = by.alike.many;
        room = by.alike.room;
        back_room = by.alike.back_room;
      };
      parts = record {
        history = parts.history;
        stun = parts.stun;
        streams = parts.streams;
        acks = parts.acks;
        source = parts.source;
        dest = parts.dest;
      };
      phase = by.done_phase unflagged;
      bytes = λ both.
          let has = by.done_bytes unflagged both in
          record { streams = has.streams; reads = has.reads; source = has.source; dest = has.dest };
      calls = record { source = by.calls.source; dest = by.calls.dest; streams = by.calls.streams; back = by.calls.back };
      carried = by.carried;
    }

is-after-failed : (s m t : State) (e : Event) (a : Turn) → IsMove (job_of s.job) (view s) e → is_wait a ≡ false → a ≡ turn (job_of s.job) (view s) e (is_flagged a) → Called s e a m → is_flagged a ≡ true → Abandoned m.source t.source →
    IsAfter s e a (given_up (view s) FailedPhase) (give_up_moves (contents_of s)) (record m { journal = s.journal ++ record { event = e; turn = a } ∷ []; phase = FailedPhase; source = t.source })
is-after-failed s m t e a move goes answers by flagged gone =
    let job = job_of s.job in
    let v = view s in
    let ended = has-ended job v e a (contents_of s) move goes answers flagged in
    let parts = by.failed flagged in
    let same : on_source t.source ≡ on_source m.source =
    ap (λ (told : Told). record { told = told; faults = t.source.faults }) gone.call.told ∙ ap (λ (n : ℕ). record { told = m.source.told; faults = n }) gone.call.faults in
    record {
      next = ended.next;
      moved = ended.moved;
      job = by.job;
      journal = refl;
      history = by.history;
      reads = by.reads;
      alike = record {
        source_layout = ap (λ (told : Told). told.shape) gone.call.told ∙ by.alike.source_layout;
        dest_layout = by.alike.dest_layout;
        streams_shape = by.alike.streams_shape;
        streams_format = by.alike.streams_format;
        none_made = by.alike.none_made;
        many = by.alike.many;
        room = by.alike.room;
        back_room = by.alike.back_room;
      };
      parts = record {
        history = parts.history;
        stun = parts.stun;
        streams = parts.streams;
        acks = parts.acks;
        source = gone.part job v FailedPhase parts.source;
        dest = dest-given-up job v m parts.dest;
      };
      phase = refl;
      bytes = λ both.
          let has = by.failed_bytes flagged both in
          record {
            streams = has.streams;
            reads = has.reads;
            source = gone.bytes (contents_of s) has.source;
            dest = bytes-given-up (contents_of s) m has.dest;
          };
      calls = record {
        source = subst (λ (d : OnDevice). CallsSource (outside job v e) (is_flagged a) (on_source s.source) d) (sym same) by.calls.source;
        dest = by.calls.dest;
        streams = by.calls.streams;
        back = by.calls.back;
      };
      carried = by.carried;
    }

-- the state that is settled, written out
entries : (m t : State) (s : State) (e : Event) (a : Turn) → m.journal ≡ s.journal → is_wait a ≡ false → t.journal ≡ m.journal ++ entry_of e a → t.journal ≡ s.journal ++ record { event = e; turn = a } ∷ []
entries m t s e a same goes journal =
    journal ∙ ap (λ (es : List Entry). es ++ entry_of e a) same
    ∙ ap (λ (b : Bool). s.journal ++ (if b then [] else record { event = e; turn = a } ∷ [])) goes

written : (m t : State) (journal : List Entry) (phase : Phase) (source : Source) → t ≡ record m { journal = t.journal; phase = t.phase; source = t.source } → t.journal ≡ journal → t.phase ≡ phase → t.source ≡ source →
    record m { journal = journal; phase = phase; source = source } ≡ t
written m t journal phase source rest e f g = rw (← e, ← f, ← g) (sym rest)

-- An event that moves messages happened, once it is settled.
pub settles : (s m t : State) (e : Event) (a : Turn) → IsRunning s → fits (job_of s.job) e ≡ true → is_wait a ≡ false → a ≡ turn (job_of s.job) (view s) e (is_flagged a) → IsMove (job_of s.job) (view s) e → Called s e a m → IsSettled m e a t → Happened s e a t
settles s m t e a r fit goes answers move by is = elim (cases_Bool (is_flagged a)) [
  | inl flagged ↦
      let failed : is_failed a ≡ true = (has-ended (job_of s.job) (view s) e a (contents_of s) move goes answers flagged).failed in
      subst (Happened s e a)
      (written m t (s.journal ++ record { event = e; turn = a } ∷ []) FailedPhase t.source is.rest (entries m t s e a by.journal goes is.journal)
      (is.phase ∙ ap (λ (b : Bool). if b then FailedPhase else m.phase) failed) refl)
      (happened s _ e a _ _ r fit goes answers (is-after-failed s m t e a move goes answers by flagged (is.given_up failed)))
  | inr unflagged ↦
      let fine : is_failed a ≡ false = unfailed a unflagged in
      subst (Happened s e a)
      (written m t (s.journal ++ record { event = e; turn = a } ∷ []) m.phase m.source is.rest (entries m t s e a by.journal goes is.journal)
      (is.phase ∙ ap (λ (b : Bool). if b then FailedPhase else m.phase) fine) (is.going fine))
      (happened s _ e a _ _ r fit goes answers (is-after s m t e a goes answers by unflagged))
]
