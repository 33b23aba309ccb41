-- An operation of a guest that goes on changes one half, the history and what was read: from that half's step to what
-- happened to the migration.
use Rattle.std.specs.Prelude.{◌≡◌, ℕ, Bool, true, false, List, [], ◌∷◌, ◌++◌, ◌≤◌, ◌<◌, ◌+◌, length, take, is_none, Option, Some, None, is_some, unwrap_or, if◌then◌else◌}
use Rattle.std.proofs.lemmas.List.{length-append, length-take}
use Rattle.std.proofs.Common.{arith, refl, ap, sym, subst, ◌∙◌}
use Rattle.xv_base.specs.Pattern.{repeated}
use Rattle.xv_base.specs.Units.{Shape, is_page}
use Rattle.xv_device.specs.Device.{DeviceCall, PatchRange, WriteUnit}
use Rattle.xv_device.specs.Told.{CallMade}
use Rattle.xv_model.specs.Job.{Job, UnitOp, operation, trace}
use Rattle.xv_model.specs.Guest.{Ended, ended, is_done, reads}
use Rattle.xv_model.specs.View.{View}
use Rattle.xv_model.specs.Wait.{Event, Why, wait, fits}
use Rattle.xv_model.specs.Effect.{Turn}
use Rattle.xv_model.specs.Step.{turn, turn_by, breaks, step, is_flagged, is_wait}
use Rattle.xv_model.specs.Contents.{Contents, step_contents}
use Rattle.xv_model.specs.Outside.{Part, ReadSource, WriteSource, outside, part_of}
use Rattle.xv_job.specs.Written.{job_of}
use Rattle.xv_streams.specs.Fronts.{heads_on}
use Rattle.xv_source.specs.Half.{Source, IsSourceOf, AreWhole}
use Rattle.xv_source.specs.Step.{operation_call_by}
use Rattle.xv_dest.specs.Half.{Dest, IsDestOf, with_dest_bytes}
use Rattle.xv_core.specs.Calls.{Made, write_call}
use Rattle.xv_core.specs.State.{State, view, shown, both_tell, contents_of, on_source, on_dest, IsRunning, IsCarriedOver}
use Rattle.xv_core.specs.Happening.{OneCall, Happened}
use Rattle.xv_model.proofs.Contents.Sizes.{length-repeated}
use Rattle.xv_core.proofs.Keeping.Joined.{joined, view-holds}
use Rattle.xv_core.specs.Reads.{read_length}
use Rattle.xv_model.proofs.Histories.{push}
use Rattle.xv_core.proofs.Keeping.Reads.{source-whole, length-reads-push}

-- the parts after an event that was answered
abbrev pub operated : State → Event → Turn → List Ended → Source → Dest → List ℕ → State
operated s e a h source dest bytes = record s {
  journal = s.journal ++ record { event = e; turn = a } ∷ [];
  history = h;
  source = source;
  dest = dest;
  reads = bytes;
}

-- what a view has besides the halves' parts
pub record HasRest (s : State) (h : List Ended) (w : View) : Type 0 where
  pub longer : w.history ≡ h
  pub stun : w.stun ≡ s.stun
  pub phase : w.phase ≡ s.phase
  pub streams : w.streams ≡ heads_on s.streams.lanes
  pub acks : w.acks ≡ s.back.counts

-- An event of a guest went on, and left this history, these halves and these bytes read.
pub record Operates (s : State) (e : Event) (a : Turn) (h : List Ended) (source : Source) (dest : Dest) (bytes : List ℕ) (w : View) : Type 0 where
  pub fitting : fits (job_of s.job) e ≡ true
  pub goes_on : is_wait a ≡ false
  pub answers : a ≡ turn (job_of s.job) (view s) e (is_flagged a)
  pub stepped : step (job_of s.job) (view s) e (is_flagged a) ≡ w
  pub rest : HasRest s h w
  pub of_source : IsSourceOf (job_of s.job) w source
  pub of_dest : IsDestOf (job_of s.job) w dest
  pub source_layout : source.told.shape ≡ s.source.told.shape
  pub dest_layout : dest.told.shape ≡ s.dest.told.shape
  pub contents : both_tell s ≡ true → contents_of (operated s e a h source dest bytes) ≡ step_contents (job_of s.job) (view s) e (is_flagged a) (contents_of s)
  pub read : List ℕ
  pub behind : bytes ≡ s.reads ++ read
  pub more_read : length bytes ≡ length (reads (job_of s.job) w.history (length w.history))
  pub calls : OneCall (outside (job_of s.job) (view s) e) (is_flagged a) s (operated s e a h source dest bytes)

pub happened : (s : State) (e : Event) (a : Turn) (h : List Ended) (source : Source) (dest : Dest) (bytes : List ℕ) (w : View) → IsRunning s → IsCarriedOver s.streams s.back → Operates s e a h source dest bytes w → Happened s e a (operated s e a h source dest bytes)
happened s e a h source dest bytes w r carried x =
    let t = operated s e a h source dest bytes in
    record {
      job = refl;
      fitting = x.fitting;
      goes_on = x.goes_on;
      answers = x.answers;
      journal = refl;
      parts = record {
        source_shape = ap (λ (j : Job). j.shape) x.of_source.limits;
        source_copy = ap (λ (j : Job). j.copy) x.of_source.limits;
        source_limits = ap (λ (j : Job). j.config) x.of_source.limits;
        source_layout = x.source_layout ∙ r.parts.source_layout;
        dest_shape = x.of_dest.shape;
        dest_limit = x.of_dest.limit;
        dest_layout = x.dest_layout ∙ r.parts.dest_layout;
        streams_shape = r.parts.streams_shape;
        streams_format = r.parts.streams_format;
        each_stream = r.parts.each_stream;
        none_made = r.parts.none_made;
        wires_room = r.parts.wires_room;
        back_room = r.parts.back_room;
      };
      shows = subst (λ (u : View). shown t u ≡ u) (sym x.stepped) (joined t w x.rest.longer x.rest.stun x.rest.phase x.rest.streams x.rest.acks x.of_source.part x.of_dest.part);
      contents = x.contents;
      read = x.read;
      behind = x.behind;
      reads_long = subst (λ (u : View). length bytes ≡ length (reads (job_of s.job) u.history (length u.history))) (sym x.stepped) x.more_read;
      calls = x.calls;
      carried = carried;
    }

-- an answer that is no wait comes where nothing is waited for
no-wait : (w : Option Why) (b : Bool) (job : Job) (v : View) (e : Event) (a : Turn) → a ≡ turn_by w b job v e → is_wait a ≡ false → w ≡ None
no-wait None b job v e a is goes = refl
no-wait (Some why) b job v e a is goes = let waits : is_wait a ≡ true = ap is_wait is in absurd (cc)

pub goes-on : (job : Job) (v : View) (e : Event) (a : Turn) → a ≡ turn job v e (is_flagged a) → is_wait a ≡ false → wait job v e (is_flagged a) ≡ None
goes-on job v e a is goes = no-wait (wait job v e (is_flagged a)) (breaks job v e (is_flagged a)) job v e a is goes

-- the device's call of an operation is the one that the machine makes of it on the source
pub covering : (b : Bool) (p : Part) (bytes : List ℕ) → (if b then PatchRange p.unit p.offset bytes else WriteUnit p.unit bytes) ≡ write_call b p bytes
covering true p bytes = refl
covering false p bytes = refl

pub calls-source : (shape : Shape) (op : UnitOp) (w : Option (List ℕ)) (failed : Bool) (s t : State) →
    CallMade (operation_call_by shape op w) failed s.source.told t.source.told s.source.faults t.source.faults → on_dest t.dest ≡ on_dest s.dest → t.streams.lanes ≡ s.streams.lanes → t.back ≡ s.back →
    OneCall (if is_some w then WriteSource (part_of op) else ReadSource (part_of op)) failed s t
calls-source shape op None failed s t made dest lanes back = record { source = made; dest = dest; streams = lanes; back = back }
calls-source shape op (Some pattern) failed s t made dest lanes back = record {
  source = record {
    patches = is_page shape op.unit.0;
    bytes = repeated pattern op.len;
    covers = length-repeated pattern op.len;
    made = subst (λ (c : DeviceCall). Made c failed (on_source s.source) (on_source t.source)) (covering (is_page shape op.unit.0) (part_of op) (repeated pattern op.len)) made;
  };
  dest = dest;
  streams = lanes;
  back = back;
}

-- contents of which the destination's half has its part
pub dest-bytes : (c : Contents) (h : Dest) → unwrap_or h.told.contents [] ≡ c.dest → h.contents ≡ c.held → with_dest_bytes c h ≡ c
dest-bytes c h dest held =
    ap (λ (x : List (List ℕ)). record c { dest = x; held = h.contents }) dest ∙ ap (λ (x : List (List ℕ)). record c { held = x }) held

-- the source tells contents of the units' sizes
pub source-is-whole : (s : State) → IsRunning s → both_tell s ≡ true → AreWhole s.source.shape (contents_of s).source
source-is-whole s r both =
    subst (λ (shape : Shape). AreWhole shape (contents_of s).source) (sym r.parts.source_shape) (record { whole = λ unit there. source-whole s unit r both there })

-- how much is read once one operation more has ended
pub reads-longer : (s : State) (e : Ended) (more : ℕ) → IsRunning s → ended (view s).history e.guest.0 < length (trace (job_of s.job) e.guest.0) →
    more ≡ (if is_done e.outcome then read_length (operation (job_of s.job) e.guest.0 (ended (view s).history e.guest.0)) else 0) →
    length s.reads + more ≡ length (reads (job_of s.job) (push (view s).history e) (length (push (view s).history e)))
reads-longer s e more r more_there is =
    let job = job_of s.job in
    let h = (view s).history in
    let long : length (push h e) ≡ length h + 1 = length-append h (e ∷ []) in
    let grown = length-reads-push job h e r.good (view-holds s r).history.legal more_there in
    omega (arith, r.reads_long, is, grown, ap (λ (n : ℕ). length (reads job (push h e) n)) long)

pub length-read : (write : Option (List ℕ)) (len : ℕ) (bytes : List ℕ) → 64 ≤ length bytes → (is_some write ≡ false → len ≤ 64) →
    length (if is_none write then take len bytes else []) ≡ (if is_none write then len else 0)
length-read None len bytes room short = omega (arith, length-take len bytes, short refl)
length-read (Some pattern) len bytes room short = refl
