-- That an event happened to the parts of a migration.
use Rattle.std.specs.Prelude.{◌≡◌, ℕ, Bool, true, false, List, [], ◌∷◌, ◌++◌, length, set}
use Rattle.xv_model.specs.Guest.{reads}
use Rattle.xv_model.specs.Wait.{Event, fits}
use Rattle.xv_model.specs.Effect.{Turn}
use Rattle.xv_model.specs.Step.{turn, step, is_flagged, is_wait}
use Rattle.xv_model.specs.Contents.{step_contents}
use Rattle.xv_model.specs.Outside.{Outside, NoOutside, ReadSource, WriteSource, ReadDest, WriteDest, FlushDest, PutOn, TakeFrom, PutBack, TakeBack, outside}
use Rattle.xv_job.specs.Written.{job_of}
use Rattle.xv_frame.specs.Frame.{Message}
use Rattle.xv_streams.specs.Streamed.{Streamed, lane}
use Rattle.xv_streams.specs.Fronts.{PutsGroup, TakesFront}
use Rattle.xv_streams.specs.Returned.{Returned, AckPut, TakesFirst}
use Rattle.xv_core.specs.Calls.{CallsSource, CallsDest}
use Rattle.xv_core.specs.State.{State, view, shown, both_tell, contents_of, on_source, on_dest, ArePartsOf, IsCarriedOver}

-- the other streams stayed as they were
pub record OnlyStream (s : ℕ) (before later : Streamed) : Type 0 where
  pub lanes : later.lanes ≡ set before.lanes s (lane later s)

-- some messages were put on a stream as one group, or the put failed
pub record PutsSome (s : ℕ) (failed : Bool) (before later : Streamed) : Type 0 where
  pub group : List Message
  pub put : PutsGroup before.format group failed (lane before s) (lane later s)
  pub only : OnlyStream s before later

-- the front of a stream was taken off, or the take failed
pub record TakesSome (s : ℕ) (failed : Bool) (before later : Streamed) : Type 0 where
  pub taken : TakesFront before.shape failed (lane before s) (lane later s)
  pub only : OnlyStream s before later

-- an acknowledgement was put, or the put failed
pub record PutsCount (failed : Bool) (before later : Returned) : Type 0 where
  pub count : ℕ
  pub put : AckPut count failed before later

-- what an event's call does to the streams, and to the way back
abbrev pub CallsStreams : Outside → Bool → Streamed → Streamed → Type 0
CallsStreams NoOutside failed before later = later.lanes ≡ before.lanes
CallsStreams (ReadSource p) failed before later = later.lanes ≡ before.lanes
CallsStreams (WriteSource p) failed before later = later.lanes ≡ before.lanes
CallsStreams (ReadDest p) failed before later = later.lanes ≡ before.lanes
CallsStreams (WriteDest p) failed before later = later.lanes ≡ before.lanes
CallsStreams FlushDest failed before later = later.lanes ≡ before.lanes
CallsStreams (PutOn s) failed before later = PutsSome s failed before later
CallsStreams (TakeFrom s) failed before later = TakesSome s failed before later
CallsStreams PutBack failed before later = later.lanes ≡ before.lanes
CallsStreams TakeBack failed before later = later.lanes ≡ before.lanes

abbrev pub CallsBack : Outside → Bool → Returned → Returned → Type 0
CallsBack NoOutside failed before later = later ≡ before
CallsBack (ReadSource p) failed before later = later ≡ before
CallsBack (WriteSource p) failed before later = later ≡ before
CallsBack (ReadDest p) failed before later = later ≡ before
CallsBack (WriteDest p) failed before later = later ≡ before
CallsBack FlushDest failed before later = later ≡ before
CallsBack (PutOn s) failed before later = later ≡ before
CallsBack (TakeFrom s) failed before later = later ≡ before
CallsBack PutBack failed before later = PutsCount failed before later
CallsBack TakeBack failed before later = TakesFirst failed before later

-- exactly the call of an event was made, on one object, and failed or did not
pub record OneCall (call : Outside) (failed : Bool) (s t : State) : Type 0 where
  pub source : CallsSource call failed (on_source s.source) (on_source t.source)
  pub dest : CallsDest call failed (on_dest s.dest) (on_dest t.dest)
  pub streams : CallsStreams call failed s.streams t.streams
  pub back : CallsBack call failed s.back t.back

-- An event happened: it was answered as the machine answers it, the journal has it as its last entry, the parts show the
-- view after it, they have the contents after it, the bytes that it read come behind those read before, and exactly its
-- call was made.
pub record Happened (s : State) (event : Event) (answer : Turn) (t : State) : Type 0 where
  pub job : t.job ≡ s.job
  pub fitting : fits (job_of s.job) event ≡ true
  pub goes_on : is_wait answer ≡ false
  pub answers : answer ≡ turn (job_of s.job) (view s) event (is_flagged answer)
  pub journal : t.journal ≡ s.journal ++ record { event = event; turn = answer } ∷ []
  pub parts : ArePartsOf (job_of s.job) t.source t.dest t.streams t.back
  pub shows : shown t (step (job_of s.job) (view s) event (is_flagged answer)) ≡ step (job_of s.job) (view s) event (is_flagged answer)
  pub contents : both_tell s ≡ true → contents_of t ≡ step_contents (job_of s.job) (view s) event (is_flagged answer) (contents_of s)
  pub read : List ℕ
  pub behind : t.reads ≡ s.reads ++ read
  pub reads_long : length t.reads ≡ length (reads (job_of s.job) (step (job_of s.job) (view s) event (is_flagged answer)).history (length (step (job_of s.job) (view s) event (is_flagged answer)).history))
  pub calls : OneCall (outside (job_of s.job) (view s) event) (is_flagged answer) s t
  pub carried : IsCarriedOver t.streams t.back
