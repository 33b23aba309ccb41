-- What one step of a migration does, as contracts see it.
use Rattle.std.specs.Prelude.{◌≡◌, ◌≤◌, ℕ, ◌+◌, ◌-◌, ◌^◌, ◌&&◌, min, Bool, true, false, List, ◌++◌, map, length, None, is_some}
use Rattle.std.specs.List.{list_all}
use Rattle.xv_base.specs.declared.limits.TheConstants.{MOST_PATTERN}
use Rattle.xv_model.specs.Guest.{read_bytes}
use Rattle.xv_model.specs.Wait.{Event, wait}
use Rattle.xv_model.specs.Effect.{Turn}
use Rattle.xv_model.specs.Step.{turn, step, entry_of, is_flagged, is_wait}
use Rattle.xv_model.specs.Contents.{unit_content}
use Rattle.xv_model.specs.Outside.{Outside, NoOutside, ReadSource, WriteSource, ReadDest, WriteDest, FlushDest, PutOn, TakeFrom, PutBack, TakeBack, outside}
use Rattle.xv_model.specs.Report.{is_written}
use Rattle.xv_job.specs.Written.{job_of}
use Rattle.xv_core.specs.Seen.{Seen, OnWire, view_of, wire}
use Rattle.xv_core.specs.Rising.{Rises, TakesRise}
use Rattle.xv_core.specs.Keeping.{told_contents, tells}

-- the faults of an object rose, or stand at the last value of 64 bits
abbrev pub Rose : ℕ → ℕ → Type 0
Rose before later = min (before + 1) (2 ^ 64 - 1) ≤ later

-- the count of the object of a call rose
abbrev pub RoseOn : Outside → Seen → Seen → Type 0
RoseOn NoOutside old new = ⊥
RoseOn (ReadSource p) old new = Rose old.source.faults new.source.faults
RoseOn (WriteSource p) old new = Rose old.source.faults new.source.faults
RoseOn (ReadDest p) old new = Rose old.dest.faults new.dest.faults
RoseOn (WriteDest p) old new = Rose old.dest.faults new.dest.faults
RoseOn FlushDest old new = Rose old.dest.faults new.dest.faults
RoseOn (PutOn s) old new = Rose (wire old s).faults (wire new s).faults
RoseOn (TakeFrom s) old new = Rose (wire old s).faults (wire new s).faults
RoseOn PutBack old new = Rose old.back.faults new.back.faults
RoseOn TakeBack old new = Rose old.back.faults new.back.faults

-- what wires tell, without their faults
abbrev pub told_by : OnWire → OnWire
told_by w = record w { faults = 0 }

-- nothing changed but that a wire may have counted a fault
pub record IsAsBefore (old new : Seen) : Type 0 where
  pub job : new.job ≡ old.job
  pub journal : new.journal ≡ old.journal
  pub reads : new.reads ≡ old.reads
  pub regions : new.regions ≡ old.regions
  pub outbox : new.outbox ≡ old.outbox
  pub held : new.held ≡ old.held
  pub source : new.source ≡ old.source
  pub dest : new.dest ≡ old.dest
  pub wires : map told_by new.wires ≡ map told_by old.wires
  pub back : told_by new.back ≡ told_by old.back

-- a unit of the destination that is not written holds what it held
pub record KeepsUnwritten (old new : Seen) : Type 0 where
  pub units : (unit : ℕ) → is_written (view_of new) unit ≡ false → unit_content (told_contents new.dest) unit ≡ unit_content (told_contents old.dest) unit

-- the bytes that an event read for its guest come behind those read before: none where it is no read, at most `MOST_PATTERN`
pub record ReadsMore (old : Seen) (event : Event) (answer : Turn) (new : Seen) : Type 0 where
  pub bytes : List ℕ
  pub behind : new.reads ≡ old.reads ++ bytes
  pub long : length bytes ≡ length (read_bytes (job_of old.job) (step (job_of old.job) (view_of old) event (is_flagged answer)).history (length (view_of old).history))
  pub few : length bytes ≤ MOST_PATTERN

-- where all wires tell their plans, a call failed only where its event had something to do: a take meets no fault where
-- nothing is in transit
abbrev pub tells_plans : Seen → Bool
tells_plans m = list_all (λ w. is_some w.told.counted) m.wires && is_some m.back.told.counted

abbrev pub FindsSome : Seen → Event → Turn → Type 0
FindsSome old event answer =
    tells_plans old ≡ true → is_flagged answer ≡ true → wait (job_of old.job) (view_of old) event false ≡ None

-- a device that tells what it holds goes on to tell it, of as many units, and one that does not tells nothing; there are as
-- many wires
pub record TellsOn (old new : Seen) : Type 0 where
  pub source : tells new.source ≡ tells old.source
  pub dest : tells new.dest ≡ tells old.dest
  pub source_units : length (told_contents new.source) ≡ length (told_contents old.source)
  pub dest_units : length (told_contents new.dest) ≡ length (told_contents old.dest)
  pub wires : length new.wires ≡ length old.wires

-- One step: the answer is the machine's, where a call on the outside fails or not; the journal has one entry more, or as
-- many as before where the event waits; a wait changes nothing; all that is counted rises by the journal's calls, and no
-- count of faults falls; an answer that a call failed comes only where the count of faults of its object rose, and where
-- plans are told only where there was something to do; what is not written stays, what is read comes behind what was read,
-- and the devices tell on.
pub record IsStep (old : Seen) (event : Event) (answer : Turn) (new : Seen) : Type 0 where
  pub job : new.job ≡ old.job
  pub answers : answer ≡ turn (job_of old.job) (view_of old) event (is_flagged answer)
  pub journal : new.journal ≡ old.journal ++ entry_of event answer
  pub waits : is_wait answer ≡ true → IsAsBefore old new
  pub rises : Rises old new
  pub takes_rise : TakesRise old new
  pub cause : is_flagged answer ≡ true → RoseOn (outside (job_of old.job) (view_of old) event) old new
  pub unwritten : KeepsUnwritten old new
  pub reads : ReadsMore old event answer new
  pub finds : FindsSome old event answer
  pub tells : TellsOn old new
