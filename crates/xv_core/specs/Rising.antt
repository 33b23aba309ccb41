-- How the numbers of devices and wires rise from one state to a later one: by as much as the journal's calls. So from the
-- beginning to the end they rise by all calls that the journal has.
use Rattle.std.specs.Prelude.{◌≡◌, ◌≤◌, ℕ, ◌+◌, List, Option, Some, None, ⊤}
use Rattle.xv_device.specs.Device.{write_count, Counted as DeviceCounted}
use Rattle.xv_wire.specs.Wire.{Counted as WireCounted}
use Rattle.xv_model.specs.Job.{Job}
use Rattle.xv_model.specs.Step.{Entry, Call, SourceRead, SourceWrite, DestRead, DestWrite, DestFlush, Put, Take, AckPut, AckTake}
use Rattle.xv_model.specs.Outside.{calls_of_kind, source_writes, dest_writes}
use Rattle.xv_job.specs.Written.{job_of}
use Rattle.xv_core.specs.Seen.{Seen, wire}
use Rattle.xv_core.specs.Plans.{takes_met}

-- neither is told, or both are and stand so to each other
abbrev pub BothTold : {A : Type 0} → (A → A → Type 0) → Option A → Option A → Type 0
BothTold R None None = ⊤
BothTold R None (Some b) = ⊥
BothTold R (Some a) None = ⊥
BothTold R (Some a) (Some b) = R a b

-- a number rose as the journal's number of a kind did, or of the writes of a unit
abbrev pub RisesAs : Job → List Entry → List Entry → Call → ℕ → ℕ → Type 0
RisesAs job old new c before later = later + calls_of_kind job old c ≡ before + calls_of_kind job new c

pub record SourceRises (job : Job) (old new : List Entry) (before later : DeviceCounted) : Type 0 where
  pub plan : later.plan ≡ before.plan
  pub reads : RisesAs job old new SourceRead before.calls.reads later.calls.reads
  pub patches : RisesAs job old new SourceWrite before.calls.writes later.calls.writes
  pub flushes : later.calls.flushes ≡ before.calls.flushes

pub record DestRises (job : Job) (old new : List Entry) (before later : DeviceCounted) : Type 0 where
  pub plan : later.plan ≡ before.plan
  pub reads : RisesAs job old new DestRead before.calls.reads later.calls.reads
  pub patches : RisesAs job old new DestWrite before.calls.writes later.calls.writes
  pub flushes : RisesAs job old new DestFlush before.calls.flushes later.calls.flushes

pub record PutsRise (job : Job) (old new : List Entry) (c : Call) (before later : WireCounted) : Type 0 where
  pub plan : later.plan ≡ before.plan
  pub puts : RisesAs job old new c before.puts later.puts

pub record RisesBy (job : Job) (before later : Seen) : Type 0 where
  pub at_source : (unit : ℕ) → write_count later.source.told.writes unit + source_writes job before.journal unit ≡ write_count before.source.told.writes unit + source_writes job later.journal unit
  pub at_dest : (unit : ℕ) → write_count later.dest.told.writes unit + dest_writes job before.journal unit ≡ write_count before.dest.told.writes unit + dest_writes job later.journal unit
  pub source_calls : BothTold (SourceRises job before.journal later.journal) before.source.told.counted later.source.told.counted
  pub dest_calls : BothTold (DestRises job before.journal later.journal) before.dest.told.counted later.dest.told.counted
  pub puts : (s : ℕ) → BothTold (PutsRise job before.journal later.journal (Put s)) (wire before s).told.counted (wire later s).told.counted
  pub back_puts : BothTold (PutsRise job before.journal later.journal AckPut) before.back.told.counted later.back.told.counted
  pub source_faults : before.source.faults ≤ later.source.faults
  pub dest_faults : before.dest.faults ≤ later.dest.faults
  pub wire_faults : (s : ℕ) → (wire before s).faults ≤ (wire later s).faults
  pub back_faults : before.back.faults ≤ later.back.faults

pub record Rises (before later : Seen) : Type 0 where
  pub same_job : later.job ≡ before.job
  pub numbers : RisesBy (job_of before.job) before later

-- the same of the takes that met a piece, which is so where each frame is one piece
pub record MeetsRise (job : Job) (old new : List Entry) (c : Call) (before later : WireCounted) : Type 0 where
  pub plan : later.plan ≡ before.plan
  pub takes : RisesAs job old new c (takes_met before) (takes_met later)

pub record TakesRise (before later : Seen) : Type 0 where
  pub same_job : later.job ≡ before.job
  pub takes : (s : ℕ) → BothTold (MeetsRise (job_of before.job) before.journal later.journal (Take s)) (wire before s).told.counted (wire later s).told.counted
  pub back_takes : BothTold (MeetsRise (job_of before.job) before.journal later.journal AckTake) before.back.told.counted later.back.told.counted
