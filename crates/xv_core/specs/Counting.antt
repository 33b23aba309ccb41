-- How far what devices and wires count has come, against the journal; and that flagged entries are within the faults.
use Rattle.std.specs.Prelude.{◌≤◌, ◌<◌, ℕ, ◌+◌, ◌-◌, ◌^◌, ◌||◌, min, Bool, List, [], ◌∷◌, count_by, IfSome, if◌then◌else◌}
use Rattle.xv_device.specs.Device.{write_count}
use Rattle.xv_model.specs.Job.{Job}
use Rattle.xv_model.specs.View.{View, first_view}
use Rattle.xv_model.specs.Step.{Entry, Call, SourceRead, SourceWrite, DestRead, DestWrite, DestFlush, Put, Take, AckPut, AckTake, call, same_call, step, is_flagged}
use Rattle.xv_model.specs.Outside.{calls_of_kind, source_writes, dest_writes}
use Rattle.xv_job.specs.Written.{job_of}
use Rattle.xv_core.specs.Seen.{Seen, wire}

-- every number stood below 2^62 at the start, and rose by no more than the journal's calls
pub record CountsFit (m : Seen) : Type 0 where
  pub source_writes : (unit : ℕ) → write_count m.source.told.writes unit < 2 ^ 62 + source_writes (job_of m.job) m.journal unit
  pub dest_writes : (unit : ℕ) → write_count m.dest.told.writes unit < 2 ^ 62 + dest_writes (job_of m.job) m.journal unit
  pub source_reads : IfSome m.source.told.counted (λ c. c.calls.reads < 2 ^ 62 + calls_of_kind (job_of m.job) m.journal SourceRead)
  pub source_patches : IfSome m.source.told.counted (λ c. c.calls.writes < 2 ^ 62 + calls_of_kind (job_of m.job) m.journal SourceWrite)
  pub source_flushes : IfSome m.source.told.counted (λ c. c.calls.flushes < 2 ^ 62)
  pub dest_reads : IfSome m.dest.told.counted (λ c. c.calls.reads < 2 ^ 62 + calls_of_kind (job_of m.job) m.journal DestRead)
  pub dest_patches : IfSome m.dest.told.counted (λ c. c.calls.writes < 2 ^ 62 + calls_of_kind (job_of m.job) m.journal DestWrite)
  pub dest_flushes : IfSome m.dest.told.counted (λ c. c.calls.flushes < 2 ^ 62 + calls_of_kind (job_of m.job) m.journal DestFlush)
  pub puts : (s : ℕ) → IfSome (wire m s).told.counted (λ c. c.puts < 2 ^ 62 + calls_of_kind (job_of m.job) m.journal (Put s))
  pub back_puts : IfSome m.back.told.counted (λ c. c.puts < 2 ^ 62 + calls_of_kind (job_of m.job) m.journal AckPut)

-- the calls of a journal that failed, from a view on
abbrev pub failed_calls_from : Job → View → List Entry → List Call
failed_calls_from job v [] = []
failed_calls_from job v (e ∷ es) =
    if is_flagged e.turn
    then call job v e.event ∷ failed_calls_from job (step job v e.event (is_flagged e.turn)) es
    else failed_calls_from job (step job v e.event (is_flagged e.turn)) es

abbrev pub failed_calls : Job → List Entry → List Call
failed_calls job journal = failed_calls_from job (first_view job) journal

-- whether a call is one of the source, of the destination, of a stream's wire, of the wire back
abbrev pub is_of_source : Call → Bool
is_of_source c = same_call c SourceRead || same_call c SourceWrite

abbrev pub is_of_dest : Call → Bool
is_of_dest c = same_call c DestRead || same_call c DestWrite || same_call c DestFlush

abbrev pub is_of_wire : ℕ → Call → Bool
is_of_wire s c = same_call c (Put s) || same_call c (Take s)

abbrev pub is_of_back : Call → Bool
is_of_back c = same_call c AckPut || same_call c AckTake

-- as many entries as these were flagged, and the object has counted that many faults, unless its count stands at the last
-- value of 64 bits
abbrev pub AreCaused : ℕ → ℕ → Type 0
AreCaused flagged faults = min flagged (2 ^ 64 - 1) ≤ faults

pub record FlagsAreCaused (m : Seen) : Type 0 where
  pub source : AreCaused (count_by is_of_source (failed_calls (job_of m.job) m.journal)) m.source.faults
  pub dest : AreCaused (count_by is_of_dest (failed_calls (job_of m.job) m.journal)) m.dest.faults
  pub wires : (s : ℕ) → AreCaused (count_by (is_of_wire s) (failed_calls (job_of m.job) m.journal)) (wire m s).faults
  pub back : AreCaused (count_by is_of_back (failed_calls (job_of m.job) m.journal)) m.back.faults
