-- No number that devices and wires count is near the last of its type: each rose by no more than the journal's entries.
use Rattle.std.specs.Prelude.{◌≡◌, ◌≤◌, ◌<◌, ℕ, ◌+◌, ◌^◌, ◌||◌, not, Bool, true, false, List, [], ◌∷◌, length, Option, Some, None, IfSome, if◌then◌else◌}
use Rattle.std.proofs.Common.{arith, refl}
use Rattle.std.proofs.lemmas.List.{length-append}
use Rattle.std.proofs.lemmas.List.Sums.{count_by-le-length}
use Rattle.xv_device.specs.Device.{Counted as DeviceCounted}
use Rattle.xv_device.specs.Told.{HasRoomToCount}
use Rattle.xv_wire.specs.Wire.{Counted as WireCounted}
use Rattle.xv_model.specs.Job.{Job}
use Rattle.xv_model.specs.View.{View, first_view}
use Rattle.xv_model.specs.Step.{Entry, Call, SourceRead, SourceWrite, DestRead, DestWrite, DestFlush, AckPut, Put, step, same_call, is_call, is_flagged, calls_from, calls}
use Rattle.xv_model.specs.Outside.{Outside, kind, outside, unless_failed, calls_made_from, calls_made, calls_of_kind, source_writes, dest_writes, is_source_write, is_dest_write}
use Rattle.xv_job.specs.Written.{job_of}
use Rattle.xv_core.specs.Seen.{wire}
use Rattle.xv_core.specs.State.{State, seen_of, IsRunning}
use Rattle.xv_core.specs.Kept.{IsState}
use Rattle.xv_core.proofs.Keeping.Counts.{journal-short, bound-small}

-- a journal has a call for each entry, and makes no more
length-calls : (job : Job) (v : View) (es : List Entry) → length (calls_from job v es) ≡ length es
length-calls job v [] = refl
length-calls job v (e ∷ es) = omega (arith, length-calls job (step job v e.event (is_flagged e.turn)) es)

one-made : (b : Bool) (o : Outside) → length (if b then [] else o ∷ []) ≤ 1
one-made true o = omega arith
one-made false o = omega arith

made-le : (job : Job) (v : View) (es : List Entry) → length (calls_made_from job v es) ≤ length es
made-le job v [] = omega arith
made-le job v (e ∷ es) =
    let o = outside job v e.event in
    let rest = calls_made_from job (step job v e.event (is_flagged e.turn)) es in
    omega (arith, length-append (unless_failed (is_flagged e.turn) o) rest, one-made (is_flagged e.turn || not (is_call (kind o))) o, made-le job (step job v e.event (is_flagged e.turn)) es)

-- so no count of them is beyond the journal's length, which is small
short : (s : State) → IsRunning s → length s.journal ≤ 16777296
short s r = omega (arith, journal-short s r, bound-small (job_of s.job) r.good)

pub few-of-kind : (s : State) (c : Call) → IsRunning s → calls_of_kind (job_of s.job) s.journal c ≤ 16777296
few-of-kind s c r =
    omega (arith, count_by-le-length (same_call c) (calls (job_of s.job) s.journal), length-calls (job_of s.job) (first_view (job_of s.job)) s.journal, short s r)

pub few-source-writes : (s : State) (unit : ℕ) → IsRunning s → source_writes (job_of s.job) s.journal unit ≤ 16777296
few-source-writes s unit r =
    omega (arith, count_by-le-length (is_source_write unit) (calls_made (job_of s.job) s.journal), made-le (job_of s.job) (first_view (job_of s.job)) s.journal, short s r)

pub few-dest-writes : (s : State) (unit : ℕ) → IsRunning s → dest_writes (job_of s.job) s.journal unit ≤ 16777296
few-dest-writes s unit r =
    omega (arith, count_by-le-length (is_dest_write unit) (calls_made (job_of s.job) s.journal), made-le (job_of s.job) (first_view (job_of s.job)) s.journal, short s r)

far : (x n : ℕ) → x < 2 ^ 62 + n → n ≤ 16777296 → x < 2 ^ 63
far x n lt small =
    let near : 2 ^ 62 ≡ 4611686018427387904 = refl in
    let top : 2 ^ 63 ≡ 9223372036854775808 = refl in
    omega arith

-- the counts of a device, where it tells them
each-far : (o : Option DeviceCounted) (i j k : ℕ) → i ≤ 16777296 → j ≤ 16777296 → k ≤ 16777296 →
    IfSome o (λ c. c.calls.reads < 2 ^ 62 + i) → IfSome o (λ c. c.calls.writes < 2 ^ 62 + j) → IfSome o (λ c. c.calls.flushes < 2 ^ 62 + k) →
    IfSome o (λ c. (c.calls.reads < 2 ^ 63) × (c.calls.writes < 2 ^ 63) × (c.calls.flushes < 2 ^ 63))
each-far None i j k few less least reads writes flushes = tt
each-far (Some c) i j k few less least reads writes flushes = (far c.calls.reads i reads few, far c.calls.writes j writes less, far c.calls.flushes k flushes least)

flushes-from : (o : Option DeviceCounted) → IfSome o (λ c. c.calls.flushes < 2 ^ 62) → IfSome o (λ c. c.calls.flushes < 2 ^ 62 + 0)
flushes-from None h = tt
flushes-from (Some c) h = h

pub source-countable : (s : State) → IsState s → HasRoomToCount s.source.told
source-countable s k =
    let few = λ (c : Call). few-of-kind s c k.running in
    record {
      writes = λ unit. far _ (source_writes (job_of s.job) s.journal unit) (k.counts.source_writes unit) (few-source-writes s unit k.running);
      calls = each-far s.source.told.counted (calls_of_kind (job_of s.job) s.journal SourceRead) (calls_of_kind (job_of s.job) s.journal SourceWrite) 0
          (few SourceRead) (few SourceWrite) (omega arith) k.counts.source_reads k.counts.source_patches (flushes-from s.source.told.counted k.counts.source_flushes);
    }

pub dest-countable : (s : State) → IsState s → HasRoomToCount s.dest.told
dest-countable s k =
    let few = λ (c : Call). few-of-kind s c k.running in
    record {
      writes = λ unit. far _ (dest_writes (job_of s.job) s.journal unit) (k.counts.dest_writes unit) (few-dest-writes s unit k.running);
      calls = each-far s.dest.told.counted (calls_of_kind (job_of s.job) s.journal DestRead) (calls_of_kind (job_of s.job) s.journal DestWrite) (calls_of_kind (job_of s.job) s.journal DestFlush)
          (few DestRead) (few DestWrite) (few DestFlush) k.counts.dest_reads k.counts.dest_patches k.counts.dest_flushes;
    }

-- and those of a wire
puts-far : (o : Option WireCounted) (n : ℕ) → n ≤ 16777296 → IfSome o (λ c. c.puts < 2 ^ 62 + n) → IfSome o (λ c. c.puts < 2 ^ 63)
puts-far None n few puts = tt
puts-far (Some c) n few puts = far c.puts n puts few

pub wire-countable : (s : State) (k : ℕ) → IsState s → IfSome (wire (seen_of s) k).told.counted (λ c. c.puts < 2 ^ 63)
wire-countable s k is = puts-far (wire (seen_of s) k).told.counted (calls_of_kind (job_of s.job) s.journal (Put k)) (few-of-kind s (Put k) is.running) (is.counts.puts k)

pub back-countable : (s : State) → IsState s → IfSome s.back.wire.counted (λ c. c.puts < 2 ^ 63)
back-countable s is = puts-far s.back.wire.counted (calls_of_kind (job_of s.job) s.journal AckPut) (few-of-kind s AckPut is.running) is.counts.back_puts
