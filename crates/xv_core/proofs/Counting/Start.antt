-- What is counted where a migration begins.
use Rattle.std.specs.Prelude.{◌≡◌, ◌≤◌, ◌<◌, ℕ, ◌+◌, ◌-◌, ◌^◌, min, Bool, false, List, [], map, length, Option, Some, None, IfSome, count_by}
use Rattle.std.proofs.Common.{arith, ap, sym, ◌∙◌}
use Rattle.xv_wire.specs.Wire.{Counted}
use Rattle.xv_model.specs.Step.{Entry, Call, SourceRead, SourceWrite, DestRead, DestWrite, DestFlush, Put, Take, AckPut, AckTake}
use Rattle.xv_streams.specs.Streamed.{lane}
use Rattle.xv_job.specs.Written.{job_of}
use Rattle.xv_core.specs.Seen.{Seen, wire}
use Rattle.xv_core.specs.State.{State}
use Rattle.xv_core.specs.Counting.{CountsFit, failed_calls, is_of_source, is_of_dest, is_of_wire, is_of_back, AreCaused, FlagsAreCaused}
use Rattle.xv_core.specs.Plans.{takes_met, FollowsIf, follows, FollowsPlans, IsPieces, frame_length, ArePieces}
use Rattle.xv_core.specs.Starting.{AllCountLittle, IsIdle}
use Rattle.xv_core.proofs.Counting.Steps.{if-some}

below : (n limit k : ℕ) → n < limit → n < limit + k
below n limit k h = omega arith

pub counts-begin : (m : Seen) → AllCountLittle m → CountsFit m
counts-begin m h = record {
  source_writes = λ u. below _ (2 ^ 62) _ (h.source.writes u);
  dest_writes = λ u. below _ (2 ^ 62) _ (h.dest.writes u);
  source_reads = if-some (λ c. c.calls.reads < 2 ^ 62) (λ c. c.calls.reads < 2 ^ 62 + _) m.source.told.counted h.source.reads (λ c lt. below c.calls.reads (2 ^ 62) _ lt);
  source_patches = if-some (λ c. c.calls.writes < 2 ^ 62) (λ c. c.calls.writes < 2 ^ 62 + _) m.source.told.counted h.source.patches (λ c lt. below c.calls.writes (2 ^ 62) _ lt);
  source_flushes = h.source.flushes;
  dest_reads = if-some (λ c. c.calls.reads < 2 ^ 62) (λ c. c.calls.reads < 2 ^ 62 + _) m.dest.told.counted h.dest.reads (λ c lt. below c.calls.reads (2 ^ 62) _ lt);
  dest_patches = if-some (λ c. c.calls.writes < 2 ^ 62) (λ c. c.calls.writes < 2 ^ 62 + _) m.dest.told.counted h.dest.patches (λ c lt. below c.calls.writes (2 ^ 62) _ lt);
  dest_flushes = if-some (λ c. c.calls.flushes < 2 ^ 62) (λ c. c.calls.flushes < 2 ^ 62 + _) m.dest.told.counted h.dest.flushes (λ c lt. below c.calls.flushes (2 ^ 62) _ lt);
  puts = λ s. if-some (λ c. c.puts < 2 ^ 62) (λ c. c.puts < 2 ^ 62 + _) (wire m s).told.counted (h.wires s) (λ c lt. below c.puts (2 ^ 62) _ lt);
  back_puts = if-some (λ c. c.puts < 2 ^ 62) (λ c. c.puts < 2 ^ 62 + _) m.back.told.counted h.back (λ c lt. below c.puts (2 ^ 62) _ lt);
}

pub flags-begin : (m : Seen) → m.journal ≡ [] → FlagsAreCaused m
flags-begin m e = record {
  source = none-caused is_of_source m.source.faults;
  dest = none-caused is_of_dest m.dest.faults;
  wires = λ s. none-caused (is_of_wire s) (wire m s).faults;
  back = none-caused is_of_back m.back.faults;
}
  where
    at-least : (n faults : ℕ) → n ≡ 0 → min n (2 ^ 64 - 1) ≤ faults
    at-least n faults e = omega arith

    none-caused : (test : Call → Bool) (faults : ℕ) → AreCaused (count_by test (failed_calls (job_of m.job) m.journal)) faults
    none-caused test faults = at-least (count_by test (failed_calls (job_of m.job) m.journal)) faults (ap (λ (es : List Entry). count_by test (failed_calls (job_of m.job) es)) e)

if-any : {A : Type 0} (P : A → Type 0) (o : Option A) → ((a : A) → P a) → IfSome o P
if-any P None f = tt
if-any P (Some a) f = f a

pub plans-begin : (m : Seen) → m.journal ≡ [] → FollowsPlans m
plans-begin m e = record {
  source_reads = if-any _ m.source.told.counted (λ c. none-called c.calls.reads SourceRead c.plan.reads);
  source_writes = if-any _ m.source.told.counted (λ c. none-called c.calls.writes SourceWrite c.plan.writes);
  dest_reads = if-any _ m.dest.told.counted (λ c. none-called c.calls.reads DestRead c.plan.reads);
  dest_writes = if-any _ m.dest.told.counted (λ c. none-called c.calls.writes DestWrite c.plan.writes);
  flushes = if-any _ m.dest.told.counted (λ c. none-called c.calls.flushes DestFlush c.plan.flushes);
  puts = λ s. if-any _ (wire m s).told.counted (λ c. none-called c.puts (Put s) c.plan.puts);
  takes = λ s. if-any _ (wire m s).told.counted (λ c. none-called (takes_met c) (Take s) c.plan.takes);
  back_puts = if-any _ m.back.told.counted (λ c. none-called c.puts AckPut c.plan.puts);
  back_takes = if-any _ m.back.told.counted (λ c. none-called (takes_met c) AckTake c.plan.takes);
}
  where
    none-called : (n : ℕ) (c : Call) (fails : List ℕ) → FollowsIf n c fails (job_of m.job) m.journal
    none-called n c fails = λ _. ap (λ (es : List Entry). follows c fails (job_of m.job) es) e

none-is-pieces : (ps : List ℕ) (o : Option Counted) → ps ≡ [] → IfSome o (λ c. (c.left ≡ []) × (c.met ≡ false)) → IfSome o (IsPieces ps)
none-is-pieces ps None e h = tt
none-is-pieces ps (Some c) e h = record { left = h.0 ∙ sym e; unmet = h.1; fewer = omega (arith, ap length h.0) }

pub pieces-begin : (s : State) → IsIdle s → ArePieces s
pieces-begin s h = record {
  gathered = λ k live. h.none_gathered k;
  streams = λ k live. none-is-pieces (map (frame_length s.streams.format) (lane s.streams k).groups) (lane s.streams k).wire.counted (ap (map (frame_length s.streams.format)) (h.none_there k)) (h.pieces k);
  back_gathered = λ live. h.none_gathered_back;
  back = λ live. none-is-pieces (map (λ n. 24) s.back.counts) s.back.wire.counted (ap (map (λ (n : ℕ). 24)) h.none_there_back) h.pieces_back;
}
