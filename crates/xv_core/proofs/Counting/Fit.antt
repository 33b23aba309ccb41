-- No number rises by more than the journal's calls.
use Rattle.std.specs.Prelude.{◌≡◌, ◌≤◌, ◌<◌, ℕ, ◌+◌, ◌^◌, ◌&&◌, Bool, false, IfSome}
use Rattle.std.proofs.Common.{arith, sym, subst}
use Rattle.xv_device.specs.Device.{write_count, Counted as DeviceCounted}
use Rattle.xv_model.specs.Wait.{Event}
use Rattle.xv_model.specs.Effect.{Turn}
use Rattle.xv_model.specs.Step.{SourceRead, SourceWrite, DestRead, DestWrite, DestFlush, Put, Take, AckPut, AckTake, same_call, is_flagged}
use Rattle.xv_model.specs.Outside.{Outside, kind, outside, is_source_write, is_dest_write}
use Rattle.xv_job.specs.Written.{job_of}
use Rattle.xv_streams.specs.Streamed.{lane}
use Rattle.xv_core.specs.Seen.{OnDevice, OnWire, wire}
use Rattle.xv_core.specs.State.{State, IsRunning, view, seen_of, on_source, on_dest, on_wire, on_back}
use Rattle.xv_core.specs.Happening.{Happened}
use Rattle.xv_core.specs.Counting.{CountsFit, is_of_source, is_of_dest, is_of_wire, is_of_back}
use Rattle.xv_core.proofs.Counting.Steps.{bit, carry, DeviceStep, source-step, dest-step, Added, step-adds, step-writes-most}
use Rattle.xv_core.proofs.Counting.Wires.{WireStep, lane-step, back-step, lane-wire, back-wire, wire-is, PutAdded, wire-adds}
use Rattle.xv_core.proofs.Counting.Journal.{kind-more, source-writes-more, dest-writes-more}

below-more : (n m limit k l b : ℕ) → m ≡ n + b → l ≡ k + b → n < limit + k → m < limit + l
below-more n m limit k l b p q h = omega arith

below-most : (n m limit k l b : ℕ) → m ≤ n + b → l ≡ k + b → n < limit + k → m < limit + l
below-most n m limit k l b p q h = omega arith

below-same : (n m limit : ℕ) → m ≡ n + 0 → n < limit → m < limit
below-same n m limit p h = omega arith

-- the source, the destination and the wires after an event
module _ (s t : State) (e : Event) (a : Turn) (h : Happened s e a t) where
  abbrev pub call_made : Outside
  call_made = outside (job_of s.job) (view s) e

  pub at-source : DeviceStep (same_call SourceRead (kind call_made)) (same_call SourceWrite (kind call_made)) false (λ u. is_source_write u call_made) (is_flagged a && is_of_source (kind call_made)) (on_source s.source) (on_source t.source)
  at-source = source-step call_made (is_flagged a) (on_source s.source) (on_source t.source) h.calls.source

  pub at-dest : DeviceStep (same_call DestRead (kind call_made)) (same_call DestWrite (kind call_made)) (same_call DestFlush (kind call_made)) (λ u. is_dest_write u call_made) (is_flagged a && is_of_dest (kind call_made)) (on_dest s.dest) (on_dest t.dest)
  at-dest = dest-step call_made (is_flagged a) (on_dest s.dest) (on_dest t.dest) h.calls.dest

  pub at-wire : (k : ℕ) → WireStep (same_call (Put k) (kind call_made)) (same_call (Take k) (kind call_made)) (is_of_wire k (kind call_made)) (is_flagged a) (wire (seen_of s) k) (wire (seen_of t) k)
  at-wire k =
      let step = lane-wire k call_made (is_flagged a) s.streams.shape s.streams.format (lane s.streams k) (lane t.streams k) (lane-step k call_made (is_flagged a) s.streams t.streams h.calls.streams) in
      subst (λ (w : OnWire). WireStep (same_call (Put k) (kind call_made)) (same_call (Take k) (kind call_made)) (is_of_wire k (kind call_made)) (is_flagged a) w (wire (seen_of t) k)) (sym (wire-is s.streams.lanes k))
      (subst (λ (w : OnWire). WireStep (same_call (Put k) (kind call_made)) (same_call (Take k) (kind call_made)) (is_of_wire k (kind call_made)) (is_flagged a) (on_wire (lane s.streams k)) w) (sym (wire-is t.streams.lanes k)) step)

  pub at-back : WireStep (same_call AckPut (kind call_made)) (same_call AckTake (kind call_made)) (is_of_back (kind call_made)) (is_flagged a) (on_back s.back) (on_back t.back)
  at-back = back-wire call_made (is_flagged a) s.back t.back (back-step call_made (is_flagged a) s.back t.back h.calls.back)

device-fits : (r w f : Bool) (on : ℕ → Bool) (failed : Bool) (b l : OnDevice) → DeviceStep r w f on failed b l → (number : DeviceCounted → ℕ) (limit k m : ℕ) (one : Bool)
    → ((c d : DeviceCounted) → Added r w f c d → number d ≡ number c + bit one) → m ≡ k + bit one
    → IfSome b.told.counted (λ c. number c < limit + k) → IfSome l.told.counted (λ c. number c < limit + m)
device-fits r w f on failed b l h number limit k m one adds more fit =
    carry (λ c. number c < limit + k) (λ c. number c < limit + m) (Added r w f) b.told.counted l.told.counted (step-adds r w f on failed b l h) fit
    (λ c d ad lt. below-more (number c) (number d) limit k m (bit one) (adds c d ad) more lt)

wire-fits : (put take mine failed : Bool) (old new : OnWire) → WireStep put take mine failed old new → (limit k m : ℕ) → m ≡ k + bit put
    → IfSome old.told.counted (λ c. c.puts < limit + k) → IfSome new.told.counted (λ c. c.puts < limit + m)
wire-fits put take mine failed old new h limit k m more fit =
    carry (λ c. c.puts < limit + k) (λ c. c.puts < limit + m) (PutAdded put) old.told.counted new.told.counted (wire-adds put take mine failed old new h) fit
    (λ c d ad lt. below-more c.puts d.puts limit k m (bit put) ad.puts more lt)

pub counts-fit : (s t : State) (e : Event) (a : Turn) → IsRunning s → Happened s e a t → CountsFit (seen_of s) → CountsFit (seen_of t)
counts-fit s t e a running h fit =
    let o : Outside = outside (job_of s.job) (view s) e in
    let src = at-source s t e a h in
    let dst = at-dest s t e a h in
    record {
      source_writes = λ u. below-most (write_count s.source.told.writes u) (write_count t.source.told.writes u) (2 ^ 62) _ _ _ (step-writes-most _ _ _ _ _ _ _ src u) (source-writes-more s t e a h u) (fit.source_writes u);
      dest_writes = λ u. below-most (write_count s.dest.told.writes u) (write_count t.dest.told.writes u) (2 ^ 62) _ _ _ (step-writes-most _ _ _ _ _ _ _ dst u) (dest-writes-more s t e a h u) (fit.dest_writes u);
      source_reads = device-fits _ _ _ _ _ _ _ src (λ c. c.calls.reads) (2 ^ 62) _ _ _ (λ c d ad. ad.reads) (kind-more s t e a h SourceRead) fit.source_reads;
      source_patches = device-fits _ _ _ _ _ _ _ src (λ c. c.calls.writes) (2 ^ 62) _ _ _ (λ c d ad. ad.writes) (kind-more s t e a h SourceWrite) fit.source_patches;
      source_flushes = carry (λ c. c.calls.flushes < 2 ^ 62) (λ c. c.calls.flushes < 2 ^ 62) (Added _ _ false) s.source.told.counted t.source.told.counted (step-adds _ _ _ _ _ _ _ src) fit.source_flushes (λ c d ad lt. below-same c.calls.flushes d.calls.flushes (2 ^ 62) ad.flushes lt);
      dest_reads = device-fits _ _ _ _ _ _ _ dst (λ c. c.calls.reads) (2 ^ 62) _ _ _ (λ c d ad. ad.reads) (kind-more s t e a h DestRead) fit.dest_reads;
      dest_patches = device-fits _ _ _ _ _ _ _ dst (λ c. c.calls.writes) (2 ^ 62) _ _ _ (λ c d ad. ad.writes) (kind-more s t e a h DestWrite) fit.dest_patches;
      dest_flushes = device-fits _ _ _ _ _ _ _ dst (λ c. c.calls.flushes) (2 ^ 62) _ _ _ (λ c d ad. ad.flushes) (kind-more s t e a h DestFlush) fit.dest_flushes;
      puts = λ k. wire-fits _ _ _ _ (wire (seen_of s) k) (wire (seen_of t) k) (at-wire s t e a h k) (2 ^ 62) _ _ (kind-more s t e a h (Put k)) (fit.puts k);
      back_puts = wire-fits _ _ _ _ (on_back s.back) (on_back t.back) (at-back s t e a h) (2 ^ 62) _ _ (kind-more s t e a h AckPut) fit.back_puts;
    }
