-- Numbers rise as the journal's calls do: at an event, at none, and from a state over another to a third.
use Rattle.std.specs.Prelude.{◌≡◌, ◌≤◌, ◌<◌, ℕ, ◌+◌, Bool, true, false, length, Option, Some, None, IfSome}
use Rattle.std.proofs.Common.{arith, refl, ap, sym, ◌∙◌, subst}
use Rattle.std.proofs.lemmas.Bool.{eqb-true}
use Rattle.xv_device.specs.Device.{write_count}
use Rattle.xv_wire.specs.Wire.{Counted as WireCounted}
use Rattle.xv_model.specs.Job.{Job, unit_count}
use Rattle.xv_model.specs.View.{View}
use Rattle.xv_model.specs.Wait.{Event, Why, wait}
use Rattle.xv_model.specs.Effect.{Turn}
use Rattle.xv_model.specs.Step.{Call, SourceRead, SourceWrite, DestRead, DestWrite, DestFlush, Put, AckPut, same_call, is_flagged, is_wait, breaks, turn_by}
use Rattle.xv_model.specs.Outside.{Outside, WriteSource, WriteDest, kind, outside, part, IsWithin, is_source_write, is_dest_write, calls_of_kind, source_writes, dest_writes}
use Rattle.xv_model.proofs.Kept.{run-holds}
use Rattle.xv_model.proofs.Outside.Calls.{parts-within}
use Rattle.xv_job.specs.Written.{Written, job_of}
use Rattle.xv_core.specs.Seen.{Seen, OnWire, wire}
use Rattle.xv_core.specs.State.{State, IsRunning, view, seen_of, on_back}
use Rattle.xv_core.specs.Happening.{Happened}
use Rattle.xv_core.specs.Rising.{BothTold, SourceRises, DestRises, PutsRise, RisesBy, Rises}
use Rattle.xv_core.proofs.Counting.Steps.{bit, Added, step-adds, step-writes}
use Rattle.xv_core.proofs.Counting.Wires.{WireStep, PutAdded, wire-adds, wire-caused}
use Rattle.xv_core.proofs.Counting.Journal.{kind-more, source-writes-more, dest-writes-more}
use Rattle.xv_core.proofs.Counting.Fit.{at-source, at-dest, at-wire, at-back}

-- what is told twice, and what follows of it
pub both-same : {A : Type 0} (R : A → A → Type 0) (o : Option A) → ((a : A) → R a a) → BothTold R o o
both-same R None f = tt
both-same R (Some a) f = f a

pub both-then : {A : Type 0} (P Q : A → A → Type 0) (o p : Option A) → ((a b : A) → P a b → Q a b) → BothTold P o p → BothTold Q o p
both-then P Q None None f h = tt
both-then P Q None (Some b) f h = absurd h
both-then P Q (Some a) None f h = absurd h
both-then P Q (Some a) (Some b) f h = f a b h

pub both-over : {A : Type 0} (P Q R : A → A → Type 0) (o p q : Option A) → ((a b c : A) → P a b → Q b c → R a c) → BothTold P o p → BothTold Q p q → BothTold R o q
both-over P Q R None None None f h k = tt
both-over P Q R None None (Some c) f h k = absurd k
both-over P Q R None (Some b) q f h k = absurd h
both-over P Q R (Some a) None q f h k = absurd h
both-over P Q R (Some a) (Some b) None f h k = absurd k
both-over P Q R (Some a) (Some b) (Some c) f h k = f a b c h k

-- at none
pub rises-refl : (m : Seen) → Rises m m
rises-refl m = record {
  same_job = refl;
  numbers = record {
    at_source = λ u. refl;
    at_dest = λ u. refl;
    source_calls = both-same (SourceRises (job_of m.job) m.journal m.journal) m.source.told.counted (λ c. record { plan = refl; reads = refl; patches = refl; flushes = refl });
    dest_calls = both-same (DestRises (job_of m.job) m.journal m.journal) m.dest.told.counted (λ c. record { plan = refl; reads = refl; patches = refl; flushes = refl });
    puts = λ s. both-same (PutsRise (job_of m.job) m.journal m.journal (Put s)) (wire m s).told.counted (λ c. record { plan = refl; puts = refl });
    back_puts = both-same (PutsRise (job_of m.job) m.journal m.journal AckPut) m.back.told.counted (λ c. record { plan = refl; puts = refl });
    source_faults = omega arith;
    dest_faults = omega arith;
    wire_faults = λ s. omega arith;
    back_faults = omega arith;
  };
}

-- over another
pub over : (x y z i j k : ℕ) → y + i ≡ x + j → z + j ≡ y + k → z + i ≡ x + k
over x y z i j k p q = omega arith

most : (x y z : ℕ) → x ≤ y → y ≤ z → x ≤ z
most x y z p q = omega arith

numbers-over : (job : Job) (l m n : Seen) → RisesBy job l m → RisesBy job m n → RisesBy job l n
numbers-over job l m n p q = record {
  at_source = λ u. over _ (write_count m.source.told.writes u) _ _ _ _ (p.at_source u) (q.at_source u);
  at_dest = λ u. over _ (write_count m.dest.told.writes u) _ _ _ _ (p.at_dest u) (q.at_dest u);
  source_calls = both-over (SourceRises job l.journal m.journal) (SourceRises job m.journal n.journal) (SourceRises job l.journal n.journal) l.source.told.counted m.source.told.counted n.source.told.counted
      (λ a b c f g. record {
        plan = g.plan ∙ f.plan;
        reads = over a.calls.reads b.calls.reads c.calls.reads _ _ _ f.reads g.reads;
        patches = over a.calls.writes b.calls.writes c.calls.writes _ _ _ f.patches g.patches;
        flushes = g.flushes ∙ f.flushes;
      }) p.source_calls q.source_calls;
  dest_calls = both-over (DestRises job l.journal m.journal) (DestRises job m.journal n.journal) (DestRises job l.journal n.journal) l.dest.told.counted m.dest.told.counted n.dest.told.counted
      (λ a b c f g. record {
        plan = g.plan ∙ f.plan;
        reads = over a.calls.reads b.calls.reads c.calls.reads _ _ _ f.reads g.reads;
        patches = over a.calls.writes b.calls.writes c.calls.writes _ _ _ f.patches g.patches;
        flushes = over a.calls.flushes b.calls.flushes c.calls.flushes _ _ _ f.flushes g.flushes;
      }) p.dest_calls q.dest_calls;
  puts = λ s. puts-over (Put s) (wire l s).told.counted (wire m s).told.counted (wire n s).told.counted (p.puts s) (q.puts s);
  back_puts = puts-over AckPut l.back.told.counted m.back.told.counted n.back.told.counted p.back_puts q.back_puts;
  source_faults = most l.source.faults m.source.faults n.source.faults p.source_faults q.source_faults;
  dest_faults = most l.dest.faults m.dest.faults n.dest.faults p.dest_faults q.dest_faults;
  wire_faults = λ s. most (wire l s).faults (wire m s).faults (wire n s).faults (p.wire_faults s) (q.wire_faults s);
  back_faults = most l.back.faults m.back.faults n.back.faults p.back_faults q.back_faults;
}
  where
    puts-over : (k : Call) (x y z : Option WireCounted) → BothTold (PutsRise job l.journal m.journal k) x y → BothTold (PutsRise job m.journal n.journal k) y z → BothTold (PutsRise job l.journal n.journal k) x z
    puts-over k x y z = both-over (PutsRise job l.journal m.journal k) (PutsRise job m.journal n.journal k) (PutsRise job l.journal n.journal k) x y z
        (λ a b c f g. record { plan = g.plan ∙ f.plan; puts = over a.puts b.puts c.puts _ _ _ f.puts g.puts })

pub rises-over : (l m n : Seen) → Rises l m → Rises m n → Rises l n
rises-over l m n p q = record {
  same_job = q.same_job ∙ p.same_job;
  numbers = numbers-over (job_of l.job) l m n p.numbers (subst (λ (j : Written). RisesBy (job_of j) m n) p.same_job q.numbers);
}

-- an event that happened did not wait
pub none-waits : (why : Option Why) (b : Bool) (job : Job) (v : View) (e : Event) → is_wait (turn_by why b job v e) ≡ false → why ≡ None
none-waits None b job v e h = refl
none-waits (Some why) b job v e h = absurd (cc)

pub went : (s t : State) (e : Event) (a : Turn) → Happened s e a t → wait (job_of s.job) (view s) e (is_flagged a) ≡ None
went s t e a h = none-waits (wait (job_of s.job) (view s) e (is_flagged a)) (breaks (job_of s.job) (view s) e (is_flagged a)) (job_of s.job) (view s) e (sym (ap is_wait h.answers) ∙ h.goes_on)

-- so the unit that it wrote to is there
source-unit : (job : Job) (o : Outside) (u : ℕ) → IfSome (part o) (IsWithin job) → is_source_write u o ≡ true → u < unit_count job
source-unit job (WriteSource p) u h is = let same : p.unit ≡ u = eqb-true p.unit u is in subst (λ (k : ℕ). k < unit_count job) same h.unit_is
source-unit job o u h is = absurd (cc)

dest-unit : (job : Job) (o : Outside) (u : ℕ) → IfSome (part o) (IsWithin job) → is_dest_write u o ≡ true → u < unit_count job
dest-unit job (WriteDest p) u h is = let same : p.unit ≡ u = eqb-true p.unit u is in subst (λ (k : ℕ). k < unit_count job) same h.unit_is
dest-unit job o u h is = absurd (cc)

-- at an event
pub risen : (x y i j b : ℕ) → y ≡ x + b → j ≡ i + b → y + i ≡ x + j
risen x y i j b p q = omega arith

module _ (s t : State) (e : Event) (a : Turn) (h : Happened s e a t) where
  abbrev job : Job
  job = job_of s.job

  pub as-journal : (c : Call) → calls_of_kind job t.journal c ≡ calls_of_kind job s.journal c + bit (same_call c (kind (outside job (view s) e)))
  as-journal c = ap (λ (j : Written). calls_of_kind (job_of j) t.journal c) (sym h.job) ∙ kind-more s t e a h c

  puts-rise : (k : Call) (take mine : Bool) (old new : OnWire) → WireStep (same_call k (kind (outside job (view s) e))) take mine (is_flagged a) old new → BothTold (PutsRise job s.journal t.journal k) old.told.counted new.told.counted
  puts-rise k take mine old new w =
      both-then (PutAdded _) (PutsRise job s.journal t.journal k) old.told.counted new.told.counted
      (λ c d ad. record { plan = ad.plan; puts = risen c.puts d.puts _ _ _ ad.puts (as-journal k) })
      (wire-adds _ take mine (is_flagged a) old new w)

  pub rises : IsRunning s → length s.source.told.writes ≡ unit_count (job_of s.job) → length s.dest.told.writes ≡ unit_count (job_of s.job) → Rises (seen_of s) (seen_of t)
  rises running src_long dst_long =
      let o : Outside = outside job (view s) e in
      let within = parts-within job (view s) e (is_flagged a) running.good h.fitting (run-holds job s.journal running.good running.fitting) (went s t e a h) in
      let src = at-source s t e a h in
      let dst = at-dest s t e a h in
      record {
        same_job = h.job;
        numbers = record {
          at_source = λ u. risen (write_count s.source.told.writes u) (write_count t.source.told.writes u) _ _ _
              (step-writes _ _ _ _ _ _ _ src u (λ is. omega (arith, src_long, source-unit job o u within is)))
              (ap (λ (j : Written). source_writes (job_of j) t.journal u) (sym h.job) ∙ source-writes-more s t e a h u);
          at_dest = λ u. risen (write_count s.dest.told.writes u) (write_count t.dest.told.writes u) _ _ _
              (step-writes _ _ _ _ _ _ _ dst u (λ is. omega (arith, dst_long, dest-unit job o u within is)))
              (ap (λ (j : Written). dest_writes (job_of j) t.journal u) (sym h.job) ∙ dest-writes-more s t e a h u);
          source_calls = both-then (Added _ _ false) (SourceRises job s.journal t.journal) s.source.told.counted t.source.told.counted
              (λ c d ad. record {
                plan = ad.plan;
                reads = risen c.calls.reads d.calls.reads _ _ _ ad.reads (as-journal SourceRead);
                patches = risen c.calls.writes d.calls.writes _ _ _ ad.writes (as-journal SourceWrite);
                flushes = ad.flushes ∙ none-more c.calls.flushes;
              }) (step-adds _ _ _ _ _ _ _ src);
          dest_calls = both-then (Added _ _ _) (DestRises job s.journal t.journal) s.dest.told.counted t.dest.told.counted
              (λ c d ad. record {
                plan = ad.plan;
                reads = risen c.calls.reads d.calls.reads _ _ _ ad.reads (as-journal DestRead);
                patches = risen c.calls.writes d.calls.writes _ _ _ ad.writes (as-journal DestWrite);
                flushes = risen c.calls.flushes d.calls.flushes _ _ _ ad.flushes (as-journal DestFlush);
              }) (step-adds _ _ _ _ _ _ _ dst);
          puts = λ k. puts-rise (Put k) _ _ (wire (seen_of s) k) (wire (seen_of t) k) (at-wire s t e a h k);
          back_puts = puts-rise AckPut _ _ (on_back s.back) (on_back t.back) (at-back s t e a h);
          source_faults = src.made.never_falls;
          dest_faults = dst.made.never_falls;
          wire_faults = λ k. (wire-caused _ _ _ _ (wire (seen_of s) k) (wire (seen_of t) k) (at-wire s t e a h k)).never_falls;
          back_faults = (wire-caused _ _ _ _ (on_back s.back) (on_back t.back) (at-back s t e a h)).never_falls;
        };
      }
    where
      none-more : (n : ℕ) → n + 0 ≡ n
      none-more n = omega arith
