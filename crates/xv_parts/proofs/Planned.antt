-- In memory exactly the planned calls fail, so each step has the flag that the job's faults give it.
use Rattle.std.specs.Prelude.{◌≡◌, ◌<◌, ℕ, suc, ◌+◌, ◌&&◌, Bool, true, List, [], ◌∷◌, ◌++◌, length, get_or, Option, Some, None, IfSome, is_some}
use Rattle.std.specs.List.{list_all}
use Rattle.std.proofs.Common.{refl, sym, ap, subst, ◌∙◌, arith}
use Rattle.std.proofs.lemmas.Bool.{ltb-true}
use Rattle.std.proofs.lemmas.List.FromFn.{get_or-map-range_with_len, length-map-range_with_len}
use Rattle.xv_model.specs.Job.{Job}
use Rattle.xv_model.specs.View.{first_view}
use Rattle.xv_model.specs.Wait.{Event}
use Rattle.xv_model.specs.Effect.{Turn}
use Rattle.xv_model.specs.Step.{Entry, Call, NoCall, SourceRead, SourceWrite, DestRead, DestWrite, DestFlush, Put, Take, AckPut, AckTake, calls, call_of, step, turn, flag, entry_of, is_flagged, is_faithful}
use Rattle.xv_model.specs.Outside.{calls_of_kind}
use Rattle.xv_job.specs.Written.{Written, job_of}
use Rattle.xv_core.specs.Seen.{Seen, OnWire, no_wire, view_of, wire}
use Rattle.xv_core.specs.Plans.{takes_met, FollowsIf, follows}
use Rattle.xv_core.specs.Rising.{BothTold, SourceRises, DestRises, PutsRise, MeetsRise}
use Rattle.xv_core.specs.Stepped.{IsStep, tells_plans}
use Rattle.xv_core.specs.Keeping.{IsKept}
use Rattle.xv_parts.specs.Memory.{stream_begun, begun_in_memory, IsInMemory}
use Rattle.xv_parts.proofs.Listed.{AllFollow, faithful-from}
use Rattle.xv_parts.proofs.Stepping.{calls-after, planned-last, flag-is}
use Rattle.xv_core.proofs.Stepped.After.{view-after}
use Rattle.xv_parts.proofs.Staying.{stays}

-- what began with no call counted has counted just the journal's, and follows its plan
followed : {A : Type 0} (R : A → A → Type 0) (a : A) (o : Option A) (c : Call) (number : A → ℕ) (fails : A → List ℕ) (job : Job) (journal : List Entry) → BothTold R (Some a) o
    → ((b : A) → R a b → fails b ≡ fails a) → ((b : A) → R a b → number b ≡ calls_of_kind job journal c)
    → IfSome o (λ b. FollowsIf (number b) c (fails b) job journal) → follows c (fails a) job journal ≡ true
followed R a None c number fails job journal both plan all planned = absurd both
followed R a (Some b) c number fails job journal both plan all planned =
    subst (λ (xs : List ℕ). follows c xs job journal ≡ true) (plan b both) (planned (all b both))

risen : (later total : ℕ) → later + 0 ≡ 0 + total → later ≡ total
risen later total h = omega arith

-- the wire of a stream, as it began
stream-at : (w : Written) (s : ℕ) → s < w.config.streams → wire (begun_in_memory w) s ≡ stream_begun w s
stream-at w s lt = get_or-map-range_with_len (stream_begun w) 0 w.config.streams s s no_wire lt (omega arith)

module _ (m : Seen) (h : IsInMemory m) where
  abbrev job : Job
  job = job_of m.job

  puts-rise : (s : ℕ) → s < job.config.streams → BothTold (PutsRise job [] m.journal (Put s)) (stream_begun m.job s).told.counted (wire m s).told.counted
  puts-rise s lt = subst (λ (w : OnWire). BothTold (PutsRise job [] m.journal (Put s)) w.told.counted (wire m s).told.counted) (stream-at m.job s lt) (h.origin.rises.numbers.puts s)

  takes-rise : (s : ℕ) → s < job.config.streams → BothTold (MeetsRise job [] m.journal (Take s)) (stream_begun m.job s).told.counted (wire m s).told.counted
  takes-rise s lt = subst (λ (w : OnWire). BothTold (MeetsRise job [] m.journal (Take s)) w.told.counted (wire m s).told.counted) (stream-at m.job s lt) (h.origin.takes_rise.takes s)

  all-follow : AllFollow job (first_view job) [] m.journal
  all-follow NoCall fit some = absurd (cc)
  all-follow SourceRead fit some =
      followed (SourceRises job [] m.journal) _ m.source.told.counted SourceRead (λ c. c.calls.reads) (λ c. c.plan.reads) job m.journal h.origin.rises.numbers.source_calls
      (λ c r. ap (λ p. p.reads) r.plan) (λ c r. risen c.calls.reads (calls_of_kind job m.journal SourceRead) r.reads) h.kept.plans.source_reads
  all-follow SourceWrite fit some =
      followed (SourceRises job [] m.journal) _ m.source.told.counted SourceWrite (λ c. c.calls.writes) (λ c. c.plan.writes) job m.journal h.origin.rises.numbers.source_calls
      (λ c r. ap (λ p. p.writes) r.plan) (λ c r. risen c.calls.writes (calls_of_kind job m.journal SourceWrite) r.patches) h.kept.plans.source_writes
  all-follow DestRead fit some =
      followed (DestRises job [] m.journal) _ m.dest.told.counted DestRead (λ c. c.calls.reads) (λ c. c.plan.reads) job m.journal h.origin.rises.numbers.dest_calls
      (λ c r. ap (λ p. p.reads) r.plan) (λ c r. risen c.calls.reads (calls_of_kind job m.journal DestRead) r.reads) h.kept.plans.dest_reads
  all-follow DestWrite fit some =
      followed (DestRises job [] m.journal) _ m.dest.told.counted DestWrite (λ c. c.calls.writes) (λ c. c.plan.writes) job m.journal h.origin.rises.numbers.dest_calls
      (λ c r. ap (λ p. p.writes) r.plan) (λ c r. risen c.calls.writes (calls_of_kind job m.journal DestWrite) r.patches) h.kept.plans.dest_writes
  all-follow DestFlush fit some =
      followed (DestRises job [] m.journal) _ m.dest.told.counted DestFlush (λ c. c.calls.flushes) (λ c. c.plan.flushes) job m.journal h.origin.rises.numbers.dest_calls
      (λ c r. ap (λ p. p.flushes) r.plan) (λ c r. risen c.calls.flushes (calls_of_kind job m.journal DestFlush) r.flushes) h.kept.plans.flushes
  all-follow (Put s) fit some =
      followed (PutsRise job [] m.journal (Put s)) _ (wire m s).told.counted (Put s) (λ c. c.puts) (λ c. c.plan.puts) job m.journal (puts-rise s (ltb-true s job.config.streams fit))
      (λ c r. ap (λ p. p.puts) r.plan) (λ c r. risen c.puts (calls_of_kind job m.journal (Put s)) r.puts) (h.kept.plans.puts s)
  all-follow (Take s) fit some =
      followed (MeetsRise job [] m.journal (Take s)) _ (wire m s).told.counted (Take s) takes_met (λ c. c.plan.takes) job m.journal (takes-rise s (ltb-true s job.config.streams fit))
      (λ c r. ap (λ p. p.takes) r.plan) (λ c r. risen (takes_met c) (calls_of_kind job m.journal (Take s)) r.takes) (h.kept.plans.takes s)
  all-follow AckPut fit some =
      followed (PutsRise job [] m.journal AckPut) _ m.back.told.counted AckPut (λ c. c.puts) (λ c. c.plan.puts) job m.journal h.origin.rises.numbers.back_puts
      (λ c r. ap (λ p. p.puts) r.plan) (λ c r. risen c.puts (calls_of_kind job m.journal AckPut) r.puts) h.kept.plans.back_puts
  all-follow AckTake fit some =
      followed (MeetsRise job [] m.journal AckTake) _ m.back.told.counted AckTake takes_met (λ c. c.plan.takes) job m.journal h.origin.takes_rise.back_takes
      (λ c r. ap (λ p. p.takes) r.plan) (λ c r. risen (takes_met c) (calls_of_kind job m.journal AckTake) r.takes) h.kept.plans.back_takes

  pub faithful : is_faithful job m.journal ≡ true
  faithful = faithful-from job (first_view job) [] m.journal h.kept.fitting h.kept.is_run all-follow

  -- all wires tell their plans
  told-some : {A : Type 0} (R : A → A → Type 0) (a : A) (o : Option A) → BothTold R (Some a) o → is_some o ≡ true
  told-some R a None both = absurd both
  told-some R a (Some b) both = refl

  all-told : (ws : List OnWire) → ((s : ℕ) → s < length ws → is_some (get_or ws s no_wire).told.counted ≡ true) → list_all (λ w. is_some w.told.counted) ws ≡ true
  all-told [] each = refl
  all-told (w ∷ ws) each =
      ap (λ (b : Bool). b && list_all (λ (x : OnWire). is_some x.told.counted) ws) (each 0 (omega arith))
      ∙ all-told ws (λ s lt. each (suc s) (omega arith))

  wires-long : length m.wires ≡ job.config.streams
  wires-long = h.origin.tells.wires ∙ length-map-range_with_len (stream_begun m.job) 0 job.config.streams

  pub plans-told : tells_plans m ≡ true
  plans-told =
      let streams = all-told m.wires (λ s lt. told-some (PutsRise job [] m.journal (Put s)) _ (wire m s).told.counted (puts-rise s (omega (arith, wires-long)))) in
      ap (λ (b : Bool). b && is_some m.back.told.counted) streams ∙ told-some (PutsRise job [] m.journal AckPut) _ m.back.told.counted h.origin.rises.numbers.back_puts

-- a step
module _ (m n : Seen) (e : Event) (a : Turn) (h : IsInMemory m) (s : IsStep m e a n) (kept : IsKept n) where
  abbrev at : Job
  at = job_of m.job

  later-faithful : is_faithful at (m.journal ++ entry_of e a) ≡ true
  later-faithful =
      ap (is_faithful at) (sym s.journal)
      ∙ ap (λ (w : Written). is_faithful (job_of w) n.journal) (sym s.job)
      ∙ faithful n (stays m n e a h s kept)

  flagged-as : is_flagged a ≡ flag at (view_of m) (calls at m.journal) e
  flagged-as = flag-is at (view_of m) (calls at m.journal) e a s.answers (s.finds (plans-told m h)) (planned-last at m.journal e a later-faithful)

  pub answered-as : a ≡ turn at (view_of m) e (flag at (view_of m) (calls at m.journal) e)
  answered-as = s.answers ∙ ap (turn at (view_of m) e) flagged-as

  pub left-as : view_of n ≡ step at (view_of m) e (flag at (view_of m) (calls at m.journal) e)
  left-as = view-after m n e a s ∙ ap (step at (view_of m) e) flagged-as

  pub called-as : calls at n.journal ≡ calls at m.journal ++ call_of at (view_of m) e a
  called-as = ap (calls at) s.journal ∙ calls-after at m.journal e a
