-- While messages move, each frame in transit stays one piece, and each take meets one.
use Rattle.std.specs.Prelude.{◌≡◌, ℕ, ◌+◌, Bool, true, false, List, [], length, Option, Some, None, IfSome}
use Rattle.std.proofs.Common.{arith, refl, ap, sym, ◌∙◌, subst}
use Rattle.std.proofs.lemmas.Bool.{eq-eqb}
use Rattle.xv_base.specs.Units.{Shape}
use Rattle.xv_frame.specs.Frame.{AckFrame, spelled}
use Rattle.xv_base.specs.Calls.{is_listed}
use Rattle.xv_wire.specs.Wire.{Counted}
use Rattle.xv_model.specs.Job.{Job}
use Rattle.xv_model.specs.View.{is_live}
use Rattle.xv_model.specs.Wait.{Event}
use Rattle.xv_model.specs.Effect.{Turn}
use Rattle.xv_model.specs.Step.{Put, Take, AckPut, AckTake, same_call, is_flagged}
use Rattle.xv_model.specs.Outside.{Outside, kind, outside}
use Rattle.xv_streams.specs.Streamed.{LaneSeen, lane}
use Rattle.xv_streams.specs.Carried.{frame_of}
use Rattle.xv_streams.specs.Fronts.{TakesFront}
use Rattle.xv_streams.specs.Returned.{Returned, TakesFirst}
use Rattle.xv_job.specs.Written.{job_of}
use Rattle.xv_core.specs.State.{State, IsRunning, view}
use Rattle.xv_core.specs.Happening.{Happened}
use Rattle.xv_core.specs.Plans.{takes_met, IsPieces, frame_length, ArePieces, AllCarried}
use Rattle.xv_core.specs.Rising.{BothTold}
use Rattle.xv_core.proofs.Counting.Steps.{bit, carry}
use Rattle.xv_core.proofs.Counting.Wires.{LaneStep, LaneStays, LanePuts, LaneTakes, lane-step, BackStep, BackStays, BackPuts, BackTakes, back-step}
use Rattle.xv_core.proofs.Counting.Rises.{both-then}
use Rattle.xv_core.proofs.Plans.Takes.{TakenPiece, PutPiece, puts-piece}
use Rattle.xv_core.proofs.Plans.Lanes.{lengths, lane-takes, lane-taken, lane-put, carried-at, acks, back-takes, back-taken, back-put}
use Rattle.xv_core.proofs.Plans.Live.{live-before, unfailed, some-group, some-count, live-take, live-credit}

-- how many takes met a piece: one more at a take, which failed by the plan
pub record MetBy (take failed : Bool) (before later : Counted) : Type 0 where
  pub plan : later.plan ≡ before.plan
  pub met : takes_met later ≡ takes_met before + bit take
  pub planned : take ≡ true → failed ≡ is_listed before.plan.takes (takes_met before + 1)

none-more : (n : ℕ) → n ≡ n + 0
none-more n = omega arith

no-take : (failed : Bool) (c d : Counted) → d.plan ≡ c.plan → takes_met d ≡ takes_met c → MetBy false failed c d
no-take failed c d p m = record { plan = p; met = m ∙ none-more (takes_met c); planned = λ e. absurd (cc) }

met-same : (take failed : Bool) (o : Option Counted) → take ≡ false → BothTold (MetBy take failed) o o
met-same take failed None e = tt
met-same take failed (Some c) e = subst (λ (b : Bool). MetBy b failed c c) (sym e) (no-take failed c c refl refl)

met-put : (take failed : Bool) (size : ℕ) (o p : Option Counted) → take ≡ false → BothTold (PutPiece size failed) o p → BothTold (MetBy take failed) o p
met-put take failed size o p e h =
    both-then (PutPiece size failed) (MetBy take failed) o p (λ c d put. subst (λ (b : Bool). MetBy b failed c d) (sym e) (no-take failed c d put.plan put.met_same)) h

met-take : (take failed : Bool) (ps : List ℕ) (o p : Option Counted) → take ≡ true → BothTold (TakenPiece ps failed) o p → BothTold (MetBy take failed) o p
met-take take failed ps o p e h =
    both-then (TakenPiece ps failed) (MetBy take failed) o p
    (λ c d taken. subst (λ (b : Bool). MetBy b failed c d) (sym e) (record { plan = taken.plan; met = taken.met_more; planned = λ _. taken.planned })) h

module _ (s t : State) (e : Event) (a : Turn) (running : IsRunning s) (h : Happened s e a t) (cs : AllCarried (job_of s.job) s) (ct : AllCarried (job_of s.job) t) (p : ArePieces s) where
  abbrev job : Job
  job = job_of s.job

  abbrev made : Outside
  made = outside (job_of s.job) (view s) e

  at-lane : (k : ℕ) → LaneStep k made (is_flagged a) job.shape job.format (lane s.streams k) (lane t.streams k)
  at-lane k =
      subst (λ (x : Shape). LaneStep k made (is_flagged a) x job.format (lane s.streams k) (lane t.streams k)) running.parts.streams_shape
      (subst (λ (f : ℕ). LaneStep k made (is_flagged a) s.streams.shape f (lane s.streams k) (lane t.streams k)) running.parts.streams_format
      (lane-step k made (is_flagged a) s.streams t.streams h.calls.streams))

  at-back : BackStep made (is_flagged a) s.back t.back
  at-back = back-step made (is_flagged a) s.back t.back h.calls.back

  pieces-before : (k : ℕ) → is_live s.phase ≡ true → IfSome (lane s.streams k).wire.counted (IsPieces (lengths job.format (lane s.streams k).groups))
  pieces-before k live = subst (λ (f : ℕ). IfSome (lane s.streams k).wire.counted (IsPieces (lengths f (lane s.streams k).groups))) running.parts.streams_format (p.streams k live)

  taken-at : (k : ℕ) → kind made ≡ Take k → TakesFront job.shape (is_flagged a) (lane s.streams k) (lane t.streams k)
      → BothTold (TakenPiece (lengths job.format (lane s.streams k).groups) (is_flagged a)) (lane s.streams k).wire.counted (lane t.streams k).wire.counted
  taken-at k take front =
      let live = live-take s t e a running h k take in
      lane-takes job.shape job.format (is_flagged a) (lane s.streams k) (lane t.streams k) running.good.machine
      (carried-at job.shape job.format s.streams.lanes k cs.lanes) (carried-at job.shape job.format t.streams.lanes k ct.lanes) front
      (p.gathered k live) (some-group s t e a running h k take) (pieces-before k live)

  back-taken-at : kind made ≡ AckTake → TakesFirst (is_flagged a) s.back t.back → BothTold (TakenPiece (acks s.back.counts) (is_flagged a)) s.back.wire.counted t.back.wire.counted
  back-taken-at take first =
      let live = live-credit s t e a running h take in
      back-takes (is_flagged a) s.back t.back cs.back ct.back first (p.back_gathered live) (some-count s t e a running h take) (p.back live)

  -- the takes
  abbrev taking : ℕ → Bool
  taking k = same_call (Take k) (kind made)

  abbrev crediting : Bool
  crediting = same_call AckTake (kind made)

  pub met-at : (k : ℕ) → BothTold (MetBy (same_call (Take k) (kind (outside (job_of s.job) (view s) e))) (is_flagged a)) (lane s.streams k).wire.counted (lane t.streams k).wire.counted
  met-at k = by (at-lane k)
    where
      by : LaneStep k made (is_flagged a) job.shape job.format (lane s.streams k) (lane t.streams k) → BothTold (MetBy (taking k) (is_flagged a)) (lane s.streams k).wire.counted (lane t.streams k).wire.counted
      by (LaneStays put take mine same) =
          subst (λ (l : LaneSeen). BothTold (MetBy (taking k) (is_flagged a)) (lane s.streams k).wire.counted l.wire.counted) (sym same) (met-same (taking k) (is_flagged a) (lane s.streams k).wire.counted take)
      by (LanePuts group is put) =
          met-put (taking k) (is_flagged a) (frame_length job.format group) (lane s.streams k).wire.counted (lane t.streams k).wire.counted (ap (same_call (Take k)) is)
          (puts-piece (spelled (frame_of job.format group)) (is_flagged a) (lane s.streams k).wire (lane t.streams k).wire put.made.told)
      by (LaneTakes is front) =
          met-take (taking k) (is_flagged a) (lengths job.format (lane s.streams k).groups) (lane s.streams k).wire.counted (lane t.streams k).wire.counted (ap (same_call (Take k)) is ∙ same-number k) (taken-at k is front)
        where
          same-number : (k : ℕ) → same_call (Take k) (Take k) ≡ true
          same-number k = eq-eqb k k refl

  pub back-met : BothTold (MetBy (same_call AckTake (kind (outside (job_of s.job) (view s) e))) (is_flagged a)) s.back.wire.counted t.back.wire.counted
  back-met = by at-back
    where
      by : BackStep made (is_flagged a) s.back t.back → BothTold (MetBy crediting (is_flagged a)) s.back.wire.counted t.back.wire.counted
      by (BackStays put take mine same) =
          subst (λ (r : Returned). BothTold (MetBy crediting (is_flagged a)) s.back.wire.counted r.wire.counted) (sym same) (met-same crediting (is_flagged a) s.back.wire.counted take)
      by (BackPuts count is put) =
          met-put crediting (is_flagged a) (length (spelled (AckFrame count))) s.back.wire.counted t.back.wire.counted (ap (same_call AckTake) is)
          (puts-piece (spelled (AckFrame count)) (is_flagged a) s.back.wire t.back.wire put.made.told)
      by (BackTakes is first) = met-take crediting (is_flagged a) (acks s.back.counts) s.back.wire.counted t.back.wire.counted (ap (same_call AckTake) is) (back-taken-at is first)

  -- the pieces
  lane-gathered : (k : ℕ) → is_live t.phase ≡ true → LaneStep k made (is_flagged a) job.shape job.format (lane s.streams k) (lane t.streams k) → (lane t.streams k).gathered ≡ []
  lane-gathered k live (LaneStays put take mine same) = ap (λ (l : LaneSeen). l.gathered) same ∙ p.gathered k (live-before s t e a running h live)
  lane-gathered k live (LanePuts group is put) = put.gathered ∙ p.gathered k (live-before s t e a running h live)
  lane-gathered k live (LaneTakes is front) = front.gathered (unfailed s t e a running h (Take k) is refl live)

  lane-pieces : (k : ℕ) → is_live t.phase ≡ true → LaneStep k made (is_flagged a) job.shape job.format (lane s.streams k) (lane t.streams k)
      → IfSome (lane t.streams k).wire.counted (IsPieces (lengths job.format (lane t.streams k).groups))
  lane-pieces k live (LaneStays put take mine same) =
      subst (λ (l : LaneSeen). IfSome l.wire.counted (IsPieces (lengths job.format l.groups))) (sym same) (pieces-before k (live-before s t e a running h live))
  lane-pieces k live (LanePuts group is put) =
      carry (IsPieces (lengths job.format (lane s.streams k).groups)) (IsPieces (lengths job.format (lane t.streams k).groups)) (PutPiece (frame_length job.format group) (is_flagged a))
      (lane s.streams k).wire.counted (lane t.streams k).wire.counted
      (puts-piece (spelled (frame_of job.format group)) (is_flagged a) (lane s.streams k).wire (lane t.streams k).wire put.made.told)
      (pieces-before k (live-before s t e a running h live))
      (λ c d one was. lane-put job.format group (is_flagged a) (lane s.streams k) (lane t.streams k) put (unfailed s t e a running h (Put k) is refl live) c d one was)
  lane-pieces k live (LaneTakes is front) =
      carry (IsPieces (lengths job.format (lane s.streams k).groups)) (IsPieces (lengths job.format (lane t.streams k).groups)) (TakenPiece (lengths job.format (lane s.streams k).groups) (is_flagged a))
      (lane s.streams k).wire.counted (lane t.streams k).wire.counted (taken-at k is front) (pieces-before k (live-before s t e a running h live))
      (λ c d one was. lane-taken job.shape job.format (is_flagged a) (lane s.streams k) (lane t.streams k) front (unfailed s t e a running h (Take k) is refl live) c d one)

  back-none-gathered : is_live t.phase ≡ true → BackStep made (is_flagged a) s.back t.back → t.back.gathered ≡ []
  back-none-gathered live (BackStays put take mine same) = ap (λ (r : Returned). r.gathered) same ∙ p.back_gathered (live-before s t e a running h live)
  back-none-gathered live (BackPuts count is put) = put.gathered ∙ p.back_gathered (live-before s t e a running h live)
  back-none-gathered live (BackTakes is first) = first.gathered (unfailed s t e a running h AckTake is refl live)

  back-pieces : is_live t.phase ≡ true → BackStep made (is_flagged a) s.back t.back → IfSome t.back.wire.counted (IsPieces (acks t.back.counts))
  back-pieces live (BackStays put take mine same) =
      subst (λ (r : Returned). IfSome r.wire.counted (IsPieces (acks r.counts))) (sym same) (p.back (live-before s t e a running h live))
  back-pieces live (BackPuts count is put) =
      carry (IsPieces (acks s.back.counts)) (IsPieces (acks t.back.counts)) (PutPiece (length (spelled (AckFrame count))) (is_flagged a)) s.back.wire.counted t.back.wire.counted
      (puts-piece (spelled (AckFrame count)) (is_flagged a) s.back.wire t.back.wire put.made.told) (p.back (live-before s t e a running h live))
      (λ c d one was. back-put count (is_flagged a) s.back t.back put (unfailed s t e a running h AckPut is refl live) c d one was)
  back-pieces live (BackTakes is first) =
      carry (IsPieces (acks s.back.counts)) (IsPieces (acks t.back.counts)) (TakenPiece (acks s.back.counts) (is_flagged a)) s.back.wire.counted t.back.wire.counted
      (back-taken-at is first) (p.back (live-before s t e a running h live))
      (λ c d one was. back-taken (is_flagged a) s.back t.back first (unfailed s t e a running h AckTake is refl live) c d one)

  pub pieces-stay : ArePieces t
  pieces-stay = record {
    gathered = λ k live. lane-gathered k live (at-lane k);
    streams = λ k live. subst (λ (f : ℕ). IfSome (lane t.streams k).wire.counted (IsPieces (lengths f (lane t.streams k).groups))) (sym format-then) (lane-pieces k live (at-lane k));
    back_gathered = λ live. back-none-gathered live at-back;
    back = λ live. back-pieces live at-back;
  }
    where
      format-then : t.streams.format ≡ job.format
      format-then = h.parts.streams_format
