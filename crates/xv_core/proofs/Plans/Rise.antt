-- The takes that met a piece rise as the journal's takes do: at an event, at none, and from a state over another to a third.
use Rattle.std.specs.Prelude.{Option}
use Rattle.std.proofs.Common.{refl, ◌∙◌, subst}
use Rattle.xv_wire.specs.Wire.{Counted}
use Rattle.xv_model.specs.Job.{Job}
use Rattle.xv_model.specs.Wait.{Event}
use Rattle.xv_model.specs.Effect.{Turn}
use Rattle.xv_model.specs.Step.{Call, Take, AckTake, same_call, is_flagged}
use Rattle.xv_model.specs.Outside.{kind, outside}
use Rattle.xv_job.specs.Written.{Written, job_of}
use Rattle.xv_core.specs.Seen.{Seen, wire}
use Rattle.xv_core.specs.State.{State, IsRunning, view, seen_of}
use Rattle.xv_core.specs.Happening.{Happened}
use Rattle.xv_core.specs.Plans.{takes_met, ArePieces, AllCarried}
use Rattle.xv_core.specs.Rising.{BothTold, MeetsRise, TakesRise}
use Rattle.xv_core.proofs.Counting.Rises.{both-same, both-then, both-over, over, risen, as-journal}
use Rattle.xv_core.proofs.Plans.Pieces.{MetBy, met-at, back-met}
use Rattle.xv_core.proofs.Plans.Follow.{met-wire}

pub takes-rise-refl : (m : Seen) → TakesRise m m
takes-rise-refl m = record {
  same_job = refl;
  takes = λ s. both-same (MeetsRise (job_of m.job) m.journal m.journal (Take s)) (wire m s).told.counted (λ c. record { plan = refl; takes = refl });
  back_takes = both-same (MeetsRise (job_of m.job) m.journal m.journal AckTake) m.back.told.counted (λ c. record { plan = refl; takes = refl });
}

meets-over : (job : Job) (l m n : Seen) (k : Call) (x y z : Option Counted) → BothTold (MeetsRise job l.journal m.journal k) x y → BothTold (MeetsRise job m.journal n.journal k) y z → BothTold (MeetsRise job l.journal n.journal k) x z
meets-over job l m n k x y z = both-over (MeetsRise job l.journal m.journal k) (MeetsRise job m.journal n.journal k) (MeetsRise job l.journal n.journal k) x y z
    (λ a b c f g. record { plan = g.plan ∙ f.plan; takes = over (takes_met a) (takes_met b) (takes_met c) _ _ _ f.takes g.takes })

pub takes-rise-over : (l m n : Seen) → TakesRise l m → TakesRise m n → TakesRise l n
takes-rise-over l m n p q = record {
  same_job = q.same_job ∙ p.same_job;
  takes = λ s. meets-over (job_of l.job) l m n (Take s) (wire l s).told.counted (wire m s).told.counted (wire n s).told.counted (p.takes s)
      (subst (λ (j : Written). BothTold (MeetsRise (job_of j) m.journal n.journal (Take s)) (wire m s).told.counted (wire n s).told.counted) p.same_job (q.takes s));
  back_takes = meets-over (job_of l.job) l m n AckTake l.back.told.counted m.back.told.counted n.back.told.counted p.back_takes
      (subst (λ (j : Written). BothTold (MeetsRise (job_of j) m.journal n.journal AckTake) m.back.told.counted n.back.told.counted) p.same_job q.back_takes);
}

pub takes-rise : (s t : State) (e : Event) (a : Turn) → Happened s e a t → IsRunning s → AllCarried (job_of s.job) s → AllCarried (job_of s.job) t → ArePieces s → TakesRise (seen_of s) (seen_of t)
takes-rise s t e a h running cs ct p = record {
  same_job = h.job;
  takes = λ k. by (Take k) (wire (seen_of s) k).told.counted (wire (seen_of t) k).told.counted (met-wire s t e a h k (met-at s t e a running h cs ct p k));
  back_takes = by AckTake s.back.wire.counted t.back.wire.counted (back-met s t e a running h cs ct p);
}
  where
    by : (k : Call) (x y : Option Counted) → BothTold (MetBy (same_call k (kind (outside (job_of s.job) (view s) e))) (is_flagged a)) x y → BothTold (MeetsRise (job_of s.job) s.journal t.journal k) x y
    by k x y = both-then (MetBy (same_call k (kind (outside (job_of s.job) (view s) e))) (is_flagged a)) (MeetsRise (job_of s.job) s.journal t.journal k) x y
        (λ c d m. record { plan = m.plan; takes = risen (takes_met c) (takes_met d) _ _ _ m.met (as-journal s t e a h k) })
