-- How a pass is seen after a call.
use Rattle.std.proofs.Common.{◌≡◌, ℕ, ◌+◌, ◌-◌, ◌<◌, ◌≤◌, not, Bool, true, false, nat_lt, if◌then◌else◌, refl, sym, ap, subst, ◌∙◌, arith}
use Rattle.xv_base.specs.Calls.{next_count}
use Rattle.xv_report.specs.declared.counts.Job1.{Job1}
use Rattle.xv_model.specs.Effect.{Turn}
use Rattle.xv_model.specs.Step.{is_wait}
use Rattle.xv_model.specs.Growth.{happened, is_queued, is_fault, is_failure}
use Rattle.xv_shared.specs.Tallies.{GuestTally, WorkerTally, guest_after, pass_after, worker_after, IsCounted, guest_number, once}
use Rattle.xv_shared.proofs.Entries.{one-kind}

-- a pass that has moved is counted, wherever its last read stands
pub counted-read : (p q : GuestTally) (t : Turn) (before later : ℕ) → q ≡ pass_after p t before later → IsCounted p t q
counted-read p q t before later e = subst (λ (x : GuestTally). IsCounted p t x) (sym e) refl

-- and its number grows by one exactly where the answer is no wait
pub number-entered : (p q : GuestTally) (t : Turn) → IsCounted p t q → is_failure t ≡ false → guest_number q ≡ guest_number p + once (not (is_wait t))
number-entered p q t e f =
    ap guest_number e ∙ omega (arith, one-kind t f)
