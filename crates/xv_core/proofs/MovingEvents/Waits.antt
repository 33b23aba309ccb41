-- What a send and the switchover wait for, as the source's half tells it.
use Rattle.std.specs.Prelude.{◌≡◌, ℕ, ◌==◌, not, Bool, true, false, Option, None}
use Rattle.std.proofs.Common.{ap, sym, subst, ◌∙◌}
use Rattle.xv_base.specs.declared.answer.Why.{Why}
use Rattle.xv_base.specs.declared.answer.Why.TheVariants.{CancelDue, NotNow}
use Rattle.xv_base.specs.declared.event.Event.TheVariants.{Send, Switch}
use Rattle.xv_model.specs.Job.{Job}
use Rattle.xv_model.specs.View.{View, is_live, is_stunned}
use Rattle.xv_model.specs.Wait.{Event, wait, unless, has_cancel, may_switch}
use Rattle.xv_job.specs.Written.{job_of}
use Rattle.xv_source.specs.Half.{Source, IsSourceOf}
use Rattle.xv_source.specs.Step.{Allows}
use Rattle.xv_source.specs.Waits.{is_asked}
use Rattle.xv_core.specs.Seen.{Seen, view_of}
use Rattle.xv_core.specs.State.{State, view, seen_of}
use Rattle.xv_core.specs.Kept.{IsState}
use Rattle.xv_core.proofs.Keeping.Joined.{shows, is_source_of}

-- what is waited for, as it is seen
as-seen : (s : State) (m : Seen) (e : Event) (x : Option Why) → seen_of s ≡ m → x ≡ wait (job_of s.job) (view s) e false → x ≡ wait (job_of m.job) (view_of m) e false
as-seen s m e x sees is = subst (λ (z : Seen). x ≡ wait (job_of z.job) (view_of z) e false) sees is

pub send-waits : (s : State) (m : Seen) (k : ℕ) (beside : Bool) (x : Option Why) → IsState s → seen_of s ≡ m → is_live s.phase ≡ true → beside ≡ ((job_of s.job).format == 2) →
    ((job : Job) (v : View) → Allows job v (Send k) s.source → is_asked v.phase (Send k) ≡ true → beside ≡ (job.format == 2) → x ≡ wait job v (Send k) false) → x ≡ wait (job_of m.job) (view_of m) (Send k) false
send-waits s m k beside x kept sees live format tells =
    let r = kept.running in
    let asked : is_live (view s).phase ≡ true = ap is_live (shows s r).phase ∙ live in
    as-seen s m (Send k) x sees (tells (job_of s.job) (view s) (record { of = is_source_of s r; lets = asked }) asked format)

-- the switchover's three conditions
pub switch-waits : (s : State) (m : Seen) (stunned cancel may : Bool) → IsState s → seen_of s ≡ m → is_stunned s.phase ≡ stunned → has_cancel (job_of s.job) ≡ cancel →
    ((job : Job) (v : View) → IsSourceOf job v s.source → may ≡ may_switch job v) →
    unless (not stunned) NotNow (unless cancel CancelDue (unless (not may) NotNow None)) ≡ wait (job_of m.job) (view_of m) Switch false
switch-waits s m stunned cancel may kept sees is_stunned_now is_cancelled tells =
    let r = kept.running in
    let phase : is_stunned (view s).phase ≡ stunned = ap is_stunned (shows s r).phase ∙ is_stunned_now in
    as-seen s m Switch _ sees
    (ap (λ (b : Bool). unless (not b) NotNow (unless cancel CancelDue (unless (not may) NotNow None))) (sym phase)
    ∙ ap (λ (b : Bool). unless (not (is_stunned (view s).phase)) NotNow (unless b CancelDue (unless (not may) NotNow None))) (sym is_cancelled)
    ∙ ap (λ (b : Bool). unless (not (is_stunned (view s).phase)) NotNow (unless (has_cancel (job_of s.job)) CancelDue (unless (not b) NotNow None))) (tells (job_of s.job) (view s) (is_source_of s r)))

-- the answer of a test as what it was compared with
pub may-switch-is : (h : Source) (may is : Bool) → may ≡ is → ((job : Job) (v : View) → IsSourceOf job v h → may ≡ may_switch job v) → (job : Job) (v : View) → IsSourceOf job v h → is ≡ may_switch job v
may-switch-is h may is same tells job v of = sym same ∙ tells job v of
