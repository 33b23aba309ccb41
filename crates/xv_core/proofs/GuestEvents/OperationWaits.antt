-- What the operations of guests wait for, in the words of the half's calls.
use Rattle.std.specs.Prelude.{◌≡◌, ℕ, Bool, true, false, List, [], ◌∷◌, get_or, slice_get, is_none}
use Rattle.std.proofs.Common.{refl, ap, subst, ◌∙◌}
use Rattle.xv_base.specs.declared.event.Event.TheVariants.{Release}
use Rattle.xv_model.specs.View.{Disk, Waiting, no_disk, disk, is_empty, is_running}
use Rattle.xv_model.specs.Wait.{Event, cancel_due}
use Rattle.xv_job.specs.Written.{job_of}
use Rattle.xv_source.specs.Step.{is_let, Allows}
use Rattle.xv_core.specs.Seen.{Seen, view_of}
use Rattle.xv_core.specs.State.{State, seen_of, view}
use Rattle.xv_core.specs.Kept.{IsState}
use Rattle.xv_core.proofs.Keeping.Joined.{shows, is_source_of}
use Rattle.xv_core.proofs.GuestEvents.ReleaseTurns.{let-by}

-- what the half may be asked, of a migration as contracts see it
pub allows-of : (s : State) (m : Seen) (e : Event) → IsState s → seen_of s ≡ m → is_let (job_of m.job) (view_of m) e ≡ true → Allows (job_of m.job) (view_of m) e s.source
allows-of s m e k seen lets =
    subst (λ (n : Seen). is_let (job_of n.job) (view_of n) e ≡ true → Allows (job_of n.job) (view_of n) e s.source) seen (λ l. record { of = is_source_of s k.running; lets = l }) lets

pub running-is : (s : State) (m : Seen) (b : Bool) → IsState s → seen_of s ≡ m → is_running s.phase ≡ b → is_running (view_of m).phase ≡ b
running-is s m b k seen is = subst (λ (n : Seen). is_running (view_of n).phase ≡ b) seen (ap is_running (shows s k.running).phase ∙ is)

-- the half judges the rest of what a queued write waits for
some-first : (ws : List Waiting) → is_none (slice_get ws 0) ≡ false → is_empty ws ≡ false
some-first [] some = absurd (cc)
some-first (w ∷ ws) some = refl

lets-by : (s : State) (d : ℕ) → IsState s → is_none (slice_get (get_or s.source.disks d no_disk).queue 0) ≡ false → cancel_due (job_of s.job) (view s) ≡ false → is_let (job_of s.job) (view s) (Release d) ≡ true
lets-by s d k some due =
    let here : is_none (slice_get (disk (view s) d).queue 0) ≡ false = ap (λ (ds : List Disk). is_none (slice_get (get_or ds d no_disk).queue 0)) (shows s k.running).disks ∙ some in
    let-by (is_empty (disk (view s) d).queue) (cancel_due (job_of s.job) (view s)) (some-first (disk (view s) d).queue here) due

pub release-lets : (s : State) (m : Seen) (d : ℕ) → IsState s → seen_of s ≡ m → is_none (slice_get (get_or s.source.disks d no_disk).queue 0) ≡ false → cancel_due (job_of m.job) (view_of m) ≡ false →
    is_let (job_of m.job) (view_of m) (Release d) ≡ true
release-lets s m d k seen some due =
    subst (λ (n : Seen). cancel_due (job_of n.job) (view_of n) ≡ false → is_let (job_of n.job) (view_of n) (Release d) ≡ true) seen (λ not_due. lets-by s d k some not_due) due
