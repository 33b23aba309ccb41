-- A migration that the driver steps: each step is of the driver's next event.
use Rattle.std.specs.Prelude.{◌≡◌, ℕ, zero, suc, true, false, length, Some}
use Rattle.xv_model.specs.Wait.{Event, fits}
use Rattle.xv_model.specs.Effect.{Turn}
use Rattle.xv_model.specs.Step.{is_wait}
use Rattle.xv_model.specs.Driver.{next_event}
use Rattle.xv_job.specs.Written.{job_of}
use Rattle.xv_core.specs.Seen.{Seen, view_of}
use Rattle.xv_core.specs.Stepped.{IsStep}
use Rattle.xv_core.specs.Keeping.{IsKept}

-- one step: the driver's next event, which goes on, and what every migration keeps holds after it
pub record IsDrivenStep (old new : Seen) : Type 0 where
  pub event : Event
  pub answer : Turn
  pub next : next_event (job_of old.job) (view_of old) (length old.journal) ≡ Some event
  pub fitting : fits (job_of old.job) event ≡ true
  pub stepped : IsStep old event answer new
  pub goes_on : is_wait answer ≡ false
  pub kept : IsKept new

-- so many steps, one after another
abbrev pub AreDriven : ℕ → Seen → Seen → Type 0
AreDriven zero old new = new ≡ old
AreDriven (suc n) old new = (mid : Seen) × (IsDrivenStep old mid × AreDriven n mid new)
