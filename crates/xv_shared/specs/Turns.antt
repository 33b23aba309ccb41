-- What one call under the lock does.
use Rattle.std.specs.Prelude.{◌≡◌, ℕ, Bool, List, length, take}
use Rattle.xv_base.specs.declared.event.Event.TheVariants.{Guest}
use Rattle.xv_base.specs.declared.answer.Turn.TheVariants.{Done, Queued, Faulted, Wait, Failed}
use Rattle.xv_base.specs.declared.answer.Why.TheVariants.{TraceEnd, InQueue, CancelDue, Stunned, Throttled, NoCredit, NothingThere, NotNow}
use Rattle.xv_model.specs.Wait.{Event, Why}
use Rattle.xv_model.specs.Effect.{Turn}
use Rattle.xv_model.specs.Work.{is_finished}
use Rattle.xv_job.specs.Written.{job_of}
use Rattle.xv_core.specs.Seen.{Seen, view_of}
use Rattle.xv_core.specs.Stepped.{IsStep}
use Rattle.xv_core.specs.Keeping.{IsKept}
use Rattle.xv_core.specs.Origin.{HasOrigin}
use Rattle.xv_shared.specs.Tallies.{GuestTally, last_read}

-- the answer that a guest's worker is given: that all operations have ended is for its pass to say
abbrev pub why_told : Why → Why
why_told TraceEnd = NotNow
why_told InQueue = InQueue
why_told CancelDue = CancelDue
why_told Stunned = Stunned
why_told Throttled = Throttled
why_told NoCredit = NoCredit
why_told NothingThere = NothingThere
why_told NotNow = NotNow

abbrev pub told : Turn → Turn
told (Done n) = Done n
told Queued = Queued
told Faulted = Faulted
told (Wait why) = Wait (why_told why)
told (Failed cause) = Failed cause

-- one step of the guest was made, and this is what its worker is told
pub record IsGuestStep (old : Seen) (guest : ℕ) (answer : Turn) (new : Seen) : Type 0 where
  pub turn : Turn
  pub stepped : IsStep old (Guest (record { 0 = guest })) turn new
  pub tells : answer ≡ told turn

-- This answer was given to this event by a migration of this origin, which kept all that every migration keeps.
pub record WasAnswered (origin : Seen) (event : Event) (answer : Turn) : Type 0 where
  pub before : Seen
  pub later : Seen
  pub came : HasOrigin origin before
  pub kept : IsKept before
  pub stepped : IsStep before event answer later

-- the same of a guest's answer, as its worker is told it
pub record WasTold (origin : Seen) (guest : ℕ) (answer : Turn) : Type 0 where
  pub before : Seen
  pub later : Seen
  pub came : HasOrigin origin before
  pub kept : IsKept before
  pub stepped : IsGuestStep before guest answer later

-- Whether a migration of this origin was finished is what was answered.
pub record WasAsked (origin : Seen) (answer : Bool) : Type 0 where
  pub found : Seen
  pub came : HasOrigin origin found
  pub kept : IsKept found
  pub tells : answer ≡ is_finished (job_of found.job) (view_of found)

-- The bytes of the pass's last read, as a migration of this origin has them, begin the list; they are so many.
pub record WasRead (origin : Seen) (pass : GuestTally) (long : ℕ) (into : List ℕ) : Type 0 where
  pub found : Seen
  pub came : HasOrigin origin found
  pub kept : IsKept found
  pub bytes : take long into ≡ last_read pass found.reads
  pub exactly : long ≡ length (last_read pass found.reads)
