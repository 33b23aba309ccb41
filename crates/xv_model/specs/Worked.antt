-- Worked migrations: a job, a list of events, and what they answer.
pub mod FirstPath
pub mod WriteAhead
pub mod WriteBehind
pub mod WriteInside
pub mod TwoGuestsQueue
pub mod MirrorOvertakesCopy
pub mod ReverseOrderOverStreams
pub mod Throttling
pub mod NothingThere
pub mod PageStoredAgain
pub mod StunLimits
pub mod SwitchByCreditAlone
pub mod GuestOwnFault
pub mod FailedDestination
pub mod CancelledWhileStunned
pub mod AfterTheSwitch
pub mod Groups
pub mod RoundsBesideThePass
pub mod RoundsPastTheLimit
pub mod CancelledWithAQueue
pub mod VersionsEverywhere
pub mod RoomInTheOutbox
use Rattle.std.specs.Prelude.{ℕ, List, Option, length, take}
use Rattle.xv_model.specs.Job.{Job, UnitOp}
use Rattle.xv_model.specs.View.{View}
use Rattle.xv_model.specs.Wait.{Event}
use Rattle.xv_model.specs.Effect.{Turn}
use Rattle.xv_model.specs.Step.{run, play}
use Rattle.xv_model.specs.Report.{totals, probe}
use Rattle.xv_base.specs.declared.event.Event.TheVariants.{Guest}
use Rattle.xv_base.specs.declared.answer.Turn.TheVariants.{Done}
use Rattle.xv_base.specs.declared.event.Probe.{Probe}
use Rattle.xv_base.specs.declared.event.Totals.{Totals}

-- an event of a guest, an answer with its two numbers, a unit operation
abbrev pub guest : ℕ → Event
guest g = Guest (record { 0 = g })

abbrev pub done : ℕ → ℕ → Turn
done a b = Done (record { a = a; b = b })

abbrev pub op : ℕ → ℕ → ℕ → Option (List ℕ) → UnitOp
op unit offset len write = record { unit = record { 0 = unit }; offset = offset; len = len; write = write }

-- the view after these events, the report's numbers, and one unit's after the first n of them
abbrev pub view_after : Job → List Event → View
view_after job events = run job (play job events)

abbrev pub totals_after : Job → List Event → Totals
totals_after job events = totals job (view_after job events) (length (play job events))

abbrev pub probe_after : Job → List Event → ℕ → ℕ → Probe
probe_after job events n unit = probe job (view_after job (take n events)) unit
