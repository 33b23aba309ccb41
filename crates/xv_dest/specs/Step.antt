-- What each event does to the destination's half.
use Rattle.std.specs.Prelude.{◌≡◌, ℕ, ◌&&◌, nat_le, not, Bool, true, false, [], length, get_or}
use Rattle.xv_base.specs.declared.event.Event.TheVariants.{Guest, Begin, Read, Advance, Release, Round, Page, Send, Deliver, Apply, Ack, Credit, Stun, Switch, Cancel}
use Rattle.xv_device.specs.Device.{DeviceCall, WriteUnit}
use Rattle.xv_device.specs.Told.{CallMade}
use Rattle.xv_model.specs.Job.{Job, trace}
use Rattle.xv_model.specs.Guest.{ended}
use Rattle.xv_model.specs.View.{View, in_queue, is_stunned, is_switched, is_live, first_next, no_message}
use Rattle.xv_model.specs.Wait.{Event, has_cancel, may_switch}
use Rattle.xv_model.specs.Effect.{Turn}
use Rattle.xv_model.specs.Step.{turn, step, is_flagged, is_wait}
pub use Rattle.xv_model.specs.Step.{went_out}
use Rattle.xv_model.specs.Contents.{Contents, step_contents}
use Rattle.xv_dest.specs.Half.{Dest, IsDestOf, HasDestBytes}

-- Whether an event meets none of the waits that the whole migration judges: those on the phase, the end of a trace, the
-- cancel, a guest in a queue, and what the source still has to send. The half has no part in the other events.
abbrev pub is_let : Job → View → Event → Bool
is_let job v (Guest g) = not (nat_le (length (trace job g.0)) (ended v.history g.0)) && not (in_queue v.disks g.0) && is_switched v.phase
is_let job v (Begin d) = false
is_let job v (Read d) = false
is_let job v (Advance d) = false
is_let job v (Release d) = false
is_let job v Round = false
is_let job v Page = false
is_let job v (Send s) = false
is_let job v (Deliver s) = is_live v.phase
is_let job v Apply = is_live v.phase
is_let job v Ack = is_live v.phase
is_let job v Credit = false
is_let job v Stun = false
is_let job v Switch = is_stunned v.phase && not (has_cancel job) && may_switch job v
is_let job v Cancel = false

-- the half is the destination's part of a view in which the migration lets the event go on as far as it judges it
pub record Allows (job : Job) (v : View) (event : Event) (h : Dest) : Type 0 where
  pub of : IsDestOf job v h
  pub lets : is_let job v event ≡ true

-- An event's part in the destination, in whatever migration the half is part of: the answer is the machine's; a wait
-- changes nothing; where the event goes on the half is the destination's part of the view after it; and where its call
-- failed that of the view before it.
pub record StepsDest (job : Job) (v : View) (event : Event) (answer : Turn) (old new : Dest) : Type 0 where
  pub answers : answer ≡ turn job v event (is_flagged answer)
  pub waits : is_wait answer ≡ true → new ≡ old
  pub part : is_flagged answer ≡ false → IsDestOf job (step job v event false) new
  pub failed : is_flagged answer ≡ true → IsDestOf job v new

-- The same of contents: those after the event, or those before it where its call failed.
pub record MovesDest (job : Job) (v : View) (c : Contents) (event : Event) (answer : Turn) (new : Dest) : Type 0 where
  pub moved : is_flagged answer ≡ false → HasDestBytes (step_contents job v event false c) new
  pub kept : is_flagged answer ≡ true → HasDestBytes c new

-- exactly this call was made of the device where the answer tells of one, and failed where it says so; else none was
pub record MakesCall (call : DeviceCall) (answer : Turn) (old new : Dest) : Type 0 where
  pub made : went_out answer ≡ true → CallMade call (is_flagged answer) old.told new.told old.faults new.faults
  pub none : went_out answer ≡ false → (new.told ≡ old.told) × (new.faults ≡ old.faults)

pub record MakesNoCall (old new : Dest) : Type 0 where
  pub told : new.told ≡ old.told
  pub faults : new.faults ≡ old.faults

-- the write of the first message in order of arrival that is its unit's next version
abbrev pub ready_place : Dest → ℕ
ready_place h = first_next h.applied h.held

abbrev pub ready_write : Dest → DeviceCall
ready_write h = WriteUnit (get_or h.held (ready_place h) no_message).unit.0 (get_or h.contents (ready_place h) [])
