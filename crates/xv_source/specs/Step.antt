-- What each event does to the source's half.
use Rattle.std.specs.Prelude.{◌≡◌, ◌≤◌, ◌<◌, ◌⊎◌, ℕ, ◌==◌, ◌&&◌, ◌^◌, ◌-◌, min, nat_le, nat_lt, not, Bool, true, false, List, [], ◌∷◌, take, length, if◌then◌else◌}
use Rattle.xv_base.specs.declared.limits.TheConstants.{SINGLE_FORMAT, GROUP_FORMAT, MOST_GROUP}
use Rattle.xv_base.specs.declared.event.Event.TheVariants.{Guest, Begin, Read, Advance, Release, Round, Page, Send, Deliver, Apply, Ack, Credit, Stun, Switch, Cancel}
use Rattle.xv_frame.specs.Frame.{Message, message}
use Rattle.xv_device.specs.Device.{DeviceCall}
use Rattle.xv_device.specs.Told.{Told, CallMade}
pub use Rattle.xv_device.specs.Operations.{operation_call, operation_call_by, unit_read, AreRead}
use Rattle.xv_model.specs.Job.{Job, UnitOp, trace}
use Rattle.xv_model.specs.Guest.{ended}
use Rattle.xv_model.specs.View.{View, UnitHead, disk, in_queue, is_empty, is_running, is_stunned, is_live, number}
use Rattle.xv_model.specs.Wait.{Event, cancel_due, is_before}
use Rattle.xv_model.specs.Effect.{Turn, with_disk, front_gone}
use Rattle.xv_model.specs.Step.{turn, step, is_flagged, is_wait}
pub use Rattle.xv_model.specs.Step.{went_out}
use Rattle.xv_model.specs.Contents.{Contents, step_contents}
use Rattle.xv_source.specs.Half.{Source, IsSourceOf, HasSourceBytes, AreWhole}

-- Whether an event meets none of the waits that the whole migration judges: those on the phase, the end of a trace, the
-- cancel, a guest in a queue, and a queue without a front. The half has no part in the other events.
abbrev pub is_let : Job → View → Event → Bool
is_let job v (Guest g) =
    not (nat_le (length (trace job g.0)) (ended v.history g.0)) && not (in_queue v.disks g.0) && not (cancel_due job v)
    && not (is_stunned v.phase)
is_let job v (Begin d) = is_running v.phase
is_let job v (Read d) = is_running v.phase
is_let job v (Advance d) = is_running v.phase
is_let job v (Release d) = not (is_empty (disk v d).queue) && not (cancel_due job v)
is_let job v Round = is_running v.phase
is_let job v Page = is_live v.phase
is_let job v (Send s) = is_live v.phase
is_let job v (Deliver s) = false
is_let job v Apply = false
is_let job v Ack = false
is_let job v Credit = is_live v.phase
is_let job v Stun = is_running v.phase && not (is_before job.config.cancel (length v.history))
is_let job v Switch = false
is_let job v Cancel = false

-- what stands of a view where an event's call failed, as far as the half has it: a released write has left its queue
abbrev pub after_fault : View → Event → View
after_fault v (Guest g) = v
after_fault v (Begin d) = v
after_fault v (Read d) = v
after_fault v (Advance d) = v
after_fault v (Release d) = with_disk v d (front_gone (disk v d))
after_fault v Round = v
after_fault v Page = v
after_fault v (Send s) = v
after_fault v (Deliver s) = v
after_fault v Apply = v
after_fault v Ack = v
after_fault v Credit = v
after_fault v Stun = v
after_fault v Switch = v
after_fault v Cancel = v

-- the half is the source's part of a view in which the migration lets the event go on as far as it judges it
pub record Allows (job : Job) (v : View) (event : Event) (h : Source) : Type 0 where
  pub of : IsSourceOf job v h
  pub lets : is_let job v event ≡ true

-- An event's part in the source, in whatever migration the half is part of: the answer is the machine's; a wait changes
-- nothing; where the event goes on the half is the source's part of the view and, where the device has a whole content for
-- each unit, of the contents after it; and where its call failed that of those before it, but for a released write.
pub record StepsSource (job : Job) (v : View) (event : Event) (answer : Turn) (old new : Source) : Type 0 where
  pub answers : answer ≡ turn job v event (is_flagged answer)
  pub waits : is_wait answer ≡ true → new ≡ old
  pub part : is_flagged answer ≡ false → IsSourceOf job (step job v event false) new
  pub bytes : (c : Contents) → is_flagged answer ≡ false → HasSourceBytes c old → AreWhole old.shape c.source → HasSourceBytes (step_contents job v event false c) new
  pub failed : is_flagged answer ≡ true → IsSourceOf job (after_fault v event) new
  pub failed_bytes : (c : Contents) → is_flagged answer ≡ true → HasSourceBytes c old → HasSourceBytes c new

-- exactly this call was made of the device where the answer tells of one, and failed where it says so; else none was
pub record MakesCall (call : DeviceCall) (answer : Turn) (old new : Source) : Type 0 where
  pub made : went_out answer ≡ true → CallMade call (is_flagged answer) old.told new.told old.faults new.faults
  pub none : went_out answer ≡ false → (new.told ≡ old.told) × (new.faults ≡ old.faults)

-- no call was made of the device
pub record MakesNoCall (old new : Source) : Type 0 where
  pub told : new.told ≡ old.told
  pub faults : new.faults ≡ old.faults

-- the bytes that an operation read are the first of these
pub record ReadsInto (op : UnitOp) (answer : Turn) (bytes : List ℕ) (told : Told) : Type 0 where
  pub gives : went_out answer ≡ true → is_flagged answer ≡ false → AreRead op bytes told

-- no unit has so many versions that there is no number for the next
abbrev pub HasFewVersions : Source → Type 0
HasFewVersions h = (unit : ℕ) → number h.issued unit < 2 ^ 32 - 1

-- how many messages go at once: one in format 1, and at most a group in format 2; and these messages
abbrev pub batch_of : ℕ → ℕ → Source → ℕ
batch_of format most h = if format == SINGLE_FORMAT then 1 else min most (min (length h.messages) h.credit)

abbrev pub joined_messages : List UnitHead → List (List ℕ) → List Message
joined_messages [] cs = []
joined_messages (m ∷ ms) [] = []
joined_messages (m ∷ ms) (c ∷ cs) = message m c ∷ joined_messages ms cs

abbrev pub batch : ℕ → ℕ → Source → List Message
batch format most h = take (batch_of format most h) (joined_messages h.messages h.contents)

-- what a batch may have at most
abbrev pub IsMost : ℕ → ℕ → Type 0
IsMost format most = ((format ≡ SINGLE_FORMAT) × (most ≡ 1)) ⊎ ((format ≡ GROUP_FORMAT) × (1 ≤ most) × (most ≤ MOST_GROUP))

-- an event whose wait the half knows, on a disk that is there
abbrev pub is_of_source : ℕ → Event → Bool
is_of_source disks (Guest g) = false
is_of_source disks (Begin d) = nat_lt d disks
is_of_source disks (Read d) = nat_lt d disks
is_of_source disks (Advance d) = nat_lt d disks
is_of_source disks (Release d) = nat_lt d disks
is_of_source disks Round = true
is_of_source disks Page = true
is_of_source disks (Send s) = true
is_of_source disks (Deliver s) = false
is_of_source disks Apply = false
is_of_source disks Ack = false
is_of_source disks Credit = false
is_of_source disks Stun = true
is_of_source disks Switch = false
is_of_source disks Cancel = false
