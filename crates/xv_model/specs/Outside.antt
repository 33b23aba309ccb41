-- The calls on the outside with what each is made on: which side, which part of which unit, which stream. The calls
-- that a journal made are a fold over it, and so are the writes of each unit on both sides.
use Rattle.std.specs.Prelude.{◌≤◌, ◌<◌, ℕ, ◌+◌, ◌==◌, ◌||◌, not, Bool, false, List, [], ◌∷◌, ◌++◌, Option, Some, None, is_some, count_by, if◌then◌else◌}
use Rattle.xv_model.specs.Job.{Job, UnitOp, unit_count, size}
use Rattle.xv_model.specs.View.{View, first_view, is_switched, disk, least, ready_message}
use Rattle.xv_model.specs.Wait.{Event, next_operation, next_aim, is_join}
use Rattle.xv_model.specs.Effect.{cursor_unit}
use Rattle.xv_model.specs.Step.{Entry, Call, NoCall, SourceRead, SourceWrite, DestRead, DestWrite, DestFlush, Put, Take, AckPut, AckTake, step, calls, is_call, is_flagged, same_call}
use Rattle.xv_model.specs.Contents.{front_operation}
use Rattle.xv_base.specs.declared.event.Event.TheVariants.{Guest, Begin, Read, Advance, Release, Round, Page, Send, Deliver, Apply, Ack, Credit, Stun, Switch, Cancel}

-- a part of one unit
pub record Part : Type 0 where
  pub unit : ℕ
  pub offset : ℕ
  pub len : ℕ

-- none; a read or a write of a part on one side; a flush of the destination; a put on or a take from a stream, or the
-- way back
pub data Outside : Type 0 where
  NoOutside : Outside
  ReadSource : Part → Outside
  WriteSource : Part → Outside
  ReadDest : Part → Outside
  WriteDest : Part → Outside
  FlushDest : Outside
  PutOn : ℕ → Outside
  TakeFrom : ℕ → Outside
  PutBack : Outside
  TakeBack : Outside

-- the kind of a call
abbrev pub kind : Outside → Call
kind NoOutside = NoCall
kind (ReadSource p) = SourceRead
kind (WriteSource p) = SourceWrite
kind (ReadDest p) = DestRead
kind (WriteDest p) = DestWrite
kind FlushDest = DestFlush
kind (PutOn s) = Put s
kind (TakeFrom s) = Take s
kind PutBack = AckPut
kind TakeBack = AckTake

-- the part of its unit that an operation covers, and the whole of a unit
abbrev pub part_of : UnitOp → Part
part_of op = record { unit = op.unit.0; offset = op.offset; len = op.len }

abbrev pub whole : Job → ℕ → Part
whole job unit = record { unit = unit; offset = 0; len = size job.shape unit }

-- a guest's call: on the destination once it is switched, else on the source; none where the write is queued
abbrev pub guest_outside : Bool → Bool → UnitOp → Outside
guest_outside queued switched op =
    if queued then NoOutside
    else (if switched
    then (if is_some op.write then WriteDest (part_of op) else ReadDest (part_of op))
    else (if is_some op.write then WriteSource (part_of op) else ReadSource (part_of op)))

-- The call that an event makes where it goes on. A guest's operation covers its own part; the copy reads the region's
-- next block and the least page of the round whole; the ready message is written over its whole unit.
abbrev pub outside : Job → View → Event → Outside
outside job v (Guest g) = guest_outside (is_join (next_aim job v g.0)) (is_switched v.phase) (next_operation job v g.0)
outside job v (Begin d) = NoOutside
outside job v (Read d) = ReadSource (whole job (cursor_unit job v d + (disk v d).got))
outside job v (Advance d) = NoOutside
outside job v (Release d) = WriteSource (part_of (front_operation job v d))
outside job v Round = NoOutside
outside job v Page = ReadSource (whole job (least v.to_send))
outside job v (Send s) = PutOn s
outside job v (Deliver s) = TakeFrom s
outside job v Apply = WriteDest (whole job (ready_message v.hold).unit.0)
outside job v Ack = PutBack
outside job v Credit = TakeBack
outside job v Stun = NoOutside
outside job v Switch = FlushDest
outside job v Cancel = NoOutside

-- what part a call is of, and on which stream it is
abbrev pub part : Outside → Option Part
part NoOutside = None
part (ReadSource p) = Some p
part (WriteSource p) = Some p
part (ReadDest p) = Some p
part (WriteDest p) = Some p
part FlushDest = None
part (PutOn s) = None
part (TakeFrom s) = None
part PutBack = None
part TakeBack = None

abbrev pub stream_of : Outside → Option ℕ
stream_of NoOutside = None
stream_of (ReadSource p) = None
stream_of (WriteSource p) = None
stream_of (ReadDest p) = None
stream_of (WriteDest p) = None
stream_of FlushDest = None
stream_of (PutOn s) = Some s
stream_of (TakeFrom s) = Some s
stream_of PutBack = None
stream_of TakeBack = None

-- a part that lies within a unit that is there
pub record IsWithin (job : Job) (p : Part) : Type 0 where
  pub unit_is : p.unit < unit_count job
  pub in_unit : p.offset + p.len ≤ size job.shape p.unit

-- what an entry adds to the calls made: its call, where it makes one and that did not fail
abbrev pub unless_failed : Bool → Outside → List Outside
unless_failed failed o = if failed || not (is_call (kind o)) then [] else o ∷ []

-- the calls that a journal made and that did not fail, in order, from a view on
abbrev pub calls_made_from : Job → View → List Entry → List Outside
calls_made_from job v [] = []
calls_made_from job v (e ∷ es) =
    unless_failed (is_flagged e.turn) (outside job v e.event) ++ calls_made_from job (step job v e.event (is_flagged e.turn)) es

abbrev pub calls_made : Job → List Entry → List Outside
calls_made job journal = calls_made_from job (first_view job) journal

-- how many calls of a kind a journal has, those that failed too: the next one of the kind has the number after it
abbrev pub calls_of_kind : Job → List Entry → Call → ℕ
calls_of_kind job journal c = count_by (same_call c) (calls job journal)

-- whether a call writes to a unit of a side, and how often a journal did
abbrev pub is_source_write : ℕ → Outside → Bool
is_source_write unit NoOutside = false
is_source_write unit (ReadSource p) = false
is_source_write unit (WriteSource p) = p.unit == unit
is_source_write unit (ReadDest p) = false
is_source_write unit (WriteDest p) = false
is_source_write unit FlushDest = false
is_source_write unit (PutOn s) = false
is_source_write unit (TakeFrom s) = false
is_source_write unit PutBack = false
is_source_write unit TakeBack = false

abbrev pub is_dest_write : ℕ → Outside → Bool
is_dest_write unit NoOutside = false
is_dest_write unit (ReadSource p) = false
is_dest_write unit (WriteSource p) = false
is_dest_write unit (ReadDest p) = false
is_dest_write unit (WriteDest p) = p.unit == unit
is_dest_write unit FlushDest = false
is_dest_write unit (PutOn s) = false
is_dest_write unit (TakeFrom s) = false
is_dest_write unit PutBack = false
is_dest_write unit TakeBack = false

abbrev pub source_writes : Job → List Entry → ℕ → ℕ
source_writes job journal unit = count_by (is_source_write unit) (calls_made job journal)

abbrev pub dest_writes : Job → List Entry → ℕ → ℕ
dest_writes job journal unit = count_by (is_dest_write unit) (calls_made job journal)
