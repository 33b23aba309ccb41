-- What each event does to the view, and what it answers.
use Rattle.std.specs.Prelude.{ℕ, zero, suc, ◌+◌, ◌-◌, ◌==◌, ◌&&◌, not, min, Bool, true, false, List, [], ◌∷◌, ◌++◌, length, map, take, drop, set, replicate, remove, get_or, Some, is_some, if◌then◌else◌}
use Rattle.xv_model.specs.Job.{Job, UnitOp, unit_of_block, disk_of, blocks}
use Rattle.xv_model.specs.View.{View, Disk, Outbox, UnitHead, Phase, disk, front, number, member, members, least, is_running, is_live, stream, front_group, no_message, ready, ready_message}
use Rattle.xv_model.specs.Wait.{Event, Aim, next_operation, next_aim, is_store, is_join, is_mirror}
use Rattle.xv_base.specs.declared.limits.TheConstants.{SINGLE_FORMAT}
use Rattle.xv_base.specs.declared.event.Phase.TheVariants.{Stunned, Switched, Cancelled, Failed}
use Rattle.xv_base.specs.declared.event.Event.TheVariants.{Guest, Begin, Read, Advance, Release, Round, Page, Send, Deliver, Apply, Ack, Credit, Stun, Switch, Cancel}
pub use Rattle.xv_base.specs.declared.operation.Outcome.{Outcome}
use Rattle.xv_base.specs.declared.operation.Outcome.TheVariants.{Done, Faulted}
pub use Rattle.xv_base.specs.declared.answer.Turn.{Turn}
use Rattle.xv_base.specs.declared.answer.Turn.TheVariants.{Done as Happened, Queued, Faulted as GuestFault, Failed as Broke}
pub use Rattle.xv_base.specs.declared.answer.Note.{Note}
use Rattle.xv_base.specs.declared.answer.Cause.TheVariants.{SourceRead, DestWrite, Flush, Put, Take, AckPut, AckTake}

-- Making a message: the unit's next version, with the length of the history in it.
abbrev pub made : Outbox → ℕ → ℕ → Outbox
made box unit at = record {
  messages = box.messages ++ record { unit = record { 0 = unit }; version = number box.issued unit + 1; at = at } ∷ [];
  issued = set box.issued unit (number box.issued unit + 1);
  first = if number box.issued unit == 0 then set box.first unit at else box.first;
}

-- a message for each of n units in a row
abbrev pub made_run : Outbox → ℕ → ℕ → ℕ → Outbox
made_run box unit at zero = box
made_run box unit at (suc n) = made (made_run box unit at n) (unit + n) at

abbrev pub with_disk : View → ℕ → Disk → View
with_disk v d new = record v { disks = set v.disks d new }

-- the view after an operation has ended
abbrev pub ended_as : View → ℕ → Outcome → View
ended_as v guest outcome = record v {
  history = v.history ++ record { guest = record { 0 = guest }; outcome = outcome } ∷ [];
  mark = if is_live v.phase then length v.history + 1 else v.mark;
}

-- a disk whose queue has one guest more at its end, or has lost its front
abbrev pub joined : Disk → ℕ → ℕ → Disk
joined d guest unit = record d { queue = d.queue ++ record { guest = record { 0 = guest }; unit = record { 0 = unit } } ∷ [] }

abbrev pub front_gone : Disk → Disk
front_gone d = record d { queue = drop 1 d.queue }

-- a guest's operation, by its aim
abbrev pub guest_by : Job → View → ℕ → UnitOp → Aim → View
guest_by job v guest op a = record v {
  history = if is_join a then v.history else v.history ++ record { guest = record { 0 = guest }; outcome = Done } ∷ [];
  mark = if not (is_join a) && is_live v.phase then length v.history + 1 else v.mark;
  dirty = if is_store a && not (member v.to_send op.unit.0) then set v.dirty op.unit.0 true else v.dirty;
  disks = if is_join a then set v.disks (disk_of job.copy op.unit.0) (joined (disk v (disk_of job.copy op.unit.0)) guest op.unit.0) else v.disks;
  outbox = if is_mirror a then made v.outbox op.unit.0 (length v.history + 1) else v.outbox;
}

abbrev pub guest_done : Job → View → ℕ → View
guest_done job v guest = guest_by job v guest (next_operation job v guest) (next_aim job v guest)

-- a region of the least of the limit and the blocks left
abbrev pub region_length : Job → View → ℕ → ℕ
region_length job v d = min job.config.region (blocks job.copy.disks d - (disk v d).cursor)

abbrev pub begun : Job → View → ℕ → View
begun job v d = with_disk v d (record (disk v d) { region = region_length job v d; got = 0 })

abbrev pub block_read : View → ℕ → View
block_read v d = with_disk v d (record (disk v d) { got = (disk v d).got + 1 })

-- the unit of a disk's block at the cursor
abbrev pub cursor_unit : Job → View → ℕ → ℕ
cursor_unit job v d = unit_of_block job.copy d (disk v d).cursor

-- the region's messages are made, and its blocks are behind
abbrev pub advanced : Job → View → ℕ → View
advanced job v d = record v {
  disks = set v.disks d (record (disk v d) { cursor = (disk v d).cursor + (disk v d).region; region = 0; got = 0 });
  outbox = made_run v.outbox (cursor_unit job v d) (length v.history) (disk v d).region;
}

-- the write at the front of a queue is done
abbrev pub released : View → ℕ → View
released v d = record v {
  history = v.history ++ record { guest = (front (disk v d)).guest; outcome = Done } ∷ [];
  mark = if is_live v.phase then length v.history + 1 else v.mark;
  disks = set v.disks d (front_gone (disk v d));
  outbox = if is_running v.phase then made v.outbox (front (disk v d)).unit.0 (length v.history + 1) else v.outbox;
}

abbrev pub no_pages : List Bool → List Bool
no_pages pages = replicate (length pages) false

abbrev pub round_begun : View → View
round_begun v = record v { to_send = v.dirty; dirty = no_pages v.dirty; rounds = v.rounds + 1 }

abbrev pub page_sent_off : View → View
page_sent_off v = record v {
  to_send = set v.to_send (least v.to_send) false;
  outbox = made v.outbox (least v.to_send) (length v.history);
}

-- how many messages go at once: one in job format 1, and a group in job format 2
abbrev pub batch : Job → View → ℕ
batch job v = if job.format == SINGLE_FORMAT then 1 else min job.group (min (length v.outbox.messages) v.credit)

abbrev pub sent : Job → View → ℕ → View
sent job v s = record v {
  outbox = record v.outbox { messages = drop (batch job v) v.outbox.messages };
  streams = set v.streams s (stream v s ++ take (batch job v) v.outbox.messages ∷ []);
  credit = v.credit - batch job v;
}

abbrev pub delivered : View → ℕ → View
delivered v s = record v {
  streams = set v.streams s (drop 1 (stream v s));
  hold = record v.hold { held = v.hold.held ++ front_group v s };
}

abbrev pub applied_next : View → View
applied_next v = record v {
  hold = record {
    held = remove v.hold.held (ready v.hold);
    applied = set v.hold.applied (ready_message v.hold).unit.0 (ready_message v.hold).version;
    recorded = set v.hold.recorded (ready_message v.hold).unit.0 (ready_message v.hold).at;
  };
  freed = v.freed + 1;
}

abbrev pub acknowledged : View → View
acknowledged v = record v { acks = v.acks ++ v.freed ∷ []; freed = 0 }

abbrev pub credited : View → View
credited v = record v { credit = v.credit + number v.acks 0; acks = drop 1 v.acks }

abbrev pub stunned : View → View
stunned v = record v { phase = Stunned; stun = Some (length v.history); to_send = v.dirty; dirty = no_pages v.dirty }

abbrev pub switched : View → View
switched v = record v { phase = Switched }

-- every region is given up; cursors and queues stay
abbrev pub without_region : Disk → Disk
without_region d = record d { region = 0; got = 0 }

abbrev pub given_up : View → Phase → View
given_up v phase = record v { phase = phase; disks = map without_region v.disks }

-- the view after an event that went on
abbrev pub effect : Job → View → Event → View
effect job v (Guest g) = guest_done job v g.0
effect job v (Begin d) = begun job v d
effect job v (Read d) = block_read v d
effect job v (Advance d) = advanced job v d
effect job v (Release d) = released v d
effect job v Round = round_begun v
effect job v Page = page_sent_off v
effect job v (Send s) = sent job v s
effect job v (Deliver s) = delivered v s
effect job v Apply = applied_next v
effect job v Ack = acknowledged v
effect job v Credit = credited v
effect job v Stun = stunned v
effect job v Switch = switched v
effect job v Cancel = given_up v Cancelled

-- The view after an event whose call on the outside failed: a guest's own call ends its operation, any other ends the
-- migration. An event that makes no call does not fail (`breaks`).
abbrev pub fault_effect : View → Event → View
fault_effect v (Guest g) = ended_as v g.0 Faulted
fault_effect v (Release d) = with_disk (ended_as v (front (disk v d)).guest.0 Faulted) d (front_gone (disk v d))
fault_effect v e = given_up v Failed

-- the answer of an event that went on
abbrev pub note : ℕ → ℕ → Turn
note a b = Happened (record { a = a; b = b })

abbrev pub guest_answer : UnitOp → Aim → Turn
guest_answer op a = if is_join a then Queued else note (if is_some op.write then 0 else op.len) 0

-- one message is told by its unit and version, a group by its length and its first unit
abbrev pub group_note : Job → List UnitHead → Turn
group_note job group =
    if job.format == SINGLE_FORMAT
    then note (get_or group 0 no_message).unit.0 (get_or group 0 no_message).version
    else note (length group) (get_or group 0 no_message).unit.0

abbrev pub answer : Job → View → Event → Turn
answer job v (Guest g) = guest_answer (next_operation job v g.0) (next_aim job v g.0)
answer job v (Begin d) = note (region_length job v d) 0
answer job v (Read d) = note (cursor_unit job v d + (disk v d).got) 0
answer job v (Advance d) = note (disk v d).region 0
answer job v (Release d) = note (front (disk v d)).guest.0 0
answer job v Round = note (members v.dirty) 0
answer job v Page = note (least v.to_send) (number v.outbox.issued (least v.to_send) + 1)
answer job v (Send s) = group_note job (take (batch job v) v.outbox.messages)
answer job v (Deliver s) = group_note job (front_group v s)
answer job v Apply = note (ready_message v.hold).unit.0 (ready_message v.hold).version
answer job v Ack = note v.freed 0
answer job v Credit = note (number v.acks 0) 0
answer job v Stun = note (members v.dirty) 0
answer job v Switch = note 0 0
answer job v Cancel = note 0 0

-- The answer of an event whose call on the outside failed: of any call but a guest's own its cause.
abbrev pub fault_answer : Event → Turn
fault_answer (Read d) = Broke SourceRead
fault_answer Page = Broke SourceRead
fault_answer (Send s) = Broke (Put s)
fault_answer (Deliver s) = Broke (Take s)
fault_answer Apply = Broke DestWrite
fault_answer Ack = Broke AckPut
fault_answer Credit = Broke AckTake
fault_answer Switch = Broke Flush
fault_answer e = GuestFault
