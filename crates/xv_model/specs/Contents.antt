-- The contents of a migration beside its view: one for each unit on both sides, for each message, and for each block
-- read; what each event does to them; and the content invariant.
use Rattle.std.specs.Prelude.{◌≡◌, ◌<◌, ℕ, ◌+◌, ◌||◌, Bool, true, false, List, [], ◌∷◌, ◌++◌, length, map, replicate, take, drop, set, remove, get_or, unwrap_or, is_none, Option, Some, None, if◌then◌else◌}
use Rattle.xv_base.specs.Initial.{first_contents as first_units}
use Rattle.xv_model.specs.Job.{Job, UnitOp, unit_count}
use Rattle.xv_model.specs.Guest.{Ended, content, reads, overlaid, part}
use Rattle.xv_model.specs.View.{View, UnitHead, number, least, disk, front, ready, ready_message, is_running, is_switched}
use Rattle.xv_model.specs.Wait.{Event, Why, wait, next_operation, next_aim, is_join, is_mirror}
use Rattle.xv_model.specs.Effect.{batch, cursor_unit}
use Rattle.xv_model.specs.Step.{Entry, breaks, step, is_flagged}
use Rattle.xv_base.specs.declared.event.Event.TheVariants.{Guest, Begin, Read, Advance, Release, Round, Page, Send, Deliver, Apply, Ack, Credit, Stun, Switch, Cancel}

-- `regions` has for each disk the blocks read of its region; a message's content stands where the message stands
pub record Contents : Type 0 where
  pub source : List (List ℕ)
  pub dest : List (List ℕ)
  pub regions : List (List (List ℕ))
  pub outbox : List (List ℕ)
  pub streams : List (List (List (List ℕ)))
  pub held : List (List ℕ)
  pub reads : List ℕ

-- the first contents: the guest's on the source, any of the same number on the destination
abbrev pub first_source : Job → List (List ℕ)
first_source job = first_units job.shape job.init

abbrev pub first_contents : Job → List (List ℕ) → Contents
first_contents job dest = record {
  source = first_source job;
  dest = dest;
  regions = map (λ _. []) job.copy.disks;
  outbox = [];
  streams = replicate job.config.streams [];
  held = [];
  reads = [];
}

-- the content of one unit, and a device's contents after an operation
abbrev pub unit_content : List (List ℕ) → ℕ → List ℕ
unit_content contents unit = get_or contents unit []

abbrev pub after_operation : UnitOp → List (List ℕ) → List (List ℕ)
after_operation op contents = set contents op.unit.0 (overlaid op.write op.offset op.len (unit_content contents op.unit.0))

abbrev pub region_content : Contents → ℕ → List (List ℕ)
region_content c d = get_or c.regions d []

-- the bytes that an operation reads, none where it writes
abbrev pub read_of : UnitOp → List (List ℕ) → List ℕ
read_of op contents = if is_none op.write then part op (unit_content contents op.unit.0) else []

-- the operation that waits at the front of a disk's queue
abbrev pub front_operation : Job → View → ℕ → UnitOp
front_operation job v d = next_operation job v (front (disk v d)).guest.0

-- what an event that went on does to the contents
abbrev pub guest_moves : Job → View → ℕ → Contents → Contents
guest_moves job v guest c = record c {
  source = if is_switched v.phase || is_join (next_aim job v guest) then c.source else after_operation (next_operation job v guest) c.source;
  dest = if is_switched v.phase then after_operation (next_operation job v guest) c.dest else c.dest;
  outbox = if is_mirror (next_aim job v guest)
      then c.outbox ++ unit_content (after_operation (next_operation job v guest) c.source) (next_operation job v guest).unit.0 ∷ []
      else c.outbox;
  reads = c.reads ++ read_of (next_operation job v guest) (if is_switched v.phase then c.dest else c.source);
}

abbrev pub begin_moves : ℕ → Contents → Contents
begin_moves d c = record c { regions = set c.regions d [] }

abbrev pub read_moves : Job → View → ℕ → Contents → Contents
read_moves job v d c = record c { regions = set c.regions d (region_content c d ++ unit_content c.source (cursor_unit job v d + (disk v d).got) ∷ []) }

abbrev pub advance_moves : ℕ → Contents → Contents
advance_moves d c = record c { regions = set c.regions d []; outbox = c.outbox ++ region_content c d }

abbrev pub release_moves : Job → View → ℕ → Contents → Contents
release_moves job v d c = record c {
  source = after_operation (front_operation job v d) c.source;
  outbox = if is_running v.phase
      then c.outbox ++ unit_content (after_operation (front_operation job v d) c.source) (front (disk v d)).unit.0 ∷ []
      else c.outbox;
}

abbrev pub page_moves : View → Contents → Contents
page_moves v c = record c { outbox = c.outbox ++ unit_content c.source (least v.to_send) ∷ [] }

abbrev pub send_moves : Job → View → ℕ → Contents → Contents
send_moves job v s c = record c {
  outbox = drop (batch job v) c.outbox;
  streams = set c.streams s (get_or c.streams s [] ++ take (batch job v) c.outbox ∷ []);
}

abbrev pub deliver_moves : ℕ → Contents → Contents
deliver_moves s c = record c {
  streams = set c.streams s (drop 1 (get_or c.streams s []));
  held = c.held ++ get_or (get_or c.streams s []) 0 [];
}

abbrev pub apply_moves : View → Contents → Contents
apply_moves v c = record c {
  dest = set c.dest (ready_message v.hold).unit.0 (get_or c.held (ready v.hold) []);
  held = remove c.held (ready v.hold);
}

abbrev pub give_up_moves : Contents → Contents
give_up_moves c = record c { regions = map (λ _. []) c.regions }

abbrev pub moves : Job → View → Event → Contents → Contents
moves job v (Guest g) c = guest_moves job v g.0 c
moves job v (Begin d) c = begin_moves d c
moves job v (Read d) c = read_moves job v d c
moves job v (Advance d) c = advance_moves d c
moves job v (Release d) c = release_moves job v d c
moves job v Round c = c
moves job v Page c = page_moves v c
moves job v (Send s) c = send_moves job v s c
moves job v (Deliver s) c = deliver_moves s c
moves job v Apply c = apply_moves v c
moves job v Ack c = c
moves job v Credit c = c
moves job v Stun c = c
moves job v Switch c = c
moves job v Cancel c = give_up_moves c

-- what an event whose call failed does to them
abbrev pub fault_moves : Event → Contents → Contents
fault_moves (Guest g) c = c
fault_moves (Release d) c = c
fault_moves e c = give_up_moves c

-- the contents after one step
abbrev pub contents_by : Option Why → Bool → Job → View → Event → Contents → Contents
contents_by (Some why) broken job v event c = c
contents_by None false job v event c = moves job v event c
contents_by None true job v event c = fault_moves event c

abbrev pub step_contents : Job → View → Event → Bool → Contents → Contents
step_contents job v event flag c = contents_by (wait job v event flag) (breaks job v event flag) job v event c

-- the contents after a journal, each entry's call failing where its answer says so
abbrev pub contents_after : Job → View → Contents → List Entry → Contents
contents_after job v c [] = c
contents_after job v c (e ∷ es) =
    contents_after job (step job v e.event (is_flagged e.turn)) (step_contents job v e.event (is_flagged e.turn) c) es

-- the unmigrated guest's content of a message's unit, after the entries that the message was made after
abbrev pub message_content : Job → List Ended → UnitHead → List ℕ
message_content job history m = content job history m.unit.0 m.at

-- The content invariant. The source has the whole history until the switchover, and afterwards that at the stun; each
-- destination unit that was written is the guest's after its recorded beginning of the history, and after the
-- switchover after all of it; each message is the guest's after its own.
pub record HoldsContents (job : Job) (v : View) (c : Contents) : Type 0 where
  pub source_length : length c.source ≡ unit_count job
  pub dest_length : length c.dest ≡ unit_count job
  pub source_is : (unit : ℕ) → unit < unit_count job → is_switched v.phase ≡ false → unit_content c.source unit ≡ content job v.history unit (length v.history)
  pub outbox_is : c.outbox ≡ map (message_content job v.history) v.outbox.messages
  pub streams_are : c.streams ≡ map (map (map (message_content job v.history))) v.streams
  pub held_is : c.held ≡ map (message_content job v.history) v.hold.held
  pub dest_is : (unit : ℕ) → unit < unit_count job → is_switched v.phase ≡ false → 0 < number v.hold.applied unit → unit_content c.dest unit ≡ content job v.history unit (number v.hold.recorded unit)
  pub regions_length : length c.regions ≡ length v.disks
  pub region_length : (d : ℕ) → d < length v.disks → length (region_content c d) ≡ (disk v d).got
  pub region_is : (d k : ℕ) → d < length v.disks → k < (disk v d).got → get_or (region_content c d) k [] ≡ content job v.history (cursor_unit job v d + k) (length v.history)
  pub dest_switched : (unit : ℕ) → unit < unit_count job → is_switched v.phase ≡ true → unit_content c.dest unit ≡ content job v.history unit (length v.history)
  pub source_switched : (unit : ℕ) → unit < unit_count job → is_switched v.phase ≡ true → unit_content c.source unit ≡ content job v.history unit (unwrap_or v.stun 0)
  pub reads_are : c.reads ≡ reads job v.history (length v.history)
