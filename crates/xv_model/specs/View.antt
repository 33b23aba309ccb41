-- The view: all numbers of a migration and no content.
use Rattle.std.specs.Prelude.{ℕ, suc, ◌+◌, ◌==◌, ◌&&◌, ◌||◌, nat_lt, nat_le, not, Bool, true, false, List, [], ◌∷◌, length, map, replicate, get_or, Option, None, if◌then◌else◌}
use Rattle.xv_model.specs.Job.{Job, unit_count, is_page, disk_of, block_of}
use Rattle.xv_model.specs.Guest.{Ended}
pub use Rattle.xv_base.specs.declared.operation.UnitHead.{UnitHead}
pub use Rattle.xv_base.specs.declared.operation.Waiting.{Waiting}
pub use Rattle.xv_base.specs.declared.event.Phase.{Phase}
use Rattle.xv_base.specs.declared.event.Phase.TheVariants.{Running, Stunned, Switched, Cancelled, Failed}
pub use Rattle.xv_base.specs.declared.event.Side.{Side}
use Rattle.xv_base.specs.declared.event.Side.TheVariants.{Ahead, Inside, Behind, Dirty, Waiting as InRound, Clean}

-- the copy of one disk: the blocks below the cursor are behind; the region begins at the cursor and has this many
-- blocks, none where there is no region, of which so many were read; the guests whose writes wait
pub record Disk : Type 0 where
  pub cursor : ℕ
  pub region : ℕ
  pub got : ℕ
  pub queue : List Waiting

-- the messages made and not sent, in order; for each unit the versions made, and the `at` of version 1
pub record Outbox : Type 0 where
  pub messages : List UnitHead
  pub issued : List ℕ
  pub first : List ℕ

-- the messages delivered and not written, in order of arrival; for each unit the version last written, and its `at`
pub record Hold : Type 0 where
  pub held : List UnitHead
  pub applied : List ℕ
  pub recorded : List ℕ

-- `mark` is the length of the history while the guest runs or is stunned, and stands still afterwards
pub record View : Type 0 where
  pub history : List Ended
  pub stun : Option ℕ
  pub mark : ℕ
  pub phase : Phase
  pub disks : List Disk
  pub dirty : List Bool
  pub to_send : List Bool
  pub rounds : ℕ
  pub outbox : Outbox
  pub streams : List (List (List UnitHead))
  pub hold : Hold
  pub credit : ℕ
  pub freed : ℕ
  pub acks : List ℕ

abbrev pub no_disk : Disk
no_disk = record { cursor = 0; region = 0; got = 0; queue = [] }

-- how every migration begins
abbrev pub first_view : Job → View
first_view job = record {
  history = [];
  stun = None;
  mark = 0;
  phase = Running;
  disks = map (λ _. no_disk) job.copy.disks;
  dirty = replicate job.copy.pages true;
  to_send = replicate job.copy.pages false;
  rounds = 0;
  outbox = record { messages = []; issued = replicate (unit_count job) 0; first = replicate (unit_count job) 0 };
  streams = replicate job.config.streams [];
  hold = record { held = []; applied = replicate (unit_count job) 0; recorded = replicate (unit_count job) 0 };
  credit = job.config.credit;
  freed = 0;
  acks = [];
}

-- the phases
abbrev pub is_running : Phase → Bool
is_running Running = true
is_running Stunned = false
is_running Switched = false
is_running Cancelled = false
is_running Failed = false

abbrev pub is_stunned : Phase → Bool
is_stunned Running = false
is_stunned Stunned = true
is_stunned Switched = false
is_stunned Cancelled = false
is_stunned Failed = false

abbrev pub is_switched : Phase → Bool
is_switched Running = false
is_switched Stunned = false
is_switched Switched = true
is_switched Cancelled = false
is_switched Failed = false

-- running or stunned: messages may move
abbrev pub is_live : Phase → Bool
is_live Running = true
is_live Stunned = true
is_live Switched = false
is_live Cancelled = false
is_live Failed = false

-- a disk of a view, and what a list of numbers or a set says of a unit
abbrev pub disk : View → ℕ → Disk
disk v d = get_or v.disks d no_disk

abbrev pub number : List ℕ → ℕ → ℕ
number numbers unit = get_or numbers unit 0

abbrev pub member : List Bool → ℕ → Bool
member set page = get_or set page false

-- how many members a set has, whether it has none, and its least one
abbrev pub members : List Bool → ℕ
members [] = 0
members (true ∷ bs) = suc (members bs)
members (false ∷ bs) = members bs

abbrev pub is_empty_set : List Bool → Bool
is_empty_set [] = true
is_empty_set (b ∷ bs) = not b && is_empty_set bs

abbrev pub least : List Bool → ℕ
least [] = 0
least (true ∷ bs) = 0
least (false ∷ bs) = suc (least bs)

abbrev pub is_empty : {X : Type 0} → List X → Bool
is_empty [] = true
is_empty (x ∷ xs) = false

-- where a block stands against a disk's cursor and region
abbrev pub is_behind : Disk → ℕ → Bool
is_behind d block = nat_lt block d.cursor

abbrev pub is_inside : Disk → ℕ → Bool
is_inside d block = nat_le d.cursor block && nat_lt block (d.cursor + d.region)

abbrev pub block_side : Disk → ℕ → Side
block_side d block = if is_behind d block then Behind else (if is_inside d block then Inside else Ahead)

-- where a page stands against the rounds
abbrev pub page_side : View → ℕ → Side
page_side v page = if member v.dirty page then Dirty else (if member v.to_send page then InRound else Clean)

abbrev pub side : Job → View → ℕ → Side
side job v unit =
    if is_page job.copy unit
    then page_side v unit
    else block_side (disk v (disk_of job.copy unit)) (block_of job.copy unit)

-- whether a disk has this many blocks behind its cursor and no region
abbrev pub is_copied : ℕ → Disk → Bool
is_copied count d = (d.cursor == count) && (d.region == 0)

-- whether every disk is copied, and every queue is empty
abbrev pub all_copied_by : List ℕ → List Disk → Bool
all_copied_by [] ds = true
all_copied_by (n ∷ ns) [] = false
all_copied_by (n ∷ ns) (d ∷ ds) = is_copied n d && all_copied_by ns ds

abbrev pub all_copied : Job → View → Bool
all_copied job v = all_copied_by (map (λ s. s.blocks) job.copy.disks) v.disks

abbrev pub queues_empty : List Disk → Bool
queues_empty [] = true
queues_empty (d ∷ ds) = is_empty d.queue && queues_empty ds

-- whether a guest waits in a queue
abbrev pub waits_for : List Waiting → ℕ → Bool
waits_for [] guest = false
waits_for (w ∷ ws) guest = (w.guest.0 == guest) || waits_for ws guest

abbrev pub in_queue : List Disk → ℕ → Bool
in_queue [] guest = false
in_queue (d ∷ ds) guest = waits_for d.queue guest || in_queue ds guest

-- the front of a queue, of the messages and of a stream, with something in the place of what is not there
abbrev pub no_waiting : Waiting
no_waiting = record { guest = record { 0 = 0 }; unit = record { 0 = 0 } }

abbrev pub no_message : UnitHead
no_message = record { unit = record { 0 = 0 }; version = 0; at = 0 }

abbrev pub front : Disk → Waiting
front d = get_or d.queue 0 no_waiting

abbrev pub stream : View → ℕ → List (List UnitHead)
stream v s = get_or v.streams s []

abbrev pub front_group : View → ℕ → List UnitHead
front_group v s = get_or (stream v s) 0 []

-- whether a held message is its unit's next version, and the place of the first such
abbrev pub is_next : List ℕ → UnitHead → Bool
is_next applied m = m.version == number applied m.unit.0 + 1

abbrev pub first_next : List ℕ → List UnitHead → ℕ
first_next applied [] = 0
first_next applied (m ∷ ms) = if is_next applied m then 0 else suc (first_next applied ms)

abbrev pub ready : Hold → ℕ
ready h = first_next h.applied h.held

abbrev pub is_ready : Hold → Bool
is_ready h = nat_lt (ready h) (length h.held)

abbrev pub ready_message : Hold → UnitHead
ready_message h = get_or h.held (ready h) no_message
