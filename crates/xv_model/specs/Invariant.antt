-- The view invariant: fourteen points that every view of every run meets; the last is on what the lists hold.
use Rattle.std.specs.Prelude.{◌≡◌, ◌≤◌, ◌<◌, ℕ, ◌+◌, ◌-◌, max, ◌==◌, ◌&&◌, ◌||◌, not, nat_lt, Bool, true, false, List, [], ◌∷◌, length, sum, Option, Some, None, get_or, if◌then◌else◌}
use Rattle.xv_base.specs.declared.limits.TheConstants.{SINGLE_FORMAT, GROUP_FORMAT}
use Rattle.xv_model.specs.Job.{Job, Shape, UnitOp, units, unit_count, is_page, disk_of, block_of, blocks, trace}
use Rattle.xv_model.specs.Guest.{Ended, ended, wrote, writes, writes_to}
use Rattle.xv_model.specs.View.{View, Disk, UnitHead, Waiting, Phase, no_disk, number, member, members, is_running, is_live, is_switched, is_stunned, is_behind, all_copied, queues_empty, is_empty_set, no_message, no_waiting}
use Rattle.xv_model.specs.Wait.{next_operation}
use Rattle.xv_model.specs.Outstanding.{Bag, on_the_way, outstanding, any, is_version, is_message}

-- whether a unit is settled: a block behind its disk's cursor, or a page that is to be sent in no round
abbrev pub is_settled : Shape → List Disk → List Bool → List Bool → ℕ → Bool
is_settled shape disks dirty to_send unit =
    nat_lt unit (units shape)
    && (if is_page shape unit
    then not (member dirty unit || member to_send unit)
    else is_behind (get_or disks (disk_of shape unit) no_disk) (block_of shape unit))

-- whether a unit is a block that is behind, and one that is not
abbrev pub is_behind_block : Shape → List Disk → ℕ → Bool
is_behind_block shape disks unit =
    nat_lt unit (units shape) && not (is_page shape unit) && is_behind (get_or disks (disk_of shape unit) no_disk) (block_of shape unit)

abbrev pub is_unsent_block : Shape → List Disk → ℕ → Bool
is_unsent_block shape disks unit =
    nat_lt unit (units shape) && not (is_page shape unit) && not (is_behind (get_or disks (disk_of shape unit) no_disk) (block_of shape unit))

-- 1. For each unit exactly the versions above the one applied, up to the one issued, are outstanding, each once.
pub record EachVersionOnce (bag : Bag) (issued applied : List ℕ) : Type 0 where
  pub in_order : (unit : ℕ) → number applied unit ≤ number issued unit
  pub once : (unit version : ℕ) → number applied unit < version → version ≤ number issued unit → bag (is_version unit version) ≡ 1
  pub none_applied : (unit version : ℕ) → version ≤ number applied unit → bag (is_version unit version) ≡ 0
  pub none_to_come : (unit version : ℕ) → number issued unit < version → bag (is_version unit version) ≡ 0

-- 2. `at` does not fall as the version rises, beginning with that of the version applied, and none is above the mark.
pub record TimesRise (bag : Bag) (applied recorded : List ℕ) (mark : ℕ) : Type 0 where
  pub rising : (unit version at later at' : ℕ) → 0 < bag (is_message unit version at) → 0 < bag (is_message unit later at') → version ≤ later → at ≤ at'
  pub from_recorded : (unit version at : ℕ) → 0 < bag (is_message unit version at) → 0 < number applied unit → number recorded unit ≤ at
  pub to_mark : (unit version at : ℕ) → 0 < bag (is_message unit version at) → at ≤ mark
  pub recorded_to_mark : (unit : ℕ) → number recorded unit ≤ mark

-- `at` is that of the unit's tip: its highest outstanding version, or where none is outstanding the one applied
pub record IsTip (bag : Bag) (issued applied recorded : List ℕ) (unit at : ℕ) : Type 0 where
  pub outstanding : number applied unit < number issued unit → 0 < bag (is_message unit (number issued unit) at)
  pub all_applied : number applied unit ≡ number issued unit → at ≡ number recorded unit

-- 3. A settled unit has a version, and no write to it was done at or after its tip's `at`.
pub record TipCovers (wrote_at : ℕ → ℕ → Bool) (mark : ℕ) (bag : Bag) (issued applied recorded : List ℕ) (settled : ℕ → Bool) : Type 0 where
  pub made : (unit : ℕ) → settled unit ≡ true → 1 ≤ number issued unit
  pub covers : (unit at i : ℕ) → settled unit ≡ true → IsTip bag issued applied recorded unit at → i < mark → wrote_at unit i ≡ true → i < at

-- 4. A block that is not behind has no version.
pub record UnsentHaveNone (issued : List ℕ) (unsent : ℕ → Bool) : Type 0 where
  pub none : (unit : ℕ) → unsent unit ≡ true → number issued unit ≡ 0

-- `version` of a unit was made at `at`: version 1 at the first `at`, each later one right after the write that it
-- mirrors, the (version - 1)-th done write from the first `at` on
pub record IsMirrorAt (wrote_at : ℕ → ℕ → Bool) (writes_to : ℕ → ℕ → ℕ) (first : List ℕ) (unit version at : ℕ) : Type 0 where
  pub copy : version ≡ 1 → at ≡ number first unit
  pub counted : version + writes_to unit (number first unit) ≡ 1 + writes_to unit at
  pub after_write : 1 < version → wrote_at unit (at - 1) ≡ true

-- 5. A block that is behind has one version for its copy and one for each write done from then on, each once.
pub record EachWriteOnce (wrote_at : ℕ → ℕ → Bool) (writes_to : ℕ → ℕ → ℕ) (mark : ℕ) (bag : Bag) (issued applied recorded first : List ℕ) (behind : ℕ → Bool) : Type 0 where
  pub counted : (unit : ℕ) → behind unit ≡ true → number issued unit + writes_to unit (number first unit) ≡ 1 + writes_to unit mark
  pub outstanding : (unit version at : ℕ) → behind unit ≡ true → 0 < bag (is_message unit version at) → IsMirrorAt wrote_at writes_to first unit version at
  pub applied_last : (unit : ℕ) → behind unit ≡ true → 0 < number applied unit → IsMirrorAt wrote_at writes_to first unit (number applied unit) (number recorded unit)

-- 6. In the outbox the versions of one unit rise, and each is above every version sent, held or applied.
abbrev pub message_at : List UnitHead → ℕ → UnitHead
message_at messages i = get_or messages i no_message

pub record OutboxRises (messages : List UnitHead) (on_way : Bag) (applied : List ℕ) : Type 0 where
  pub rising : (i j : ℕ) → i < j → j < length messages → (message_at messages i).unit.0 ≡ (message_at messages j).unit.0 → (message_at messages i).version < (message_at messages j).version
  pub above_sent : (i version : ℕ) → i < length messages → 0 < on_way (is_version (message_at messages i).unit.0 version) → version < (message_at messages i).version
  pub above_applied : (i : ℕ) → i < length messages → number applied (message_at messages i).unit.0 < (message_at messages i).version

-- 7. Credit, messages on the streams and held, those written and not acknowledged, and those acknowledged make up the
-- whole credit.
pub record CreditIsWhole (whole limit credit : ℕ) (on_way : Bag) (freed : ℕ) (acks : List ℕ) (messages : List UnitHead) : Type 0 where
  pub sums : credit + on_way any + freed + sum acks ≡ whole
  pub each_ack : (i : ℕ) → i < length acks → 1 ≤ number acks i
  pub outbox_fits : length messages ≤ limit

-- 8. Regions lie in their disks, behind no cursor.
pub record RegionsFit (shape : Shape) (limit : ℕ) (phase : Phase) (disks : List Disk) : Type 0 where
  pub cursor_fits : (d : ℕ) → d < length disks → (get_or disks d no_disk).cursor + (get_or disks d no_disk).region ≤ blocks shape.disks d
  pub region_fits : (d : ℕ) → (get_or disks d no_disk).region ≤ limit
  pub read_fits : (d : ℕ) → (get_or disks d no_disk).got ≤ (get_or disks d no_disk).region
  pub only_running : (d : ℕ) → is_running phase ≡ false → (get_or disks d no_disk).region ≡ 0

-- 9. Rounds count what pages were sent.
pub record RoundsCount (pages format limit length_of_history : ℕ) (phase : Phase) (copied : Bool) (dirty to_send : List Bool) (rounds : ℕ) (issued : List ℕ) : Type 0 where
  pub apart : (page : ℕ) → member dirty page ≡ true → member to_send page ≡ false
  pub sendings : (page : ℕ) → page < pages → number issued page + (if member to_send page then 1 else 0) ≤ rounds + (if is_running phase then 0 else 1)
  pub limited : format ≡ 1 → rounds ≤ limit
  pub beside : format ≡ GROUP_FORMAT → copied ≡ false → rounds + members dirty ≤ pages + length_of_history
  pub limited_beside : format ≡ GROUP_FORMAT → rounds ≤ max limit (pages + length_of_history)

-- 10. A guest waits in at most one queue, once, for its next write, and while the guest runs not for a block ahead.
abbrev pub waits_in : List Waiting → ℕ → ℕ
waits_in [] guest = 0
waits_in (w ∷ ws) guest = (if w.guest.0 == guest then 1 else 0) + waits_in ws guest

abbrev pub waits_in_all : List Disk → ℕ → ℕ
waits_in_all [] guest = 0
waits_in_all (d ∷ ds) guest = waits_in d.queue guest + waits_in_all ds guest

abbrev pub waiting_at : List Disk → ℕ → ℕ → Waiting
waiting_at disks d i = get_or (get_or disks d no_disk).queue i no_waiting

pub record QueuesWait (shape : Shape) (phase : Phase) (disks : List Disk) (next : ℕ → UnitOp) : Type 0 where
  pub once : (guest : ℕ) → waits_in_all disks guest ≤ 1
  pub of_disk : (d i : ℕ) → i < length (get_or disks d no_disk).queue → (is_page shape (waiting_at disks d i).unit.0 ≡ false) × ((waiting_at disks d i).unit.0 < units shape) × (disk_of shape (waiting_at disks d i).unit.0 ≡ d)
  pub to_write : (d i : ℕ) → i < length (get_or disks d no_disk).queue → writes_to (next (waiting_at disks d i).guest.0) (waiting_at disks d i).unit.0 ≡ true
  pub not_ahead : (d i : ℕ) → is_running phase ≡ true → i < length (get_or disks d no_disk).queue → block_of shape (waiting_at disks d i).unit.0 < (get_or disks d no_disk).cursor + (get_or disks d no_disk).region

-- 11. The history is legal; the mark is its length while the guest runs or is stunned; the stun is at the mark.
pub record HistoryIsLegal (job : Job) (history : List Ended) (mark : ℕ) (phase : Phase) (stun : Option ℕ) : Type 0 where
  pub legal : (guest : ℕ) → ended history guest ≤ length (trace job guest)
  pub marked : is_live phase ≡ true → mark ≡ length history
  pub mark_within : mark ≤ length history
  pub not_stunned : is_running phase ≡ true → stun ≡ None
  pub at_mark : (n : ℕ) → stun ≡ Some n → n ≡ mark

-- 12. Once stunned, the disks are copied and nothing waits; once switched, nothing is to be sent and the credit is whole.
pub record StunIsQuiet (whole : ℕ) (phase : Phase) (copied : Bool) (disks : List Disk) (dirty to_send : List Bool) (rounds : ℕ) (stun : Option ℕ) (mark : ℕ) (messages : List UnitHead) (credit : ℕ) : Type 0 where
  pub all_copied : (is_stunned phase || is_switched phase) ≡ true → copied ≡ true
  pub no_queue : (is_stunned phase || is_switched phase) ≡ true → queues_empty disks ≡ true
  pub none_dirty : (is_stunned phase || is_switched phase) ≡ true → is_empty_set dirty ≡ true
  pub some_round : (is_stunned phase || is_switched phase) ≡ true → 1 ≤ rounds
  pub has_stun : (is_stunned phase || is_switched phase) ≡ true → stun ≡ Some mark
  pub none_to_send : is_switched phase ≡ true → is_empty_set to_send ≡ true
  pub none_made : is_switched phase ≡ true → messages ≡ []
  pub credit_whole : is_switched phase ≡ true → credit ≡ whole

-- 13. A job with a cancel number never switches, does not pass that number, and stuns only at it.
pub record CancelHolds (cancel : Option ℕ) (phase : Phase) (n : ℕ) : Type 0 where
  pub never_switched : (k : ℕ) → cancel ≡ Some k → is_switched phase ≡ false
  pub not_past : (k : ℕ) → cancel ≡ Some k → is_live phase ≡ true → n ≤ k
  pub stunned_at : (k : ℕ) → cancel ≡ Some k → is_stunned phase ≡ true → n ≡ k

-- 14. Every list has its length; a stream's groups are as the job's format has them; the first `at` is at most the mark.
abbrev pub is_good_group : Job → List UnitHead → Bool
is_good_group job group = if job.format == SINGLE_FORMAT then length group == 1 else (nat_lt 0 (length group) && not (nat_lt job.group (length group)))

abbrev pub are_good_groups : Job → List (List UnitHead) → Bool
are_good_groups job [] = true
are_good_groups job (group ∷ groups) = is_good_group job group && are_good_groups job groups

pub record ListsHaveLengths (job : Job) (v : View) : Type 0 where
  pub disks : length v.disks ≡ length job.copy.disks
  pub dirty : length v.dirty ≡ job.copy.pages
  pub to_send : length v.to_send ≡ job.copy.pages
  pub issued : length v.outbox.issued ≡ unit_count job
  pub first : length v.outbox.first ≡ unit_count job
  pub applied : length v.hold.applied ≡ unit_count job
  pub recorded : length v.hold.recorded ≡ unit_count job
  pub streams : length v.streams ≡ job.config.streams
  pub groups : (s : ℕ) → are_good_groups job (get_or v.streams s []) ≡ true
  pub first_to_mark : (unit : ℕ) → number v.outbox.first unit ≤ v.mark

-- the whole invariant of a view
pub record IsViewOf (job : Job) (v : View) : Type 0 where
  pub versions : EachVersionOnce (outstanding v) v.outbox.issued v.hold.applied
  pub times : TimesRise (outstanding v) v.hold.applied v.hold.recorded v.mark
  pub tips : TipCovers (wrote job v.history) v.mark (outstanding v) v.outbox.issued v.hold.applied v.hold.recorded (is_settled job.copy v.disks v.dirty v.to_send)
  pub unsent : UnsentHaveNone v.outbox.issued (is_unsent_block job.copy v.disks)
  pub mirrors : EachWriteOnce (wrote job v.history) (writes job v.history) v.mark (outstanding v) v.outbox.issued v.hold.applied v.hold.recorded v.outbox.first (is_behind_block job.copy v.disks)
  pub outbox : OutboxRises v.outbox.messages (on_the_way v) v.hold.applied
  pub credit : CreditIsWhole job.config.credit job.config.outbox v.credit (on_the_way v) v.freed v.acks v.outbox.messages
  pub regions : RegionsFit job.copy job.config.region v.phase v.disks
  pub rounds : RoundsCount job.copy.pages job.format job.config.rounds (length v.history) v.phase (all_copied job v) v.dirty v.to_send v.rounds v.outbox.issued
  pub queues : QueuesWait job.copy v.phase v.disks (next_operation job v)
  pub history : HistoryIsLegal job v.history v.mark v.phase v.stun
  pub quiet : StunIsQuiet job.config.credit v.phase (all_copied job v) v.disks v.dirty v.to_send v.rounds v.stun v.mark v.outbox.messages v.credit
  pub cancel : CancelHolds job.config.cancel v.phase (length v.history)
  pub lists : ListsHaveLengths job v
