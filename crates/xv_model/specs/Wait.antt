-- When each event waits, and for what.
use Rattle.std.specs.Prelude.{ℕ, ◌-◌, ◌==◌, ◌&&◌, ◌||◌, nat_lt, nat_le, not, Bool, true, false, length, Option, Some, None, is_some, if◌then◌else◌}
use Rattle.xv_model.specs.Job.{Job, UnitOp, is_page, disk_of, block_of, blocks, trace, operation, guest_count}
use Rattle.xv_model.specs.Guest.{ended}
use Rattle.xv_model.specs.View.{View, disk, front, is_running, is_stunned, is_live, is_behind, is_inside, is_copied, all_copied, queues_empty, in_queue, is_empty, is_empty_set, members, stream, is_ready}
pub use Rattle.xv_base.specs.declared.event.Event.{Event}
use Rattle.xv_base.specs.declared.limits.TheConstants.{GROUP_FORMAT}
use Rattle.xv_base.specs.declared.event.Event.TheVariants.{Guest, Begin, Read, Advance, Release, Round, Page, Send, Deliver, Apply, Ack, Credit, Stun, Switch, Cancel}
pub use Rattle.xv_base.specs.declared.answer.Why.{Why}
use Rattle.xv_base.specs.declared.answer.Why.TheVariants.{TraceEnd, InQueue, CancelDue, Stunned, Throttled, NoCredit, NothingThere, NotNow}

-- what a guest's operation asks of the migration: nothing; that a stored page is sent again; that the write waits in
-- its disk's queue; that the write is mirrored
pub data Aim : Type 0 where
  Alone : Aim
  Store : Aim
  Join : Aim
  Mirror : Aim

abbrev pub aim : Job → View → UnitOp → Aim
aim job v op =
    if not (is_running v.phase && is_some op.write) then Alone
    else (if is_page job.copy op.unit.0 then Store
    else (if is_behind (disk v (disk_of job.copy op.unit.0)) (block_of job.copy op.unit.0) then Mirror
    else (if is_inside (disk v (disk_of job.copy op.unit.0)) (block_of job.copy op.unit.0) then Join
    else Alone)))

abbrev pub is_store : Aim → Bool
is_store Alone = false
is_store Store = true
is_store Join = false
is_store Mirror = false

abbrev pub is_join : Aim → Bool
is_join Alone = false
is_join Store = false
is_join Join = true
is_join Mirror = false

abbrev pub is_mirror : Aim → Bool
is_mirror Alone = false
is_mirror Store = false
is_mirror Join = false
is_mirror Mirror = true

-- a guest's next operation, and its aim
abbrev pub next_operation : Job → View → ℕ → UnitOp
next_operation job v guest = operation job guest (ended v.history guest)

abbrev pub next_aim : Job → View → ℕ → Aim
next_aim job v guest = aim job v (next_operation job v guest)

-- whether the job has a cancel number, whether the history has reached it, and whether the cancel is due
abbrev pub has_cancel : Job → Bool
has_cancel job = is_some job.config.cancel

abbrev pub reaches : Option ℕ → ℕ → Bool
reaches None n = false
reaches (Some k) n = n == k

abbrev pub is_before : Option ℕ → ℕ → Bool
is_before None n = false
is_before (Some k) n = nat_lt n k

abbrev pub cancel_due : Job → View → Bool
cancel_due job v = reaches job.config.cancel (length v.history) && is_live v.phase

-- whether the outbox is full, and how many places it has
abbrev pub is_full : Job → View → Bool
is_full job v = nat_le job.config.outbox (length v.outbox.messages)

abbrev pub room : Job → View → ℕ
room job v = job.config.outbox - length v.outbox.messages

-- waits for the first condition that holds
abbrev pub unless : Bool → Why → Option Why → Option Why
unless true why later = Some why
unless false why later = later

-- whether a round may begin: in job format 1 once all disks are copied, in job format 2 beside the copy too where
-- there is a dirty page
abbrev pub may_begin_round : Job → View → Bool
may_begin_round job v =
    is_empty_set v.to_send
    && (if all_copied job v
    then nat_lt v.rounds job.config.rounds
    else ((job.format == GROUP_FORMAT) && not (is_empty_set v.dirty)))

-- whether the guest may be stunned
abbrev pub may_stun : Job → View → Bool
may_stun job v =
    all_copied job v && queues_empty v.disks && is_empty_set v.to_send && nat_lt 0 v.rounds
    && (nat_le (members v.dirty) job.config.dirty || nat_le job.config.rounds v.rounds)

-- whether nothing is outstanding, as far as the source knows
abbrev pub may_switch : Job → View → Bool
may_switch job v = is_empty_set v.to_send && is_empty v.outbox.messages && nat_le job.config.credit v.credit

-- whether an event's guest, disk or stream is in the job
abbrev pub fits : Job → Event → Bool
fits job (Guest g) = nat_lt g.0 (guest_count job)
fits job (Begin d) = nat_lt d (length job.copy.disks)
fits job (Read d) = nat_lt d (length job.copy.disks)
fits job (Advance d) = nat_lt d (length job.copy.disks)
fits job (Release d) = nat_lt d (length job.copy.disks)
fits job Round = true
fits job Page = true
fits job (Send s) = nat_lt s job.config.streams
fits job (Deliver s) = nat_lt s job.config.streams
fits job Apply = true
fits job Ack = true
fits job Credit = true
fits job Stun = true
fits job Switch = true
fits job Cancel = true

-- What an event waits for; none where it goes on. The flag says that its call on the outside fails: a take that fails
-- does so whether or not there is something to take.
abbrev pub wait : Job → View → Event → Bool → Option Why
wait job v (Guest g) flag =
    unless (nat_le (length (trace job g.0)) (ended v.history g.0)) TraceEnd
    (unless (in_queue v.disks g.0) InQueue
    (unless (cancel_due job v) CancelDue
    (unless (is_stunned v.phase) Stunned
    (unless (is_mirror (next_aim job v g.0) && is_full job v) Throttled None))))
wait job v (Begin d) flag =
    unless (not (is_running v.phase)) NotNow
    (unless (is_copied (blocks job.copy.disks d) (disk v d) || not ((disk v d).region == 0) || not (is_empty (disk v d).queue)) NotNow None)
wait job v (Read d) flag =
    unless (not (is_running v.phase)) NotNow
    (unless (nat_le (disk v d).region (disk v d).got) NotNow None)
wait job v (Advance d) flag =
    unless (not (is_running v.phase)) NotNow
    (unless (((disk v d).region == 0) || nat_lt (disk v d).got (disk v d).region) NotNow
    (unless (nat_lt (room job v) (disk v d).region) Throttled None))
wait job v (Release d) flag =
    unless (is_empty (disk v d).queue) NothingThere
    (unless (cancel_due job v) CancelDue
    (unless (is_running v.phase && is_inside (disk v d) (block_of job.copy (front (disk v d)).unit.0)) NotNow
    (unless (is_running v.phase && is_full job v) Throttled None)))
wait job v Round flag =
    unless (not (is_running v.phase)) NotNow
    (unless (not (may_begin_round job v)) NotNow None)
wait job v Page flag =
    unless (not (is_live v.phase)) NotNow
    (unless (is_empty_set v.to_send) NothingThere
    (unless (is_full job v) Throttled None))
wait job v (Send s) flag =
    unless (not (is_live v.phase)) NotNow
    (unless (is_empty v.outbox.messages) NothingThere
    (unless (v.credit == 0) NoCredit None))
wait job v (Deliver s) flag =
    unless (not (is_live v.phase)) NotNow
    (unless (not flag && is_empty (stream v s)) NothingThere None)
wait job v Apply flag =
    unless (not (is_live v.phase)) NotNow
    (unless (not (is_ready v.hold)) NothingThere None)
wait job v Ack flag =
    unless (not (is_live v.phase)) NotNow
    (unless (v.freed == 0) NothingThere None)
wait job v Credit flag =
    unless (not (is_live v.phase)) NotNow
    (unless (not flag && is_empty v.acks) NothingThere None)
wait job v Stun flag =
    unless (not (is_running v.phase)) NotNow
    (unless (is_before job.config.cancel (length v.history)) CancelDue
    (unless (not (may_stun job v)) NotNow None))
wait job v Switch flag =
    unless (not (is_stunned v.phase)) NotNow
    (unless (has_cancel job) CancelDue
    (unless (not (may_switch job v)) NotNow None))
wait job v Cancel flag = unless (not (cancel_due job v)) NotNow None
