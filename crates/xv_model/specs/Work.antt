-- The end of a run: when it is finished, how long its journal may be, and how much work is left.
use Rattle.std.specs.Prelude.{ℕ, ◌+◌, ◌-◌, ◌*◌, ◌==◌, ◌&&◌, nat_le, not, Bool, true, List, [], ◌∷◌, length, map, if◌then◌else◌}
use Rattle.xv_base.specs.declared.limits.TheConstants.{SINGLE_FORMAT}
use Rattle.xv_model.specs.Job.{Job, UnitOp, unit_count, operation_count}
use Rattle.xv_model.specs.Guest.{Ended, ended}
use Rattle.xv_model.specs.View.{View, Disk, members, is_running, is_stunned, is_live, queues_empty}
use Rattle.xv_model.specs.Outstanding.{any, count_streams}

-- whether each guest's operations have all ended; the guests are numbered on from g
abbrev pub all_ended_from : ℕ → List (List UnitOp) → List Ended → Bool
all_ended_from g [] history = true
all_ended_from g (ops ∷ traces) history = nat_le (length ops) (ended history g) && all_ended_from (g + 1) traces history

-- the migration is over, each guest has done all, and nobody waits
abbrev pub is_finished : Job → View → Bool
is_finished job v = not (is_live v.phase) && all_ended_from 0 job.traces v.history && queues_empty v.disks

-- how many entries a journal has at most
abbrev pub bound : Job → ℕ
bound job = 8 * (unit_count job + operation_count job) + 80

-- how many guests wait in queues
abbrev pub waiting_count : List Disk → ℕ
waiting_count [] = 0
waiting_count (d ∷ ds) = length d.queue + waiting_count ds

-- the work left in the copy of a disk of so many blocks
abbrev pub copy_left : ℕ → Disk → ℕ
copy_left blocks d = 8 * (blocks - d.cursor) - ((if d.region == 0 then 0 else 1) + d.got)

abbrev pub copies_left : List ℕ → List Disk → ℕ
copies_left [] ds = 0
copies_left (n ∷ ns) [] = 0
copies_left (n ∷ ns) (d ∷ ds) = copy_left n d + copies_left ns ds

-- what an operation to come and a dirty page weigh, in each job format
abbrev pub operation_weight : ℕ → ℕ
operation_weight format = if format == SINGLE_FORMAT then 7 else 8

abbrev pub dirty_weight : ℕ → ℕ
dirty_weight format = if format == SINGLE_FORMAT then 6 else 7

-- the work left: in operations, in the copies of the disks, in pages and messages, and in the ends of the phases
abbrev pub operations_left : Job → View → ℕ
operations_left job v = operation_weight job.format * (operation_count job - length v.history) - waiting_count v.disks

abbrev pub disks_left : Job → View → ℕ
disks_left job v = if is_running v.phase then copies_left (map (λ s. s.blocks) job.copy.disks) v.disks else 0

abbrev pub messages_left : Job → View → ℕ
messages_left job v =
    if is_live v.phase
    then 6 * members v.to_send + dirty_weight job.format * members v.dirty + 5 * length v.outbox.messages
    + 4 * count_streams any v.streams + 3 * length v.hold.held + 2 * v.freed + length v.acks
    else 0

abbrev pub phases_left : Job → View → ℕ
phases_left job v = if is_running v.phase then (job.config.rounds - v.rounds) + 2 else (if is_stunned v.phase then 1 else 0)

abbrev pub work_left : Job → View → ℕ
work_left job v = operations_left job v + disks_left job v + messages_left job v + phases_left job v
