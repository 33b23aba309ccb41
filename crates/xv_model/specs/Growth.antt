-- By how much one step makes the numbers of progress grow, from its event and its answer alone.
use Rattle.std.specs.Prelude.{ℕ, ◌+◌, ◌==◌, ◌||◌, Bool, true, false, List, sum, sum_by, count_by, if◌then◌else◌}
use Rattle.xv_base.specs.Units.{blocks_of}
use Rattle.xv_model.specs.Job.{Job}
use Rattle.xv_model.specs.View.{View}
use Rattle.xv_model.specs.Wait.{Event}
use Rattle.xv_model.specs.Effect.{Turn}
use Rattle.xv_model.specs.Step.{Entry}
use Rattle.xv_base.specs.declared.event.Event.TheVariants.{Guest, Advance, Release, Apply}
use Rattle.xv_base.specs.declared.answer.Turn.TheVariants.{Done, Queued, Faulted, Wait, Failed}

-- whether an answer says that the event happened, that the write waits in a queue, that the guest's own call failed,
-- and that the migration failed
abbrev pub happened : Turn → Bool
happened (Done n) = true
happened Queued = false
happened Faulted = false
happened (Wait why) = false
happened (Failed cause) = false

abbrev pub is_queued : Turn → Bool
is_queued (Done n) = false
is_queued Queued = true
is_queued Faulted = false
is_queued (Wait why) = false
is_queued (Failed cause) = false

abbrev pub is_fault : Turn → Bool
is_fault (Done n) = false
is_fault Queued = false
is_fault Faulted = true
is_fault (Wait why) = false
is_fault (Failed cause) = false

abbrev pub is_failure : Turn → Bool
is_failure (Done n) = false
is_failure Queued = false
is_failure Faulted = false
is_failure (Wait why) = false
is_failure (Failed cause) = true

-- the blocks behind all cursors, those that there are, and the messages written at the destination
abbrev pub copied : View → ℕ
copied v = sum_by (λ d. d.cursor) v.disks

abbrev pub block_count : Job → ℕ
block_count job = blocks_of job.copy.disks

abbrev pub applied : View → ℕ
applied v = sum v.hold.applied

-- how many operations of guests end by an answer: one, of a guest's event or a release, done or faulted
abbrev pub ends : Event → Turn → ℕ
ends (Guest g) t = if happened t || is_fault t then 1 else 0
ends (Release d) t = if happened t || is_fault t then 1 else 0
ends e t = 0

-- how many blocks come behind a cursor: of an advance that happened the region's length, which it tells
abbrev pub blocks_copied : Event → Turn → ℕ
blocks_copied (Advance d) (Done n) = n.a
blocks_copied e t = 0

-- how many messages are written at the destination
abbrev pub applies : Event → Turn → ℕ
applies Apply t = if happened t then 1 else 0
applies e t = 0

-- how many entries of a journal neither end an operation nor write a message
abbrev pub is_rest : Entry → Bool
is_rest e = ends e.event e.turn + applies e.event e.turn == 0

abbrev pub rest : List Entry → ℕ
rest journal = count_by is_rest journal
