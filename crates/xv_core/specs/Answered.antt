-- What the answer of a guest's operation adds to the history, and to the bytes that the guests have read.
use Rattle.std.specs.Prelude.{ℕ, List, [], ◌∷◌, take, is_none, if◌then◌else◌}
use Rattle.xv_base.specs.declared.answer.Turn.TheVariants.{Done, Queued, Faulted, Wait, Failed}
use Rattle.xv_base.specs.declared.operation.Outcome.TheVariants.{Done as WasDone, Faulted as HasFaulted}
use Rattle.xv_model.specs.Job.{UnitOp, GuestId}
use Rattle.xv_model.specs.Guest.{Ended}
use Rattle.xv_model.specs.Effect.{Turn}

-- the operation has ended, unless it waits
abbrev pub ended_by : GuestId → Turn → List Ended
ended_by guest (Done n) = record { guest = guest; outcome = WasDone } ∷ []
ended_by guest Queued = []
ended_by guest Faulted = record { guest = guest; outcome = HasFaulted } ∷ []
ended_by guest (Wait why) = []
ended_by guest (Failed cause) = []

-- a read that was done has given its bytes, the first of those that stand in a buffer
abbrev pub read_by : UnitOp → Turn → List ℕ → List ℕ
read_by op (Done n) bytes = if is_none op.write then take op.len bytes else []
read_by op Queued bytes = []
read_by op Faulted bytes = []
read_by op (Wait why) bytes = []
read_by op (Failed cause) bytes = []
