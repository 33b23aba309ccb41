-- The unmigrated guest: its history, and what each unit holds and each read gives after a beginning of it.
use Rattle.std.specs.Prelude.{ℕ, zero, suc, ◌+◌, ◌==◌, ◌&&◌, Bool, true, false, is_some, is_none, if◌then◌else◌, List, [], ◌++◌, take, drop, get_or, Some, None, Option, count_by}
use Rattle.xv_model.specs.Job.{Job, UnitOp, size, repeated, operation}
use Rattle.xv_base.specs.Initial.{first_content}
pub use Rattle.xv_base.specs.declared.operation.Ended.{Ended}
use Rattle.xv_base.specs.declared.operation.Outcome.{Outcome}
use Rattle.xv_base.specs.declared.operation.Outcome.TheVariants.{Done, Faulted}

abbrev pub is_done : Outcome → Bool
is_done Done = true
is_done Faulted = false

-- how many of a guest's unit operations have ended
abbrev pub ended : List Ended → ℕ → ℕ
ended history guest = count_by (λ e. e.guest.0 == guest) history

-- what stands for an entry that is not there
abbrev pub no_entry : Ended
no_entry = record { guest = record { 0 = 0 }; outcome = Faulted }

abbrev pub entry : List Ended → ℕ → Ended
entry history i = get_or history i no_entry

-- the unit operation that entry i stands for: its guest's next one after the entries before it
abbrev pub operation_at : Job → List Ended → ℕ → UnitOp
operation_at job history i = operation job (entry history i).guest.0 (ended (take i history) (entry history i).guest.0)

-- whether an operation writes to a unit
abbrev pub writes_to : UnitOp → ℕ → Bool
writes_to op unit = is_some op.write && (op.unit.0 == unit)

-- whether entry i is a write to a unit that was done
abbrev pub wrote : Job → List Ended → ℕ → ℕ → Bool
wrote job history unit i = is_done (entry history i).outcome && writes_to (operation_at job history i) unit

-- how many writes to a unit were done among the first n entries
abbrev pub writes : Job → List Ended → ℕ → ℕ → ℕ
writes job history unit zero = 0
writes job history unit (suc n) = (if wrote job history unit n then 1 else 0) + writes job history unit n

-- a content with a pattern laid over a part of it
abbrev pub overlaid : Option (List ℕ) → ℕ → ℕ → List ℕ → List ℕ
overlaid None offset len content = content
overlaid (Some pattern) offset len content = take offset content ++ repeated pattern len ++ drop (offset + len) content

-- a content after an operation, where that operation writes to it
abbrev pub written : Bool → UnitOp → List ℕ → List ℕ
written false op content = content
written true op content = overlaid op.write op.offset op.len content

-- a unit's first content
abbrev pub initial : Job → ℕ → List ℕ
initial job unit = first_content job.init (size job.shape unit) unit

-- the unmigrated guest's content of a unit after the first n entries
abbrev pub content : Job → List Ended → ℕ → ℕ → List ℕ
content job history unit zero = initial job unit
content job history unit (suc n) = written (wrote job history unit n) (operation_at job history n) (content job history unit n)

-- the bytes that an operation reads of a content
abbrev pub part : UnitOp → List ℕ → List ℕ
part op content = take op.len (drop op.offset content)

-- the bytes that entry i read: none where it is no read that was done
abbrev pub read_bytes : Job → List Ended → ℕ → List ℕ
read_bytes job history i =
    if is_done (entry history i).outcome && is_none (operation_at job history i).write
    then part (operation_at job history i) (content job history (operation_at job history i).unit.0 i)
    else []

-- the bytes of all reads that were done among the first n entries, joined
abbrev pub reads : Job → List Ended → ℕ → List ℕ
reads job history zero = []
reads job history (suc n) = reads job history n ++ read_bytes job history n
