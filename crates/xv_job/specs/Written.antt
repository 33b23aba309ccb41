-- A job as it is written: the machine, its limits, the calls that are to fail, the first contents, and what each guest
-- does, as operations.
use Rattle.std.specs.Prelude.{◌≡◌, ◌<◌, ◌^◌, ℕ, true, List, [], length, map, get_or, nat_lt}
use Rattle.xv_base.specs.declared.limits.Config.{Config}
use Rattle.std.specs.List.{list_all, AllByRecursion}
use Rattle.xv_base.specs.declared.limits.Fault.{Fault}
use Rattle.xv_base.specs.declared.limits.Fault.TheVariants.{SourceRead, SourceWrite, DestRead, DestWrite, Flush, Put, Take, AckPut, AckTake}
use Rattle.xv_base.specs.declared.pattern.Init.{Init}
use Rattle.xv_base.specs.Units.{Shape}
use Rattle.xv_trace.specs.declared.op.Op.{Op}
use Rattle.xv_trace.specs.Operations.{all_unit_operations, no_op}
use Rattle.xv_trace.specs.OpText.{IsGoodOp, Program}
use Rattle.xv_text.specs.Fields.{IsPattern}
use Rattle.xv_model.specs.Job.{Job, IsGoodJob, no_init, first_start}

pub record Written : Type 0 where
  pub shape : Shape
  pub format : ℕ
  pub group : ℕ
  pub config : Config
  pub faults : List Fault
  pub init : List Init
  pub traces : List (List Op)

-- the operations of traces, and that the traces act on these units
abbrev pub ops_held : List Program → List (List Op)
ops_held traces = map (λ t. t.ops) traces

abbrev pub AreTraces : Shape → List Program → Type 0
AreTraces shape traces = AllByRecursion (λ t. t.shape ≡ shape) traces

-- the job of these parts
abbrev pub written_of : Shape → ℕ → ℕ → Config → List Fault → List Init → List Program → Written
written_of shape format group config faults init traces =
    record { shape = shape; format = format; group = group; config = config; faults = faults; init = init; traces = ops_held traces }

-- the job that the machine runs, as a first attempt: each guest's operations as unit operations
abbrev pub job_of : Written → Job
job_of w = record {
  shape = w.shape;
  copy = w.shape;
  format = w.format;
  group = w.group;
  config = w.config;
  faults = w.faults;
  init = w.init;
  traces = map (all_unit_operations w.shape) w.traces;
  start = first_start;
}

-- guest number g's operations
abbrev pub ops : Written → ℕ → List Op
ops w guest = get_or w.traces guest []

-- the number of the call that a planned fault is
abbrev pub fault_number : Fault → ℕ
fault_number (SourceRead k) = k
fault_number (SourceWrite k) = k
fault_number (DestRead k) = k
fault_number (DestWrite k) = k
fault_number (Flush k) = k
fault_number (Put s k) = k
fault_number (Take s k) = k
fault_number (AckPut k) = k
fault_number (AckTake k) = k

-- what the type of a job keeps: its limits, that each operation may be said and may act, and that the other numbers
-- and patterns may be said
pub record IsGoodWritten (w : Written) : Type 0 where
  pub limits : IsGoodJob (job_of w)
  pub operations : (guest i : ℕ) → i < length (ops w guest) → IsGoodOp w.shape (get_or (ops w guest) i no_op)
  pub patterns : (i : ℕ) → i < length w.init → IsPattern (get_or w.init i no_init).pattern
  pub faults : list_all (λ fault. nat_lt (fault_number fault) (2 ^ 32)) w.faults ≡ true
