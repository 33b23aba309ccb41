-- What a migration is asked to do: the machine, its limits, the calls that are to fail, the first contents, and
-- what each guest does.
use Rattle.std.specs.Prelude.{◌≡◌, ◌≤◌, ◌<◌, ◌⊎◌, ℕ, ◌&&◌, nat_lt, Bool, true, List, [], length, None, IfSome, get_or, sum_by}
use Rattle.std.specs.List.{list_all}
use Rattle.xv_base.specs.declared.limits.TheConstants.{SINGLE_FORMAT, GROUP_FORMAT, MOST_GROUP, MOST_STREAMS, MOST_CREDIT, MOST_OUTBOX, MOST_REGION, MOST_ROUNDS, MOST_DIRTY, MOST_GUESTS, MOST_OPERATIONS, MOST_FAULTS}
use Rattle.xv_base.specs.declared.limits.Fault.TheVariants.{SourceRead, SourceWrite, DestRead, DestWrite, Flush, Put, Take, AckPut, AckTake}
pub use Rattle.xv_base.specs.Units.{Shape, units, size, is_page, disk_of, block_of, unit_of_block, blocks}
pub use Rattle.xv_base.specs.Layout.{IsGood}
pub use Rattle.xv_base.specs.Pattern.{repeated}
pub use Rattle.xv_base.specs.Initial.{no_init}
pub use Rattle.xv_base.specs.Legal.{IsLegal}
pub use Rattle.xv_base.specs.declared.unit.UnitId.{UnitId}
pub use Rattle.xv_base.specs.declared.unit.GuestId.{GuestId}
pub use Rattle.xv_base.specs.declared.pattern.UnitOp.{UnitOp}
pub use Rattle.xv_base.specs.declared.pattern.Init.{Init}
pub use Rattle.xv_base.specs.declared.limits.Config.{Config}
pub use Rattle.xv_base.specs.declared.limits.Fault.{Fault}
pub use Rattle.xv_model.specs.Start.{Start, first_start}

-- `shape` is the machine as its guests see it; `copy` is how an attempt copies the same units
pub record Job : Type 0 where
  pub shape : Shape
  pub copy : Shape
  pub format : ℕ
  pub group : ℕ
  pub config : Config
  pub faults : List Fault
  pub init : List Init
  pub traces : List (List UnitOp)
  pub start : Start

-- how many units, guests and unit operations there are
abbrev pub unit_count : Job → ℕ
unit_count job = units job.copy

abbrev pub guest_count : Job → ℕ
guest_count job = length job.traces

abbrev pub operation_count : Job → ℕ
operation_count job = sum_by (λ ops. length ops) job.traces

-- a guest's unit operations
abbrev pub trace : Job → ℕ → List UnitOp
trace job guest = get_or job.traces guest []

-- what stands for an operation that is not there
abbrev pub no_operation : UnitOp
no_operation = record { unit = record { 0 = 0 }; offset = 0; len = 0; write = None }

-- a guest's unit operation number k
abbrev pub operation : Job → ℕ → ℕ → UnitOp
operation job guest k = get_or (trace job guest) k no_operation

-- a planned fault has a number from 1, and a stream of the job
abbrev pub is_good_fault : ℕ → Fault → Bool
is_good_fault streams (SourceRead k) = nat_lt 0 k
is_good_fault streams (SourceWrite k) = nat_lt 0 k
is_good_fault streams (DestRead k) = nat_lt 0 k
is_good_fault streams (DestWrite k) = nat_lt 0 k
is_good_fault streams (Flush k) = nat_lt 0 k
is_good_fault streams (Put s k) = nat_lt 0 k && nat_lt s streams
is_good_fault streams (Take s k) = nat_lt 0 k && nat_lt s streams
is_good_fault streams (AckPut k) = nat_lt 0 k
is_good_fault streams (AckTake k) = nat_lt 0 k

-- the limits of every job
pub record IsGoodJob (job : Job) : Type 0 where
  pub machine : IsGood job.shape
  pub same_units : units job.shape ≡ unit_count job
  pub some_blocks : (d : ℕ) → d < length job.copy.disks → 1 ≤ blocks job.copy.disks d
  pub formats : ((job.format ≡ SINGLE_FORMAT) × (job.group ≡ 1)) ⊎ ((job.format ≡ GROUP_FORMAT) × (1 ≤ job.group) × (job.group ≤ MOST_GROUP))
  pub streams : (1 ≤ job.config.streams) × (job.config.streams ≤ MOST_STREAMS)
  pub credit : (1 ≤ job.config.credit) × (job.config.credit ≤ MOST_CREDIT)
  pub outbox : (1 ≤ job.config.outbox) × (job.config.outbox ≤ MOST_OUTBOX)
  pub region : (1 ≤ job.config.region) × (job.config.region ≤ MOST_REGION) × (job.config.region ≤ job.config.outbox)
  pub rounds : (1 ≤ job.config.rounds) × (job.config.rounds ≤ MOST_ROUNDS)
  pub dirty : job.config.dirty ≤ MOST_DIRTY
  pub cancel : IfSome job.config.cancel (λ k. k ≤ operation_count job)
  pub guests : (1 ≤ guest_count job) × (guest_count job ≤ MOST_GUESTS)
  pub operations : operation_count job ≤ MOST_OPERATIONS
  pub legal : (guest k : ℕ) → k < length (trace job guest) → IsLegal job.shape (operation job guest k)
  pub init_units : (i : ℕ) → i < length job.init → (get_or job.init i no_init).unit.0 < unit_count job
  pub init_rises : (i j : ℕ) → i < j → j < length job.init → (get_or job.init i no_init).unit.0 < (get_or job.init j no_init).unit.0
  pub fault_lines : length job.faults ≤ MOST_FAULTS
  pub fault_numbers : list_all (is_good_fault job.config.streams) job.faults ≡ true

-- what a first attempt is: it copies the machine as it is, and begins with nothing done
pub record IsFirst (job : Job) : Type 0 where
  pub copy_is : job.copy ≡ job.shape
  pub start_is : job.start ≡ first_start
