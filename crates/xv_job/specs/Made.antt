-- The job that a number makes: four guests, each at work in a quarter of the memory and of two disks.
use Rattle.std.specs.Prelude.{ℕ, ◌+◌, ◌*◌, ◌%◌, List, [], ◌∷◌, ◌++◌, get_or, map, None}
use Rattle.std.specs.List.{range_with_len}
use Rattle.xv_base.specs.declared.limits.Config.{Config}
use Rattle.xv_base.specs.declared.pattern.Init.{Init}
use Rattle.xv_base.specs.Units.{Shape, shape_of}
use Rattle.xv_trace.specs.declared.op.Op.{Op}
use Rattle.xv_trace.specs.declared.op.Op.TheVariants.{Store, Load, Write, Fetch}
use Rattle.xv_trace.specs.Operations.{no_op}
use Rattle.xv_job.specs.Written.{Written}

-- the machine, and its limits
abbrev pub made_shape : Shape
made_shape = shape_of 1024 4096 (record { blocks = 4096; block_size = 512 } ∷ record { blocks = 2048; block_size = 512 } ∷ [])

abbrev pub made_config : Config
made_config = record { streams = 4; credit = 64; outbox = 64; region = 16; rounds = 8; dirty = 32; cancel = None }

-- the pattern that stands for a number: one byte, which is never 0
abbrev pub byte_of : ℕ → List ℕ
byte_of x = (x % 255 + 1) ∷ []

-- the first contents: those of `count` units, `step` apart, and of 16 pages and 16 blocks
abbrev pub content : ℕ → ℕ → ℕ → ℕ → Init
content n first step j = record { unit = record { 0 = first + step * j }; pattern = byte_of (n + j) }

abbrev pub contents : ℕ → ℕ → ℕ → ℕ → List Init
contents n first step count = map (content n first step) (range_with_len 0 count)

abbrev pub made_init : ℕ → List Init
made_init n = contents n 0 64 16 ++ contents n 1024 256 16

-- an address in a guest's quarter of the memory
abbrev pub address : ℕ → ℕ → ℕ
address g k = (256 * g + k % 256) * 4096 + 64 * (k % 64)

-- the eight operations that a guest does in turn, each with its own number k
abbrev pub turn : ℕ → ℕ → List Op
turn g k =
    Store (address g k) 64 (byte_of k)
    ∷ Write 0 (1024 * g + k % 1020) (1 + k % 4) (byte_of k)
    ∷ Load (address g k) 64
    ∷ Fetch 0 (1024 * g + k % 1024) 0 64
    ∷ Store (address g k) 64 (byte_of k)
    ∷ Write 1 (512 * g + k % 508) (1 + k % 4) (byte_of k)
    ∷ Load (address g k) 64
    ∷ Fetch 1 (512 * g + k % 512) 448 64
    ∷ []

-- guest g's operation i, and its first operations
abbrev pub made_op : ℕ → ℕ → ℕ → Op
made_op n g i = get_or (turn g (n + 31 * i + 7 * g)) (i % 8) no_op

abbrev pub first_ops : ℕ → ℕ → ℕ → List Op
first_ops n g count = map (made_op n g) (range_with_len 0 count)

-- how many operations each guest has; only a name, so that no goal writes them out
unfoldable pub ops_each : ℕ
ops_each = 800

abbrev pub guest_ops : ℕ → ℕ → List Op
guest_ops n g = first_ops n g ops_each

-- the whole job; its parts are seen only where a proof opens it
unfoldable pub made_job : ℕ → Written
made_job n = record {
  shape = made_shape;
  format = 1;
  group = 1;
  config = made_config;
  faults = [];
  init = made_init n;
  traces = map (guest_ops n) (range_with_len 0 4);
}
