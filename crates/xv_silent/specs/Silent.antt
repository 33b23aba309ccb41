-- A device that tells nothing and of whose calls some fail: what is seen of it, what it tells, and which calls fail.
use Rattle.std.specs.Prelude.{ℕ, ◌+◌, ◌*◌, ◌/◌, ◌%◌, ◌^◌, nat_lt, Bool, None}
use Rattle.xv_device.specs.Told.{Told}
use Rattle.xv_device.specs.Memory.{Device}

-- the device in memory that it stands for, of how many of 256 calls each fails, the number that its generator gave last, and
-- how many of its calls have failed
pub record Quiet : Type 0 where
  pub device : Device
  pub rate : ℕ
  pub state : ℕ
  pub faults : ℕ

-- the layout and the numbers of writes, and neither the contents nor what is counted
abbrev pub quiet : Device → Told
quiet d = record { shape = d.shape; writes = d.writes; contents = None; counted = None }

-- the number that a generator gives behind one, and whether a call fails at it
abbrev pub next_state : ℕ → ℕ
next_state state = (state * 1664525 % 2 ^ 32 + 1013904223) % 2 ^ 32

abbrev pub fails_at : ℕ → ℕ → Bool
fails_at state rate = nat_lt (state / 2 ^ 24) rate
