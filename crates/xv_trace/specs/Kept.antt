-- What a trace keeps beside its operations: how many unit operations come before each, and how many they are.
use Rattle.std.specs.Prelude.{◌≡◌, ◌<◌, ℕ, List, length, take, get_or}
use Rattle.xv_trace.specs.Operations.{count_all}
use Rattle.xv_trace.specs.OpText.{Program, IsProgram}

pub record IsKept (program : Program) (firsts : List ℕ) (count : ℕ) : Type 0 where
  pub is_program : IsProgram program
  pub counted : count ≡ count_all program.ops
  pub each : length firsts ≡ length program.ops
  pub before : (i : ℕ) → i < length program.ops → get_or firsts i 0 ≡ count_all (take i program.ops)
