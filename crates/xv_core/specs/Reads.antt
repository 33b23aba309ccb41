-- How many bytes the guests' operations read.
use Rattle.std.specs.Prelude.{ℕ, is_none, sum_by, if◌then◌else◌}
use Rattle.xv_model.specs.Job.{Job, UnitOp}

-- of one operation: none where it writes
abbrev pub read_length : UnitOp → ℕ
read_length op = if is_none op.write then op.len else 0

-- of all operations of all guests
abbrev pub read_lengths : Job → ℕ
read_lengths job = sum_by (λ ops. sum_by read_length ops) job.traces
