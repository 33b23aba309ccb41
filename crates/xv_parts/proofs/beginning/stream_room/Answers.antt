use Rattle.std.proofs.Common.{◌≤◌, arith}
use Rattle.xv_parts.proofs.Rooms.{greatest, room-fits}
use Rattle.xv_parts.proofs.beginning.stream_room.Goals as goal
use Rattle.xv_parts.proofs.beginning.stream_room.Goals.{then-job-eq-SINGLE_FORMAT, else-job-eq-SINGLE_FORMAT}

pub overflow_add-result : goal.overflow_add-result
overflow_add-result c =
    let size = greatest c.job.inside.layout c.max_size.ensures.good in
    elim c.if-job-eq-SINGLE_FORMAT.branch [ then-job-eq-SINGLE_FORMAT w ↦ omega arith | else-job-eq-SINGLE_FORMAT w ↦ omega arith ]

pub overflow_mul-result : goal.overflow_mul-result
overflow_mul-result c =
    let size = greatest c.job.inside.layout c.max_size.ensures.good in
    let head : c.if-job-eq-SINGLE_FORMAT.head ≤ 44 = elim c.if-job-eq-SINGLE_FORMAT.branch [ then-job-eq-SINGLE_FORMAT w ↦ omega arith | else-job-eq-SINGLE_FORMAT w ↦ omega arith ] in
    let credit = c.operations.ensures.good.limits.credit.1 in
    omega (arith, room-fits c.job.inside.config.credit c.if-job-eq-SINGLE_FORMAT.head c.max_size.result (omega arith) head (omega arith))
