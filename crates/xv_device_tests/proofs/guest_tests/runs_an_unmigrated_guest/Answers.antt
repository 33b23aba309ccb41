use Rattle.std.proofs.Common.{◌≤◌, arith}
use Rattle.xv_guest.proofs.OneTrace.{all_ended, all_within, shape_read}
use Rattle.xv_device_tests.proofs.guest_tests.runs_an_unmigrated_guest.Goals as goal

pub run-requires-clause-ended : goal.run-requires-clause-ended
run-requires-clause-ended g c =
    let there : 4 ≤ c.unit_ops.result = omega arith in
    all_ended c.expect-trace.result c.in_ok-history.history.entries 4 c.in_ok-history.ensures.few (omega (arith, c.unit_ops.ensures.exactly)) c.in_ok-history.ensures.others

pub run-requires-clause-within : goal.run-requires-clause-within
run-requires-clause-within g c =
    all_within c.expect-layout.result c.expect-trace.result
    (shape_read c.read_ops.result c.expect-trace.result c.expect-layout.result _ c.expect-trace.ensures c.read_ops.ensures.said)
    c.unit_ops.ensures.program
