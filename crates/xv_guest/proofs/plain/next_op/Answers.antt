use Rattle.std.proofs.Common.{get_or}
use Rattle.xv_guest.proofs.Unmigrated.{next_there}
use Rattle.xv_guest.proofs.plain.next_op.Goals as goal

pub unit_op-requires : goal.unit_op-requires
unit_op-requires c = next_there c.args.traces.now c.args.guest.0 (get_or c.args.next.now c.args.guest.0 0) c.index-traces-place.result c.requires.there c.index-traces-place.is
