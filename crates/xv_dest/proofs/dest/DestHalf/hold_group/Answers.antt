use Rattle.std.proofs.Common.{arith}
use Rattle.xv_dest.proofs.Arrivals.{may-hold-next, with-next}
use Rattle.xv_dest.proofs.dest.DestHalf.hold_group.Goals as goal

pub hold_message-requires-clause-unwritten : goal.hold_message-requires-clause-unwritten
hold_message-requires-clause-unwritten g c = (may-hold-next c.args.self.now c.loop-i.self c.args.streams.now.got c.loop-i.i c.got.result c.loop-i.invariant c.got.ensures.exactly c.requires.may_take (omega arith)).unwritten

pub hold_message-requires-clause-not_held : goal.hold_message-requires-clause-not_held
hold_message-requires-clause-not_held g c = (may-hold-next c.args.self.now c.loop-i.self c.args.streams.now.got c.loop-i.i c.got.result c.loop-i.invariant c.got.ensures.exactly c.requires.may_take (omega arith)).not_held

pub loop-i-preserved : goal.loop-i-preserved
loop-i-preserved g c = with-next _ c.loop-i.self _ c.args.streams.now.got c.loop-i.i _ _ c.loop-i.invariant (omega arith) c.got.ensures.exactly c.got_bytes.ensures.exactly c.hold_message.ensures
