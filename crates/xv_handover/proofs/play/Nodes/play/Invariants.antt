use Rattle.std.proofs.Common.{◌≡◌, ◌+◌, ◌≤◌, ◌++◌, length, drop, vec_len}
use Rattle.std.specs.Prelude.{vec_capacity}
use Rattle.xv_handover.specs.World.{replies, world_after}
use Rattle.xv_handover.specs.Play.{shown}
use Rattle.xv_handover.proofs.play.Nodes.play.Given as goal

-- what is left of the events from now on ends as all of them from the start
abbrev pub invariant-loop-event : goal.invariant-loop-event
invariant-loop-event l = record {
  world : world_after (shown l.nodes.a l.nodes.b l.sent.items) (drop l.event-index l.events) ≡ world_after (shown l.initial.nodes.a l.initial.nodes.b l.initial.sent.items) l.events;
  told : l.out.items ++ replies (shown l.nodes.a l.nodes.b l.sent.items) (drop l.event-index l.events) ≡ l.initial.out.items ++ replies (shown l.initial.nodes.a l.initial.nodes.b l.initial.sent.items) l.events;
  room : vec_len l.sent + length l.events ≤ vec_capacity l.sent + l.event-index;
  replies_room : vec_len l.out + length l.events ≤ vec_capacity l.out + l.event-index;
}
