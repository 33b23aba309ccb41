-- Both nodes and the messages between them, and what each event does.
use Rattle.std.specs.Prelude.{Bool, false, List, [], ◌∷◌, ◌++◌, Option, None, Some, slice_get}
use Rattle.xv_handover.specs.declared.message.Message.{Message}
use Rattle.xv_handover.specs.declared.message.Kind.{Kind}
use Rattle.xv_handover.specs.declared.message.Kind.TheVariants.{Prepare, Ready, Commit, Abort}
use Rattle.xv_handover.specs.declared.message.Reply.{Reply}
use Rattle.xv_handover.specs.declared.message.Reply.TheVariants.{Done, NotNow}
use Rattle.xv_handover.specs.declared.kept.KeptA.{KeptA}
use Rattle.xv_handover.specs.declared.kept.KeptB.{KeptB}
use Rattle.xv_handover.specs.declared.kept.Stage.TheVariants.{Idle}
use Rattle.xv_handover.specs.declared.world.WorldEvent.{WorldEvent}
use Rattle.xv_handover.specs.declared.world.WorldEvent.TheVariants.{WriteA, WriteB, Image, Offer, Withdraw, ResendA, ResendB, RestartA, RestartB, Pass}
use Rattle.xv_handover.specs.Tables.{Move, SideA, write_a, offer_a, withdraw_a, resend_a, receive_a, image_b, write_b, resend_b, receive_b}

-- what the nodes keep, whether node A has offered, and every message that was ever sent
pub record Both : Type 0 where
  pub a : KeptA
  pub offered : Bool
  pub b : KeptB
  pub sent : List Message

abbrev pub first_world : Both
first_world = record {
  a = record { attempt = 0; number = 0; gone = false };
  offered = false;
  b = record { stage = Idle; attempt = 0; number = 0 };
  sent = [];
}

abbrev pub side_a : Both → SideA
side_a w = record { kept = w.a; offered = w.offered }

-- the messages after one that may be sent
abbrev pub posted : List Message → Option Message → List Message
posted sent None = sent
posted sent (Some m) = sent ++ m ∷ []

-- a node makes its move, where it has one
abbrev pub by_a : Both → Option (Move SideA) → Both × Reply
by_a w None = (w, NotNow)
by_a w (Some move) = (record w { a = move.after.kept; offered = move.after.offered; sent = posted w.sent move.sends }, Done move.sends)

abbrev pub by_b : Both → Option (Move KeptB) → Both × Reply
by_b w None = (w, NotNow)
by_b w (Some move) = (record w { b = move.after; sent = posted w.sent move.sends }, Done move.sends)

-- a Ready goes to node A, and every other message to node B
abbrev pub to_node : Kind → Both → Message → Both × Reply
to_node Ready w m = by_a w (receive_a (side_a w) m)
to_node Prepare w m = by_b w (receive_b Prepare w.b m)
to_node Commit w m = by_b w (receive_b Commit w.b m)
to_node Abort w m = by_b w (receive_b Abort w.b m)

abbrev pub delivered : Both → Option Message → Both × Reply
delivered w None = (w, NotNow)
delivered w (Some m) = to_node m.kind w m

-- the world after an event, and the answer
abbrev pub step : Both → WorldEvent → Both × Reply
step w WriteA = by_a w (write_a (side_a w))
step w WriteB = by_b w (write_b w.b.stage w.b)
step w (Image number) = by_b w (image_b w.b.stage w.b number)
step w Offer = by_a w (offer_a (side_a w))
step w Withdraw = by_a w (withdraw_a (side_a w))
step w ResendA = by_a w (resend_a (side_a w))
step w ResendB = by_b w (resend_b w.b.stage w.b)
step w RestartA = (record w { offered = false }, Done None)
step w RestartB = (w, Done None)
step w (Pass number) = delivered w (slice_get w.sent number)

abbrev pub world_after : Both → List WorldEvent → Both
world_after w [] = w
world_after w (e ∷ es) = world_after (step w e).0 es

abbrev pub replies : Both → List WorldEvent → List Reply
replies w [] = []
replies w (e ∷ es) = (step w e).1 ∷ replies (step w e).0 es
