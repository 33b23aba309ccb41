-- What a program makes of two nodes whose calls meet their tables: calls, deliveries and restarts, each with its answer.
use Rattle.std.specs.Prelude.{◌≡◌, false, ⊤, List, [], ◌∷◌, Option, None, Some, slice_get}
use Rattle.xv_handover.specs.declared.message.Message.{Message}
use Rattle.xv_handover.specs.declared.message.Kind.{Kind}
use Rattle.xv_handover.specs.declared.message.Kind.TheVariants.{Prepare, Ready, Commit, Abort}
use Rattle.xv_handover.specs.declared.message.Reply.{Reply}
use Rattle.xv_handover.specs.declared.message.Reply.TheVariants.{Done, NotNow, Failed}
use Rattle.xv_handover.specs.declared.kept.KeptB.{KeptB}
use Rattle.xv_handover.specs.declared.world.WorldEvent.{WorldEvent}
use Rattle.xv_handover.specs.declared.world.WorldEvent.TheVariants.{WriteA, WriteB, Image, Offer, Withdraw, ResendA, ResendB, RestartA, RestartB, Pass}
use Rattle.xv_handover.specs.Tables.{Move, SideA, write_a, offer_a, withdraw_a, resend_a, receive_a, image_b, write_b, resend_b, receive_b}
use Rattle.xv_handover.specs.Answers.{Seen, Answers}
use Rattle.xv_handover.specs.World.{Both}
use Rattle.xv_handover.specs.Play.{shown, posted_by}

-- two running nodes, and every message that was sent
pub record Running : Type 0 where
  pub a : Seen SideA
  pub b : Seen KeptB
  pub sent : List Message

abbrev pub world_of : Running → Both
world_of x = shown x.a x.b x.sent

-- a call of a node met its table, and its message joined those that were sent
pub record CallsA (move : Option (Move SideA)) (reply : Reply) (x y : Running) : Type 0 where
  pub answers : Answers move reply x.a y.a
  pub other : y.b ≡ x.b
  pub sent : y.sent ≡ posted_by x.sent reply

pub record CallsB (move : Option (Move KeptB)) (reply : Reply) (x y : Running) : Type 0 where
  pub answers : Answers move reply x.b y.b
  pub other : y.a ≡ x.a
  pub sent : y.sent ≡ posted_by x.sent reply

-- a node woke with what it kept
pub record Wakes (left : SideA) (reply : Reply) (x y : Running) : Type 0 where
  pub answer : reply ≡ Done None
  pub a : y.a.side ≡ left
  pub b : y.b.side ≡ x.b.side
  pub sent : y.sent ≡ x.sent

-- a message was delivered: a Ready to node A, and every other one to node B
abbrev pub Delivers : Kind → Message → Reply → Running → Running → Type 0
Delivers Ready m reply x y = CallsA (receive_a x.a.side m) reply x y
Delivers Prepare m reply x y = CallsB (receive_b Prepare x.b.side m) reply x y
Delivers Commit m reply x y = CallsB (receive_b Commit x.b.side m) reply x y
Delivers Abort m reply x y = CallsB (receive_b Abort x.b.side m) reply x y

abbrev pub DeliversFound : Option Message → Reply → Running → Running → Type 0
DeliversFound None reply x y = (reply ≡ NotNow) × (y ≡ x)
DeliversFound (Some m) reply x y = Delivers m.kind m reply x y

-- what a program did in the place of an event, with its answer
abbrev pub Happens : WorldEvent → Reply → Running → Running → Type 0
Happens WriteA reply x y = CallsA (write_a x.a.side) reply x y
Happens WriteB reply x y = CallsB (write_b x.b.side.stage x.b.side) reply x y
Happens (Image number) reply x y = CallsB (image_b x.b.side.stage x.b.side number) reply x y
Happens Offer reply x y = CallsA (offer_a x.a.side) reply x y
Happens Withdraw reply x y = CallsA (withdraw_a x.a.side) reply x y
Happens ResendA reply x y = CallsA (resend_a x.a.side) reply x y
Happens ResendB reply x y = CallsB (resend_b x.b.side.stage x.b.side) reply x y
Happens RestartA reply x y = Wakes (record x.a.side { offered = false }) reply x y
Happens RestartB reply x y = Wakes x.a.side reply x y
Happens (Pass number) reply x y = DeliversFound (slice_get x.sent number) reply x y

-- what a program did, one thing after another
pub record Deed : Type 0 where
  pub event : WorldEvent
  pub reply : Reply
  pub after : Running

abbrev pub IsProgram : Running → List Deed → Type 0
IsProgram x [] = ⊤
IsProgram x (d ∷ ds) = Happens d.event d.reply x d.after × IsProgram d.after ds

-- where it left the nodes
abbrev pub left_by : Running → List Deed → Running
left_by x [] = x
left_by x (d ∷ ds) = left_by d.after ds

-- the events, without those at which a keeper failed
abbrev pub or_failed : Reply → WorldEvent → List WorldEvent → List WorldEvent
or_failed (Done sends) event events = event ∷ events
or_failed NotNow event events = event ∷ events
or_failed Failed event events = events

abbrev pub events_of : List Deed → List WorldEvent
events_of [] = []
events_of (d ∷ ds) = or_failed d.reply d.event (events_of ds)
