-- An event never fails, and a pass waits exactly where its message was not sent.
use Rattle.std.proofs.Common.{◌≡◌, ◌≢◌, ◌≤◌, ◌&&◌, ◌||◌, ℕ, Bool, true, false, List, [], ◌∷◌, length, Option, None, Some, slice_get, if◌then◌else◌, refl, sym, ap, ◌∙◌, inl, inr, arith}
use Rattle.std.specs.Prelude.{All, ◌↔◌}
use Rattle.std.proofs.lemmas.List.Elements.{All-nil, All-cons}
use Rattle.std.proofs.lemmas.Option.{slice_get_cases}
use Rattle.xv_handover.specs.declared.message.Message.{Message}
use Rattle.xv_handover.specs.declared.message.Kind.{Kind}
use Rattle.xv_handover.specs.declared.message.Kind.TheVariants.{Prepare, Ready, Commit, Abort}
use Rattle.xv_handover.specs.declared.message.Reply.TheVariants.{NotNow, Failed}
use Rattle.xv_handover.specs.declared.kept.KeptB.{KeptB}
use Rattle.xv_handover.specs.declared.world.WorldEvent.{WorldEvent}
use Rattle.xv_handover.specs.declared.world.WorldEvent.TheVariants.{WriteA, WriteB, Image, Offer, Withdraw, ResendA, ResendB, RestartA, RestartB, Pass}
use Rattle.xv_handover.specs.Tables.{Move, SideA, is_of, write_a, offer_a, withdraw_a, resend_a, receive_a, image_b, write_b, resend_b, receive_b}
use Rattle.xv_handover.specs.World.{Both, side_a, by_a, by_b, to_node, delivered, step, replies}

-- a node's table gives a move or none, and neither is a failure
a_does : (w : Both) (move : Option (Move SideA)) → (by_a w move).1 ≢ Failed
a_does w None = λ e. absurd (cc)
a_does w (Some move) = λ e. absurd (cc)

b_does : (w : Both) (move : Option (Move KeptB)) → (by_b w move).1 ≢ Failed
b_does w None = λ e. absurd (cc)
b_does w (Some move) = λ e. absurd (cc)

node_does : (w : Both) (kind : Kind) (m : Message) → (to_node kind w m).1 ≢ Failed
node_does w Ready m = a_does w (receive_a (side_a w) m)
node_does w Prepare m = b_does w (receive_b Prepare w.b m)
node_does w Commit m = b_does w (receive_b Commit w.b m)
node_does w Abort m = b_does w (receive_b Abort w.b m)

delivery_does : (w : Both) (found : Option Message) → (delivered w found).1 ≢ Failed
delivery_does w None = λ e. absurd (cc)
delivery_does w (Some m) = node_does w m.kind m

pub step_does : (w : Both) (e : WorldEvent) → (step w e).1 ≢ Failed
step_does w WriteA = a_does w (write_a (side_a w))
step_does w WriteB = b_does w (write_b w.b.stage w.b)
step_does w (Image number) = b_does w (image_b w.b.stage w.b number)
step_does w Offer = a_does w (offer_a (side_a w))
step_does w Withdraw = a_does w (withdraw_a (side_a w))
step_does w ResendA = a_does w (resend_a (side_a w))
step_does w ResendB = b_does w (resend_b w.b.stage w.b)
step_does w RestartA = λ e. absurd (cc)
step_does w RestartB = λ e. absurd (cc)
step_does w (Pass number) = delivery_does w (slice_get w.sent number)

pub all_told : (w : Both) (es : List WorldEvent) → All (λ r. r ≢ Failed) (replies w es)
all_told w [] = All-nil (λ r. r ≢ Failed)
all_told w (e ∷ es) = All-cons (λ r. r ≢ Failed) (step w e).1 (replies (step w e).0 es) (step_does w e) (all_told (step w e).0 es)

-- what is delivered is always taken
taken : (w : Both) (t u : Bool) (x y z : Move SideA) → (by_a w (if t then (if u then Some x else Some y) else Some z)).1 ≢ NotNow
taken w true true x y z = λ e. absurd (cc)
taken w true false x y z = λ e. absurd (cc)
taken w false u x y z = λ e. absurd (cc)

node_takes : (w : Both) (kind : Kind) (m : Message) → (to_node kind w m).1 ≢ NotNow
node_takes w Ready m = taken w (is_of m w.a.attempt w.a.number && (w.offered || w.a.gone)) w.offered _ _ _
node_takes w Prepare m = λ e. absurd (cc)
node_takes w Commit m = λ e. absurd (cc)
node_takes w Abort m = λ e. absurd (cc)

-- a pass waits exactly where no message of its number was sent
pub pass_waits : (w : Both) (number : ℕ) → ((step w (Pass number)).1 ≡ NotNow) ↔ (length w.sent ≤ number)
pass_waits w number = elim (slice_get_cases w.sent number).1 [
  | inl there ↦
      let found : (step w (Pass number)).1 ≡ (to_node there.0.kind w there.0).1 = ap (λ (o : Option Message). (delivered w o).1) there.2 in
      (λ waits. absurd (node_takes w there.0.kind there.0 (sym found ∙ waits)), λ past. absurd (let within = there.1 in omega arith))
  | inr past ↦ (λ _. past.0, λ _. ap (λ (o : Option Message). (delivered w o).1) past.1)
]

-- each event has one answer
pub length-replies : (w : Both) (es : List WorldEvent) → length (replies w es) ≡ length es
length-replies w [] = refl
length-replies w (e ∷ es) = omega (arith, length-replies (step w e).0 es)
