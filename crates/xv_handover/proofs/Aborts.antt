-- The messages that events send: an Abort has the number 0.
use Rattle.std.proofs.Common.{◌≡◌, ◌≢◌, ◌==◌, ◌&&◌, ◌||◌, ℕ, nat_lt, nat_le, Bool, true, false, Option, None, Some, slice_get, if◌then◌else◌, sym, ap, ◌∙◌}
use Rattle.xv_handover.specs.declared.message.Message.{Message}
use Rattle.xv_handover.specs.declared.message.Kind.{Kind}
use Rattle.xv_handover.specs.declared.message.Kind.TheVariants.{Prepare, Ready, Commit, Abort}
use Rattle.xv_handover.specs.declared.message.Reply.{Reply}
use Rattle.xv_handover.specs.declared.message.Reply.TheVariants.{Done}
use Rattle.xv_handover.specs.declared.kept.KeptB.{KeptB}
use Rattle.xv_handover.specs.declared.kept.Stage.{Stage}
use Rattle.xv_handover.specs.declared.kept.Stage.TheVariants.{Idle, Prepared, Owner}
use Rattle.xv_handover.specs.declared.world.WorldEvent.{WorldEvent}
use Rattle.xv_handover.specs.declared.world.WorldEvent.TheVariants.{WriteA, WriteB, Image, Offer, Withdraw, ResendA, ResendB, RestartA, RestartB, Pass}
use Rattle.xv_handover.specs.Tables.{Move, SideA, message, is_of, most, write_a, offer_a, withdraw_a, resend_a, receive_a, image_b, write_b, resend_b, prepare_b, commit_b, abort_b}
use Rattle.xv_handover.specs.World.{Both, side_a, by_a, by_b, to_node, delivered, step}

-- an answer sends no Abort, or one with the number 0
abbrev TellsRight : Reply → Type 0
TellsRight reply = (m : Message) → reply ≡ Done (Some m) → m.kind ≡ Abort → m.number ≡ 0

sends_none : TellsRight (Done None)
sends_none m e k = absurd (cc)

sends_other : (sent : Message) → sent.kind ≢ Abort → TellsRight (Done (Some sent))
sends_other sent other m e is = let same : sent ≡ m = cc in absurd (other (ap (λ (x : Message). x.kind) same ∙ is))

sends_prepare : (attempt number : ℕ) → TellsRight (Done (Some (message Prepare attempt number)))
sends_prepare attempt number = sends_other (message Prepare attempt number) (λ e. absurd (cc))

sends_ready : (attempt number : ℕ) → TellsRight (Done (Some (message Ready attempt number)))
sends_ready attempt number = sends_other (message Ready attempt number) (λ e. absurd (cc))

sends_commit : (attempt number : ℕ) → TellsRight (Done (Some (message Commit attempt number)))
sends_commit attempt number = sends_other (message Commit attempt number) (λ e. absurd (cc))

sends_abort : (attempt : ℕ) → TellsRight (Done (Some (message Abort attempt 0)))
sends_abort attempt m e is = let same : message Abort attempt 0 ≡ m = cc in sym (ap (λ (x : Message). x.number) same)

-- a test that decides a move
either : {X : Type 0} (P : X → Type 0) (t : Bool) (x y : X) → P x → P y → P (if t then x else y)
either P true x y hit miss = hit
either P false x y hit miss = miss

-- what a table makes of a call
abbrev RightA : Both → Option (Move SideA) → Type 0
RightA w move = TellsRight (by_a w move).1

abbrev RightB : Both → Option (Move KeptB) → Type 0
RightB w move = TellsRight (by_b w move).1

waits_a : (w : Both) → RightA w None
waits_a w m e k = absurd (cc)

waits_b : (w : Both) → RightB w None
waits_b w m e k = absurd (cc)

write_a_right : (w : Both) → RightA w (write_a (side_a w))
write_a_right w = either (RightA w) (w.offered || (w.a.gone || (w.a.number == most))) _ _ (waits_a w) sends_none

offer_right : (w : Both) → RightA w (offer_a (side_a w))
offer_right w = either (RightA w) (w.offered || (w.a.gone || (w.a.attempt == most))) _ _ (waits_a w) (sends_prepare _ _)

withdraw_right : (w : Both) → RightA w (withdraw_a (side_a w))
withdraw_right w = either (RightA w) w.offered _ _ (sends_abort _) (waits_a w)

resend_a_right : (w : Both) → RightA w (resend_a (side_a w))
resend_a_right w =
    either (RightA w) w.offered _ _ (sends_prepare _ _)
    (either (RightA w) w.a.gone _ _ (sends_commit _ _) (waits_a w))

receive_a_right : (w : Both) (m : Message) → RightA w (receive_a (side_a w) m)
receive_a_right w m =
    either (RightA w) (is_of m w.a.attempt w.a.number && (w.offered || w.a.gone)) _ _
    (either (RightA w) w.offered _ _ (sends_commit _ _) (sends_commit _ _))
    sends_none

image_right : (w : Both) (stage : Stage) (number : ℕ) → RightB w (image_b stage w.b number)
image_right w Idle number = sends_none
image_right w Prepared number = waits_b w
image_right w Owner number = waits_b w

write_b_right : (w : Both) (stage : Stage) → RightB w (write_b stage w.b)
write_b_right w Idle = waits_b w
write_b_right w Prepared = waits_b w
write_b_right w Owner = either (RightB w) (w.b.number == most) _ _ (waits_b w) sends_none

resend_b_right : (w : Both) (stage : Stage) → RightB w (resend_b stage w.b)
resend_b_right w Idle = waits_b w
resend_b_right w Prepared = sends_ready _ _
resend_b_right w Owner = waits_b w

abbrev SomeB : Both → Move KeptB → Type 0
SomeB w move = RightB w (Some move)

prepare_right : (w : Both) (stage : Stage) (m : Message) → SomeB w (prepare_b stage w.b m)
prepare_right w Idle m = either (SomeB w) (nat_lt w.b.attempt m.attempt && (m.number == w.b.number)) _ _ (sends_ready _ _) sends_none
prepare_right w Prepared m =
    either (SomeB w) (nat_lt w.b.attempt m.attempt) _ _
    (either (SomeB w) (m.number == w.b.number) _ _ (sends_ready _ _) sends_none)
    (either (SomeB w) (is_of m w.b.attempt w.b.number) _ _ (sends_ready _ _) sends_none)
prepare_right w Owner m = sends_none

commit_right : (w : Both) (stage : Stage) (m : Message) → SomeB w (commit_b stage w.b m)
commit_right w Idle m = sends_none
commit_right w Prepared m = either (SomeB w) (is_of m w.b.attempt w.b.number) _ _ sends_none sends_none
commit_right w Owner m = sends_none

end_right : (w : Both) (stage : Stage) (m : Message) → SomeB w (abort_b stage w.b m)
end_right w Idle m = either (SomeB w) (nat_lt w.b.attempt m.attempt) _ _ sends_none sends_none
end_right w Prepared m = either (SomeB w) (nat_le w.b.attempt m.attempt) _ _ sends_none sends_none
end_right w Owner m = sends_none

node_right : (w : Both) (kind : Kind) (m : Message) → TellsRight (to_node kind w m).1
node_right w Ready m = receive_a_right w m
node_right w Prepare m = prepare_right w w.b.stage m
node_right w Commit m = commit_right w w.b.stage m
node_right w Abort m = end_right w w.b.stage m

delivery_right : (w : Both) (found : Option Message) → TellsRight (delivered w found).1
delivery_right w None = λ m e k. absurd (cc)
delivery_right w (Some m) = node_right w m.kind m

pub step_right : (w : Both) (e : WorldEvent) (m : Message) → (step w e).1 ≡ Done (Some m) → m.kind ≡ Abort → m.number ≡ 0
step_right w WriteA = write_a_right w
step_right w WriteB = write_b_right w w.b.stage
step_right w (Image number) = image_right w w.b.stage number
step_right w Offer = offer_right w
step_right w Withdraw = withdraw_right w
step_right w ResendA = resend_a_right w
step_right w ResendB = resend_b_right w w.b.stage
step_right w RestartA = λ m e k. absurd (cc)
step_right w RestartB = λ m e k. absurd (cc)
step_right w (Pass number) = delivery_right w (slice_get w.sent number)
