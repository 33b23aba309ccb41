-- A program of calls that meet their tables is a world.
use Rattle.std.proofs.Common.{◌≡◌, ◌≢◌, false, List, [], ◌∷◌, Option, None, Some, slice_get, ◌⊎◌, inl, inr, refl, sym, ap, subst, ◌∙◌}
use Rattle.xv_handover.specs.declared.message.Message.{Message}
use Rattle.xv_handover.specs.declared.message.Kind.{Kind}
use Rattle.xv_handover.specs.declared.message.Kind.TheVariants.{Prepare, Ready, Commit, Abort}
use Rattle.xv_handover.specs.declared.message.Reply.{Reply}
use Rattle.xv_handover.specs.declared.message.Reply.TheVariants.{Done, NotNow, Failed}
use Rattle.xv_handover.specs.declared.kept.KeptA.{KeptA}
use Rattle.xv_handover.specs.declared.kept.KeptB.{KeptB}
use Rattle.xv_handover.specs.declared.world.WorldEvent.{WorldEvent}
use Rattle.xv_handover.specs.declared.world.WorldEvent.TheVariants.{WriteA, WriteB, Image, Offer, Withdraw, ResendA, ResendB, RestartA, RestartB, Pass}
use Rattle.xv_handover.specs.Tables.{Move, SideA, write_a, offer_a, withdraw_a, resend_a, receive_a, image_b, write_b, resend_b, receive_b}
use Rattle.xv_handover.specs.Answers.{Seen}
use Rattle.xv_handover.specs.World.{Both, by_a, by_b, posted, side_a, to_node, delivered, step, first_world, world_after}
use Rattle.xv_handover.specs.Safe.{IsSound}
use Rattle.xv_handover.specs.Crash.{CrashLeaves}
use Rattle.xv_handover.specs.Program.{Running, world_of, CallsA, CallsB, Wakes, Delivers, DeliversFound, Happens, Deed, IsProgram, left_by, or_failed, events_of}
use Rattle.xv_handover.proofs.Sound.{after_holds, first_holds}

-- the world of both sides and the messages
abbrev both : SideA → KeptB → List Message → Both
both a b sent = record { a = a.kept; offered = a.offered; b = b; sent = sent }

same_both : (a a2 : SideA) (b b2 : KeptB) (s s2 : List Message) → a ≡ a2 → b ≡ b2 → s ≡ s2 → both a b s ≡ both a2 b2 s2
same_both a a2 b b2 s s2 p q r =
    ap (λ (x : SideA). both x b s) p ∙ ap (λ (x : KeptB). both a2 x s) q ∙ ap (λ (x : List Message). both a2 b2 x) r

a_side : (m n : Seen SideA) → m ≡ n → m.side ≡ n.side
a_side m n e = ap (λ (s : Seen SideA). s.side) e

b_side : (m n : Seen KeptB) → m ≡ n → m.side ≡ n.side
b_side m n e = ap (λ (s : Seen KeptB). s.side) e

-- node A's call is its event
a_made : (move : Option (Move SideA)) (reply : Reply) (x y : Running) → CallsA move reply x y → reply ≢ Failed → by_a (world_of x) move ≡ (world_of y, reply)
a_made move (Done sends) x y c n =
    ap (λ (m : Option (Move SideA)). by_a (world_of x) m) c.answers.is
    ∙ ap (λ (w : Both). (w, Done sends)) (same_both y.a.side y.a.side x.b.side y.b.side (posted x.sent sends) y.sent refl (sym (b_side y.b x.b c.other)) (sym c.sent))
a_made move NotNow x y c n =
    ap (λ (m : Option (Move SideA)). by_a (world_of x) m) c.answers.0
    ∙ ap (λ (w : Both). (w, NotNow)) (same_both x.a.side y.a.side x.b.side y.b.side x.sent y.sent (sym (a_side y.a x.a c.answers.1)) (sym (b_side y.b x.b c.other)) (sym c.sent))
a_made move Failed x y c n = absurd (n refl)

a_failed : (move : Option (Move SideA)) (x y : Running) → CallsA move Failed x y → world_of x ≡ world_of y
a_failed move x y c =
    same_both x.a.side y.a.side x.b.side y.b.side x.sent y.sent (sym (ap (λ (s : Seen SideA). s.side) c.answers.same)) (sym (b_side y.b x.b c.other)) (sym c.sent)

-- node B's is too
b_made : (move : Option (Move KeptB)) (reply : Reply) (x y : Running) → CallsB move reply x y → reply ≢ Failed → by_b (world_of x) move ≡ (world_of y, reply)
b_made move (Done sends) x y c n =
    ap (λ (m : Option (Move KeptB)). by_b (world_of x) m) c.answers.is
    ∙ ap (λ (w : Both). (w, Done sends)) (same_both x.a.side y.a.side y.b.side y.b.side (posted x.sent sends) y.sent (sym (a_side y.a x.a c.other)) refl (sym c.sent))
b_made move NotNow x y c n =
    ap (λ (m : Option (Move KeptB)). by_b (world_of x) m) c.answers.0
    ∙ ap (λ (w : Both). (w, NotNow)) (same_both x.a.side y.a.side x.b.side y.b.side x.sent y.sent (sym (a_side y.a x.a c.other)) (sym (b_side y.b x.b c.answers.1)) (sym c.sent))
b_made move Failed x y c n = absurd (n refl)

b_failed : (move : Option (Move KeptB)) (x y : Running) → CallsB move Failed x y → world_of x ≡ world_of y
b_failed move x y c =
    same_both x.a.side y.a.side x.b.side y.b.side x.sent y.sent (sym (a_side y.a x.a c.other)) (sym (ap (λ (s : Seen KeptB). s.side) c.answers.same)) (sym c.sent)

-- a restart
woken : (a : SideA) (reply : Reply) (x y : Running) → Wakes a reply x y → ◌≡◌ {A = Both × Reply} (both a x.b.side x.sent, Done None) (world_of y, reply)
woken a reply x y h =
    ap (λ (w : Both). (w, Done None)) (same_both a y.a.side x.b.side y.b.side x.sent y.sent (sym h.a) (sym h.b) (sym h.sent))
    ∙ ap (λ (r : Reply). (world_of y, r)) (sym h.answer)

not_failed : (a : SideA) (x y : Running) → Wakes a Failed x y → world_of x ≡ world_of y
not_failed a x y h = absurd (let e = h.answer in cc)

-- a delivery
node_made : (kind : Kind) (m : Message) (reply : Reply) (x y : Running) → Delivers kind m reply x y → reply ≢ Failed → to_node kind (world_of x) m ≡ (world_of y, reply)
node_made Ready m reply x y h n = a_made (receive_a x.a.side m) reply x y h n
node_made Prepare m reply x y h n = b_made (receive_b Prepare x.b.side m) reply x y h n
node_made Commit m reply x y h n = b_made (receive_b Commit x.b.side m) reply x y h n
node_made Abort m reply x y h n = b_made (receive_b Abort x.b.side m) reply x y h n

node_failed : (kind : Kind) (m : Message) (x y : Running) → Delivers kind m Failed x y → world_of x ≡ world_of y
node_failed Ready m x y h = a_failed (receive_a x.a.side m) x y h
node_failed Prepare m x y h = b_failed (receive_b Prepare x.b.side m) x y h
node_failed Commit m x y h = b_failed (receive_b Commit x.b.side m) x y h
node_failed Abort m x y h = b_failed (receive_b Abort x.b.side m) x y h

pass_made : (found : Option Message) (reply : Reply) (x y : Running) → DeliversFound found reply x y → reply ≢ Failed → delivered (world_of x) found ≡ (world_of y, reply)
pass_made None reply x y (answer, same) n =
    ap (λ (z : Running). (world_of z, NotNow)) (sym same) ∙ ap (λ (r : Reply). (world_of y, r)) (sym answer)
pass_made (Some m) reply x y h n = node_made m.kind m reply x y h n

pass_failed : (found : Option Message) (x y : Running) → DeliversFound found Failed x y → world_of x ≡ world_of y
pass_failed None x y (answer, same) = absurd (cc)
pass_failed (Some m) x y h = node_failed m.kind m x y h

-- what did not fail is the event of the world
pub event_made : (event : WorldEvent) (reply : Reply) (x y : Running) → Happens event reply x y → reply ≢ Failed → step (world_of x) event ≡ (world_of y, reply)
event_made WriteA reply x y h n = a_made (write_a x.a.side) reply x y h n
event_made WriteB reply x y h n = b_made (write_b x.b.side.stage x.b.side) reply x y h n
event_made (Image number) reply x y h n = b_made (image_b x.b.side.stage x.b.side number) reply x y h n
event_made Offer reply x y h n = a_made (offer_a x.a.side) reply x y h n
event_made Withdraw reply x y h n = a_made (withdraw_a x.a.side) reply x y h n
event_made ResendA reply x y h n = a_made (resend_a x.a.side) reply x y h n
event_made ResendB reply x y h n = b_made (resend_b x.b.side.stage x.b.side) reply x y h n
event_made RestartA reply x y h n = woken (record x.a.side { offered = false }) reply x y h
event_made RestartB reply x y h n = woken x.a.side reply x y h
event_made (Pass number) reply x y h n = pass_made (slice_get x.sent number) reply x y h n

-- and where a keeper failed the world is as it was
pub event_failed : (event : WorldEvent) (x y : Running) → Happens event Failed x y → world_of x ≡ world_of y
event_failed WriteA x y h = a_failed (write_a x.a.side) x y h
event_failed WriteB x y h = b_failed (write_b x.b.side.stage x.b.side) x y h
event_failed (Image number) x y h = b_failed (image_b x.b.side.stage x.b.side number) x y h
event_failed Offer x y h = a_failed (offer_a x.a.side) x y h
event_failed Withdraw x y h = a_failed (withdraw_a x.a.side) x y h
event_failed ResendA x y h = a_failed (resend_a x.a.side) x y h
event_failed ResendB x y h = b_failed (resend_b x.b.side.stage x.b.side) x y h
event_failed RestartA x y h = not_failed (record x.a.side { offered = false }) x y h
event_failed RestartB x y h = not_failed x.a.side x y h
event_failed (Pass number) x y h = pass_failed (slice_get x.sent number) x y h

-- one thing more before a program
one_more : (reply : Reply) (event : WorldEvent) (x y : Running) (events : List WorldEvent) (last : Both) → Happens event reply x y → world_after (world_of y) events ≡ last → world_after (world_of x) (or_failed reply event events) ≡ last
one_more (Done sends) event x y events last h k =
    ap (λ (r : Both × Reply). world_after r.0 events) (event_made event (Done sends) x y h (λ e. absurd (cc))) ∙ k
one_more NotNow event x y events last h k =
    ap (λ (r : Both × Reply). world_after r.0 events) (event_made event NotNow x y h (λ e. absurd (cc))) ∙ k
one_more Failed event x y events last h k = ap (λ (w : Both). world_after w events) (event_failed event x y h) ∙ k

-- so a program's nodes are the world of its events
pub program_is_world : (x : Running) (deeds : List Deed) → IsProgram x deeds → world_after (world_of x) (events_of deeds) ≡ world_of (left_by x deeds)
program_is_world x [] h = refl
program_is_world x (d ∷ ds) (first, rest) =
    one_more d.reply d.event x d.after (events_of ds) (world_of (left_by d.after ds)) first (program_is_world d.after ds rest)

pub program_is_sound : (x : Running) (deeds : List Deed) → world_of x ≡ first_world → IsProgram x deeds → let w = world_of (left_by x deeds) in IsSound w.a w.offered w.b w.sent
program_is_sound x deeds begins h =
    let same : world_after first_world (events_of deeds) ≡ world_of (left_by x deeds) = ap (λ (w : Both). world_after w (events_of deeds)) (sym begins) ∙ program_is_world x deeds h in
    let P : Both → Type 0 = λ w. IsSound w.a w.offered w.b w.sent in
    subst P same (after_holds first_world (events_of deeds) first_holds)

-- a crash in an event leaves node A as after a restart alone, or as after the event and a restart
pub crash_a : (w : Both) (event : WorldEvent) (kept : KeptA) → CrashLeaves w.a (step w event).0.a kept →
    (record { kept = kept; offered = false } ≡ side_a (step w RestartA).0) ⊎ (record { kept = kept; offered = false } ≡ side_a (step (step w event).0 RestartA).0)
crash_a w event kept (inl e) = inl (ap (λ (k : KeptA). record { kept = k; offered = false }) e)
crash_a w event kept (inr e) = inr (ap (λ (k : KeptA). record { kept = k; offered = false }) e)

pub crash_b : (w : Both) (event : WorldEvent) (kept : KeptB) → CrashLeaves w.b (step w event).0.b kept →
    (kept ≡ (step w RestartB).0.b) ⊎ (kept ≡ (step (step w event).0 RestartB).0.b)
crash_b w event kept (inl e) = inl e
crash_b w event kept (inr e) = inr e
