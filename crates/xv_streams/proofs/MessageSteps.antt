-- A message taken off a lane of unit frames.
use Rattle.std.proofs.Common.{◌≡◌, ℕ, ◌+◌, ◌-◌, ◌<◌, ◌≤◌, List, [], ◌∷◌, ◌++◌, length, take, drop, map, sym, ap, ◌∙◌, arith, refl, subst, Bool, false, Some, Ok, length-append}
use Rattle.std.proofs.lemmas.List.{append-nil, take_at, drop_at}
use Rattle.std.proofs.lemmas.Option.{none-some}
use Rattle.xv_base.specs.declared.operation.UnitHead.{UnitHead}
use Rattle.xv_base.specs.Units.{Shape, units, size, max_size}
use Rattle.xv_base.specs.Layout.{IsGood}
use Rattle.xv_frame.specs.Frame.{Message, Frame, UnitFrame, AckFrame, GroupFrame, IsMessage, spelled, unit_head}
use Rattle.xv_frame.specs.Reading.{frames_in, front_message, front_head}
use Rattle.xv_base.proofs.Partition.{has_greatest_size}
use Rattle.xv_frame.specs.declared.heads.Head.TheVariants.{Unit as UnitHeadOf}
use Rattle.xv_frame.specs.Faults.{read_head}
use Rattle.xv_frame.proofs.Accepted.{message-back}
use Rattle.xv_frame.proofs.Faultless.{head-accepted}
use Rattle.xv_frame.proofs.ReadHeads.{length-unit-head}
use Rattle.xv_wire.specs.Told.{Told}
use Rattle.xv_streams.specs.Gathered.{Gathered}
use Rattle.xv_streams.specs.Taking.{TakesMade}
use Rattle.xv_streams.specs.Lanes.{wanted, FrameTaken}
use Rattle.xv_streams.specs.Streamed.{messages_of, IsLaneOf, seen_lane, MessageTaken, first_group, head_of_first, content_of_first}
use Rattle.xv_streams.proofs.LaneSteps.{Whole, whole-frame}

-- the takes by what is left in transit
pub made-seen : (s : Shape) (old new : List ℕ) (failed : Bool) (t u : Told) (f g : ℕ) → FrameTaken s old new failed t u f g
    → TakesMade (length t.transit - length u.transit) failed (wanted (frames_in s (old ++ t.transit)) (length old)) t u f g
made-seen s old new failed t u f g h =
    let same : length new - length old ≡ length t.transit - length u.transit = omega (arith, ap length h.moved, length-append new u.transit, length-append old t.transit, h.grown) in
    subst (λ n. TakesMade n failed (wanted (frames_in s (old ++ t.transit)) (length old)) t u f g) same h.made

-- the first frame is a message
pub record FirstMessage (s : Shape) (l : Gathered) (t u : Told) (new : List ℕ) : Type 0 where
  pub m : Message
  pub others : List Frame
  pub list : frames_in s (l.bytes ++ t.transit) ≡ UnitFrame m ∷ others
  pub is : front_message s new ≡ m
  pub good : IsMessage s m
  pub front : new ≡ spelled (UnitFrame m)
  pub behind : frames_in s ([] ++ u.transit) ≡ others
  pub lane : IsLaneOf s 1 u (record l { bytes = []; waiting = l.waiting - 1 })
  pub some : 0 < l.waiting

message-of : (s : Shape) (l : Gathered) (t u : Told) (new : List ℕ) (fr : Frame) (others : List Frame) → IsGood s → Whole s 1 (frames_in s (l.bytes ++ t.transit)) new new l u fr others → FirstMessage s l t u new
message-of s l t u new (UnitFrame m) others good h =
    let stands : new ≡ spelled (UnitFrame m) = h.front in
    record {
      m = m;
      others = others;
      list = h.list;
      is = ap (front_message s) (stands ∙ ap (λ xs. unit_head m.head (length m.content) ++ xs) (sym (append-nil m.content))) ∙ message-back s m [] good h.frame;
      good = h.frame;
      front = stands;
      behind = h.behind;
      lane = h.lane;
      some = h.some;
    }
message-of s l t u new (AckFrame count) others good h = absurd (omega (arith, h.kind))
message-of s l t u new (GroupFrame ms) others good h = absurd (omega (arith, h.kind))

pub first-message : (s : Shape) (l : Gathered) (t u : Told) (new : List ℕ) (f g : ℕ) → IsGood s → IsLaneOf s 1 t l → FrameTaken s l.bytes new false t u f g → 0 < length new → FirstMessage s l t u new
first-message s l t u new f g good h taken some =
    let whole = whole-frame s 1 new l t u f g good h taken some in
    message-of s l t u new whole.f whole.others good whole.is

pub receive-some : (s : Shape) (head : UnitHead) (content : List ℕ) (l : Gathered) (t u : Told) (new : List ℕ) (f g : ℕ) → (first : FirstMessage s l t u new) → FrameTaken s l.bytes new false t u f g
    → head ≡ first.m.head → content ≡ first.m.content
    → MessageTaken s (Ok (Some head)) content (seen_lane s t f l) (seen_lane s u g (record l { bytes = []; waiting = l.waiting - 1 }))
receive-some s head content l t u new f g first h e c = record {
  groups = ap (map messages_of) first.behind ∙ sym (ap (λ fs. drop 1 (map messages_of fs)) first.list);
  answer = ap Some e ∙ sym (ap (λ fs. head_of_first (first_group (map messages_of fs))) first.list);
  none = λ no. absurd (none-some _ (sym no));
  content_is = c ∙ sym (ap (λ fs. content_of_first (first_group (map messages_of fs))) first.list);
  in_range = (subst (λ (k : UnitHead). k.unit.0 < units s) (sym e) first.good.unit_in, ap length c ∙ first.good.whole ∙ ap (λ (k : UnitHead). size s k.unit.0) (sym e));
  gathered = refl;
  kept = tt;
  made = made-seen s l.bytes new false t u f g h;
}

-- what is read of the first message
pub record Readable (s : Shape) (room : ℕ) (new : List ℕ) (m : Message) : Type 0 where
  pub long : 24 ≤ length new
  pub fits : length new ≤ 24 + room
  pub known : read_head s (take 24 new) ≡ Ok (UnitHeadOf (front_head new))
  pub head : front_head new ≡ m.head
  pub content : drop 24 new ≡ m.content
  pub size_is : length new - 24 ≡ length m.content

pub readable : (s : Shape) (room : ℕ) (l : Gathered) (t u : Told) (new : List ℕ) → IsGood s → max_size s ≤ room → (first : FirstMessage s l t u new) → Readable s room new first.m
readable s room l t u new good le first =
    let m = first.m in
    let long : length new ≡ 24 + length m.content = ap length first.front ∙ length-append (unit_head m.head (length m.content)) m.content ∙ ap (λ k. k + length m.content) (length-unit-head m.head (length m.content)) in
    let front : take 24 new ≡ unit_head m.head (length m.content) = ap (take 24) first.front ∙ take_at (unit_head m.head (length m.content)) m.content 24 (length-unit-head m.head (length m.content)) in
    let head : front_head new ≡ m.head = ap (λ (x : Message). x.head) first.is in
    record {
      long = omega (arith, long);
      fits = omega (arith, long, first.good.whole, (has_greatest_size s good).most m.head.unit.0 first.good.unit_in);
      known = ap (read_head s) (front ∙ ap (unit_head m.head) first.good.whole) ∙ head-accepted s (UnitHeadOf m.head) good (first.good.unit_in, first.good.made, first.good.version_fits, first.good.at_fits) ∙ ap (λ k. Ok (UnitHeadOf k)) (sym head);
      head = head;
      content = ap (drop 24) first.front ∙ drop_at (unit_head m.head (length m.content)) m.content 24 (length-unit-head m.head (length m.content));
      size_is = omega (arith, long);
    }

-- the lane behind it
pub taken-off : (l now : Gathered) → now.room ≡ l.room → now.waiting ≡ l.waiting → record now { bytes = []; waiting = now.waiting - 1 } ≡ record l { bytes = []; waiting = l.waiting - 1 }
taken-off l now r w = λ i. record { bytes = []; room = r i; waiting = w i - 1 }

pub content-moved : (s : Shape) (l : Gathered) (t u : Told) (new into : List ℕ) (room : ℕ) → (first : FirstMessage s l t u new) → Readable s room new first.m → take (length new - 24) into ≡ drop 24 new
    → take (length (content_of_first (first_group (map messages_of (frames_in s (l.bytes ++ t.transit)))))) into ≡ first.m.content
content-moved s l t u new into room first r e =
    ap (λ fs. take (length (content_of_first (first_group (map messages_of fs)))) into) first.list ∙ ap (λ k. take k into) (sym r.size_is) ∙ e ∙ r.content
