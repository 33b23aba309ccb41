-- The wire back after an acknowledgement was put, and after one was taken off.
use Rattle.std.proofs.Common.{◌≡◌, ℕ, ◌+◌, ◌-◌, ◌*◌, ◌<◌, ◌≤◌, List, [], ◌∷◌, ◌++◌, length, drop, map, sym, ap, ◌∙◌, arith, refl, subst, Bool, true, false, Option, Some, None, Result, Ok, Err, length-append}
use lib.Count.{ones}
use Rattle.std.specs.Prelude.{if◌then◌else◌}
use Rattle.std.proofs.lemmas.List.{append-nil, map-append}
use Rattle.std.proofs.lemmas.Option.{none-some}
use Rattle.xv_base.specs.declared.unit.Failed.{Failed}
use Rattle.xv_base.specs.Layout.{IsGood}
use Rattle.xv_frame.specs.Fields.{word_at}
use Rattle.xv_frame.specs.Frame.{Frame, UnitFrame, AckFrame, GroupFrame, Each, IsFrame, all_spelled, ack}
use Rattle.xv_frame.specs.Reading.{frames_in}
use Rattle.xv_frame.proofs.ReadHeads.{length-ack, count-back}
use Rattle.xv_frame.proofs.Accepted.{length-spelled}
use Rattle.xv_wire.specs.Wire.{PutBytes}
use Rattle.xv_wire.specs.Told.{Told, CallMade}
use Rattle.xv_streams.specs.Taking.{TakesMade}
use Rattle.xv_streams.specs.Lanes.{front_size, wanted, FrameTaken}
use Rattle.xv_streams.specs.Streamed.{format_of, frame_room}
use Rattle.xv_streams.specs.Returned.{returned, any_shape, count_of, back_lane, IsBack, AckPut, AckTaken, first_count, ack_left, AreCarried}
use Rattle.xv_streams.proofs.FrameTakes.{Fills, fills-move, head-failed, head-none}
use Rattle.xv_streams.proofs.LaneSteps.{frames-more, lane-kept, whole-frame, Whole}
use Rattle.xv_streams.proofs.PutSteps.{IsPut, put-lane, few-frames}

pub good-any : IsGood any_shape
unfolding ones
good-any = record { no_fault = refl; few_disks = omega arith }

pub record IsAckPut (n w : ℕ) (failed : Bool) (bytes : List ℕ) (t u : Told) (a b : ℕ) : Type 0 where
  pub back : IsBack bytes u (if failed then w else w + 1)
  pub seen : AckPut n failed (returned bytes t a) (returned bytes u b)

pub ack-put : (n w : ℕ) (failed : Bool) (bytes : List ℕ) (t u : Told) (a b : ℕ) → IsBack bytes t w → 1 ≤ n → n ≤ 1024 → CallMade (PutBytes (ack n)) failed t u a b → IsAckPut n w failed bytes t u a b
ack-put n w true bytes t u a b h some few made =
    let is : IsPut any_shape 0 (AckFrame n) true t u a b (back_lane bytes w) (back_lane bytes w) =
    put-lane any_shape 0 (AckFrame n) true t u a b (back_lane bytes w) (back_lane bytes w) good-any h (some, few) refl (omega (arith, length-ack n)) made refl in
    let same : bytes ++ u.transit ≡ bytes ++ t.transit = ap (λ (x : Told). bytes ++ x.transit) made.told in
    record { back = is.lane; seen = record { counts = ap (λ x. map count_of (frames_in any_shape x)) same; gathered = refl; made = made } }
ack-put n w false bytes t u a b h some few made =
    let is : IsPut any_shape 0 (AckFrame n) false t u a b (back_lane bytes w) (back_lane bytes (w + 1)) =
    put-lane any_shape 0 (AckFrame n) false t u a b (back_lane bytes w) (back_lane bytes (w + 1)) good-any h (some, few) refl (omega (arith, length-ack n)) made refl in
    let transit : u.transit ≡ t.transit ++ ack n = ap (λ (x : Told). x.transit) made.told in
    let frames = frames-more any_shape 0 t u (back_lane bytes w) (AckFrame n) good-any h (some, few) transit in
    record {
      back = is.lane;
      seen = record { counts = ap (map count_of) frames ∙ map-append count_of (frames_in any_shape (bytes ++ t.transit)) (AckFrame n ∷ []); gathered = refl; made = made };
    }

-- the takes by what is left in transit
made-left : (old new : List ℕ) (have count : ℕ) (failed : Bool) (t u : Told) (f g : ℕ) → Fills old new have count 24 failed t u f g → TakesMade (length t.transit - length u.transit) failed (ack_left (length old)) t u f g
made-left old new have count failed t u f g h =
    let moved = fills-move old new have count 24 failed t u f g h in
    let n : count - have ≡ length t.transit - length u.transit = omega (arith, ap length moved, length-append new u.transit, length-append old t.transit, h.grown, h.old_long, h.new_long) in
    let w : 24 - have ≡ 24 - length old = omega (arith, h.old_long) in
    subst (λ k. TakesMade k failed (24 - length old) t u f g) n (subst (λ k. TakesMade (count - have) failed k t u f g) w h.made)

pub record IsAckTaken (r : Result (Option ℕ) Failed) (w : ℕ) (old new : List ℕ) (t u : Told) (f g : ℕ) : Type 0 where
  pub back : IsBack new u w
  pub seen : AckTaken r (returned old t f) (returned new u g)

pub ack-failed : (e : Failed) (old new : List ℕ) (have count w : ℕ) (t u : Told) (f g : ℕ) → IsBack old t w → have ≤ 24 → Fills old new have count 24 true t u f g → IsAckTaken (Err e) w old new t u f g
ack-failed e old new have count w t u f g h le fills =
    let taken : FrameTaken any_shape old new true t u f g = head-failed any_shape (frame_room any_shape 0) old new have count 24 t u f g h.lane fills (omega arith) in
    record {
      back = lane-kept any_shape 0 t u (back_lane old w) new true f g h taken;
      seen = record {
        counts = ap (λ b. map count_of (frames_in any_shape b)) taken.moved;
        answer = tt;
        none = tt;
        in_range = tt;
        gathered = tt;
        kept = taken.moved;
        made = made-left old new have count true t u f g fills;
      };
    }

empty-list : (b : List ℕ) → length b ≡ 0 → b ≡ []
empty-list [] e = refl
empty-list (x ∷ b) e = absurd (omega arith)

pub ack-none : (old new : List ℕ) (have count w : ℕ) (t u : Told) (f g : ℕ) → IsBack old t w → have ≤ 24 → Fills old new have count 24 false t u f g → count < 24 → IsAckTaken (Ok None) w old new t u f g
ack-none old new have count w t u f g h le fills few =
    let taken : FrameTaken any_shape old new false t u f g = head-none any_shape (frame_room any_shape 0) old new have count 24 t u f g h.lane fills (omega arith) few in
    by (frames_in any_shape (old ++ t.transit)) refl taken
  where
    by : (fs : List Frame) → frames_in any_shape (old ++ t.transit) ≡ fs → FrameTaken any_shape old new false t u f g → IsAckTaken (Ok None) w old new t u f g
    by [] e taken = record {
      back = lane-kept any_shape 0 t u (back_lane old w) new false f g h taken;
      seen = record {
        counts = ap (λ b. map count_of (frames_in any_shape b)) taken.moved ∙ ap (map count_of) e ∙ sym (ap (λ fs. drop 1 (map count_of fs)) e);
        answer = sym (ap (λ fs. first_count (map count_of fs)) e);
        none = λ no. ap (map count_of) e;
        in_range = tt;
        gathered = empty-list new (taken.whole refl ∙ ap front_size e);
        kept = tt;
        made = made-left old new have count false t u f g fills;
      };
    }
    by (x ∷ fs) e taken = absurd (omega (arith, taken.whole refl, ap front_size e, length-spelled x, fills.new_long))

-- a whole acknowledgement
whole-ack : (old new : List ℕ) (have count w : ℕ) (t u : Told) (f g : ℕ) → IsBack old t w → have ≤ 24 → Fills old new have count 24 false t u f g → 24 ≤ count → (fs : List Frame) → frames_in any_shape (old ++ t.transit) ≡ fs
    → FrameTaken any_shape old new false t u f g
whole-ack old new have count w t u f g h le fills many [] e =
    let none : 0 ≡ length old + length t.transit = ap (λ fs. length (all_spelled fs)) (sym e) ∙ ap length h.lane.stand ∙ length-append old t.transit in
    absurd (omega (arith, none, fills.there, fills.old_long, fills.grown))
whole-ack old new have count w t u f g h le fills many (AckFrame n ∷ fs) e =
    let size : front_size (frames_in any_shape (old ++ t.transit)) ≡ 24 = ap front_size e ∙ length-ack n in
    record {
      moved = fills-move old new have count 24 false t u f g fills;
      grown = omega (arith, fills.grown, fills.old_long, fills.new_long);
      part = omega (arith, size, fills.most, fills.new_long);
      whole = λ _. omega (arith, size, fills.most, fills.new_long);
      made =
          let a : count - have ≡ length new - length old = omega (arith, fills.old_long, fills.new_long) in
          let b : 24 - have ≡ wanted (frames_in any_shape (old ++ t.transit)) (length old) = (let c : 24 - have ≡ 24 - length old = omega (arith, fills.old_long) in c) ∙ ap (λ k. k - length old) (sym (length-ack n)) ∙ sym (ap (λ fs. wanted fs (length old)) e) in
          subst (λ k. TakesMade k false (wanted (frames_in any_shape (old ++ t.transit)) (length old)) t u f g) a (subst (λ k. TakesMade (count - have) false k t u f g) b fills.made);
    }
whole-ack old new have count w t u f g h le fills many (UnitFrame m ∷ fs) e =
    let kinds : Each (λ x. format_of x ≡ 0) (UnitFrame m ∷ fs) = subst (Each (λ x. format_of x ≡ 0)) e h.kinds in
    absurd (omega (arith, kinds.0))
whole-ack old new have count w t u f g h le fills many (GroupFrame ms ∷ fs) e =
    let kinds : Each (λ x. format_of x ≡ 0) (GroupFrame ms ∷ fs) = subst (Each (λ x. format_of x ≡ 0)) e h.kinds in
    absurd (omega (arith, kinds.0))

pub ack-some : (old new : List ℕ) (have count w : ℕ) (t u : Told) (f g : ℕ) → IsBack old t w → have ≤ 24 → Fills old new have count 24 false t u f g → 24 ≤ count
    → IsAckTaken (Ok (Some (word_at new 8))) (w - 1) old [] t u f g × (0 < w)
ack-some old new have count w t u f g h le fills many =
    let taken = whole-ack old new have count w t u f g h le fills many (frames_in any_shape (old ++ t.transit)) refl in
    let whole = whole-frame any_shape 0 new (back_lane old w) t u f g good-any h taken (omega (arith, fills.new_long)) in
    by whole.f whole.others whole.is
  where
    by : (fr : Frame) (others : List Frame) → Whole any_shape 0 (frames_in any_shape (old ++ t.transit)) new new (back_lane old w) u fr others → IsAckTaken (Ok (Some (word_at new 8))) (w - 1) old [] t u f g × (0 < w)
    by (UnitFrame m) others h' = absurd (omega (arith, h'.kind))
    by (GroupFrame ms) others h' = absurd (omega (arith, h'.kind))
    by (AckFrame n) others h' =
        let read : word_at new 8 ≡ n = ap (λ b. word_at b 8) (h'.front ∙ sym (append-nil (ack n))) ∙ count-back n [] (omega (arith, h'.frame.1)) in (
          record {
            back = h'.lane;
            seen = record {
              counts = ap (map count_of) h'.behind ∙ sym (ap (λ fs. drop 1 (map count_of fs)) h'.list);
              answer = ap Some read ∙ sym (ap (λ fs. first_count (map count_of fs)) h'.list);
              none = λ no. absurd (none-some _ (sym no));
              in_range = (subst (λ k. 1 ≤ k) (sym read) h'.frame.0, subst (λ k. k ≤ 1024) (sym read) h'.frame.1);
              gathered = refl;
              kept = tt;
              made = made-left old new have count false t u f g fills;
            };
          },
          h'.some,
        )

pub few-acks : (bytes : List ℕ) (t : Told) (w : ℕ) → IsBack bytes t w → w * 24 ≤ length bytes + length t.transit
few-acks bytes t w h = few-frames any_shape 0 t (back_lane bytes w) h

-- the bytes are the spellings of the counts' acknowledgements
record AreAcks (fs : List Frame) : Type 0 where
  same : map AckFrame (map count_of fs) ≡ fs
  counts : Each (λ n. (1 ≤ n) × (n ≤ 1024)) (map count_of fs)
  bytes : length (all_spelled fs) ≡ 24 * length (map count_of fs)

are-acks : (fs : List Frame) → Each (IsFrame any_shape) fs → Each (λ x. format_of x ≡ 0) fs → AreAcks fs
are-acks [] h k = record { same = refl; counts = tt; bytes = omega arith }
are-acks (AckFrame n ∷ fs) h k =
    let rest = are-acks fs h.1 k.1 in
    record {
      same = ap (λ xs. AckFrame n ∷ xs) rest.same;
      counts = (h.0, rest.counts);
      bytes = omega (arith, length-append (ack n) (all_spelled fs), length-ack n, rest.bytes);
    }
are-acks (UnitFrame m ∷ fs) h k = absurd (omega (arith, k.0))
are-acks (GroupFrame ms ∷ fs) h k = absurd (omega (arith, k.0))

pub back-carried : (bytes : List ℕ) (t : Told) (w a : ℕ) → IsBack bytes t w → AreCarried (returned bytes t a)
back-carried bytes t w a h =
    let fs = frames_in any_shape (bytes ++ t.transit) in
    let all = are-acks fs h.lane.each h.kinds in
    record {
      stand = sym h.lane.stand ∙ ap all_spelled (sym all.same);
      counts = all.counts;
      bytes = sym (length-append bytes t.transit) ∙ ap length (sym h.lane.stand) ∙ all.bytes;
    }
