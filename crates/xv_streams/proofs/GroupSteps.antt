-- A group taken off a lane of groups.
use Rattle.std.proofs.Common.{◌≡◌, ℕ, ◌-◌, ◌<◌, List, [], ◌∷◌, ◌++◌, length, drop, map, sym, ap, ◌∙◌, arith, refl, subst, false, Option, Some, None, Ok}
use Rattle.std.proofs.lemmas.List.{append-nil}
use Rattle.xv_base.specs.Units.{Shape}
use Rattle.xv_base.specs.Layout.{IsGood}
use Rattle.xv_frame.specs.Fields.{short_at}
use Rattle.xv_frame.specs.Frame.{Message, Frame, UnitFrame, AckFrame, GroupFrame, Each, IsMessage, IsGroup, group_head, entries, spelled}
use Rattle.xv_frame.specs.Reading.{frames_in, front_group}
use Rattle.xv_frame.specs.declared.groups.GroupFault.{GroupFault}
use Rattle.xv_frame.specs.Faults.{group_fault, count_or}
use Rattle.xv_frame.proofs.Accepted.{group-back}
use Rattle.xv_frame.proofs.Faultless.{group-accepted}
use Rattle.xv_wire.specs.Told.{Told}
use Rattle.xv_streams.specs.Gathered.{Gathered}
use Rattle.xv_streams.specs.Lanes.{FrameTaken}
use Rattle.xv_streams.specs.Streamed.{messages_of, IsLaneOf, seen_lane, GroupTaken, first_group}
use Rattle.xv_streams.proofs.LaneSteps.{Whole, whole-frame}
use Rattle.xv_streams.proofs.MessageSteps.{made-seen}

-- the first frame is a group
pub record FirstGroup (s : Shape) (l : Gathered) (t u : Told) (new : List ℕ) : Type 0 where
  pub ms : List Message
  pub others : List Frame
  pub list : frames_in s (l.bytes ++ t.transit) ≡ GroupFrame ms ∷ others
  pub is : front_group s new ≡ ms
  pub sound : group_fault s new ≡ None
  pub good : IsGroup s ms
  pub behind : frames_in s ([] ++ u.transit) ≡ others
  pub lane : IsLaneOf s 2 u (record l { bytes = []; waiting = l.waiting - 1 })
  pub some : 0 < l.waiting

no-fault : (f : Option GroupFault) (n m : ℕ) → count_or f n ≡ Ok m → f ≡ None
no-fault None n m e = refl
no-fault (Some f) n m e = absurd cc

group-of : (s : Shape) (l : Gathered) (t u : Told) (new : List ℕ) (fr : Frame) (others : List Frame) → IsGood s → Whole s 2 (frames_in s (l.bytes ++ t.transit)) new new l u fr others → FirstGroup s l t u new
group-of s l t u new (GroupFrame ms) others good h = record {
  ms = ms;
  others = others;
  list = h.list;
  is = ap (front_group s) (h.front ∙ ap (λ xs. group_head (length ms) (length (entries ms)) ++ xs) (sym (append-nil (entries ms)))) ∙ group-back s ms [] good h.frame;
  sound = ap (group_fault s) h.front ∙ no-fault (group_fault s (spelled (GroupFrame ms))) (short_at (spelled (GroupFrame ms)) 2) (length ms) (group-accepted s ms good h.frame);
  good = h.frame;
  behind = h.behind;
  lane = h.lane;
  some = h.some;
}
group-of s l t u new (AckFrame count) others good h = absurd (omega (arith, h.kind))
group-of s l t u new (UnitFrame m) others good h = absurd (omega (arith, h.kind))

pub first-of : (s : Shape) (l : Gathered) (t u : Told) (new : List ℕ) (f g : ℕ) → IsGood s → IsLaneOf s 2 t l → FrameTaken s l.bytes new false t u f g → 0 < length new → FirstGroup s l t u new
first-of s l t u new f g good h taken some =
    let whole = whole-frame s 2 new l t u f g good h taken some in
    group-of s l t u new whole.f whole.others good whole.is

pub seen-first : (s : Shape) (l : Gathered) (t u : Told) (new : List ℕ) → (first : FirstGroup s l t u new) → first_group (map messages_of (frames_in s (l.bytes ++ t.transit))) ≡ first.ms
seen-first s l t u new first = ap (λ fs. first_group (map messages_of fs)) first.list

pub group-some : (s : Shape) (n : ℕ) (l : Gathered) (t u : Told) (new : List ℕ) (f g : ℕ) → (first : FirstGroup s l t u new) → FrameTaken s l.bytes new false t u f g → n ≡ length first.ms
    → GroupTaken s (Ok n) (seen_lane s t f l) (seen_lane s u g (record l { bytes = []; waiting = l.waiting - 1 }))
group-some s n l t u new f g first h many =
    let seen = seen-first s l t u new first in
    record {
      groups = ap (map messages_of) first.behind ∙ sym (ap (λ fs. drop 1 (map messages_of fs)) first.list);
      answer = many ∙ sym (ap length seen);
      none = λ e. absurd (omega (arith, many, e, first.good.some));
      few = omega (arith, many, first.good.few);
      each = subst (Each (IsMessage s)) (sym seen) first.good.each;
      gathered = refl;
      kept = tt;
      made = made-seen s l.bytes new false t u f g h;
    }
