-- A put on one of some lanes.
use Rattle.std.proofs.Common.{◌≡◌, ℕ, ◌+◌, ◌*◌, ◌<◌, ◌≤◌, List, [], ◌∷◌, ◌++◌, length, get_or, set, take, drop, map, sym, ap, ◌∙◌, arith, refl, subst, Bool, true, false, eqb, length-append}
use Rattle.std.specs.Prelude.{if◌then◌else◌}
use Rattle.std.proofs.lemmas.List.{take_at, map-append, get_or-set_same}
use Rattle.xv_base.specs.Units.{Shape, units, size, max_size}
use Rattle.xv_base.specs.Layout.{IsGood}
use Rattle.xv_base.specs.declared.operation.UnitHead.{UnitHead}
use Rattle.xv_base.proofs.Partition.{has_greatest_size, partitions_bytes}
use Rattle.xv_frame.proofs.ReadHeads.{length-unit-head}
use Rattle.xv_frame.specs.Frame.{message, Frame, UnitFrame, Each, IsFrame, spelled, all_spelled, unit_head}
use Rattle.xv_frame.specs.Reading.{frames_in}
use Rattle.xv_wire.specs.Wire.{PutBytes}
use Rattle.xv_wire.specs.Told.{Told, CallMade}
use Rattle.xv_streams.specs.Gathered.{Gathered}
use Rattle.xv_streams.specs.Lanes.{front_size}
use Rattle.xv_streams.specs.Streamed.{messages_of, format_of, frame_room, IsLaneOf, AreLanesOf, seen_lane, seen_lanes, no_lane, FramePut}
use Rattle.xv_streams.proofs.Zips.{as-many, seen-at, lane-at, lanes-set, seen-set, length-seen}
use Rattle.xv_streams.proofs.LaneSteps.{frames-more, lane-more, many-bytes}

pub record IsPut (s : Shape) (format : ℕ) (fr : Frame) (failed : Bool) (t u : Told) (a b : ℕ) (l m : Gathered) : Type 0 where
  pub lane : IsLaneOf s format u m
  pub seen : FramePut fr failed (seen_lane s t a l) (seen_lane s u b m)

pub put-lane : (s : Shape) (format : ℕ) (fr : Frame) (failed : Bool) (t u : Told) (a b : ℕ) (l m : Gathered) → IsGood s → IsLaneOf s format t l → IsFrame s fr → format_of fr ≡ format → length (spelled fr) ≤ l.room
    → CallMade (PutBytes (spelled fr)) failed t u a b → m ≡ record l { waiting = if failed then l.waiting else l.waiting + 1 } → IsPut s format fr failed t u a b l m
put-lane s format fr true t u a b l m good h i kind fits made e =
    let transit : u.transit ≡ t.transit = ap (λ (x : Told). x.transit) made.told in
    let same : l.bytes ++ u.transit ≡ l.bytes ++ t.transit = ap (λ xs. l.bytes ++ xs) transit in
    let kept : IsLaneOf s format u l = record {
      lane = record {
        stand = subst (λ x. all_spelled (frames_in s x) ≡ x) (sym same) h.lane.stand;
        each = subst (λ x. Each (IsFrame s) (frames_in s x)) (sym same) h.lane.each;
        part = subst (λ x. length l.bytes ≤ front_size (frames_in s x)) (sym same) h.lane.part;
        fit = subst (λ x. Each (λ y. length (spelled y) ≤ l.room) (frames_in s x)) (sym same) h.lane.fit;
      };
      kinds = subst (λ x. Each (λ y. format_of y ≡ format) (frames_in s x)) (sym same) h.kinds;
      counted = subst (λ x. l.waiting ≡ length (frames_in s x)) (sym same) h.counted;
      roomy = h.roomy;
    } in
    subst (λ (n : Gathered). IsPut s format fr true t u a b l n) (sym e)
    (record { lane = kept; seen = record { groups = ap (λ x. map messages_of (frames_in s x)) same; gathered = refl; made = made } })
put-lane s format fr false t u a b l m good h i kind fits made e =
    let transit : u.transit ≡ t.transit ++ spelled fr = ap (λ (x : Told). x.transit) made.told in
    let frames = frames-more s format t u l fr good h i transit in
    subst (λ (n : Gathered). IsPut s format fr false t u a b l n) (sym e)
    (record {
      lane = lane-more s format t u l fr good h i kind fits transit;
      seen = record { groups = ap (map messages_of) frames ∙ map-append messages_of (frames_in s (l.bytes ++ t.transit)) (fr ∷ []); gathered = refl; made = made };
    })

-- the counts of a lane stay small
pub few-frames : (s : Shape) (format : ℕ) (t : Told) (l : Gathered) → IsLaneOf s format t l → l.waiting * 24 ≤ length l.bytes + length t.transit
few-frames s format t l h = omega (arith, h.counted, many-bytes (frames_in s (l.bytes ++ t.transit)), ap length h.lane.stand, length-append l.bytes t.transit)

module _ {A : Type 0} (t : A → Told) (f : A → ℕ) (s : Shape) (format : ℕ) where
  -- the lane at a place, of which wire and state are known
  pub record Here (ws : List A) (ls : List Gathered) (k : ℕ) (w : A) (l : Gathered) : Type 0 where
    pub there : k < length ls
    pub wired : k < length ws
    pub lane : IsLaneOf s format (t w) l
    pub seen : get_or (seen_lanes t f s ws ls) k no_lane ≡ seen_lane s (t w) (f w) l

  pub here : (ws : List A) (ls : List Gathered) (k : ℕ) (w : A) (l : Gathered) → AreLanesOf t s format ws ls → k < length (seen_lanes t f s ws ls) → w ≡ get_or ws k w → l ≡ get_or ls k l → Here ws ls k w l
  here ws ls k w l h b p q =
      let there : k < length ls = omega (arith, length-seen t f s format ws ls h) in
      record {
        there = there;
        wired = omega (arith, as-many t f s format ws ls h);
        lane = subst (λ (x : A). IsLaneOf s format (t x) l) (sym p) (subst (λ (y : Gathered). IsLaneOf s format (t (get_or ws k w)) y) (sym q) (lane-at t f s format ws ls k w l h there));
        seen = seen-at t f s format ws ls k w l h there ∙ (λ i. seen_lane s (t (sym p i)) (f (sym p i)) (sym q i));
      }

  -- all others stay
  pub record Changed (ws : List A) (ls : List Gathered) (k : ℕ) (w : A) (l : Gathered) : Type 0 where
    pub lanes : AreLanesOf t s format (set ws k w) (set ls k l)
    pub seen : get_or (seen_lanes t f s (set ws k w) (set ls k l)) k no_lane ≡ seen_lane s (t w) (f w) l
    pub only : seen_lanes t f s (set ws k w) (set ls k l) ≡ set (seen_lanes t f s ws ls) k (get_or (seen_lanes t f s (set ws k w) (set ls k l)) k no_lane)

  pub changed : (ws : List A) (ls : List Gathered) (k : ℕ) (w : A) (l : Gathered) → AreLanesOf t s format ws ls → k < length ls → IsLaneOf s format (t w) l → Changed ws ls k w l
  changed ws ls k w l h b i =
      let all = seen-set t f s format ws ls k w l h in
      let at : get_or (seen_lanes t f s (set ws k w) (set ls k l)) k no_lane ≡ seen_lane s (t w) (f w) l =
      ap (λ xs. get_or xs k no_lane) all ∙ get_or-set_same (seen_lanes t f s ws ls) k (seen_lane s (t w) (f w) l) no_lane (omega (arith, length-seen t f s format ws ls h)) in
      record {
        lanes = lanes-set t f s format ws ls k w l h i;
        seen = at;
        only = all ∙ ap (λ x. set (seen_lanes t f s ws ls) k x) (sym at);
      }

-- the greatest frame of format 1
pub unit-room : (s : Shape) (format : ℕ) (u : ℕ) → IsGood s → format ≡ 1 → u < units s → 24 + size s u ≤ frame_room s format
unit-room s format u g e h = subst (λ k. 24 + size s u ≤ frame_room s k) (sym e) (omega (arith, (has_greatest_size s g).most u h))

-- the frame at the start of the buffer
pub framed : (spell old into held items : List ℕ) (count len : ℕ) → into ≡ spell ++ drop count old → length spell ≡ count → held ≡ take len (into ++ drop (length into) items) → length into ≡ len → take count held ≡ spell
framed spell old into held items count len e l h n =
    let whole : held ≡ into = h ∙ take_at into (drop (length into) items) len n in
    ap (take count) (whole ∙ e) ∙ take_at spell (drop count old) count l

pub length-unit : (h : UnitHead) (content : List ℕ) → length (spelled (UnitFrame (message h content))) ≡ 24 + length content
length-unit h content = length-append (unit_head h (length content)) content ∙ ap (λ k. k + length content) (length-unit-head h (length content))

-- the greatest size of a unit is that of some unit
greatest : (s : Shape) → IsGood s → max_size s ≤ 4096
greatest s g =
    let had = (has_greatest_size s g).had in
    omega (arith, had.2, (partitions_bytes s g).at_most had.0 had.1)

front-short : (s : Shape) (room : ℕ) (fs : List Frame) (n : ℕ) → Each (λ x. length (spelled x) ≤ room) fs → n ≤ front_size fs → n ≤ room
front-short s room [] n h b = omega arith
front-short s room (x ∷ fs) n h b = omega (arith, h.0)

room-small : (s : Shape) (format : ℕ) → IsGood s → (b : Bool) → (if b then 24 + max_size s else 24 + 16 * (20 + max_size s)) ≤ 65880
room-small s format g true = omega (arith, greatest s g)
room-small s format g false = omega (arith, greatest s g)

-- what is gathered is not long
pub short-lane : (s : Shape) (format : ℕ) (t : Told) (l : Gathered) → IsGood s → IsLaneOf s format t l → length l.bytes ≤ 65880
short-lane s format t l g h = omega (arith, front-short s l.room (frames_in s (l.bytes ++ t.transit)) (length l.bytes) h.lane.fit h.lane.part, h.roomy, room-small s format g (eqb format 1))
