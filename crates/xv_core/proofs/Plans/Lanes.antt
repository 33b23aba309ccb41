-- The pieces on a stream and on the way back are the frames there; so a put adds its frame, and a take takes the first off.
use Rattle.std.specs.Prelude.{◌≡◌, ◌<◌, ℕ, zero, suc, ◌+◌, ◌-◌, ◌*◌, Bool, false, List, [], ◌∷◌, ◌++◌, length, map, drop, get_or, IfSome, if◌then◌else◌}
use Rattle.std.specs.List.{sum_by}
use Rattle.std.proofs.Common.{arith, refl, ap, sym, ◌∙◌, subst}
use Rattle.std.proofs.lemmas.List.{map_push, drop-map}
use Rattle.std.proofs.lemmas.List.Sums.{sum_by-cons}
use Rattle.xv_base.specs.Units.{Shape}
use Rattle.xv_base.specs.Layout.{IsGood}
use Rattle.xv_frame.specs.Frame.{Message, Frame, AckFrame, Each, spelled}
use Rattle.xv_frame.specs.Reading.{frames_in}
use Rattle.xv_frame.proofs.Accepted.{length-spelled, list-back}
use Rattle.xv_frame.proofs.ReadHeads.{length-ack}
use Rattle.xv_wire.specs.Wire.{Counted}
use Rattle.xv_wire.specs.Lengths.{total, AreWide}
use Rattle.xv_streams.specs.Taking.{first_left}
use Rattle.xv_streams.specs.Lanes.{wanted}
use Rattle.xv_streams.specs.Streamed.{LaneSeen, no_lane}
use Rattle.xv_streams.specs.Carried.{frame_of, frames_of, IsCarried}
use Rattle.xv_streams.specs.Fronts.{PutsGroup, TakesFront}
use Rattle.xv_streams.specs.Returned.{Returned, AckPut, AreCarried, TakesFirst}
use Rattle.xv_core.specs.Plans.{IsPieces, frame_length}
use Rattle.xv_core.specs.Rising.{BothTold}
use Rattle.xv_core.proofs.Plans.Takes.{TakenPiece, takes-piece, PutPiece}

-- the lengths of the frames on a stream
abbrev pub lengths : ℕ → List (List Message) → List ℕ
lengths format groups = map (frame_length format) groups

pub wide-lengths : (format : ℕ) (groups : List (List Message)) → AreWide (lengths format groups)
wide-lengths format [] = tt
wide-lengths format (g ∷ gs) = (length-spelled (frame_of format g), wide-lengths format gs)

total-lengths : (format : ℕ) (groups : List (List Message)) → sum_by (λ f. length (spelled f)) (frames_of format groups) ≡ total (lengths format groups)
total-lengths format [] = refl
total-lengths format (g ∷ gs) =
    sum_by-cons (λ (f : Frame). length (spelled f)) (frame_of format g) (frames_of format gs)
    ∙ ap (λ (n : ℕ). length (spelled (frame_of format g)) + n) (total-lengths format gs)

some-lengths : (format : ℕ) (groups : List (List Message)) → 0 < length groups → 0 < length (lengths format groups)
some-lengths format [] h = h
some-lengths format (g ∷ gs) h = omega arith

wants-first : (format have : ℕ) (groups : List (List Message)) → have ≡ 0 → 0 < length (lengths format groups) → wanted (frames_of format groups) have ≡ first_left (lengths format groups)
wants-first format have [] e h = absurd (omega arith)
wants-first format have (g ∷ gs) e h = omega arith

-- what was taken is the first
takes-first : (ps : List ℕ) (was now : ℕ) → was ≡ total ps → now ≡ total (drop 1 ps) → was - now ≡ first_left ps
takes-first [] was now p q = omega arith
takes-first (p ∷ ps) was now e q = omega arith

-- all that is carried is in transit, where nothing is gathered
pub in-transit : (s : Shape) (format : ℕ) (l : LaneSeen) → IsCarried s format l → l.gathered ≡ [] → length l.wire.transit ≡ total (lengths format l.groups)
in-transit s format l h none = omega (arith, h.bytes, ap length none, total-lengths format l.groups)

if-not : {A : Type 0} (failed : Bool) (x y z : A) → z ≡ (if failed then x else y) → failed ≡ false → z ≡ y
if-not failed x y z e n = e ∙ ap (λ (b : Bool). if b then x else y) n

pub lane-takes : (s : Shape) (format : ℕ) (failed : Bool) (old new : LaneSeen) → IsGood s → IsCarried s format old → IsCarried s format new → TakesFront s failed old new
    → old.gathered ≡ [] → (failed ≡ false → 0 < length old.groups) → IfSome old.wire.counted (IsPieces (lengths format old.groups))
    → BothTold (TakenPiece (lengths format old.groups) failed) old.wire.counted new.wire.counted
lane-takes s format failed old new good was now h none some is =
    takes-piece (lengths format old.groups) failed _ _ old.wire new.wire old.faults new.faults h.made (wide-lengths format old.groups) (in-transit s format old was none)
    (λ n. some-lengths format old.groups (some n))
    (λ there. ap (λ (fs : List Frame). wanted fs (length old.gathered)) frames ∙ wants-first format (length old.gathered) old.groups (ap length none) there)
    (λ n. takes-first (lengths format old.groups) (length old.wire.transit) (length new.wire.transit) (in-transit s format old was none)
    (in-transit s format new now (h.gathered n)
    ∙ ap (λ (gs : List (List Message)). total (lengths format gs)) (if-not failed old.groups (drop 1 old.groups) new.groups h.groups n)
    ∙ ap total (sym (drop-map (frame_length format) 1 old.groups))))
    is
  where
    frames : frames_in s (old.gathered ++ old.wire.transit) ≡ frames_of format old.groups
    frames = ap (frames_in s) was.stand ∙ list-back s (frames_of format old.groups) good was.frames

-- the pieces after a take, and after a put
pub lane-taken : (s : Shape) (format : ℕ) (failed : Bool) (old new : LaneSeen) → TakesFront s failed old new → failed ≡ false → (c d : Counted) → TakenPiece (lengths format old.groups) failed c d → IsPieces (lengths format new.groups) d
lane-taken s format failed old new h n c d taken =
    let rest : drop 1 (lengths format old.groups) ≡ lengths format new.groups =
    drop-map (frame_length format) 1 old.groups ∙ ap (lengths format) (sym (if-not failed old.groups (drop 1 old.groups) new.groups h.groups n)) in
    subst (λ (ps : List ℕ). IsPieces ps d) rest (taken.pieces n)

pub lane-put : (format : ℕ) (group : List Message) (failed : Bool) (old new : LaneSeen) → PutsGroup format group failed old new → failed ≡ false → (c d : Counted) → PutPiece (frame_length format group) failed c d
    → IsPieces (lengths format old.groups) c → IsPieces (lengths format new.groups) d
lane-put format group failed old new h n c d put is =
    let more : lengths format old.groups ++ frame_length format group ∷ [] ≡ lengths format new.groups =
    sym (map_push (frame_length format) old.groups group) ∙ ap (lengths format) (sym (if-not failed old.groups (old.groups ++ group ∷ []) new.groups h.groups n)) in
    subst (λ (ps : List ℕ). IsPieces ps d) more (put.pieces (lengths format old.groups) n is)

-- each stream is carried, and one that is not there too
none-carried : (s : Shape) (format : ℕ) → IsCarried s format no_lane
none-carried s format = record { stand = refl; frames = tt; messages = tt; sizes = tt; bytes = refl; few_bytes = omega arith }

pub carried-at : (s : Shape) (format : ℕ) (lanes : List LaneSeen) (k : ℕ) → Each (IsCarried s format) lanes → IsCarried s format (get_or lanes k no_lane)
carried-at s format [] k h = none-carried s format
carried-at s format (l ∷ ls) zero h = h.0
carried-at s format (l ∷ ls) (suc k) h = carried-at s format ls k h.1

-- the way back, where each frame has 24 bytes
abbrev pub acks : List ℕ → List ℕ
acks counts = map (λ n. 24) counts

wide-acks : (counts : List ℕ) → AreWide (acks counts)
wide-acks [] = tt
wide-acks (n ∷ ns) = (omega arith, wide-acks ns)

total-acks : (counts : List ℕ) → total (acks counts) ≡ 24 * length counts
total-acks [] = refl
total-acks (n ∷ ns) = omega (arith, total-acks ns)

some-acks : (counts : List ℕ) → 0 < length counts → 0 < length (acks counts)
some-acks [] h = h
some-acks (n ∷ ns) h = omega arith

wants-ack : (have : ℕ) (counts : List ℕ) → have ≡ 0 → 0 < length (acks counts) → 24 - have ≡ first_left (acks counts)
wants-ack have [] e h = absurd (omega arith)
wants-ack have (n ∷ ns) e h = omega arith

pub back-in-transit : (r : Returned) → AreCarried r → r.gathered ≡ [] → length r.wire.transit ≡ total (acks r.counts)
back-in-transit r h none = omega (arith, h.bytes, ap length none, total-acks r.counts)

pub back-takes : (failed : Bool) (old new : Returned) → AreCarried old → AreCarried new → TakesFirst failed old new
    → old.gathered ≡ [] → (failed ≡ false → 0 < length old.counts) → IfSome old.wire.counted (IsPieces (acks old.counts))
    → BothTold (TakenPiece (acks old.counts) failed) old.wire.counted new.wire.counted
back-takes failed old new was now h none some is =
    takes-piece (acks old.counts) failed _ _ old.wire new.wire old.faults new.faults h.made (wide-acks old.counts) (back-in-transit old was none)
    (λ n. some-acks old.counts (some n))
    (λ there. wants-ack (length old.gathered) old.counts (ap length none) there)
    (λ n. takes-first (acks old.counts) (length old.wire.transit) (length new.wire.transit) (back-in-transit old was none)
    (back-in-transit new now (h.gathered n)
    ∙ ap (λ (ns : List ℕ). total (acks ns)) (if-not failed old.counts (drop 1 old.counts) new.counts h.counts n)
    ∙ ap total (sym (drop-map (λ (n : ℕ). 24) 1 old.counts))))
    is

pub back-taken : (failed : Bool) (old new : Returned) → TakesFirst failed old new → failed ≡ false → (c d : Counted) → TakenPiece (acks old.counts) failed c d → IsPieces (acks new.counts) d
back-taken failed old new h n c d taken =
    let rest : drop 1 (acks old.counts) ≡ acks new.counts =
    drop-map (λ (n : ℕ). 24) 1 old.counts ∙ ap acks (sym (if-not failed old.counts (drop 1 old.counts) new.counts h.counts n)) in
    subst (λ (ps : List ℕ). IsPieces ps d) rest (taken.pieces n)

pub back-put : (count : ℕ) (failed : Bool) (old new : Returned) → AckPut count failed old new → failed ≡ false → (c d : Counted) → PutPiece (length (spelled (AckFrame count))) failed c d
    → IsPieces (acks old.counts) c → IsPieces (acks new.counts) d
back-put count failed old new h n c d put is =
    let more : acks old.counts ++ length (spelled (AckFrame count)) ∷ [] ≡ acks new.counts =
    ap (λ (k : ℕ). acks old.counts ++ k ∷ []) (length-ack count)
    ∙ sym (map_push (λ (n : ℕ). 24) old.counts count) ∙ ap acks (sym (if-not failed old.counts (old.counts ++ count ∷ []) new.counts h.counts n)) in
    subst (λ (ps : List ℕ). IsPieces ps d) more (put.pieces (acks old.counts) n is)
