-- What a lane carries: its bytes are the spellings of the frames of its groups.
use Rattle.std.proofs.Common.{◌≡◌, ℕ, zero, suc, ◌+◌, ◌*◌, ◌<◌, ◌≤◌, List, [], ◌∷◌, ◌++◌, length, get_or, map, sym, ap, ◌∙◌, arith, refl, subst, Bool, true, false, length-append}
use Rattle.std.specs.Prelude.{if◌then◌else◌}
use Rattle.std.specs.List.{sum_by}
use Rattle.std.proofs.Math.Nat.{mul-add, add-mul}
use Rattle.std.proofs.lemmas.List.Concat.{length-flat_map}
use Rattle.xv_base.specs.Units.{Shape, max_size}
use Rattle.xv_base.specs.Layout.{IsGood}
use Rattle.xv_base.proofs.Partition.{has_greatest_size}
use Rattle.xv_frame.specs.Fields.{all_zero}
use Rattle.xv_frame.specs.Frame.{Message, Frame, UnitFrame, AckFrame, GroupFrame, Each, IsFrame, IsMessage, unit_head, group_head, entry_head, entry, entries, spelled, all_spelled}
use Rattle.xv_frame.specs.Reading.{frames_in}
use Rattle.xv_frame.proofs.ReadHeads.{length-unit-head, length-group-head, length-entry-head}
use Rattle.xv_wire.specs.Told.{Told}
use Rattle.xv_streams.specs.Gathered.{Gathered}
use Rattle.xv_streams.specs.Streamed.{messages_of, format_of, IsLaneOf, AreLanesOf, seen_lane, seen_lanes}
use Rattle.xv_streams.specs.Carried.{frame_of, frames_of, most_messages, most_bytes, joined, IsCarried}

pub each-append : {A : Type 0} (P : A → Type 0) (xs ys : List A) → Each P xs → Each P ys → Each P (xs ++ ys)
each-append P [] ys h i = i
each-append P (x ∷ xs) ys h i = (h.0, each-append P xs ys h.1 i)

-- a content and an entry have at most so many bytes
pub content-fits : (s : Shape) (m : Message) → IsGood s → IsMessage s m → length m.content ≤ max_size s
content-fits s m g h = omega (arith, h.whole, (has_greatest_size s g).most m.head.unit.0 h.unit_in)

pub entry-short : (m : Message) → length (entry m) ≤ 20 + length m.content
entry-short m = by (all_zero m.content)
  where
    by : (t : Bool) → length (if t then entry_head m.head 1 else entry_head m.head 0 ++ m.content) ≤ 20 + length m.content
    by true = omega (arith, length-entry-head m.head 1)
    by false = omega (arith, length-entry-head m.head 0, length-append (entry_head m.head 0) m.content)

pub entries-fit : (s : Shape) (ms : List Message) → IsGood s → Each (IsMessage s) ms → length (entries ms) ≤ length ms * (20 + max_size s)
entries-fit s [] g h = omega arith
entries-fit s (m ∷ ms) g h = omega (arith, length-append (entry m) (entries ms), entry-short m, content-fits s m g h.0, entries-fit s ms g h.1, add-mul 1 (length ms) (20 + max_size s))

-- the frame of a group has at most so many bytes for each message
pub group-fits : (s : Shape) (ms : List Message) → IsGood s → Each (IsMessage s) ms → 1 ≤ length ms → length (spelled (GroupFrame ms)) ≤ length ms * (44 + max_size s)
group-fits s ms g h some =
    let n = length ms in
    let more : n * (44 + max_size s) ≡ n * 24 + n * (20 + max_size s) = (let e : 44 + max_size s ≡ 24 + (20 + max_size s) = omega arith in ap (λ k. n * k) e) ∙ mul-add n 24 (20 + max_size s) in
    omega (arith, length-append (group_head n (length (entries ms))) (entries ms), length-group-head n (length (entries ms)), entries-fit s ms g h, more)

-- a frame of a format is that of its messages, which are not too many
record IsOf (s : Shape) (format : ℕ) (f : Frame) : Type 0 where
  same : frame_of format (messages_of f) ≡ f
  each : Each (IsMessage s) (messages_of f)
  some : 1 ≤ length (messages_of f)
  few : length (messages_of f) ≤ most_messages format
  bytes : length (spelled f) ≤ length (messages_of f) * most_bytes s format

is-of : (s : Shape) (format : ℕ) (f : Frame) → IsGood s → 1 ≤ format → IsFrame s f → format_of f ≡ format → IsOf s format f
is-of s format (UnitFrame m) g some h e = subst (λ (k : ℕ). IsOf s k (UnitFrame m)) e (record {
  same = refl;
  each = (h, tt);
  some = omega arith;
  few = omega arith;
  bytes = omega (arith, length-append (unit_head m.head (length m.content)) m.content, length-unit-head m.head (length m.content), content-fits s m g h);
})
is-of s format (AckFrame count) g some h e = absurd (omega arith)
is-of s format (GroupFrame []) g some h e = absurd (omega (arith, h.some))
is-of s format (GroupFrame (m ∷ ms)) g some h e = subst (λ (k : ℕ). IsOf s k (GroupFrame (m ∷ ms))) e (record {
  same = refl;
  each = h.each;
  some = omega arith;
  few = h.few;
  bytes = group-fits s (m ∷ ms) g h.each h.some;
})

-- all frames of a lane
record AreOf (s : Shape) (format : ℕ) (fs : List Frame) : Type 0 where
  same : frames_of format (map messages_of fs) ≡ fs
  each : Each (IsMessage s) (joined (map messages_of fs))
  sizes : Each (λ g. (1 ≤ length g) × (length g ≤ most_messages format)) (map messages_of fs)
  bytes : length (all_spelled fs) ≤ length (joined (map messages_of fs)) * most_bytes s format

are-of : (s : Shape) (format : ℕ) (fs : List Frame) → IsGood s → 1 ≤ format → Each (IsFrame s) fs → Each (λ f. format_of f ≡ format) fs → AreOf s format fs
are-of s format [] g some h e = record { same = refl; each = tt; sizes = tt; bytes = omega arith }
are-of s format (f ∷ fs) g some h e =
    let first = is-of s format f g some h.0 e.0 in
    let rest = are-of s format fs g some h.1 e.1 in
    let ms = messages_of f in
    let others = joined (map messages_of fs) in
    let many : length (ms ++ others) * most_bytes s format ≡ length ms * most_bytes s format + length others * most_bytes s format =
    ap (λ k. k * most_bytes s format) (length-append ms others) ∙ add-mul (length ms) (length others) (most_bytes s format) in
    record {
      same = λ i. first.same i ∷ rest.same i;
      each = each-append (IsMessage s) ms others first.each rest.each;
      sizes = ((first.some, first.few), rest.sizes);
      bytes = omega (arith, length-append (spelled f) (all_spelled fs), many, first.bytes, rest.bytes);
    }

pub lane-carried : (s : Shape) (format : ℕ) (t : Told) (a : ℕ) (l : Gathered) → IsGood s → 1 ≤ format → IsLaneOf s format t l → IsCarried s format (seen_lane s t a l)
lane-carried s format t a l g some h =
    let fs = frames_in s (l.bytes ++ t.transit) in
    let all = are-of s format fs g some h.lane.each h.kinds in
    let long : length l.bytes + length t.transit ≡ length (all_spelled fs) = sym (length-append l.bytes t.transit) ∙ ap length (sym h.lane.stand) in
    record {
      stand = sym h.lane.stand ∙ ap all_spelled (sym all.same);
      frames = subst (Each (IsFrame s)) (sym all.same) h.lane.each;
      messages = all.each;
      sizes = all.sizes;
      bytes = long ∙ length-flat_map spelled fs ∙ ap (sum_by (λ f. length (spelled f))) (sym all.same);
      few_bytes = omega (arith, long, all.bytes);
    }

module _ {A : Type 0} (t : A → Told) (f : A → ℕ) (s : Shape) (format : ℕ) where
  pub lanes-carried : (ws : List A) (ls : List Gathered) → IsGood s → 1 ≤ format → AreLanesOf t s format ws ls → Each (IsCarried s format) (seen_lanes t f s ws ls)
  lanes-carried [] ls g some h = tt
  lanes-carried (w ∷ ws) [] g some h = absurd h
  lanes-carried (w ∷ ws) (l ∷ ls) g some h = (lane-carried s format (t w) (f w) l g some h.0, lanes-carried ws ls g some h.1)

pub each-at : {A : Type 0} (P : A → Type 0) (xs : List A) (k : ℕ) (d : A) → Each P xs → k < length xs → P (get_or xs k d)
each-at P [] k d h b = absurd (omega arith)
each-at P (x ∷ xs) zero d h b = h.0
each-at P (x ∷ xs) (suc k) d h b = each-at P xs k d h.1 (omega arith)
