-- What is read of a spelling is what was spelled, and each spelling is accepted.
use Rattle.std.proofs.Common.{◌≡◌, ℕ, zero, suc, ◌+◌, ◌*◌, ◌^◌, ◌<◌, ◌≤◌, List, [], ◌∷◌, ◌++◌, length, take, drop, sym, ap, ◌∙◌, arith, refl, Bool, true, false, eqb, subst, replicate, length-append, append_assoc}
use Rattle.std.specs.Prelude.{if◌then◌else◌}
use Rattle.std.proofs.lemmas.List.{take_at, drop_at, drop-drop}
use Rattle.xv_base.specs.declared.operation.UnitHead.{UnitHead}
use Rattle.xv_base.specs.Units.{Shape, size}
use Rattle.xv_base.specs.Layout.{IsGood}
use Rattle.xv_base.proofs.Within.{good_within}
use Rattle.xv_base.proofs.Partition.{partitions_bytes}
use Rattle.xv_frame.specs.Fields.{word_at, all_zero}
use Rattle.xv_frame.specs.Frame.{Each, Message, message, Frame, UnitFrame, AckFrame, GroupFrame, IsFrame, IsMessage, IsGroup, unit_head, entry, entry_head, entries, group_head, spelled, all_spelled}
use Rattle.xv_frame.specs.Reading.{front_message, entry_message, entry_size, is_marked, front_entries, front_group, front_frame, some_frames, frames_in}
use Rattle.xv_frame.proofs.WhatTestsSay.{zeros-are}
use Rattle.xv_frame.proofs.ReadHeads.{head-back, unit-back, content-follows, count-back, group-count-back, entries-follow, entry-head-back, entry-unit-back, mark-back, entry-content-follows, length-unit-head, length-ack, length-group-head, length-entry-head}

-- a unit's number and size fit their fields
pub unit-fits : (s : Shape) (m : Message) → IsGood s → IsMessage s m → m.head.unit.0 < 2 ^ 32
unit-fits s m g h = omega (arith, (good_within s g).few_units, h.unit_in)

pub size-fits : (s : Shape) (m : Message) → IsGood s → IsMessage s m → length m.content ≤ 4096
size-fits s m g h = omega (arith, h.whole, (partitions_bytes s g).at_most m.head.unit.0 h.unit_in)

message-is : (h h' : UnitHead) (c c' : List ℕ) → h ≡ h' → c ≡ c' → message h c ≡ message h' c'
message-is h h' c c' p q = λ i. message (p i) (q i)

pub message-back : (s : Shape) (m : Message) (rest : List ℕ) → IsGood s → IsMessage s m → front_message s (unit_head m.head (length m.content) ++ (m.content ++ rest)) ≡ m
message-back s m rest g h =
    let b : List ℕ = unit_head m.head (length m.content) ++ (m.content ++ rest) in
    let unit : word_at b 4 ≡ m.head.unit.0 = unit-back m.head (length m.content) (m.content ++ rest) (unit-fits s m g h) in
    let behind : drop 24 b ≡ m.content ++ rest = content-follows m.head (length m.content) (m.content ++ rest) in
    message-is _ m.head _ m.content (head-back m.head (length m.content) (m.content ++ rest) (unit-fits s m g h) h.version_fits h.at_fits)
    ((λ i. take (size s (unit i)) (behind i)) ∙ take_at m.content rest (size s m.head.unit.0) h.whole)

-- an entry by its mark
pub record EntryBack (s : Shape) (m : Message) (rest b : List ℕ) : Type 0 where
  pub message : entry_message s b ≡ m
  pub behind : drop (entry_size s b) b ≡ rest

entry-by : (s : Shape) (h : UnitHead) (c rest : List ℕ) (t : Bool) → all_zero c ≡ t → h.unit.0 < 2 ^ 32 → h.version < 2 ^ 32 → h.at < 2 ^ 64 → length c ≡ size s h.unit.0
    → EntryBack s (message h c) rest ((if t then entry_head h 1 else entry_head h 0 ++ c) ++ rest)
entry-by s h c rest true e u v a whole =
    let b : List ℕ = entry_head h 1 ++ rest in
    let unit : word_at b 0 ≡ h.unit.0 = entry-unit-back h 1 rest u in
    let mark : is_marked b ≡ true = ap (λ k. eqb k 1) (mark-back h 1 rest) in
    let zeros : replicate (size s h.unit.0) 0 ≡ c = ap (λ n. replicate n 0) (sym whole) ∙ sym (zeros-are c e) in
    record {
      message = message-is _ h _ c (entry-head-back h 1 rest u v a) (ap (λ k. if k then replicate (size s (word_at b 0)) 0 else take (size s (word_at b 0)) (drop 20 b)) mark ∙ ap (λ k. replicate (size s k) 0) unit ∙ zeros);
      behind = ap (λ k. drop (if k then 20 else 20 + size s (word_at b 0)) b) mark ∙ entry-content-follows h 1 rest;
    }
entry-by s h c rest false e u v a whole =
    let b : List ℕ = entry_head h 0 ++ (c ++ rest) in
    let b' : List ℕ = (entry_head h 0 ++ c) ++ rest in
    let joined : b' ≡ b = append_assoc (entry_head h 0) c rest in
    let unit : word_at b 0 ≡ h.unit.0 = entry-unit-back h 0 (c ++ rest) u in
    let mark : is_marked b ≡ false = ap (λ k. eqb k 1) (mark-back h 0 (c ++ rest)) in
    let follows : drop 20 b ≡ c ++ rest = entry-content-follows h 0 (c ++ rest) in
    subst (EntryBack s (message h c) rest) (sym joined)
    (record {
      message = message-is _ h _ c (entry-head-back h 0 (c ++ rest) u v a)
          (ap (λ k. if k then replicate (size s (word_at b 0)) 0 else take (size s (word_at b 0)) (drop 20 b)) mark ∙ (λ i. take (size s (unit i)) (follows i)) ∙ take_at c rest (size s h.unit.0) whole);
      behind = ap (λ k. drop (if k then 20 else 20 + size s (word_at b 0)) b) mark ∙ ap (λ k. drop (20 + size s k) b) unit
          ∙ sym (drop-drop (size s h.unit.0) 20 b) ∙ ap (drop (size s h.unit.0)) follows ∙ drop_at c rest (size s h.unit.0) whole;
    })

pub entry-back : (s : Shape) (m : Message) (rest : List ℕ) → IsGood s → IsMessage s m → EntryBack s m rest (entry m ++ rest)
entry-back s m rest g h = entry-by s m.head m.content rest (all_zero m.content) refl (unit-fits s m g h) h.version_fits h.at_fits h.whole

pub entries-back : (s : Shape) (ms : List Message) (rest : List ℕ) → IsGood s → Each (IsMessage s) ms → front_entries s (length ms) (entries ms ++ rest) ≡ ms
entries-back s [] rest g h = refl
entries-back s (m ∷ ms) rest g h =
    let front = entry-back s m (entries ms ++ rest) g h.0 in
    let joined : (entry m ++ entries ms) ++ rest ≡ entry m ++ (entries ms ++ rest) = append_assoc (entry m) (entries ms) rest in
    ap (front_entries s (suc (length ms))) joined ∙ (λ i. front.message i ∷ front_entries s (length ms) (front.behind i)) ∙ ap (λ xs. m ∷ xs) (entries-back s ms rest g h.1)

pub length-entry : (s : Shape) (m : Message) → IsGood s → IsMessage s m → length (entry m) ≤ 20 + 4096
length-entry s m g h = by (all_zero m.content) (size-fits s m g h)
  where
    by : (t : Bool) → length m.content ≤ 4096 → length (if t then entry_head m.head 1 else entry_head m.head 0 ++ m.content) ≤ 20 + 4096
    by true l = omega (arith, length-entry-head m.head 1)
    by false l = omega (arith, length-entry-head m.head 0, length-append (entry_head m.head 0) m.content)

pub length-entries : (s : Shape) (ms : List Message) → IsGood s → Each (IsMessage s) ms → length (entries ms) ≤ 4116 * length ms
length-entries s [] g h = omega arith
length-entries s (m ∷ ms) g h = omega (arith, length-append (entry m) (entries ms), length-entry s m g h.0, length-entries s ms g h.1)

pub group-back : (s : Shape) (ms : List Message) (rest : List ℕ) → IsGood s → IsGroup s ms → front_group s (group_head (length ms) (length (entries ms)) ++ (entries ms ++ rest)) ≡ ms
group-back s ms rest g h =
    let count = group-count-back (length ms) (length (entries ms)) (entries ms ++ rest) (omega (arith, h.few)) in
    (λ i. front_entries s (count i) (entries-follow (length ms) (length (entries ms)) (entries ms ++ rest) i)) ∙ entries-back s ms rest g h.each

-- a frame is read back, whatever follows
pub frame-back : (s : Shape) (f : Frame) (rest : List ℕ) → IsGood s → IsFrame s f → front_frame s (spelled f ++ rest) ≡ f
frame-back s (UnitFrame m) rest g h =
    ap (front_frame s) (append_assoc (unit_head m.head (length m.content)) m.content rest) ∙ ap UnitFrame (message-back s m rest g h)
frame-back s (AckFrame count) rest g h = ap AckFrame (count-back count rest (omega arith))
frame-back s (GroupFrame ms) rest g h =
    ap (front_frame s) (append_assoc (group_head (length ms) (length (entries ms))) (entries ms) rest) ∙ ap GroupFrame (group-back s ms rest g h)

pub one-spelling : (s : Shape) (f g : Frame) (xs ys : List ℕ) → IsGood s → IsFrame s f → IsFrame s g → spelled f ++ xs ≡ spelled g ++ ys → f ≡ g
one-spelling s f g xs ys good hf hg e = sym (frame-back s f xs good hf) ∙ ap (front_frame s) e ∙ frame-back s g ys good hg

pub length-spelled : (f : Frame) → 24 ≤ length (spelled f)
length-spelled (UnitFrame m) = omega (arith, length-unit-head m.head (length m.content), length-append (unit_head m.head (length m.content)) m.content)
length-spelled (AckFrame count) = omega (arith, length-ack count)
length-spelled (GroupFrame ms) = omega (arith, length-group-head (length ms) (length (entries ms)), length-append (group_head (length ms) (length (entries ms))) (entries ms))

-- one frame in front of others
more-frames : (s : Shape) (f : Frame) (rest b : List ℕ) (k : ℕ) → IsGood s → IsFrame s f → 0 < length b → b ≡ spelled f ++ rest
    → some_frames s (suc k) b ≡ f ∷ some_frames s k rest
more-frames s f rest [] k g h l e = absurd (omega arith)
more-frames s f rest (x ∷ xs) k g h l e =
    let front : front_frame s (x ∷ xs) ≡ f = ap (front_frame s) e ∙ frame-back s f rest g h in
    let behind : drop (length (spelled f)) (x ∷ xs) ≡ rest = ap (drop (length (spelled f))) e ∙ drop_at (spelled f) rest (length (spelled f)) refl in
    (λ i. front i ∷ some_frames s k (drop (length (spelled (front i))) (x ∷ xs))) ∙ ap (λ ys. f ∷ some_frames s k ys) behind

frames-back : (s : Shape) (fs : List Frame) (k : ℕ) → IsGood s → Each (IsFrame s) fs → length (all_spelled fs) ≤ k → some_frames s k (all_spelled fs) ≡ fs
frames-back s [] zero g h l = refl
frames-back s [] (suc k) g h l = refl
frames-back s (f ∷ fs) zero g h l = absurd (omega (arith, length-append (spelled f) (all_spelled fs), length-spelled f))
frames-back s (f ∷ fs) (suc k) g h l =
    let long : length (all_spelled (f ∷ fs)) ≡ length (spelled f) + length (all_spelled fs) = length-append (spelled f) (all_spelled fs) in
    more-frames s f (all_spelled fs) (all_spelled (f ∷ fs)) k g h.0 (omega (arith, long, length-spelled f)) refl
    ∙ ap (λ xs. f ∷ xs) (frames-back s fs k g h.1 (omega (arith, long, length-spelled f, l)))

pub list-back : (s : Shape) (fs : List Frame) → IsGood s → Each (IsFrame s) fs → frames_in s (all_spelled fs) ≡ fs
list-back s fs g h = frames-back s fs (length (all_spelled fs)) g h (omega arith)

pub one-list : (s : Shape) (fs gs : List Frame) → IsGood s → Each (IsFrame s) fs → Each (IsFrame s) gs → all_spelled fs ≡ all_spelled gs → fs ≡ gs
one-list s fs gs good hf hg e = sym (list-back s fs good hf) ∙ ap (frames_in s) e ∙ list-back s gs good hg
