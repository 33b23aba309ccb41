-- Spellings have no fault.
use Rattle.std.proofs.Common.{◌≡◌, ℕ, ◌+◌, ◌-◌, ◌^◌, ◌<◌, ◌≤◌, List, [], ◌∷◌, ◌++◌, length, get_or, take, drop, sym, ap, ◌∙◌, arith, refl, Bool, true, false, not, ◌&&◌, ◌||◌, eqb, ltb, Option, Some, None, Ok, length-append, append_assoc}
use Rattle.std.specs.Prelude.{if◌then◌else◌}
use Rattle.std.proofs.lemmas.Bool.{lt-ltb, le-ltb, eq-eqb}
use Rattle.std.proofs.lemmas.Bool.Decides.{eqb_tells}
use Rattle.std.proofs.lemmas.List.{take_at, append-nil}
use Rattle.xv_base.specs.declared.operation.UnitHead.{UnitHead}
use Rattle.xv_base.specs.Units.{Shape, units, size}
use Rattle.xv_base.specs.Layout.{IsGood}
use Rattle.xv_base.proofs.Within.{good_within}
use Rattle.xv_base.proofs.Partition.{partitions_bytes}
use Rattle.xv_frame.specs.declared.heads.Head.{Head}
use Rattle.xv_frame.specs.declared.heads.Head.TheVariants.{Unit as UnitHeadOf, Ack}
use Rattle.xv_frame.specs.declared.heads.FrameFault.TheVariants as fault
use Rattle.xv_frame.specs.declared.groups.GroupFault.TheVariants as group
use Rattle.xv_frame.specs.Fields.{word_at, short_at, zero_at, all_zero}
use Rattle.xv_frame.specs.Frame.{Each, Message, Frame, UnitFrame, AckFrame, GroupFrame, IsFrame, IsMessage, IsGroup, unit_head, ack, entry, entry_head, entries, group_head, spelled}
use Rattle.xv_frame.specs.Heads.{IsHead, head_spelled}
use Rattle.xv_frame.specs.Faults.{unit_fault, ack_fault, head_or, read_head, content_fault, entry_fault, entries_fault, first_of, group_head_fault, count_or, read_group}
use Rattle.xv_frame.specs.Reading.{front_head}
use Rattle.xv_frame.specs.Size.{size_of_head, size_of_group, frame_size}
use Rattle.xv_frame.proofs.ReadHeads.{length-unit-head, length-ack, head-back, unit-back, version-back, size-back, unit-zeros, ack-zeros, ack-more-zeros, group-zeros, entry-zeros, count-back, group-count-back, group-bytes-back, entries-follow, entry-unit-back, entry-version-back, mark-back, entry-content-follows, length-group-head, length-entry-head}
use Rattle.xv_frame.proofs.Accepted.{unit-fits, length-entries, entry-back}

pass : {F : Type 0} (t : Bool) (f : F) (x : Option F) → t ≡ false → (if t then Some f else x) ≡ x
pass t f x e = ap (λ b. if b then Some f else x) e

positive : (n : ℕ) → 1 ≤ n → eqb n 0 ≡ false
positive n h = grind (arith, eqb_tells n 0)

unit-accepted : (s : Shape) (h : UnitHead) (rest : List ℕ) → IsGood s → h.unit.0 < units s → 1 ≤ h.version → h.version < 2 ^ 32 → unit_fault s (unit_head h (size s h.unit.0) ++ rest) ≡ None
unit-accepted s h rest g u made v =
    let z = size s h.unit.0 in
    let b : List ℕ = unit_head h z ++ rest in
    let z' : z < 2 ^ 32 = omega (arith, (partitions_bytes s g).at_most h.unit.0 u) in
    let unit : word_at b 4 ≡ h.unit.0 = unit-back h z rest (omega (arith, (good_within s g).few_units)) in
    let version : word_at b 8 ≡ h.version = version-back h z rest v in
    let long : word_at b 12 ≡ z = size-back h z rest z' in
    pass (not (zero_at b 2 2)) fault.NotZero _ (ap not (unit-zeros h z rest))
    ∙ pass (not (ltb (word_at b 4) (units s))) fault.BadUnit _ (ap (λ k. not (ltb k (units s))) unit ∙ ap not (lt-ltb h.unit.0 (units s) u))
    ∙ pass (eqb (word_at b 8) 0) fault.BadVersion _ (ap (λ k. eqb k 0) version ∙ positive h.version made)
    ∙ pass (not (eqb (word_at b 12) (size s (word_at b 4)))) fault.BadLength None (ap not (eq-eqb (word_at b 12) (size s (word_at b 4)) (long ∙ ap (size s) (sym unit))))

ack-accepted : (count : ℕ) (rest : List ℕ) → 1 ≤ count → count ≤ 1024 → ack_fault (ack count ++ rest) ≡ None
ack-accepted count rest some few =
    let b : List ℕ = ack count ++ rest in
    let is : word_at b 8 ≡ count = count-back count rest (omega arith) in
    pass (not (zero_at b 2 6 && zero_at b 12 12)) fault.NotZero _ ((λ i. not (ack-zeros count rest i && ack-more-zeros count rest i)))
    ∙ pass (eqb (word_at b 8) 0 || ltb 1024 (word_at b 8)) fault.BadCount None (ap (λ k. eqb k 0 || ltb 1024 k) is ∙ (λ i. positive count some i || le-ltb 1024 count few i))

head-accepted-by : (s : Shape) (h : Head) (rest : List ℕ) → IsGood s → IsHead s h → read_head s (head_spelled s h ++ rest) ≡ Ok h
head-accepted-by s (UnitHeadOf h) rest g i =
    let b : List ℕ = unit_head h (size s h.unit.0) ++ rest in
    let back : front_head b ≡ h = head-back h (size s h.unit.0) rest (omega (arith, (good_within s g).few_units, i.0)) i.2 i.3 in
    ap (λ f. head_or f (UnitHeadOf (front_head b))) (unit-accepted s h rest g i.0 i.1 i.2) ∙ ap (λ k. Ok (UnitHeadOf k)) back
head-accepted-by s (Ack count) rest g i =
    let b : List ℕ = ack count ++ rest in
    ap (λ f. head_or f (Ack (word_at b 8))) (ack-accepted count rest i.0 i.1) ∙ ap (λ k. Ok (Ack k)) (count-back count rest (omega arith))

pub head-accepted : (s : Shape) (h : Head) → IsGood s → IsHead s h → read_head s (head_spelled s h) ≡ Ok h
head-accepted s h g i = ap (read_head s) (sym (append-nil (head_spelled s h))) ∙ head-accepted-by s h [] g i

-- an entry by its mark
marked-accepted : (s : Shape) (h : UnitHead) (c rest : List ℕ) (t : Bool) → all_zero c ≡ t → h.unit.0 < 2 ^ 32 → h.unit.0 < units s → 1 ≤ h.version → h.version < 2 ^ 32 → length c ≡ size s h.unit.0
    → entry_fault s ((if t then entry_head h 1 else entry_head h 0 ++ c) ++ rest) ≡ None
marked-accepted s h c rest true e fits u made v whole =
    let b : List ℕ = entry_head h 1 ++ rest in
    let long : 20 ≤ length b = omega (arith, length-append (entry_head h 1) rest, length-entry-head h 1) in
    let unit : word_at b 0 ≡ h.unit.0 = entry-unit-back h 1 rest fits in
    let version : word_at b 4 ≡ h.version = entry-version-back h 1 rest v in
    let mark : get_or b 16 0 ≡ 1 = mark-back h 1 rest in
    pass (ltb (length b) 20) group.Short _ (le-ltb (length b) 20 long)
    ∙ pass (not (ltb (word_at b 0) (units s))) group.BadUnit _ (ap (λ k. not (ltb k (units s))) unit ∙ ap not (lt-ltb h.unit.0 (units s) u))
    ∙ pass (eqb (word_at b 4) 0) group.BadVersion _ (ap (λ k. eqb k 0) version ∙ positive h.version made)
    ∙ pass (ltb 1 (get_or b 16 0)) group.BadMark _ (ap (ltb 1) mark ∙ le-ltb 1 1 (omega arith))
    ∙ pass (not (zero_at b 17 3)) group.NotZero _ (ap not (entry-zeros h 1 rest))
    ∙ ap (λ k. if eqb k 1 then None else content_fault (size s (word_at b 0)) b) mark
marked-accepted s h c rest false e fits u made v whole =
    let b : List ℕ = entry_head h 0 ++ (c ++ rest) in
    let joined : (entry_head h 0 ++ c) ++ rest ≡ b = append_assoc (entry_head h 0) c rest in
    let all : length b ≡ 20 + (length c + length rest) = length-append (entry_head h 0) (c ++ rest) ∙ (λ i. length-entry-head h 0 i + length-append c rest i) in
    let unit : word_at b 0 ≡ h.unit.0 = entry-unit-back h 0 (c ++ rest) fits in
    let version : word_at b 4 ≡ h.version = entry-version-back h 0 (c ++ rest) v in
    let mark : get_or b 16 0 ≡ 0 = mark-back h 0 (c ++ rest) in
    let z = size s h.unit.0 in
    let content : take z (drop 20 b) ≡ c = ap (take z) (entry-content-follows h 0 (c ++ rest)) ∙ take_at c rest z whole in
    ap (entry_fault s) joined
    ∙ pass (ltb (length b) 20) group.Short _ (le-ltb (length b) 20 (omega (arith, all)))
    ∙ pass (not (ltb (word_at b 0) (units s))) group.BadUnit _ (ap (λ k. not (ltb k (units s))) unit ∙ ap not (lt-ltb h.unit.0 (units s) u))
    ∙ pass (eqb (word_at b 4) 0) group.BadVersion _ (ap (λ k. eqb k 0) version ∙ positive h.version made)
    ∙ pass (ltb 1 (get_or b 16 0)) group.BadMark _ (ap (ltb 1) mark ∙ le-ltb 1 0 (omega arith))
    ∙ pass (not (zero_at b 17 3)) group.NotZero _ (ap not (entry-zeros h 0 (c ++ rest)))
    ∙ ap (λ k. if eqb k 1 then None else content_fault (size s (word_at b 0)) b) mark
    ∙ ap (λ k. content_fault (size s k) b) unit
    ∙ pass (ltb (length b) (20 + z)) group.Short _ (le-ltb (length b) (20 + z) (omega (arith, all, whole)))
    ∙ pass (zero_at b 20 z) group.BadMark None (ap all_zero content ∙ e)

entry-accepted : (s : Shape) (m : Message) (rest : List ℕ) → IsGood s → IsMessage s m → entry_fault s (entry m ++ rest) ≡ None
entry-accepted s m rest g h = marked-accepted s m.head m.content rest (all_zero m.content) refl (unit-fits s m g h) h.unit_in h.made h.version_fits h.whole

entries-accepted : (s : Shape) (ms : List Message) → IsGood s → Each (IsMessage s) ms → entries_fault s (length ms) (entries ms) ≡ None
entries-accepted s [] g h = refl
entries-accepted s (m ∷ ms) g h =
    (λ i. first_of (entry-accepted s m (entries ms) g h.0 i) (entries_fault s (length ms) ((entry-back s m (entries ms) g h.0).behind i))) ∙ entries-accepted s ms g h.1

pub group-accepted : (s : Shape) (ms : List Message) → IsGood s → IsGroup s ms → read_group s (spelled (GroupFrame ms)) ≡ Ok (length ms)
group-accepted s ms g h =
    let n = length ms in
    let z = length (entries ms) in
    let b : List ℕ = group_head n z ++ entries ms in
    let all : length b ≡ 24 + z = length-append (group_head n z) (entries ms) ∙ ap (λ k. k + z) (length-group-head n z) in
    let count : short_at b 2 ≡ n = group-count-back n z (entries ms) (omega (arith, h.few)) in
    let bytes : word_at b 4 ≡ z = group-bytes-back n z (entries ms) (omega (arith, length-entries s ms g h.each, h.few)) in
    let head : group_head_fault b ≡ None =
    pass (ltb (length b) 24) group.Short _ (le-ltb (length b) 24 (omega (arith, all)))
    ∙ pass (eqb (short_at b 2) 0 || ltb 16 (short_at b 2)) group.BadCount _ (ap (λ k. eqb k 0 || ltb 16 k) count ∙ (λ i. positive n h.some i || le-ltb 16 n h.few i))
    ∙ pass (not (zero_at b 8 16)) group.NotZero None (ap not (group-zeros n z (entries ms))) in
    let follow : (if not (eqb (word_at b 4) (length b - 24)) then Some group.BadLength else entries_fault s (short_at b 2) (drop 24 b)) ≡ None =
    pass (not (eqb (word_at b 4) (length b - 24))) group.BadLength _ (ap not (eq-eqb (word_at b 4) (length b - 24) (omega (arith, bytes, all))))
    ∙ (λ i. entries_fault s (count i) (entries-follow n z (entries ms) i)) ∙ entries-accepted s ms g h.each in
    (λ i. count_or (first_of (head i) (follow i)) (count i))

-- the head of a frame
unfoldable pub head_of : Frame → List ℕ
head_of (UnitFrame m) = unit_head m.head (length m.content)
head_of (AckFrame count) = ack count
head_of (GroupFrame ms) = group_head (length ms) (length (entries ms))

group-head-accepted : (s : Shape) (ms : List Message) → IsGood s → IsGroup s ms → group_head_fault (group_head (length ms) (length (entries ms)) ++ []) ≡ None
group-head-accepted s ms g h =
    let n = length ms in
    let z = length (entries ms) in
    let b : List ℕ = group_head n z ++ [] in
    let all : length b ≡ 24 = length-append (group_head n z) [] ∙ (λ i. length-group-head n z i + 0) in
    let count : short_at b 2 ≡ n = group-count-back n z [] (omega (arith, h.few)) in
    pass (ltb (length b) 24) group.Short _ (le-ltb (length b) 24 (omega (arith, all)))
    ∙ pass (eqb (short_at b 2) 0 || ltb 16 (short_at b 2)) group.BadCount _ (ap (λ k. eqb k 0 || ltb 16 k) count ∙ (λ i. positive n h.some i || le-ltb 16 n h.few i))
    ∙ pass (not (zero_at b 8 16)) group.NotZero None (ap not (group-zeros n z []))

-- the head tells how long the frame is
pub size-told : (s : Shape) (f : Frame) → IsGood s → IsFrame s f → frame_size s (head_of f) ≡ Some (length (spelled f))
unfolding head_of
size-told s (UnitFrame m) g h =
    let z = size s m.head.unit.0 in
    let accepted : read_head s (unit_head m.head z) ≡ Ok (UnitHeadOf m.head) = head-accepted s (UnitHeadOf m.head) g (h.unit_in, h.made, h.version_fits, h.at_fits) in
    let long : length (spelled (UnitFrame m)) ≡ 24 + z = length-append (unit_head m.head (length m.content)) m.content ∙ (λ i. length-unit-head m.head (length m.content) i + h.whole i) in
    ap (λ k. size_of_head s (read_head s (unit_head m.head k))) h.whole ∙ ap (size_of_head s) accepted ∙ ap Some (sym long)
size-told s (AckFrame count) g h =
    ap (size_of_head s) (head-accepted s (Ack count) g h) ∙ ap Some (sym (length-ack count))
size-told s (GroupFrame ms) g h =
    let n = length ms in
    let z = length (entries ms) in
    let same : group_head n z ++ [] ≡ group_head n z = append-nil (group_head n z) in
    let none : group_head_fault (group_head n z) ≡ None = ap group_head_fault (sym same) ∙ group-head-accepted s ms g h in
    let bytes : word_at (group_head n z) 4 ≡ z = ap (λ b. word_at b 4) (sym same) ∙ group-bytes-back n z [] (omega (arith, length-entries s ms g h.each, h.few)) in
    let long : length (spelled (GroupFrame ms)) ≡ 24 + z = length-append (group_head n z) (entries ms) ∙ ap (λ k. k + z) (length-group-head n z) in
    (λ i. size_of_group (bytes i) (none i)) ∙ ap Some (sym long)

pub head-first : (f : Frame) (rest : List ℕ) → take 24 (spelled f ++ rest) ≡ head_of f
unfolding head_of
head-first (UnitFrame m) rest = ap (take 24) (append_assoc (unit_head m.head (length m.content)) m.content rest) ∙ take_at (unit_head m.head (length m.content)) (m.content ++ rest) 24 (length-unit-head m.head (length m.content))
head-first (AckFrame count) rest = take_at (ack count) rest 24 (length-ack count)
head-first (GroupFrame ms) rest = ap (take 24) (append_assoc (group_head (length ms) (length (entries ms))) (entries ms) rest) ∙ take_at (group_head (length ms) (length (entries ms))) (entries ms ++ rest) 24 (length-group-head (length ms) (length (entries ms)))

pub size-at-front : (s : Shape) (f : Frame) (rest : List ℕ) → IsGood s → IsFrame s f → frame_size s (take 24 (spelled f ++ rest)) ≡ Some (length (spelled f))
size-at-front s f rest g h = ap (frame_size s) (head-first f rest) ∙ size-told s f g h
