-- Messages that arrive: that the hold may take each, and what it has afterwards.
use Rattle.std.proofs.Common.{◌≡◌, ◌<◌, ◌≤◌, ℕ, ◌+◌, Bool, true, cond, List, [], ◌∷◌, ◌++◌, length, take, drop, get_or, Option, Some, refl, sym, ap, ◌∙◌, arith, append_assoc}
use Rattle.std.specs.Prelude.{count_by, IfSome}
use Rattle.std.proofs.lemmas.List.{map_more, drop_more, length-map, take-map, get_or-map}
use Rattle.std.proofs.lemmas.List.Sums.{sum_by-cons}
use Rattle.std.proofs.Math.Seq.{take-append_seam}
use Rattle.xv_frame.specs.Frame.{Message, Each}
use Rattle.xv_base.specs.Units.{Shape, units, size}
use Rattle.xv_device.specs.Told.{Told}
use Rattle.xv_hold.specs.Messages.{Hold, heads, arrived, copies}
use Rattle.xv_hold.proofs.Heads.{copies-heads, heads-arrived, contents-arrived}
use Rattle.xv_dest.specs.Kept.{dest_of}
use Rattle.xv_streams.specs.Streamed.{first_group, head_of_first, content_of_first, no_message, message_at}
use Rattle.xv_streams.specs.Fronts.{heads_of, contents_of}
use Rattle.xv_model.specs.View.{UnitHead, number}
use Rattle.xv_model.specs.View.{no_message as no_head}
use Rattle.xv_model.specs.Outstanding.{count, is_version}
use Rattle.xv_model.proofs.Bags.{count-append, count-take-drop}
use Rattle.xv_model.proofs.Contents.Messages.{version_same}
use Rattle.xv_base.specs.declared.answer.Turn.TheVariants.{Done}
use Rattle.xv_dest.specs.Half.{Dest, CanTake}
use Rattle.xv_dest.specs.Arrival.{with_group, Arrives}

-- how many messages pass a test
count-same : (test : UnitHead → Bool) (ms : List UnitHead) → count_by test ms ≡ count test ms
count-same test [] = refl
count-same test (m ∷ ms) = sum_by-cons (λ x. cond (test x) 1 0) m ms ∙ ap (λ n. cond (test m) 1 0 + n) (count-same test ms)

pub none-held : (hold : Hold) (unit version : ℕ) → count (is_version unit version) (heads hold.messages) ≡ 0 → copies hold unit version ≡ 0
none-held hold unit version none = copies-heads hold unit version ∙ count-same (is_version unit version) (heads hold.messages) ∙ none

-- a front of one message
pub first-not_held : (groups : List (List Message)) (h : Dest) (head : UnitHead) → CanTake h (heads_of (first_group groups)) → Some head ≡ head_of_first (first_group groups) → count (is_version head.unit.0 head.version) h.held ≡ 0
first-not_held [] h head may e = absurd (cc)
first-not_held ([] ∷ gs) h head may e = absurd (cc)
first-not_held ((m ∷ ms) ∷ gs) h head may e = let is : head ≡ m.head = cc in rw is (may.not_held 0 (omega arith))

arrives-alone : (stream : ℕ) (groups : List (List Message)) (head : UnitHead) (content : List ℕ) (old new : Dest) → Each (λ g. (1 ≤ length g) × (length g ≤ 1)) groups
    → Some head ≡ head_of_first (first_group groups) → content ≡ content_of_first (first_group groups)
    → new ≡ record old { held = old.held ++ head ∷ []; contents = old.contents ++ content ∷ [] }
    → Arrives 1 stream (Done (record { a = head.unit.0; b = head.version })) groups old new
arrives-alone stream [] head content old new each e c is = absurd (cc)
arrives-alone stream ([] ∷ gs) head content old new each e c is = absurd (cc)
arrives-alone stream ((m ∷ []) ∷ gs) head content old new each e c is = let same : head ≡ m.head = cc in (rw same refl, is ∙ rw (same, c) refl)
arrives-alone stream ((m ∷ (k ∷ ms)) ∷ gs) head content old new each e c is = absurd (omega (arith, each.0.1))

-- what was received into a buffer is held
received-whole : (content into whole items : List ℕ) (room n : ℕ) → take (length content) into ≡ content → whole ≡ take room (into ++ drop (length into) items) → room ≡ length into → n ≡ length content → take n whole ≡ content
received-whole content into whole items room n c e r l = rw (e, r, l, take-append_seam into (drop (length into) items)) c

dest-arrived : (s : Shape) (told : Told) (faults freed slot : ℕ) (hold new : Hold) (head : UnitHead) (content : List ℕ) → new ≡ arrived hold slot head content
    → dest_of s told faults new freed ≡ (let h = dest_of s told faults hold freed in record h { held = h.held ++ head ∷ []; contents = h.contents ++ content ∷ [] })
dest-arrived s told faults freed slot hold new head content e = rw (e, heads-arrived hold slot head content, contents-arrived hold slot head content) refl

pub arrives-received : (stream : ℕ) (groups : List (List Message)) (it : Option UnitHead) (head : UnitHead) (s shape : Shape) (into whole items : List ℕ) (room n : ℕ) (told : Told) (faults freed slot : ℕ) (hold new : Hold)
    → (let content = content_of_first (first_group groups) in
    it ≡ Some head → it ≡ head_of_first (first_group groups) → take (length content) into ≡ content
    → IfSome it (λ h. (h.unit.0 < units shape) × (length (take (length content) into) ≡ size shape h.unit.0))
    → whole ≡ take room (into ++ drop (length into) items) → room ≡ length into → shape ≡ s → n ≡ size s head.unit.0
    → Each (λ g. (1 ≤ length g) × (length g ≤ 1)) groups → new ≡ arrived hold slot head (take n whole)
    → Arrives 1 stream (Done (record { a = head.unit.0; b = head.version })) groups (dest_of s told faults hold freed) (dest_of s told faults new freed))
arrives-received stream groups it head s shape into whole items room n told faults freed slot hold new some first content_is in_range whole_is room_is shape_is n_is each e =
    let content = content_of_first (first_group groups) in
    let sized : length (take (length content) into) ≡ size shape head.unit.0 = (rw some at in_range).1 in
    let many : n ≡ length content = n_is ∙ ap (λ (x : Shape). size x head.unit.0) (sym shape_is) ∙ sym sized ∙ ap length content_is in
    arrives-alone stream groups head (take n whole) _ _ each (sym some ∙ first) (received-whole content into whole items room n content_is whole_is room_is many)
    (dest-arrived s told faults freed slot hold new head (take n whole) e)

-- the messages of a group, one after another
head-at : (group : List Message) (i : ℕ) → i < length group → get_or (heads_of group) i no_head ≡ (message_at group i).head
head-at group i h = get_or-map (λ m. m.head) group i no_message no_head h

count-front : (test : UnitHead → Bool) (ms : List UnitHead) (i : ℕ) → i < length ms → test (get_or ms i no_head) ≡ true → count test ms ≡ 1 → count test (take i ms) ≡ 0
count-front test ms i h passes once =
    let all = count-take-drop test i ms in
    let rest : 0 < count test (drop i ms) = rw (drop_more ms i no_head h, passes) (omega arith) in
    omega arith

-- a message is above what was written of its unit, and is not held
pub record MayHold (h : Dest) (m : UnitHead) : Type 0 where
  pub unwritten : number h.applied m.unit.0 < m.version
  pub not_held : count (is_version m.unit.0 m.version) h.held ≡ 0

may-hold-at : (h : Dest) (group : List Message) (i : ℕ) → CanTake h (heads_of group) → i < length group → MayHold (with_group h (take i group)) (message_at group i).head
may-hold-at h group i may lt =
    let many : length (heads_of group) ≡ length group = length-map group (λ m. m.head) in
    let in' : i < length (heads_of group) = omega arith in
    let is = head-at group i lt in
    let m = get_or (heads_of group) i no_head in
    let none : count (is_version m.unit.0 m.version) (take i (heads_of group)) ≡ 0 = count-front (is_version m.unit.0 m.version) (heads_of group) i in' (version_same m) (may.once i in') in
    let front : heads_of (take i group) ≡ take i (heads_of group) = sym (take-map (λ m. m.head) i group) in
    let held : count (is_version m.unit.0 m.version) (h.held ++ heads_of (take i group)) ≡ 0 =
    rw front (omega (arith, count-append (is_version m.unit.0 m.version) h.held (take i (heads_of group)), may.not_held i in')) in
    record {
      unwritten = rw is at (may.above i in');
      not_held = rw is at held;
    }

pub may-hold-next : (h now : Dest) (group : List Message) (i : ℕ) (head : UnitHead) → now ≡ with_group h (take i group) → head ≡ (message_at group i).head → CanTake h (heads_of group) → i < length group → MayHold now head
may-hold-next h now group i head e f may lt = rw (e, f) (may-hold-at h group i may lt)

pub with-next : (h now new : Dest) (group : List Message) (i : ℕ) (head : UnitHead) (content : List ℕ) → now ≡ with_group h (take i group) → i < length group → head ≡ (message_at group i).head → content ≡ (message_at group i).content
    → new ≡ record now { held = now.held ++ head ∷ []; contents = now.contents ++ content ∷ [] }
    → new ≡ with_group h (take (i + 1) group)
with-next h now new group i head content was lt e f is =
    let heads : h.held ++ heads_of (take (i + 1) group) ≡ h.held ++ heads_of (take i group) ++ (message_at group i).head ∷ [] =
    ap (λ xs. h.held ++ xs) (map_more (λ m. m.head) group i no_message lt) ∙ sym (append_assoc h.held (heads_of (take i group)) ((message_at group i).head ∷ [])) in
    let bytes : h.contents ++ contents_of (take (i + 1) group) ≡ h.contents ++ contents_of (take i group) ++ (message_at group i).content ∷ [] =
    ap (λ xs. h.contents ++ xs) (map_more (λ m. m.content) group i no_message lt) ∙ sym (append_assoc h.contents (contents_of (take i group)) ((message_at group i).content ∷ [])) in
    is ∙ rw (was, heads, bytes, e, f) refl
