-- The group that is being made: one message more, its frame, and none any more.
use Rattle.std.proofs.Common.{◌≡◌, ℕ, zero, suc, ◌+◌, ◌-◌, ◌*◌, ◌<◌, ◌≤◌, List, [], ◌∷◌, ◌++◌, length, take, drop, sym, ap, ◌∙◌, arith, refl, subst, append_assoc, length-append}
use Rattle.std.proofs.Math.Nat.{mul-le-mul_right}
use Rattle.std.proofs.lemmas.List.{take_at, drop-append-le, drop-take, append-nil, length-take, length_push}
use Rattle.std.proofs.Math.Seq.{take-append-add}
use Rattle.std.proofs.lemmas.List.Concat.{flat_map-append}
use Rattle.xv_base.specs.Units.{Shape, max_size}
use Rattle.xv_base.specs.Layout.{IsGood}
use Rattle.xv_frame.specs.Frame.{Message, GroupFrame, Each, IsFrame, IsMessage, group_head, entry, entries, spelled}
use Rattle.xv_frame.specs.Reading.{front_entries}
use Rattle.xv_frame.proofs.Accepted.{entries-back, length-entries}
use Rattle.xv_frame.proofs.ReadHeads.{length-group-head}
use Rattle.xv_streams.specs.Streamed.{frame_room}
use Rattle.xv_streams.specs.Carried.{IsMade}
use Rattle.xv_streams.specs.Groups.{messages_in, IsMaking}
use Rattle.xv_streams.proofs.EntrySteps.{length-front}
use Rattle.xv_streams.proofs.Carries.{each-append, content-fits, entries-fit, group-fits}

-- whatever the buffer has, where no group is being made
pub none-made : (s : Shape) (format count end : ℕ) (frame next : List ℕ) → IsMaking s format count end frame → format ≡ 1 → IsMaking s format count end next × (messages_in s count next ≡ messages_in s count frame)
none-made s format count end frame next h e =
    let none : count ≡ 0 = h.none e in
    let same : messages_in s count next ≡ messages_in s count frame = ap (λ k. messages_in s k next) none ∙ sym (ap (λ k. messages_in s k frame) none) in (
      record {
        few = h.few;
        ends = h.ends ∙ ap (λ ms. 24 + length (entries ms)) (sym same);
        laid = subst (λ k. take (length (entries (messages_in s k next))) (drop 24 next) ≡ entries (messages_in s k next)) (sym none) refl;
        each = subst (Each (IsMessage s)) (sym same) h.each;
        none = h.none;
      },
      same,
    )

-- no group is being made any more
pub none-left : (s : Shape) (format : ℕ) (frame : List ℕ) → IsMaking s format 0 24 frame
none-left s format frame = record { few = omega arith; ends = refl; laid = refl; each = tt; none = λ _. refl }

-- how many messages it has
pub many-made : (s : Shape) (count : ℕ) (frame : List ℕ) → length (messages_in s count frame) ≡ count
many-made s count frame = length-front s count (drop 24 frame)

-- one message more fits the buffer
pub add-fits : (s : Shape) (format count end n : ℕ) (frame : List ℕ) → IsGood s → IsMaking s format count end frame → length frame ≡ frame_room s format → format ≡ 2 → count < 16 → n ≤ max_size s
    → end + (20 + n) ≤ length frame
add-fits s format count end n frame g h room e few size =
    let ms = messages_in s count frame in
    let roomy : length frame ≡ 24 + 16 * (20 + max_size s) = room ∙ ap (frame_room s) e in
    let most : length ms * (20 + max_size s) ≤ 15 * (20 + max_size s) = mul-le-mul_right (20 + max_size s) (omega (arith, many-made s count frame)) in
    omega (arith, h.ends, entries-fit s ms g h.each, most, roomy)

-- the entry of one more behind those that are there
pub record OneMore (s : Shape) (format count end : ℕ) (frame next : List ℕ) (m : Message) : Type 0 where
  pub making : IsMaking s format (count + 1) (end + length (entry m)) next
  pub list : messages_in s (count + 1) next ≡ messages_in s count frame ++ m ∷ []

pub one-more : (s : Shape) (format count end : ℕ) (frame next : List ℕ) (m : Message) → IsGood s → IsMaking s format count end frame → format ≡ 2 → count < 16 → IsMessage s m → length frame ≡ frame_room s format
    → next ≡ take end frame ++ (entry m ++ drop (end + length (entry m)) frame) → OneMore s format count end frame next m
one-more s format count end frame next m g h e few good room written =
    let fits : end + (20 + length m.content) ≤ length frame = add-fits s format count end (length m.content) frame g h room e few (content-fits s m g good) in
    let ms = messages_in s count frame in
    let all : List Message = ms ++ m ∷ [] in
    let z = length (entries ms) in
    let rest = drop (end + length (entry m)) frame in
    let one : entries (m ∷ []) ≡ entry m = append-nil (entry m) in
    let joined : entries all ≡ entries ms ++ entry m = flat_map-append entry ms (m ∷ []) ∙ ap (λ xs. entries ms ++ xs) one in
    let begun : drop 24 (take end frame) ≡ entries ms = ap (λ k. drop 24 (take k frame)) h.ends ∙ drop-take 24 z frame ∙ h.laid in
    let behind : drop 24 next ≡ entries all ++ rest =
    ap (drop 24) written ∙ drop-append-le 24 (take end frame) (entry m ++ rest) (omega (arith, length-take end frame, h.ends, fits)) ∙ ap (λ xs. xs ++ (entry m ++ rest)) begun
    ∙ sym (append_assoc (entries ms) (entry m) rest) ∙ ap (λ xs. xs ++ rest) (sym joined) in
    let each : Each (IsMessage s) all = each-append (IsMessage s) ms (m ∷ []) h.each (good, tt) in
    let long : length all ≡ count + 1 = length_push ms m ∙ ap (λ k. k + 1) (many-made s count frame) in
    let list : messages_in s (count + 1) next ≡ all = (let back : count + 1 ≡ length all = sym long in λ i. front_entries s (back i) (behind i)) ∙ entries-back s all rest g each in
    record {
      making = record {
        few = omega arith;
        ends = omega (arith, h.ends, ap (λ xs. length (entries xs)) list, ap length joined, length-append (entries ms) (entry m));
        laid = ap (λ xs. take (length (entries xs)) (drop 24 next)) list ∙ ap (take (length (entries all))) behind ∙ take_at (entries all) rest (length (entries all)) refl ∙ ap entries (sym list);
        each = subst (Each (IsMessage s)) (sym list) each;
        none = λ d. absurd (omega (arith, d, e));
      };
      list = list;
    }

-- the frame of the group
pub record FrameMade (s : Shape) (format count end : ℕ) (frame next : List ℕ) : Type 0 where
  pub spelling : take end next ≡ spelled (GroupFrame (messages_in s count frame))
  pub long : length (spelled (GroupFrame (messages_in s count frame))) ≡ end
  pub good : IsFrame s (GroupFrame (messages_in s count frame))
  pub format_is : format ≡ 2
  pub fits : end ≤ frame_room s format

by-format : (format count : ℕ) → 1 ≤ format → format ≤ 2 → 1 ≤ count → (format ≡ 1 → count ≡ 0) → format ≡ 2
by-format zero count low high some none = absurd (omega arith)
by-format (suc zero) count low high some none = absurd (omega (arith, none refl))
by-format (suc (suc zero)) count low high some none = refl
by-format (suc (suc (suc n))) count low high some none = absurd (omega arith)

pub frame-made : (s : Shape) (format count end : ℕ) (frame next : List ℕ) → IsGood s → IsMaking s format count end frame → 1 ≤ format → format ≤ 2 → 1 ≤ count → next ≡ group_head count (end - 24) ++ drop 24 frame
    → FrameMade s format count end frame next
frame-made s format count end frame next g h low high some written =
    let ms = messages_in s count frame in
    let z = length (entries ms) in
    let many : length ms ≡ count = many-made s count frame in
    let left : end - 24 ≡ z = omega (arith, h.ends) in
    let head : List ℕ = group_head (length ms) z in
    let is : next ≡ head ++ drop 24 frame = written ∙ (let back : count ≡ length ms = sym many in λ i. group_head (back i) (left i) ++ drop 24 frame) in
    let begins : length head ≡ 24 = length-group-head (length ms) z in
    let two : format ≡ 2 = by-format format count low high some h.none in
    let most : length ms * (20 + max_size s) ≤ 16 * (20 + max_size s) = mul-le-mul_right (20 + max_size s) (omega (arith, many, h.few)) in
    record {
      spelling = ap (λ k. take k next) h.ends ∙ ap (take (24 + z)) is ∙ ap (λ k. take (k + z) (head ++ drop 24 frame)) (sym begins) ∙ take-append-add head (drop 24 frame) z ∙ ap (λ xs. head ++ xs) h.laid;
      long = length-append head (entries ms) ∙ ap (λ k. k + z) begins ∙ sym h.ends;
      good = record { some = omega (arith, many); few = omega (arith, many, h.few); each = h.each };
      format_is = two;
      fits = subst (λ k. end ≤ frame_room s k) (sym two) (omega (arith, h.ends, entries-fit s ms g h.each, most));
    }

-- what the layer above may know of it
pub made-is : (s : Shape) (format count end : ℕ) (frame : List ℕ) → IsGood s → IsMaking s format count end frame → IsMade s (messages_in s count frame)
made-is s format count end frame g h = record {
  few = omega (arith, many-made s count frame, h.few);
  each = h.each;
  few_bytes = λ some. group-fits s (messages_in s count frame) g h.each some;
}

pub end-small : (s : Shape) (format count end : ℕ) (frame : List ℕ) → IsGood s → IsMaking s format count end frame → end ≤ 65880
end-small s format count end frame g h =
    omega (arith, h.ends, h.few, many-made s count frame, length-entries s (messages_in s count frame) g h.each)
