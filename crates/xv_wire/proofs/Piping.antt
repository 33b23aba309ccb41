-- The bytes of a wire in memory after a put and after a take.
use Rattle.std.proofs.Common.{◌≡◌, ℕ, ◌+◌, ◌-◌, ◌^◌, ◌<◌, ◌≤◌, List, [], ◌∷◌, ◌++◌, length, take, drop, sym, ap, ◌∙◌, arith, length-append, length-drop}
use Rattle.std.specs.Prelude.{min}
use Rattle.std.proofs.lemmas.List.{take_all, take-append-drop, drop-append-le, length-take, length_push}
use Rattle.circular_buffer.specs.Buffer.{Buffer, buffer}
use Rattle.xv_base.specs.Calls.{next_count}
use Rattle.xv_wire.specs.Wire.{left_past, is_inside}
use Rattle.xv_wire.specs.Lengths.{InTransit, total}
use Rattle.xv_wire.specs.Memory.{IsPipe}
use Rattle.xv_wire.proofs.Passing.{total-push, total-left, length-left, inside-none}

-- the room behind what was read
pub behind : (r most : ℕ) (xs : List ℕ) → r ≤ most → most ≤ length xs → drop r (take most xs) ++ drop most xs ≡ drop r xs
behind r most xs h fits =
    let l : r ≤ length (take most xs) = omega (arith, length-take most xs) in
    sym (drop-append-le r (take most xs) (drop most xs) l) ∙ ap (drop r) (take-append-drop most xs)

push-some : (xs : List ℕ) (k : ℕ) → xs ++ k ∷ [] ≡ [] → ⊥
push-some [] k e = cc
push-some (x ∷ xs) k e = cc

pub put-keeps : (capacity piece room puts calls sent count : ℕ) (transit bytes : List ℕ) (old new : InTransit) (b : Buffer ℕ)
    → IsPipe capacity piece transit room old puts sent → puts < 2 ^ 63 → calls ≡ next_count puts → length transit + length bytes ≤ capacity
    → count ≡ min (length bytes) (room - length transit) → b ≡ buffer (transit ++ take count bytes) room
    → new ≡ record old { left = old.left ++ length bytes ∷ [] }
    → IsPipe capacity piece b.items b.capacity new calls (sent + 1)
put-keeps capacity piece room puts calls sent count transit bytes old new b h few one fits c e n =
    let all : count ≡ length bytes = omega (arith, h.roomy) in
    let items : b.items ≡ transit ++ bytes = ap (λ (x : Buffer ℕ). x.items) e ∙ ap (λ xs. transit ++ xs) (take_all count bytes (omega arith)) in
    let left : new.left ≡ old.left ++ length bytes ∷ [] = ap (λ (x : InTransit). x.left) n in
    let long : length b.items ≡ length transit + length bytes = ap length items ∙ length-append transit bytes in
    record {
      gives = h.gives;
      roomy = ap (λ (x : Buffer ℕ). x.capacity) e ∙ h.roomy;
      within = omega (arith, long);
      whole = ap total left ∙ total-push old.left (length bytes) ∙ omega (arith, long, h.whole);
      as_many = ap (λ (x : InTransit). x.most) n ∙ h.as_many;
      put = omega (arith, ap length left, length_push old.left (length bytes), h.put);
      called = omega (arith, h.called, one);
      countable = omega (arith, one);
      met_some = λ none. absurd (push-some old.left (length bytes) (sym left ∙ none));
    }

pub take-keeps : (capacity piece room puts sent count : ℕ) (transit : List ℕ) (old new : InTransit) (b : Buffer ℕ)
    → IsPipe capacity piece transit room old puts sent → count ≤ length transit → b ≡ buffer (drop count transit) room
    → new ≡ record old { left = left_past count old.left; met = is_inside count old.left }
    → IsPipe capacity piece b.items b.capacity new puts sent
take-keeps capacity piece room puts sent count transit old new b h there e n =
    let items : b.items ≡ drop count transit = ap (λ (x : Buffer ℕ). x.items) e in
    let left : new.left ≡ left_past count old.left = ap (λ (x : InTransit). x.left) n in
    let long : length b.items ≡ length transit - count = ap length items ∙ length-drop count transit in
    record {
      gives = h.gives;
      roomy = ap (λ (x : Buffer ℕ). x.capacity) e ∙ h.roomy;
      within = omega (arith, long, h.within);
      whole = omega (arith, ap total left, total-left count old.left (omega (arith, h.whole)), long, h.whole);
      as_many = ap (λ (x : InTransit). x.most) n ∙ h.as_many;
      put = omega (arith, ap length left, length-left count old.left, h.put);
      called = h.called;
      countable = h.countable;
      met_some = λ none. ap (λ (x : InTransit). x.met) n ∙ inside-none count old.left (sym left ∙ none);
    }
