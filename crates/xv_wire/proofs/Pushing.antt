-- A piece more, for which the ring of lengths has room.
use Rattle.std.proofs.Common.{◌≡◌, ℕ, ◌+◌, ◌-◌, ◌/◌, ◌<◌, ◌≤◌, List, [], ◌∷◌, ◌++◌, length, drop, sym, ap, ◌∙◌, arith, subst, None, Bool}
use Rattle.std.specs.Prelude.{slice_get}
use Rattle.std.proofs.lemmas.List.{length_push}
use Rattle.circular_buffer.specs.Buffer.{Buffer, buffer, keep_last}
use Rattle.xv_wire.specs.declared.wire.TheConstants.{LEAST_PUT}
use Rattle.xv_wire.specs.Wire.{left_past}
use Rattle.xv_wire.specs.Lengths.{in_transit, total, AreWide, IsPart}
use Rattle.xv_wire.proofs.Passing.{part-left, wide-push, part-push, total-push, room-for-one, left-push}

pub none-left : (xs : List ℕ) (n : ℕ) → None ≡ slice_get xs 0 → n ≤ total xs → n ≡ 0
none-left [] n e h = omega arith
none-left (x ∷ xs) n e h = cc

pub record IsPushed (xs : List ℕ) (k n most : ℕ) (new : Buffer ℕ) : Type 0 where
  pub items : new.items ≡ xs ++ k ∷ []
  pub sound : AreWide new.items × IsPart n new.items × (total new.items ≤ n + most) × (new.capacity ≡ most / LEAST_PUT + 1)

keeps-all : (xs : List ℕ) (k cap : ℕ) → length xs < cap → keep_last cap (xs ++ k ∷ []) ≡ xs ++ k ∷ []
keeps-all xs k cap h = let e : length (xs ++ k ∷ []) - cap ≡ 0 = omega (arith, length_push xs k) in ap (λ m. drop m (xs ++ k ∷ [])) e

pub pushed : (xs : List ℕ) (cap k n most : ℕ) (new : Buffer ℕ) → AreWide xs → IsPart n xs → cap ≡ most / LEAST_PUT + 1 → total (left_past n xs) + k ≤ most → LEAST_PUT ≤ k
    → new ≡ buffer (keep_last cap (xs ++ k ∷ [])) cap → IsPushed xs k n most new
pushed xs cap k n most new wide part c room w e =
    let items : new.items ≡ xs ++ k ∷ [] = ap (λ (b : Buffer ℕ). b.items) e ∙ keeps-all xs k cap (omega (arith, room-for-one n xs most k wide part room w)) in
    let sums : total new.items ≡ total xs + k = ap total items ∙ total-push xs k in
    record {
      items = items;
      sound = (subst AreWide (sym items) (wide-push xs k wide w), subst (IsPart n) (sym items) (part-push n xs k part (omega arith)), omega (arith, sums, part-left n xs part), ap (λ (b : Buffer ℕ). b.capacity) e ∙ c);
    }

pub push-seen : (xs : List ℕ) (k n most : ℕ) (halted : Bool) (new : Buffer ℕ) → IsPart n xs → LEAST_PUT ≤ k → IsPushed xs k n most new
    → in_transit new.items n halted most ≡ record (in_transit xs n halted most) { left = left_past n xs ++ k ∷ [] }
push-seen xs k n most halted new part w p =
    ap (λ (ys : List ℕ). in_transit ys n halted most) p.items
    ∙ ap (λ (ys : List ℕ). record (in_transit xs n halted most) { left = ys }) (left-push n k xs part (omega arith))
