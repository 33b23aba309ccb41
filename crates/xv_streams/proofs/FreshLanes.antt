-- Lanes over wires in which nothing is in transit.
use Rattle.std.proofs.Common.{◌≡◌, ℕ, suc, List, [], ◌∷◌, ◌++◌, length, map, replicate, sym, ap, arith, refl, subst}
use Rattle.std.specs.Prelude.{All}
use Rattle.xv_base.specs.Units.{Shape}
use Rattle.xv_frame.specs.Reading.{frames_in}
use Rattle.xv_wire.specs.Told.{Told}
use Rattle.xv_streams.specs.Gathered.{Gathered}
use Rattle.xv_streams.specs.Streamed.{LaneSeen, seen_lanes, IsLaneOf, AreLanesOf, fresh_lane, frame_room, messages_of}

abbrev pub fresh : ℕ → Gathered
fresh r = record { bytes = []; room = r; waiting = 0 }

fresh-is : (s : Shape) (format r : ℕ) (told : Told) → told.transit ≡ [] → r ≡ frame_room s format → IsLaneOf s format told (fresh r)
fresh-is s format r told none e =
    subst (λ (xs : List ℕ). IsLaneOf s format (record told { transit = xs }) (fresh r)) (sym none)
    (record { lane = record { stand = refl; each = tt; part = omega arith; fit = tt }; kinds = tt; counted = refl; roomy = e })

module _ {A : Type 0} (t : A → Told) (f : A → ℕ) (s : Shape) (format r : ℕ) where
  pub fresh-are : (ws : List A) → All (λ w. (t w).transit ≡ []) ws → r ≡ frame_room s format → AreLanesOf t s format ws (replicate (length ws) (fresh r))
  fresh-are [] h e = tt
  fresh-are (w ∷ ws) h e = (fresh-is s format r (t w) (h 0 w (omega arith)) e, fresh-are ws (λ k d b. h (suc k) d (omega arith)) e)

  pub fresh-seen : (ws : List A) → All (λ w. (t w).transit ≡ []) ws → seen_lanes t f s ws (replicate (length ws) (fresh r)) ≡ map (λ w. fresh_lane (t w) (f w)) ws
  fresh-seen [] h = refl
  fresh-seen (w ∷ ws) h =
      let none : frames_in s ([] ++ (t w).transit) ≡ [] = ap (frames_in s) (h 0 w (omega arith)) in
      λ i. record { groups = map messages_of (none i); gathered = []; wire = t w; faults = f w } ∷ fresh-seen ws (λ k d b. h (suc k) d (omega arith)) i

  pub wires-seen : (ws : List A) (ls : List Gathered) → AreLanesOf t s format ws ls → map t ws ≡ map (λ (l : LaneSeen). l.wire) (seen_lanes t f s ws ls)
  wires-seen [] [] h = refl
  wires-seen [] (l ∷ ls) h = absurd h
  wires-seen (w ∷ ws) [] h = absurd h
  wires-seen (w ∷ ws) (l ∷ ls) h = ap (λ xs. t w ∷ xs) (wires-seen ws ls h.1)

  pub faults-seen : (ws : List A) (ls : List Gathered) → AreLanesOf t s format ws ls → map f ws ≡ map (λ (l : LaneSeen). l.faults) (seen_lanes t f s ws ls)
  faults-seen [] [] h = refl
  faults-seen [] (l ∷ ls) h = absurd h
  faults-seen (w ∷ ws) [] h = absurd h
  faults-seen (w ∷ ws) (l ∷ ls) h = ap (λ xs. f w ∷ xs) (faults-seen ws ls h.1)
