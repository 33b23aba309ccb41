-- Wires beside lanes: what is seen at a place, and after a change there.
use Rattle.std.proofs.Common.{◌≡◌, ℕ, zero, suc, ◌<◌, List, [], ◌∷◌, ◌++◌, length, get_or, set, sym, ap, ◌∙◌, arith, refl}
use Rattle.xv_base.specs.Units.{Shape}
use Rattle.xv_wire.specs.Told.{Told}
use Rattle.xv_streams.specs.Gathered.{Gathered}
use Rattle.std.proofs.lemmas.List.{length-map}
use Rattle.xv_frame.specs.Reading.{frames_in}
use Rattle.xv_streams.specs.Streamed.{messages_of, seen_lane, seen_lanes, IsLaneOf, AreLanesOf, no_lane}

module _ {A : Type 0} (t : A → Told) (f : A → ℕ) (s : Shape) (format : ℕ) where
  pub as-many : (ws : List A) (ls : List Gathered) → AreLanesOf t s format ws ls → length ws ≡ length ls
  as-many [] [] h = refl
  as-many [] (l ∷ ls) h = absurd h
  as-many (w ∷ ws) [] h = absurd h
  as-many (w ∷ ws) (l ∷ ls) h = ap suc (as-many ws ls h.1)

  pub length-seen : (ws : List A) (ls : List Gathered) → AreLanesOf t s format ws ls → length (seen_lanes t f s ws ls) ≡ length ls
  length-seen [] [] h = refl
  length-seen [] (l ∷ ls) h = absurd h
  length-seen (w ∷ ws) [] h = absurd h
  length-seen (w ∷ ws) (l ∷ ls) h = ap suc (length-seen ws ls h.1)

  pub lane-at : (ws : List A) (ls : List Gathered) (k : ℕ) (d : A) (e : Gathered) → AreLanesOf t s format ws ls → k < length ls → IsLaneOf s format (t (get_or ws k d)) (get_or ls k e)
  lane-at [] [] k d e h b = absurd (omega arith)
  lane-at [] (l ∷ ls) k d e h b = absurd h
  lane-at (w ∷ ws) [] k d e h b = absurd h
  lane-at (w ∷ ws) (l ∷ ls) zero d e h b = h.0
  lane-at (w ∷ ws) (l ∷ ls) (suc k) d e h b = lane-at ws ls k d e h.1 (omega arith)

  pub seen-at : (ws : List A) (ls : List Gathered) (k : ℕ) (d : A) (e : Gathered) → AreLanesOf t s format ws ls → k < length ls
      → get_or (seen_lanes t f s ws ls) k no_lane ≡ seen_lane s (t (get_or ws k d)) (f (get_or ws k d)) (get_or ls k e)
  seen-at [] [] k d e h b = absurd (omega arith)
  seen-at [] (l ∷ ls) k d e h b = absurd h
  seen-at (w ∷ ws) [] k d e h b = absurd h
  seen-at (w ∷ ws) (l ∷ ls) zero d e h b = refl
  seen-at (w ∷ ws) (l ∷ ls) (suc k) d e h b = seen-at ws ls k d e h.1 (omega arith)

  pub lanes-set : (ws : List A) (ls : List Gathered) (k : ℕ) (w : A) (l : Gathered) → AreLanesOf t s format ws ls → IsLaneOf s format (t w) l → AreLanesOf t s format (set ws k w) (set ls k l)
  lanes-set [] [] k w l h i = tt
  lanes-set [] (m ∷ ls) k w l h i = absurd h
  lanes-set (v ∷ ws) [] k w l h i = absurd h
  lanes-set (v ∷ ws) (m ∷ ls) zero w l h i = (i, h.1)
  lanes-set (v ∷ ws) (m ∷ ls) (suc k) w l h i = (h.0, lanes-set ws ls k w l h.1 i)

  pub seen-set : (ws : List A) (ls : List Gathered) (k : ℕ) (w : A) (l : Gathered) → AreLanesOf t s format ws ls
      → seen_lanes t f s (set ws k w) (set ls k l) ≡ set (seen_lanes t f s ws ls) k (seen_lane s (t w) (f w) l)
  seen-set [] [] k w l h = refl
  seen-set [] (m ∷ ls) k w l h = absurd h
  seen-set (v ∷ ws) [] k w l h = absurd h
  seen-set (v ∷ ws) (m ∷ ls) zero w l h = refl
  seen-set (v ∷ ws) (m ∷ ls) (suc k) w l h = ap (λ xs. seen_lane s (t v) (f v) m ∷ xs) (seen-set ws ls k w l h.1)

  -- as many groups are seen as are counted
  pub counted-at : (ws : List A) (ls : List Gathered) (k : ℕ) (e : Gathered) → AreLanesOf t s format ws ls → k < length ls
      → (get_or ls k e).waiting ≡ length (get_or (seen_lanes t f s ws ls) k no_lane).groups
  counted-at [] [] k e h b = absurd (omega arith)
  counted-at [] (l ∷ ls) k e h b = absurd h
  counted-at (w ∷ ws) [] k e h b = absurd h
  counted-at (w ∷ ws) (l ∷ ls) zero e h b = h.0.counted ∙ sym (length-map (frames_in s (l.bytes ++ (t w).transit)) messages_of)
  counted-at (w ∷ ws) (l ∷ ls) (suc k) e h b = counted-at ws ls k e h.1 (omega arith)
