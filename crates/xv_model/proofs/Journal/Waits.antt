-- How often a guest waits, after a queue has changed.
use Rattle.std.proofs.Common.{◌≡◌, ℕ, zero, suc, ◌+◌, ◌<◌, ◌==◌, if◌then◌else◌, List, [], ◌∷◌, ◌++◌, length, map, set, drop, get_or, refl, ap, arith}
use Rattle.xv_model.specs.View.{Disk, Waiting, no_disk, no_waiting}
use Rattle.xv_model.specs.Effect.{without_region}
use Rattle.xv_model.specs.Invariant.{waits_in, waits_in_all}

-- one more at the end of a queue, and one less at its front
pub waits-push : (ws : List Waiting) (w : Waiting) (g : ℕ) → waits_in (ws ++ w ∷ []) g ≡ waits_in ws g + (if w.guest.0 == g then 1 else 0)
waits-push [] w g = omega arith
waits-push (x ∷ ws) w g = omega (arith, waits-push ws w g)

pub waits-front : (ws : List Waiting) (g : ℕ) → 0 < length ws → waits_in (drop 1 ws) g + (if (get_or ws 0 no_waiting).guest.0 == g then 1 else 0) ≡ waits_in ws g
waits-front [] g l = absurd (omega arith)
waits-front (w ∷ ws) g l = omega arith

-- one disk in the place of another
pub waits-set : (ds : List Disk) (d : ℕ) (new : Disk) (g : ℕ) → d < length ds → waits_in_all (set ds d new) g + waits_in (get_or ds d no_disk).queue g ≡ waits_in_all ds g + waits_in new.queue g
waits-set [] d new g l = absurd (omega arith)
waits-set (k ∷ ds) zero new g l = omega arith
waits-set (k ∷ ds) (suc d) new g l = omega (arith, waits-set ds d new g (omega arith))

pub waits-set_same : (ds : List Disk) (d : ℕ) (new : Disk) (g : ℕ) → new.queue ≡ (get_or ds d no_disk).queue → waits_in_all (set ds d new) g ≡ waits_in_all ds g
waits-set_same [] d new g e = refl
waits-set_same (k ∷ ds) zero new g e = ap (λ (ws : List Waiting). waits_in ws g + waits_in_all ds g) e
waits-set_same (k ∷ ds) (suc d) new g e = ap (λ (n : ℕ). waits_in k.queue g + n) (waits-set_same ds d new g e)

pub waits-without : (ds : List Disk) (g : ℕ) → waits_in_all (map without_region ds) g ≡ waits_in_all ds g
waits-without [] g = refl
waits-without (k ∷ ds) g = ap (λ (n : ℕ). waits_in k.queue g + n) (waits-without ds g)

pub waits-none : {X : Type 0} (xs : List X) (g : ℕ) → waits_in_all (map (λ (_ : X). no_disk) xs) g ≡ 0
waits-none [] g = refl
waits-none (x ∷ xs) g = omega (arith, waits-none xs g)
