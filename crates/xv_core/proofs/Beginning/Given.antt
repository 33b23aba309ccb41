-- The parts of a migration, one by one and as they are seen together.
use Rattle.std.specs.Prelude.{◌≡◌, ℕ, List, map, Result, Ok, Err, IfOk, IfErr}
use Rattle.std.proofs.Common.{sym, ap, subst, ◌∙◌}
use Rattle.xv_wire.specs.Told.{Told as WireTold}
use Rattle.xv_job.specs.Written.{Written}
use Rattle.xv_core.specs.Seen.{Seen, OnDevice, OnWire}
use Rattle.xv_core.specs.PartsSeen.{PartsSeen}
use Rattle.xv_core.specs.Beginning.{AreFit, fresh_wire, begun}

-- what is fit as it is seen is fit as it is
pub fit-inside : {W : Type 0} (told : W → WireTold) (p q : PartsSeen W) → q ≡ p → AreFit told p → AreFit told q
fit-inside {W = W} told p q are h = subst (λ (x : PartsSeen W). AreFit told x) (sym are) h

module _ {W : Type 0} where
  -- a migration that began with each part began with all
  pub begun-with : {E : Type 0} (told : W → WireTold) (faults : W → ℕ) (found : Result Seen E) (p : PartsSeen W) (job : Written) (source dest : OnDevice) (ws : List W) (back : W) →
      record { job = job; source = source; dest = dest; wires = ws; back = back } ≡ p →
      IfOk found (λ m. m ≡ begun job source dest (map (λ w. fresh_wire (told w) (faults w)) ws) (fresh_wire (told back) (faults back))) →
      IfOk found (λ m. m ≡ begun p.job p.source p.dest (map (λ w. fresh_wire (told w) (faults w)) p.wires) (fresh_wire (told p.back) (faults p.back)))
  begun-with told faults (Err e) p job source dest ws back are h = tt
  begun-with told faults (Ok m) p job source dest ws back are h =
      h ∙ ap (λ (q : PartsSeen W). begun q.job q.source q.dest (map (λ w. fresh_wire (told w) (faults w)) q.wires) (fresh_wire (told q.back) (faults q.back))) are

  -- and parts each of which is handed back are the same
  pub handed-back : {T : Type 0} (found : Result T (PartsSeen W)) (p : PartsSeen W) (job : Written) (source dest : OnDevice) (ws : List W) (back : W) →
      record { job = job; source = source; dest = dest; wires = ws; back = back } ≡ p →
      IfErr found (λ q. q.job ≡ job) → IfErr found (λ q. q.source ≡ source) → IfErr found (λ q. q.dest ≡ dest) → IfErr found (λ q. q.wires ≡ ws) → IfErr found (λ q. q.back ≡ back) →
      IfErr found (λ q. q ≡ p)
  handed-back (Ok m) p job source dest ws back are a b c d e = tt
  handed-back (Err q) p job source dest ws back are a b c d e =
      ap (λ (x : Written). record q { job = x }) a
      ∙ ap (λ (x : OnDevice). record q { job = job; source = x }) b
      ∙ ap (λ (x : OnDevice). record q { job = job; source = source; dest = x }) c
      ∙ ap (λ (x : List W). record q { job = job; source = source; dest = dest; wires = x }) d
      ∙ ap (λ (x : W). record q { job = job; source = source; dest = dest; wires = ws; back = x }) e
      ∙ are
