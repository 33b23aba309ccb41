-- No two workers have one name.
use Rattle.std.proofs.Common.{◌≡◌, ℕ, ◌<◌, eqb, true, false, List, [], ◌∷◌, drop, decimal, true≢false, refl, sym, ap, ◌∙◌, arith}
use Rattle.std.proofs.lemmas.Bool.{eq-eqb}
use Rattle.std.proofs.lemmas.Fmt.{decimal_injective}
use Rattle.xv_report.specs.declared.counts.Job1.{Job1}
use Rattle.xv_report.specs.declared.counts.Job1.TheVariants.{Guest, Copier, Pager, Sender, Receiver, Applier}
use Rattle.xv_report.specs.Workers.{worker_name, is_worker, HasSmallNumber}

-- two small numbers of the same digits are one
same-number : (i j : ℕ) → i < 256 → j < 256 → decimal i ≡ decimal j → eqb i j ≡ true
same-number i j h k e = eq-eqb i j (decimal_injective i j (omega arith) (omega arith) e)

-- names of workers of two kinds begin with two letters
abbrev letter : List ℕ → ℕ
letter [] = 0
letter (x ∷ xs) = x

other-letter : (xs ys : List ℕ) → eqb (letter xs) (letter ys) ≡ false → xs ≡ ys → ⊥
other-letter xs ys d e = true≢false (sym (eq-eqb (letter xs) (letter ys) (ap letter e)) ∙ d)

-- two workers of one name are one worker
pub named-worker : (a b : Job1) → HasSmallNumber a → HasSmallNumber b → worker_name a ≡ worker_name b → is_worker a b ≡ true
named-worker (Guest i) (Guest j) h k e = same-number i j h k (ap (drop 6) e)
named-worker (Guest i) (Copier j) h k e = absurd (other-letter _ _ refl e)
named-worker (Guest i) Pager h k e = absurd (other-letter _ _ refl e)
named-worker (Guest i) (Sender j) h k e = absurd (other-letter _ _ refl e)
named-worker (Guest i) (Receiver j) h k e = absurd (other-letter _ _ refl e)
named-worker (Guest i) Applier h k e = absurd (other-letter _ _ refl e)
named-worker (Copier i) (Guest j) h k e = absurd (other-letter _ _ refl e)
named-worker (Copier i) (Copier j) h k e = same-number i j h k (ap (drop 7) e)
named-worker (Copier i) Pager h k e = absurd (other-letter _ _ refl e)
named-worker (Copier i) (Sender j) h k e = absurd (other-letter _ _ refl e)
named-worker (Copier i) (Receiver j) h k e = absurd (other-letter _ _ refl e)
named-worker (Copier i) Applier h k e = absurd (other-letter _ _ refl e)
named-worker Pager (Guest j) h k e = absurd (other-letter _ _ refl e)
named-worker Pager (Copier j) h k e = absurd (other-letter _ _ refl e)
named-worker Pager Pager h k e = refl
named-worker Pager (Sender j) h k e = absurd (other-letter _ _ refl e)
named-worker Pager (Receiver j) h k e = absurd (other-letter _ _ refl e)
named-worker Pager Applier h k e = absurd (other-letter _ _ refl e)
named-worker (Sender i) (Guest j) h k e = absurd (other-letter _ _ refl e)
named-worker (Sender i) (Copier j) h k e = absurd (other-letter _ _ refl e)
named-worker (Sender i) Pager h k e = absurd (other-letter _ _ refl e)
named-worker (Sender i) (Sender j) h k e = same-number i j h k (ap (drop 7) e)
named-worker (Sender i) (Receiver j) h k e = absurd (other-letter _ _ refl e)
named-worker (Sender i) Applier h k e = absurd (other-letter _ _ refl e)
named-worker (Receiver i) (Guest j) h k e = absurd (other-letter _ _ refl e)
named-worker (Receiver i) (Copier j) h k e = absurd (other-letter _ _ refl e)
named-worker (Receiver i) Pager h k e = absurd (other-letter _ _ refl e)
named-worker (Receiver i) (Sender j) h k e = absurd (other-letter _ _ refl e)
named-worker (Receiver i) (Receiver j) h k e = same-number i j h k (ap (drop 9) e)
named-worker (Receiver i) Applier h k e = absurd (other-letter _ _ refl e)
named-worker Applier (Guest j) h k e = absurd (other-letter _ _ refl e)
named-worker Applier (Copier j) h k e = absurd (other-letter _ _ refl e)
named-worker Applier Pager h k e = absurd (other-letter _ _ refl e)
named-worker Applier (Sender j) h k e = absurd (other-letter _ _ refl e)
named-worker Applier (Receiver j) h k e = absurd (other-letter _ _ refl e)
named-worker Applier Applier h k e = refl
