-- The first crew is whole.
use Rattle.std.proofs.Common.{◌≡◌, ℕ, zero, suc, ◌+◌, ◌*◌, not, Bool, true, false, List, [], ◌∷◌, ◌++◌, length, append_assoc, refl, sym, ap, ◌∙◌, arith}
use Rattle.std.specs.Prelude.{count_by, if◌then◌else◌}
use Rattle.std.proofs.lemmas.List.Sums.{sum_by-append, sum_by_push}
use Rattle.xv_report.specs.declared.counts.Job1.{Job1}
use Rattle.xv_report.specs.declared.counts.Job1.TheVariants.{Copier, Pager, Sender, Receiver, Applier}
use Rattle.xv_model.specs.Job.{Job, guest_count}
use Rattle.xv_shared.specs.declared.passes.Pass.{Pass}
use Rattle.xv_shared.specs.Crews.{is_guest, AreAll}
use Rattle.xv_shared.specs.Held.{ByKind, by_kind}
use Rattle.xv_shared.specs.FirstCrew.{each_below, fresh_guest, fresh, first_crew, other_count}

-- how many pass a test that all of them pass, and that none passes
all-pass : {D Q F R : Type 0} → (test : Pass D Q F R → Bool) (n : ℕ) (pass : ℕ → Pass D Q F R) → ((k : ℕ) → test (pass k) ≡ true) → count_by test (each_below n pass) ≡ n
all-pass test zero pass h = refl
all-pass test (suc n) pass h =
    let e : count_by test (each_below (suc n) pass) ≡ n + 1 = sum_by_push (λ x. if test x then 1 else 0) (each_below n pass) (pass n) ∙ (ap (λ (b : Bool). count_by test (each_below n pass) + (if b then 1 else 0)) (h n) ∙ ap (λ (k : ℕ). k + 1) (all-pass test n pass h)) in
    omega (arith, e)

none-pass : {D Q F R : Type 0} → (test : Pass D Q F R → Bool) (n : ℕ) (pass : ℕ → Pass D Q F R) → ((k : ℕ) → test (pass k) ≡ false) → count_by test (each_below n pass) ≡ 0
none-pass test zero pass h = refl
none-pass test (suc n) pass h =
    let e : count_by test (each_below (suc n) pass) ≡ 0 + 0 = sum_by_push (λ x. if test x then 1 else 0) (each_below n pass) (pass n) ∙ (ap (λ (b : Bool). count_by test (each_below n pass) + (if b then 1 else 0)) (h n) ∙ ap (λ (k : ℕ). k + 0) (none-pass test n pass h)) in
    omega (arith, e)

-- one list behind another, whose numbers are known
behind : {A : Type 0} (test : A → Bool) (xs ys : List A) (m n : ℕ) → count_by test xs ≡ m → count_by test ys ≡ n → count_by test (xs ++ ys) ≡ m + n
behind test xs ys m n p q = sum_by-append (λ x. if test x then 1 else 0) xs ys ∙ (λ i. p i + q i)

-- the six kinds of workers
abbrev guests : (D Q F R : Type 0) → Job → List (Pass D Q F R)
guests D Q F R job = each_below (guest_count job) (fresh_guest job)

abbrev copiers : (D Q F R : Type 0) → Job → List (Pass D Q F R)
copiers D Q F R job = each_below (length job.copy.disks) (λ k. fresh (Copier k))

abbrev pagers : (D Q F R : Type 0) → List (Pass D Q F R)
pagers D Q F R = fresh Pager ∷ []

abbrev senders : (D Q F R : Type 0) → Job → List (Pass D Q F R)
senders D Q F R job = each_below job.config.streams (λ k. fresh (Sender k))

abbrev receivers : (D Q F R : Type 0) → Job → List (Pass D Q F R)
receivers D Q F R job = each_below job.config.streams (λ k. fresh (Receiver k))

abbrev appliers : (D Q F R : Type 0) → List (Pass D Q F R)
appliers D Q F R = fresh Applier ∷ []

six-counts : {A : Type 0} (test : A → Bool) (g c w s v a : List A) (ng nc nw ns nv na : ℕ) → count_by test g ≡ ng → count_by test c ≡ nc → count_by test w ≡ nw → count_by test s ≡ ns → count_by test v ≡ nv → count_by test a ≡ na → count_by test (g ++ (c ++ (w ++ (s ++ (v ++ a))))) ≡ ng + (nc + (nw + (ns + (nv + na))))
six-counts test g c w s v a ng nc nw ns nv na eg ec ew es ev ea =
    behind test g (c ++ (w ++ (s ++ (v ++ a)))) ng (nc + (nw + (ns + (nv + na)))) eg
    (behind test c (w ++ (s ++ (v ++ a))) nc (nw + (ns + (nv + na))) ec
    (behind test w (s ++ (v ++ a)) nw (ns + (nv + na)) ew
    (behind test s (v ++ a) ns (nv + na) es
    (behind test v a nv na ev ea))))

guests-of : (D Q F R : Type 0) (job : Job) → count_by (is_guest {D = D} {Q = Q} {F = F} {R = R}) (first_crew job) ≡ guest_count job + (0 + (0 + (0 + (0 + 0))))
guests-of D Q F R job =
    six-counts is_guest (guests D Q F R job) (copiers D Q F R job) (pagers D Q F R) (senders D Q F R job) (receivers D Q F R job) (appliers D Q F R) (guest_count job) 0 0 0 0 0
    (all-pass {D = D} {Q = Q} {F = F} {R = R} is_guest (guest_count job) (fresh_guest job) (λ k. refl))
    (none-pass {D = D} {Q = Q} {F = F} {R = R} is_guest (length job.copy.disks) (λ k. fresh (Copier k)) (λ k. refl))
    refl
    (none-pass {D = D} {Q = Q} {F = F} {R = R} is_guest job.config.streams (λ k. fresh (Sender k)) (λ k. refl))
    (none-pass {D = D} {Q = Q} {F = F} {R = R} is_guest job.config.streams (λ k. fresh (Receiver k)) (λ k. refl))
    refl

abbrev others : {D Q F R : Type 0} → List (Pass D Q F R) → ℕ
others passes = count_by (λ p. not (is_guest p)) passes

others-of : (D Q F R : Type 0) (job : Job) → others {D = D} {Q = Q} {F = F} {R = R} (first_crew job) ≡ 0 + (length job.copy.disks + (1 + (job.config.streams + (job.config.streams + 1))))
others-of D Q F R job =
    six-counts (λ (p : Pass D Q F R). not (is_guest p)) (guests D Q F R job) (copiers D Q F R job) (pagers D Q F R) (senders D Q F R job) (receivers D Q F R job) (appliers D Q F R) 0 (length job.copy.disks) 1 job.config.streams job.config.streams 1
    (none-pass {D = D} {Q = Q} {F = F} {R = R} (λ (p : Pass D Q F R). not (is_guest p)) (guest_count job) (fresh_guest job) (λ k. refl))
    (all-pass {D = D} {Q = Q} {F = F} {R = R} (λ (p : Pass D Q F R). not (is_guest p)) (length job.copy.disks) (λ k. fresh (Copier k)) (λ k. refl))
    refl
    (all-pass {D = D} {Q = Q} {F = F} {R = R} (λ (p : Pass D Q F R). not (is_guest p)) job.config.streams (λ k. fresh (Sender k)) (λ k. refl))
    (all-pass {D = D} {Q = Q} {F = F} {R = R} (λ (p : Pass D Q F R). not (is_guest p)) job.config.streams (λ k. fresh (Receiver k)) (λ k. refl))
    refl

pub first-all : {D Q F R : Type 0} (job : Job) (d q f r : ℕ) (passes : List (Pass D Q F R)) → passes ≡ first_crew job → d ≡ guest_count job → q ≡ guest_count job → f ≡ guest_count job → r ≡ other_count job → AreAll (by_kind d q f r) passes
first-all {D = D} {Q = Q} {F = F} {R = R} job d q f r passes first hd hq hf hr =
    let own : count_by is_guest passes ≡ guest_count job = ap (λ (ps : List (Pass D Q F R)). count_by is_guest ps) first ∙ (guests-of D Q F R job ∙ omega arith) in
    let rest : others passes ≡ other_count job = ap (λ (ps : List (Pass D Q F R)). others ps) first ∙ (others-of D Q F R job ∙ omega arith) in
    record { done = own ∙ sym hd; queued = own ∙ sym hq; faulted = own ∙ sym hf; other = rest ∙ sym hr }

-- the lists of passes that were put behind one another
pub put-together : {A : Type 0} (p0 p1 p2 p3 p4 p5 p6 g c w s v a : List A) → p0 ≡ [] → p1 ≡ p0 ++ g → p2 ≡ p1 ++ c → p3 ≡ p2 ++ w → p4 ≡ p3 ++ s → p5 ≡ p4 ++ v → p6 ≡ p5 ++ a → p6 ≡ g ++ (c ++ (w ++ (s ++ (v ++ a))))
put-together {A = A} p0 p1 p2 p3 p4 p5 p6 g c w s v a e0 e1 e2 e3 e4 e5 e6 =
    let f1 : p1 ≡ g = e1 ∙ ap (λ (x : List A). x ++ g) e0 in
    let f2 : p2 ≡ g ++ c = e2 ∙ ap (λ (x : List A). x ++ c) f1 in
    let f3 : p3 ≡ g ++ (c ++ w) = e3 ∙ (ap (λ (x : List A). x ++ w) f2 ∙ append_assoc g c w) in
    let f4 : p4 ≡ g ++ ((c ++ w) ++ s) = e4 ∙ (ap (λ (x : List A). x ++ s) f3 ∙ append_assoc g (c ++ w) s) in
    let f5 : p5 ≡ g ++ (((c ++ w) ++ s) ++ v) = e5 ∙ (ap (λ (x : List A). x ++ v) f4 ∙ append_assoc g ((c ++ w) ++ s) v) in
    let f6 : p6 ≡ g ++ ((((c ++ w) ++ s) ++ v) ++ a) = e6 ∙ (ap (λ (x : List A). x ++ a) f5 ∙ append_assoc g (((c ++ w) ++ s) ++ v) a) in
    f6 ∙ ap (λ (x : List A). g ++ x) (append_assoc ((c ++ w) ++ s) v a ∙ (append_assoc (c ++ w) s (v ++ a) ∙ append_assoc c w (s ++ (v ++ a))))

pub crew-of : {D Q F R : Type 0} (job : Job) (disks streams : ℕ) (passes : List (Pass D Q F R)) → disks ≡ length job.copy.disks → streams ≡ job.config.streams →
    passes ≡ each_below (guest_count job) (fresh_guest job) ++ (each_below disks (λ k. fresh (Copier k)) ++ (fresh Pager ∷ [] ++ (each_below streams (λ k. fresh (Sender k)) ++ (each_below streams (λ k. fresh (Receiver k)) ++ fresh Applier ∷ [])))) →
    passes ≡ first_crew job
crew-of job disks streams passes hd hs e =
    e ∙ (λ i. each_below (guest_count job) (fresh_guest job) ++ (each_below (hd i) (λ k. fresh (Copier k)) ++ (fresh Pager ∷ [] ++ (each_below (hs i) (λ k. fresh (Sender k)) ++ (each_below (hs i) (λ k. fresh (Receiver k)) ++ fresh Applier ∷ [])))))
