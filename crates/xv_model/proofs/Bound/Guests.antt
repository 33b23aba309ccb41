-- The operations that have ended and the guests that wait are together at most the operations of the job.
use Rattle.std.proofs.Common.{◌≡◌, ℕ, zero, suc, ◌+◌, ◌<◌, ◌≤◌, ◌==◌, is_some, Bool, true, false, if◌then◌else◌, List, [], ◌∷◌, length, get_or, refl, ap, subst, inl, inr, arith}
use Rattle.std.specs.Prelude.{sum_by}
use Rattle.std.proofs.lemmas.List.{get_or_past}
use Rattle.std.proofs.lemmas.List.Sums.{sum_by-cons}
use Rattle.std.proofs.lemmas.Bool.{both_ways, cases_lt, cases_eq, and_parts, eqb-true, eq-eqb, cases_Bool}
use Rattle.xv_model.specs.Job.{Job, UnitOp, guest_count, operation_count, trace, operation, no_operation}
use Rattle.xv_model.specs.Guest.{Ended, ended, writes_to}
use Rattle.xv_model.specs.View.{View, Disk, Waiting, no_disk, no_waiting}
use Rattle.xv_model.specs.Wait.{next_operation}
use Rattle.xv_model.specs.Invariant.{IsViewOf, waits_in, waits_in_all, waiting_at}
use Rattle.xv_model.specs.Work.{waiting_count}

-- the sum over the first n guests
abbrev pub tally : ℕ → (ℕ → ℕ) → ℕ
tally zero f = 0
tally (suc n) f = f 0 + tally n (λ g. f (suc g))

tally-le : (n : ℕ) (f h : ℕ → ℕ) → ((g : ℕ) → f g ≤ h g) → tally n f ≤ tally n h
tally-le zero f h le = omega arith
tally-le (suc n) f h le = omega (arith, le 0, tally-le n (λ g. f (suc g)) (λ g. h (suc g)) (λ g. le (suc g)))

tally-add : (n : ℕ) (f h : ℕ → ℕ) → tally n (λ g. f g + h g) ≡ tally n f + tally n h
tally-add zero f h = refl
tally-add (suc n) f h = omega (arith, tally-add n (λ g. f (suc g)) (λ g. h (suc g)))

tally-lengths : (traces : List (List UnitOp)) → tally (length traces) (λ g. length (get_or traces g [])) ≡ sum_by (λ ops. length ops) traces
tally-lengths [] = refl
tally-lengths (ops ∷ traces) = omega (arith, tally-lengths traces, sum_by-cons (λ (xs : List UnitOp). length xs) ops traces)

-- one guest is counted
same_later : (x g : ℕ) → (if x == g then 1 else 0) ≤ (if suc x == suc g then 1 else 0)
same_later x g = elim (cases_eq x g) [
  | inl e ↦ rw (eq-eqb (suc x) (suc g) (ap suc e)) (elim (cases_Bool (x == g)) [ inl t ↦ rw t (omega arith) | inr t ↦ rw t (omega arith) ])
  | inr n ↦ elim (cases_Bool (x == g)) [ inl t ↦ absurd (n (eqb-true x g t)) | inr t ↦ rw t (omega arith) ]
]

tally-one : (n x : ℕ) → x < n → 1 ≤ tally n (λ g. if x == g then 1 else 0)
tally-one zero x l = absurd (omega arith)
tally-one (suc n) zero l = omega arith
tally-one (suc n) (suc x) l = omega (arith, tally-one n x (omega arith), tally-le n (λ g. if x == g then 1 else 0) (λ g. if suc x == suc g then 1 else 0) (same_later x))

-- the entries, where each is of one of the first n guests
ended-cons : (h : List Ended) (e : Ended) (g : ℕ) → ended (e ∷ h) g ≡ (if e.guest.0 == g then 1 else 0) + ended h g
ended-cons h e g = sum_by-cons (λ x. if x.guest.0 == g then 1 else 0) e h

ended-here : (h : List Ended) (e : Ended) → 1 ≤ ended (e ∷ h) e.guest.0
ended-here h e = rw (ended-cons h e e.guest.0, eq-eqb e.guest.0 e.guest.0 refl) (omega arith)

ended-rest : (h : List Ended) (e : Ended) (g : ℕ) → ended (e ∷ h) g ≡ 0 → ended h g ≡ 0
ended-rest h e g none = omega (arith, none, ended-cons h e g)

ended-below : (h : List Ended) (e : Ended) (n : ℕ) → ((g : ℕ) → n ≤ g → ended (e ∷ h) g ≡ 0) → e.guest.0 < n
ended-below h e n none = elim (cases_lt e.guest.0 n) [
  | inl l ↦ l
  | inr ge ↦ absurd (omega (arith, none e.guest.0 ge, ended-here h e))
]

tally-history : (n : ℕ) (h : List Ended) → ((g : ℕ) → n ≤ g → ended h g ≡ 0) → length h ≤ tally n (ended h)
tally-history n [] none = omega arith
tally-history n (e ∷ h) none =
    omega (
      arith,
      tally-one n e.guest.0 (ended-below h e n none),
      tally-history n h (λ g le. ended-rest h e g (none g le)),
      tally-add n (λ g. if e.guest.0 == g then 1 else 0) (ended h),
      tally-le n (λ g. (if e.guest.0 == g then 1 else 0) + ended h g) (ended (e ∷ h)) (λ g. omega (arith, ended-cons h e g)),
    )

-- the guests that wait
waits-below : (ws : List Waiting) (w : Waiting) (n : ℕ) → ((g : ℕ) → n ≤ g → waits_in (w ∷ ws) g ≡ 0) → w.guest.0 < n
waits-below ws w n none = elim (cases_lt w.guest.0 n) [
  | inl l ↦ l
  | inr ge ↦ absurd (let a = none w.guest.0 ge in let b = ap {B = ℕ} (λ (t : Bool). if t then 1 else 0) (eq-eqb w.guest.0 w.guest.0 refl) in omega arith)
]

tally-queue : (n : ℕ) (ws : List Waiting) → ((g : ℕ) → n ≤ g → waits_in ws g ≡ 0) → length ws ≤ tally n (waits_in ws)
tally-queue n [] none = omega arith
tally-queue n (w ∷ ws) none =
    omega (
      arith,
      tally-one n w.guest.0 (waits-below ws w n none),
      tally-queue n ws (λ g le. omega (arith, none g le)),
      tally-add n (λ g. if w.guest.0 == g then 1 else 0) (waits_in ws),
    )

tally-queues : (n : ℕ) (ds : List Disk) → ((g : ℕ) → n ≤ g → waits_in_all ds g ≡ 0) → waiting_count ds ≤ tally n (waits_in_all ds)
tally-queues n [] none = omega arith
tally-queues n (d ∷ ds) none =
    omega (
      arith,
      tally-queue n d.queue (λ g le. omega (arith, none g le)),
      tally-queues n ds (λ g le. omega (arith, none g le)),
      tally-add n (waits_in d.queue) (waits_in_all ds),
    )

-- where a guest waits
waits_in-found : (ws : List Waiting) (g : ℕ) → 0 < waits_in ws g → (i : ℕ) × (i < length ws) × ((get_or ws i no_waiting).guest.0 ≡ g)
waits_in-found [] g h = absurd (omega arith)
waits_in-found (w ∷ ws) g h = elim (cases_eq w.guest.0 g) [
  | inl e ↦ (zero, omega arith, e)
  | inr n ↦
      let b = elim (cases_Bool (w.guest.0 == g)) as (λ _. w.guest.0 == g ≡ false) [ inl t ↦ absurd (n (eqb-true w.guest.0 g t)) | inr t ↦ t ] in
      let r = waits_in-found ws g (let k = rw b at h in omega arith) in
      (suc r.0, omega (arith, r.1), r.2)
]

waits_in_all-found : (ds : List Disk) (g : ℕ) → 0 < waits_in_all ds g → (d : ℕ) × (i : ℕ) × (i < length (get_or ds d no_disk).queue) × ((waiting_at ds d i).guest.0 ≡ g)
waits_in_all-found [] g h = absurd (omega arith)
waits_in_all-found (k ∷ ds) g h = elim (cases_lt 0 (waits_in k.queue g)) [
  | inl l ↦ let r = waits_in-found k.queue g l in (zero, r.0, r.1, r.2)
  | inr z ↦ let r = waits_in_all-found ds g (omega arith) in (suc r.0, r.1, r.2, r.3)
]

-- a guest that waits has an operation left
writes-more : (job : Job) (g k unit : ℕ) → writes_to (operation job g k) unit ≡ true → k < length (trace job g)
writes-more job g k unit h = elim (cases_lt k (length (trace job g))) [
  | inl l ↦ l
  | inr past ↦
      let none : operation job g k ≡ no_operation = get_or_past (trace job g) k no_operation past in
      absurd (both_ways (is_some (operation job g k).write) (ap (λ (op : UnitOp). is_some op.write) none) (and_parts (is_some (operation job g k).write) ((operation job g k).unit.0 == unit) h).0)
]

waiter-more : (job : Job) (v : View) (g : ℕ) → IsViewOf job v → 0 < waits_in_all v.disks g → ended v.history g < length (trace job g)
waiter-more job v g i h =
    let r = waits_in_all-found v.disks g h in
    let w = i.queues.to_write r.0 r.1 r.2 in
    let mine = subst (λ x. writes_to (next_operation job v x) (waiting_at v.disks r.0 r.1).unit.0 ≡ true) r.3 w in
    writes-more job g (ended v.history g) (waiting_at v.disks r.0 r.1).unit.0 mine

each_fits : (job : Job) (v : View) (g : ℕ) → IsViewOf job v → ended v.history g + waits_in_all v.disks g ≤ length (trace job g)
each_fits job v g i = elim (cases_lt 0 (waits_in_all v.disks g)) [
  | inl some ↦ omega (arith, waiter-more job v g i some, i.queues.once g)
  | inr none ↦ omega (arith, i.history.legal g)
]

-- what is waited for is left
pub waiting-fits : (job : Job) (v : View) → IsViewOf job v → length v.history + waiting_count v.disks ≤ operation_count job
waiting-fits job v i =
    let n = guest_count job in
    let past = λ (g : ℕ) (le : n ≤ g). ap (λ (ops : List UnitOp). length ops) (get_or_past job.traces g [] le) in
    let e = tally-history n v.history (λ g le. omega (arith, each_fits job v g i, past g le)) in
    let w = tally-queues n v.disks (λ g le. omega (arith, each_fits job v g i, past g le)) in
    omega (arith, e, w, tally-add n (ended v.history) (waits_in_all v.disks), tally-le n (λ g. ended v.history g + waits_in_all v.disks g) (λ g. length (trace job g)) (λ g. each_fits job v g i), tally-lengths job.traces)
