-- What is left to do: a guest with operations to come, a queue that is not empty, a disk that is not copied.
use Rattle.std.specs.Prelude.{◌≡◌, ◌≤◌, ◌<◌, ℕ, zero, suc, ◌+◌, ◌==◌, ◌&&◌, nat_le, Bool, true, false, List, [], ◌∷◌, length, map, get_or, sum_by, if◌then◌else◌}
use Rattle.std.proofs.Common.{arith, refl, subst, zero-add, inl, inr}
use Rattle.std.proofs.lemmas.Bool.{cases_Bool, cases_eq, and_parts, or_from, eq-eqb, ne_eqb, leb-true, leb-false}
use Rattle.std.proofs.lemmas.List.Sums.{sum_by-cons}
use Rattle.xv_base.specs.declared.unit.DiskShape.{DiskShape}
use Rattle.xv_model.specs.Job.{Job, UnitOp, blocks, trace, operation_count}
use Rattle.xv_model.specs.Guest.{Ended, ended}
use Rattle.xv_model.specs.View.{Disk, Waiting, no_disk, is_empty, is_copied, all_copied_by, queues_empty, waits_for, in_queue}
use Rattle.xv_model.specs.Work.{all_ended_from}

and_false : (a b : Bool) → (a && b) ≡ false → a ≡ true → b ≡ false
and_false true b e f = e
and_false false b e f = absurd (cc)

-- a queue
pub record SomeQueue (ds : List Disk) : Type 0 where
  pub disk : ℕ
  pub there : disk < length ds
  pub waits : is_empty (get_or ds disk no_disk).queue ≡ false

queue-later : (d : Disk) (ds : List Disk) → SomeQueue ds → SomeQueue (d ∷ ds)
queue-later d ds q = record { disk = suc q.disk; there = omega (arith, q.there); waits = q.waits }

pub some_queue : (ds : List Disk) → queues_empty ds ≡ false → SomeQueue ds
some_queue [] e = absurd (cc)
some_queue (d ∷ ds) e = elim (cases_Bool (is_empty d.queue)) [
  | inl none ↦ queue-later d ds (some_queue ds (and_false (is_empty d.queue) (queues_empty ds) e none))
  | inr some ↦ record { disk = zero; there = omega arith; waits = some }
]

nobody_waits : (ws : List Waiting) (g : ℕ) → is_empty ws ≡ true → waits_for ws g ≡ false
nobody_waits [] g e = refl
nobody_waits (w ∷ ws) g e = absurd (cc)

pub in_no_queue : (ds : List Disk) (g : ℕ) → queues_empty ds ≡ true → in_queue ds g ≡ false
in_no_queue [] g e = refl
in_no_queue (d ∷ ds) g e =
    let both = and_parts (is_empty d.queue) (queues_empty ds) e in
    or_from (waits_for d.queue g) (in_queue ds g) (nobody_waits d.queue g both.0) (in_no_queue ds g both.1)

pub queue_is_empty : (ds : List Disk) (d : ℕ) → queues_empty ds ≡ true → is_empty (get_or ds d no_disk).queue ≡ true
queue_is_empty [] d e = refl
queue_is_empty (x ∷ ds) zero e = (and_parts (is_empty x.queue) (queues_empty ds) e).0
queue_is_empty (x ∷ ds) (suc d) e = queue_is_empty ds d (and_parts (is_empty x.queue) (queues_empty ds) e).1

-- a disk that is not copied
pub record SomeUncopied (shapes : List DiskShape) (ds : List Disk) : Type 0 where
  pub disk : ℕ
  pub there : disk < length shapes
  pub uncopied : is_copied (blocks shapes disk) (get_or ds disk no_disk) ≡ false

uncopied-later : (s : DiskShape) (shapes : List DiskShape) (d : Disk) (ds : List Disk) → SomeUncopied shapes ds → SomeUncopied (s ∷ shapes) (d ∷ ds)
uncopied-later s shapes d ds u = record { disk = suc u.disk; there = omega (arith, u.there); uncopied = u.uncopied }

pub some_uncopied : (shapes : List DiskShape) (ds : List Disk) → length ds ≡ length shapes → all_copied_by (map (λ (s : DiskShape). s.blocks) shapes) ds ≡ false → SomeUncopied shapes ds
some_uncopied [] ds l e = absurd (cc)
some_uncopied (s ∷ shapes) [] l e = absurd (omega (arith, l))
some_uncopied (s ∷ shapes) (d ∷ ds) l e = elim (cases_Bool (is_copied s.blocks d)) [
  | inl copied ↦ uncopied-later s shapes d ds (some_uncopied shapes ds (omega (arith, l)) (and_false (is_copied s.blocks d) (all_copied_by (map (λ (s : DiskShape). s.blocks) shapes) ds) e copied))
  | inr uncopied ↦ record { disk = zero; there = omega arith; uncopied = uncopied }
]

-- a guest with operations to come
pub record SomeGuest (traces : List (List UnitOp)) (history : List Ended) (from : ℕ) : Type 0 where
  pub guest : ℕ
  pub there : guest < length traces
  pub more : ended history (from + guest) < length (get_or traces guest [])

guest-later : (ops : List UnitOp) (traces : List (List UnitOp)) (history : List Ended) (from : ℕ) → SomeGuest traces history (from + 1) → SomeGuest (ops ∷ traces) history from
guest-later ops traces history from s =
    let next : from + 1 + s.guest ≡ from + suc s.guest = omega arith in
    record { guest = suc s.guest; there = omega (arith, s.there); more = subst (λ (g : ℕ). ended history g < length (get_or traces s.guest [])) next s.more }

guest-first : (ops : List UnitOp) (traces : List (List UnitOp)) (history : List Ended) (from : ℕ) → ended history from < length ops → SomeGuest (ops ∷ traces) history from
guest-first ops traces history from more =
    let same : from ≡ from + 0 = omega arith in
    record { guest = zero; there = omega arith; more = subst (λ (g : ℕ). ended history g < length ops) same more }

pub some_guest : (from : ℕ) (traces : List (List UnitOp)) (history : List Ended) → all_ended_from from traces history ≡ false → SomeGuest traces history from
some_guest from [] history e = absurd (cc)
some_guest from (ops ∷ traces) history e = elim (cases_Bool (nat_le (length ops) (ended history from))) [
  | inl done ↦ guest-later ops traces history from (some_guest (from + 1) traces history (and_false (nat_le (length ops) (ended history from)) (all_ended_from (from + 1) traces history) e done))
  | inr more ↦ guest-first ops traces history from (leb-false (length ops) (ended history from) more)
]

pub has_more : (job : Job) (history : List Ended) → (s : SomeGuest job.traces history 0) → ended history s.guest < length (trace job s.guest)
has_more job history s = subst (λ (g : ℕ). ended history g < length (trace job s.guest)) (zero-add s.guest) s.more

-- where all have ended, each guest has
pub each_ended : (from : ℕ) (traces : List (List UnitOp)) (history : List Ended) (i : ℕ) → all_ended_from from traces history ≡ true → length (get_or traces i []) ≤ ended history (from + i)
each_ended from [] history i e = omega arith
each_ended from (ops ∷ traces) history zero e =
    let same : from ≡ from + 0 = omega arith in
    subst (λ (g : ℕ). length ops ≤ ended history g) same (leb-true (length ops) (ended history from) (and_parts (nat_le (length ops) (ended history from)) (all_ended_from (from + 1) traces history) e).0)
each_ended from (ops ∷ traces) history (suc i) e =
    let next : from + 1 + i ≡ from + suc i = omega arith in
    subst (λ (g : ℕ). length (get_or traces i []) ≤ ended history g) next (each_ended (from + 1) traces history i (and_parts (nat_le (length ops) (ended history from)) (all_ended_from (from + 1) traces history) e).1)

pub guest_ended : (job : Job) (history : List Ended) (g : ℕ) → all_ended_from 0 job.traces history ≡ true → length (trace job g) ≤ ended history g
guest_ended job history g e = subst (λ (k : ℕ). length (trace job g) ≤ ended history k) (zero-add g) (each_ended 0 job.traces history g e)

-- how many operations of these guests have ended
abbrev total : ℕ → List (List UnitOp) → List Ended → ℕ
total from [] history = 0
total from (ops ∷ traces) history = ended history from + total (from + 1) traces history

-- how many of these guests have this number
abbrev hits : ℕ → List (List UnitOp) → ℕ → ℕ
hits from [] g = 0
hits from (ops ∷ traces) g = (if g == from then 1 else 0) + hits (from + 1) traces g

hits-below : (from : ℕ) (traces : List (List UnitOp)) (g : ℕ) → g < from → hits from traces g ≡ 0
hits-below from [] g lt = refl
hits-below from (ops ∷ traces) g lt =
    let rest = hits-below (from + 1) traces g (omega (arith, lt)) in
    rw (ne_eqb g from (omega (arith, lt))) (omega (arith, rest))

hits-one : (from : ℕ) (traces : List (List UnitOp)) (g : ℕ) → hits from traces g ≤ 1
hits-one from [] g = omega arith
hits-one from (ops ∷ traces) g = elim (cases_eq g from) [
  | inl e ↦ rw (eq-eqb g from e) (omega (arith, hits-below (from + 1) traces g (omega (arith, e))))
  | inr n ↦ rw (ne_eqb g from n) (omega (arith, hits-one (from + 1) traces g))
]

ended-cons : (e : Ended) (history : List Ended) (g : ℕ) → ended (e ∷ history) g ≡ (if e.guest.0 == g then 1 else 0) + ended history g
ended-cons e history g = sum_by-cons (λ (x : Ended). if x.guest.0 == g then 1 else 0) e history

total-nil : (from : ℕ) (traces : List (List UnitOp)) → total from traces [] ≡ 0
total-nil from [] = refl
total-nil from (ops ∷ traces) = omega (arith, total-nil (from + 1) traces)

total-cons : (from : ℕ) (traces : List (List UnitOp)) (e : Ended) (history : List Ended) → total from traces (e ∷ history) ≡ hits from traces e.guest.0 + total from traces history
total-cons from [] e history = refl
total-cons from (ops ∷ traces) e history = omega (arith, ended-cons e history from, total-cons (from + 1) traces e history)

total-length : (from : ℕ) (traces : List (List UnitOp)) (history : List Ended) → total from traces history ≤ length history
total-length from traces [] = omega (arith, total-nil from traces)
total-length from traces (e ∷ history) = omega (arith, total-cons from traces e history, hits-one from traces e.guest.0, total-length from traces history)

total-all : (from : ℕ) (traces : List (List UnitOp)) (history : List Ended) → all_ended_from from traces history ≡ true → sum_by (λ (ops : List UnitOp). length ops) traces ≤ total from traces history
total-all from [] history e = omega arith
total-all from (ops ∷ traces) history e =
    let both = and_parts (nat_le (length ops) (ended history from)) (all_ended_from (from + 1) traces history) e in
    omega (arith, leb-true (length ops) (ended history from) both.0, total-all (from + 1) traces history both.1, sum_by-cons (λ (os : List UnitOp). length os) ops traces)

-- where the history is shorter than all operations, a guest has some to come
pub not_all_ended : (job : Job) (history : List Ended) → length history < operation_count job → all_ended_from 0 job.traces history ≡ false
not_all_ended job history lt = elim (cases_Bool (all_ended_from 0 job.traces history)) [
  | inl e ↦ absurd (omega (arith, total-all 0 job.traces history e, total-length 0 job.traces history, lt))
  | inr e ↦ e
]
