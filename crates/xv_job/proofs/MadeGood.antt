-- A made job keeps the limits of a job.
use Rattle.std.proofs.Common.{ℕ, zero, suc, ◌+◌, ◌*◌, ◌<◌, ◌≤◌, List, [], ◌∷◌, ◌++◌, map, refl, arith, inl}
use Rattle.std.specs.List.{AllByRecursion, range_with_len}
use Rattle.xv_base.specs.declared.pattern.Init.{Init}
use Rattle.xv_base.specs.Units.{units}
use Rattle.xv_base.specs.Layout.{IsGood}
use Rattle.xv_text.specs.Fields.{IsPattern}
use Rattle.xv_trace.specs.OpText.{IsGoodOp}
use Rattle.xv_job.specs.Draft.{after_last}
use Rattle.xv_job.specs.Written.{IsGoodWritten}
use Rattle.xv_job.specs.Made.{made_shape, made_op, made_init, made_job, content, contents, first_ops, guest_ops, ops_each}
use Rattle.xv_job.proofs.Backward.{good_written}
use Rattle.xv_job.proofs.Body.{IsFixed, IsListed}
use Rattle.xv_job.proofs.Lists.{Rises}
use Rattle.xv_job.proofs.MadeCount.{made_count}
use Rattle.xv_job.proofs.MadeOps.{byte_pattern, op_good}

-- what holds of each number of a range, and of both of two lists
all_ranged : {X : Type 0} (P : X → Type 0) (f : ℕ → X) (a n : ℕ) → ((i : ℕ) → i < a + n → P (f i)) → AllByRecursion P (map f (range_with_len a n))
all_ranged P f a zero h = tt
all_ranged P f a (suc n) h = (h a (omega arith), all_ranged P f (a + 1) n (λ i lt. h i (omega arith)))

all_both : {X : Type 0} (P : X → Type 0) (xs ys : List X) → AllByRecursion P xs → AllByRecursion P ys → AllByRecursion P (xs ++ ys)
all_both P [] ys h k = k
all_both P (x ∷ xs) ys h k = (h.0, all_both P xs ys h.1 k)

-- units at equal steps rise, and so do two lists of which the second begins behind the first
step_up : (first step a : ℕ) → 0 < step → first + step * a < first + step * (a + 1)
step_up first step a some = grind arith

rises_by : (n first step a count : ℕ) → 0 < step → Rises (map (content n first step) (range_with_len a count))
rises_by n first step a zero some = tt
rises_by n first step a (suc zero) some = tt
rises_by n first step a (suc (suc count)) some = (step_up first step a some, rises_by n first step (a + 1) (suc count) some)

rises_both : (xs : List Init) (y : Init) (ys : List Init) → Rises xs → after_last xs ≤ y.unit.0 → Rises (y ∷ ys) → Rises (xs ++ y ∷ ys)
rises_both [] y ys h le k = k
rises_both (x ∷ []) y ys h le k = (omega arith, k)
rises_both (x ∷ z ∷ xs) y ys h le k = (h.0, rises_both (z ∷ xs) y ys h.1 le k)

init_rises : (n : ℕ) → Rises (made_init n)
init_rises n =
    rises_both (contents n 0 64 16) (content n 1024 256 0) (map (content n 1024 256) (range_with_len 1 15)) (rises_by n 0 64 0 16 (omega arith)) (omega arith) (rises_by n 1024 256 0 16 (omega arith))

init_units : (n : ℕ) → AllByRecursion (λ i. i.unit.0 < units made_shape) (made_init n)
init_units n =
    all_both (λ i. i.unit.0 < units made_shape) (contents n 0 64 16) (contents n 1024 256 16)
    (all_ranged (λ i. i.unit.0 < units made_shape) (content n 0 64) 0 16 (λ i h. omega arith))
    (all_ranged (λ i. i.unit.0 < units made_shape) (content n 1024 256) 0 16 (λ i h. omega arith))

init_patterns : (n : ℕ) → AllByRecursion (λ i. IsPattern i.pattern) (made_init n)
init_patterns n =
    all_both (λ i. IsPattern i.pattern) (contents n 0 64 16) (contents n 1024 256 16)
    (all_ranged (λ i. IsPattern i.pattern) (content n 0 64) 0 16 (λ i h. byte_pattern (n + i)))
    (all_ranged (λ i. IsPattern i.pattern) (content n 1024 256) 0 16 (λ i h. byte_pattern (n + i)))

guest_good : (n g count : ℕ) → g < 4 → AllByRecursion (IsGoodOp made_shape) (first_ops n g count)
guest_good n g count h = all_ranged (IsGoodOp made_shape) (made_op n g) 0 count (λ i lt. op_good n g i h)

guests_good : (n : ℕ) → AllByRecursion (λ ops. AllByRecursion (IsGoodOp made_shape) ops) (map (guest_ops n) (range_with_len 0 4))
guests_good n = all_ranged (λ ops. AllByRecursion (IsGoodOp made_shape) ops) (guest_ops n) 0 4 (λ g h. guest_good n g ops_each h)

pub machine_good : IsGood made_shape
unfolding lib.Count.ones
machine_good = record { no_fault = refl; few_disks = omega arith }

made_fixed : (n : ℕ) → IsFixed (made_job n)
unfolding made_job
made_fixed n = record {
  good = machine_good;
  some_blocks = (omega arith, (omega arith, tt));
  formats = inl (refl, refl);
  streams = (omega arith, omega arith);
  credit = (omega arith, omega arith);
  outbox = (omega arith, omega arith);
  region = (omega arith, omega arith);
  in_outbox = omega arith;
  rounds = (omega arith, omega arith);
  dirty = omega arith;
}

made_listed : (n : ℕ) → IsListed 14 (made_job n)
unfolding made_job
made_listed n = record {
  no_cancel = λ lt. refl;
  no_faults = λ lt. refl;
  no_init = λ lt. absurd (omega arith);
  no_traces = λ lt. absurd (omega arith);
  some_trace = λ ge. omega arith;
  cancel_fits = tt;
  few_faults = omega arith;
  good_faults = refl;
  said_faults = refl;
  init_units = init_units n;
  init_rises = init_rises n;
  init_patterns = init_patterns n;
  few_guests = omega arith;
  good_ops = guests_good n;
  few_ops = omega (arith, made_count n);
}

pub made_good : (n : ℕ) → IsGoodWritten (made_job n)
unfolding made_job
made_good n = good_written (made_job n) (made_fixed n) (made_listed n) refl
