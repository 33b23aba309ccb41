-- Sums over whole lists, and how many bytes the guests' operations read.
use Rattle.std.specs.Prelude.{◌≡◌, ℕ, List, [], ◌∷◌, length, map, take, sum_by}
use Rattle.std.proofs.Common.{refl, ap, ◌∙◌, arith}
use Rattle.std.proofs.lemmas.List.Sums.{sum_by-cons}
use Rattle.xv_base.specs.Units.{Shape}
use Rattle.xv_base.specs.declared.pattern.UnitOp.{UnitOp}
use Rattle.xv_trace.specs.Operations.{all_unit_operations}
use Rattle.xv_trace.specs.OpText.{Program}
use Rattle.xv_job.specs.Written.{AreTraces, ops_held}
use Rattle.xv_core.specs.Reads.{read_length}

pub sum-all : {A : Type 0} (f : A → ℕ) (xs : List A) (n : ℕ) → n ≡ length xs → sum_by f (take n xs) ≡ sum_by f xs
sum-all f xs n e = ap (λ (k : ℕ). sum_by f (take k xs)) e ∙ whole f xs
  where
    whole : {A : Type 0} (f : A → ℕ) (xs : List A) → sum_by f (take (length xs) xs) ≡ sum_by f xs
    whole f [] = refl
    whole f (x ∷ xs) = omega (arith, sum_by-cons f x (take (length xs) xs), sum_by-cons f x xs, whole f xs)

-- what one guest's operations read, and those of all guests
abbrev pub reads_of : Program → ℕ
reads_of t = sum_by read_length (all_unit_operations t.shape t.ops)

pub all-reads : (shape : Shape) (ts : List Program) → AreTraces shape ts → sum_by reads_of ts ≡ sum_by (λ ops. sum_by read_length ops) (map (all_unit_operations shape) (ops_held ts))
all-reads shape [] a = refl
all-reads shape (t ∷ ts) a =
    let here : reads_of t ≡ sum_by read_length (all_unit_operations shape t.ops) = ap (λ (s : Shape). sum_by read_length (all_unit_operations s t.ops)) a.0 in
    omega (arith, sum_by-cons reads_of t ts, sum_by-cons (λ (ops : List UnitOp). sum_by read_length ops) (all_unit_operations shape t.ops) (map (all_unit_operations shape) (ops_held ts)), here, all-reads shape ts a.1)
