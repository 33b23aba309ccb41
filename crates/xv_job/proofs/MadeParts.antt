-- The lists of a made job, one more at a time, and the whole.
use Rattle.std.proofs.Common.{◌≡◌, ℕ, ◌+◌, ◌*◌, ◌<◌, List, [], ◌∷◌, ◌++◌, map, sym, ap, ◌∙◌, subst, arith, append_assoc}
use Rattle.std.specs.List.{range_with_len}
use Rattle.std.proofs.lemmas.List.{map-append}
use Rattle.std.proofs.lemmas.List.FromFn.{map-range_with_len_more}
use Rattle.xv_base.specs.declared.limits.Config.{Config}
use Rattle.xv_base.specs.declared.limits.Fault.{Fault}
use Rattle.xv_base.specs.declared.pattern.Init.{Init}
use Rattle.xv_base.specs.Units.{Shape}
use Rattle.xv_trace.specs.declared.op.Op.{Op}
use Rattle.xv_trace.specs.OpText.{Program, IsGoodOp}
use Rattle.xv_job.specs.Written.{Written, AreTraces, written_of, ops_held, job_of}
use Rattle.xv_model.specs.Job.{operation_count}
use Rattle.xv_job.specs.Made.{made_shape, made_config, made_init, made_op, made_job, byte_of, content, contents, first_ops, guest_ops, ops_each}
use Rattle.xv_job.proofs.Legal.{traces_counted}
use Rattle.xv_job.proofs.Lists.{all_push}
use Rattle.xv_job.proofs.MadeCount.{made_count}
use Rattle.xv_job.proofs.MadeOps.{op_good}

-- one first content more
pub contents_more : (n first step j : ℕ) (before now next : List Init) (pattern : List ℕ) → now ≡ before ++ contents n first step j → pattern ≡ byte_of (n + j) → next ≡ now ++ record { unit = record { 0 = first + step * j }; pattern = pattern } ∷ [] → next ≡ before ++ contents n first step (j + 1)
contents_more n first step j before now next pattern e p more =
    more
    ∙ ap (λ (is : List Init). is ++ record { unit = record { 0 = first + step * j }; pattern = pattern } ∷ []) e
    ∙ append_assoc before (contents n first step j) (record { unit = record { 0 = first + step * j }; pattern = pattern } ∷ [])
    ∙ ap (λ (bytes : List ℕ). before ++ (contents n first step j ++ record { unit = record { 0 = first + step * j }; pattern = bytes } ∷ [])) p
    ∙ ap (λ (is : List Init). before ++ is) (sym (map-range_with_len_more (content n first step) 0 j j (omega arith)))

-- one operation more, which may act
pub op_acts : (n g i : ℕ) (s : Shape) (now : Program) (op : Op) → now ≡ record { shape = s; ops = first_ops n g i } → s ≡ made_shape → op ≡ made_op n g i → g < 4 → IsGoodOp now.shape op
op_acts n g i s now op e m o h =
    let shape : now.shape ≡ made_shape = ap (λ (p : Program). p.shape) e ∙ m in
    rw (shape, o) (op_good n g i h)

pub ops_more : (n g i : ℕ) (s : Shape) (now next : Program) (op : Op) → now ≡ record { shape = s; ops = first_ops n g i } → op ≡ made_op n g i → next ≡ record now { ops = now.ops ++ op ∷ [] } → next ≡ record { shape = s; ops = first_ops n g (i + 1) }
ops_more n g i s now next op e o more =
    let P : List Op → Program = λ (os : List Op). record { shape = s; ops = os } in
    more
    ∙ ap (λ (p : Program). record p { ops = p.ops ++ op ∷ [] }) e
    ∙ ap (λ (x : Op). P (first_ops n g i ++ x ∷ [])) o
    ∙ ap P (sym (map-range_with_len_more (made_op n g) 0 i i (omega arith)))

-- one trace more
pub traces_more : (n g count : ℕ) (s : Shape) (now next : List Program) (t : Program) → ops_held now ≡ map (guest_ops n) (range_with_len 0 g) → count ≡ ops_each → t ≡ record { shape = s; ops = first_ops n g count } → next ≡ now ++ t ∷ [] → ops_held next ≡ map (guest_ops n) (range_with_len 0 (g + 1))
traces_more n g count s now next t e c is more =
    let ops : t.ops ≡ guest_ops n g = ap (λ (p : Program). p.ops) is ∙ ap (first_ops n g) c in
    ap ops_held more
    ∙ map-append (λ (p : Program). p.ops) now (t ∷ [])
    ∙ ap (λ (os : List (List Op)). os ++ t.ops ∷ []) e
    ∙ ap (λ (os : List Op). map (guest_ops n) (range_with_len 0 g) ++ os ∷ []) ops
    ∙ sym (map-range_with_len_more (guest_ops n) 0 g g (omega arith))

pub machine_more : (s : Shape) (now next : List Program) (t : Program) (ops : List Op) → AreTraces s now → t ≡ record { shape = s; ops = ops } → next ≡ now ++ t ∷ [] → AreTraces s next
machine_more s now next t ops h is more =
    subst (AreTraces s) (sym more) (all_push (λ p. p.shape ≡ s) now t h (ap (λ (p : Program). p.shape) is))

-- the parts together
pub made_of : (n : ℕ) (s : Shape) (k : Config) (fs : List Fault) (is : List Init) (ts : List Program) → s ≡ made_shape → k ≡ made_config → fs ≡ [] → is ≡ made_init n → ops_held ts ≡ map (guest_ops n) (range_with_len 0 4) → written_of s 1 1 k fs is ts ≡ made_job n
unfolding made_job
made_of n s k fs is ts a b c d e = cc

pub made_operations : (n : ℕ) (w : Written) → w ≡ made_job n → operation_count (job_of w) ≡ 4400
unfolding made_job
made_operations n w e = ap (λ (v : Written). operation_count (job_of v)) e ∙ traces_counted made_shape (map (guest_ops n) (range_with_len 0 4)) ∙ made_count n
