-- A draft has few lines.
use Rattle.std.proofs.Common.{◌≡◌, ℕ, ◌+◌, ◌^◌, ◌<◌, ◌≤◌, ◌==◌, ◌||◌, Bool, true, false, List, [], ◌∷◌, ◌++◌, length, map, Option, Some, None, sum_by, nat_lt, nat_le, codes, decimal, ap, arith, if◌then◌else◌}
use Rattle.std.specs.List.{AllByRecursion, flat_map}
use Rattle.std.proofs.lemmas.List.{length-append, length-map}
use Rattle.std.proofs.lemmas.List.Sums.{sum_by-cons}
use Rattle.std.proofs.lemmas.Bool.Decides.{nat_tests}
use Rattle.xv_base.specs.declared.pattern.Init.{Init}
use Rattle.xv_base.specs.Units.{Shape, shape_of, units, blocks}
use Rattle.xv_trace.specs.declared.op.Op.{Op}
use Rattle.xv_trace.specs.declared.op.Op.TheVariants.{Store, Load, Write, Fetch}
use Rattle.xv_trace.specs.Operations.{op_fault, op_count, count_all}
use Rattle.xv_trace.specs.OpText.{op_fields, IsGoodOp}
use Rattle.xv_job.specs.Draft.{Draft, after_last, is_complete}
use Rattle.xv_job.specs.JobText.{disk_fields, fault_fields, init_fields, guest_lines, group_lines, cancel_lines, limit_lines, machine_lines}
use Rattle.xv_job.proofs.Parts.{neither_test, not_there}
use Rattle.xv_job.proofs.Shapes.{sizes_of}
use Rattle.xv_job.proofs.Head.{IsMachine, Head, machine, limit_line, to_streams, to_credit, to_outbox, to_region, to_rounds, at_start, at_job, at_pages, at_disk, at_streams, at_credit, at_outbox, at_region, at_rounds, at_dirty}
use Rattle.xv_job.proofs.Lists.{Rises}
use Rattle.xv_job.proofs.Body.{IsBody, list_lines, head_lines}
use Rattle.xv_job.proofs.Backward.{Reached, in_head, in_body, at_end}

-- an operation is at least one unit operation
not_zero : (n : ℕ) → (n == 0) ≡ false → 1 ≤ n
not_zero n h = grind (arith, nat_tests)

op_some : (s : Shape) (op : Op) → op_fault s op ≡ None → 1 ≤ op_count op
op_some s (Store addr len pat) h = omega arith
op_some s (Load addr len) h = omega arith
op_some s (Fetch disk block offset len) h = omega arith
op_some s (Write disk block count pat) h =
    let a = neither_test (nat_le (length s.disks) disk || count == 0) (nat_lt (blocks s.disks disk) (block + count)) (not_there _ _ h) in
    not_zero count (neither_test (nat_le (length s.disks) disk) (count == 0) a.0).1

ops_few : (s : Shape) (ops : List Op) → AllByRecursion (IsGoodOp s) ops → length ops ≤ count_all ops
ops_few s [] h = omega arith
ops_few s (op ∷ ops) h = omega (arith, sum_by-cons op_count op ops, op_some s op h.0.acts, ops_few s ops h.1)

traces_few : (s : Shape) (ts : List (List Op)) → AllByRecursion (λ ops. AllByRecursion (IsGoodOp s) ops) ts → length (flat_map guest_lines ts) ≤ length ts + sum_by count_all ts
traces_few s [] h = omega arith
traces_few s (ops ∷ ts) h = omega (arith, length-append (guest_lines ops) (flat_map guest_lines ts), length-map ops op_fields, sum_by-cons count_all ops ts, ops_few s ops h.0, traces_few s ts h.1)

-- units that rise from one on: there are no more of them than numbers up to the last
init_from : (j : Init) (is : List Init) → Rises (j ∷ is) → j.unit.0 + length (j ∷ is) ≤ after_last (j ∷ is)
init_from j [] h = omega arith
init_from j (k ∷ is) h = let first : j.unit.0 < k.unit.0 = h.0 in omega (arith, init_from k is h.1)

init_few : (is : List Init) → Rises is → length is ≤ after_last is
init_few [] h = omega arith
init_few (i ∷ is) h = omega (arith, init_from i is h)

init_in : (n : ℕ) (is : List Init) → AllByRecursion (λ i. i.unit.0 < n) is → after_last is ≤ n
init_in n [] h = omega arith
init_in n (i ∷ []) h = omega (arith, h.0)
init_in n (i ∷ j ∷ is) h = init_in n (j ∷ is) h.1

cancel_few : (c : Option ℕ) → length (cancel_lines c) ≤ 1
cancel_few None = omega arith
cancel_few (Some k) = omega arith

group_few : (b : Bool) (g : ℕ) → length (if b then (codes "group" ∷ decimal g ∷ []) ∷ [] else []) ≤ 1
group_few true g = omega arith
group_few false g = omega arith

machine_few : (f : ℕ) (s : Shape) → IsMachine f s → length (machine f s) ≤ 6
machine_few f s m = omega (arith, length-map s.disks disk_fields, (sizes_of s m.good).few_disks)

one_longer : (ls : List (List (List ℕ))) (word : List ℕ) (n k : ℕ) → length ls ≤ k → length (ls ++ limit_line word n) ≤ k + 1
one_longer ls word n k h = omega (arith, length-append ls (limit_line word n))

head_few : (d : Draft) (ls : List (List (List ℕ))) → Head d ls → length ls ≤ 12
head_few d ls at_start = omega arith
head_few d ls (at_job f i) = omega arith
head_few d ls (at_pages f p z m) = omega (arith, machine_few f (shape_of p z []) m)
head_few d ls (at_disk f s m) = omega (arith, machine_few f s m)
head_few d ls (at_streams f s a m ha) = omega (arith, one_longer (machine f s) (codes "streams") a 6 (machine_few f s m))
head_few d ls (at_credit f s a b m ha hb) = omega (arith, one_longer (to_streams f s a) (codes "credit") b 7 (one_longer (machine f s) (codes "streams") a 6 (machine_few f s m)))
head_few d ls (at_outbox f s a b c m ha hb hc) = omega (arith, one_longer (to_credit f s a b) (codes "outbox") c 8 (one_longer (to_streams f s a) (codes "credit") b 7 (one_longer (machine f s) (codes "streams") a 6 (machine_few f s m))))
head_few d ls (at_region f s a b c r m ha hb hc hd less) = omega (arith, one_longer (to_outbox f s a b c) (codes "region") r 9 (one_longer (to_credit f s a b) (codes "outbox") c 8 (one_longer (to_streams f s a) (codes "credit") b 7 (one_longer (machine f s) (codes "streams") a 6 (machine_few f s m)))))
head_few d ls (at_rounds f s a b c r e m ha hb hc hd less he) = omega (arith, one_longer (to_region f s a b c r) (codes "rounds") e 10 (one_longer (to_outbox f s a b c) (codes "region") r 9 (one_longer (to_credit f s a b) (codes "outbox") c 8 (one_longer (to_streams f s a) (codes "credit") b 7 (one_longer (machine f s) (codes "streams") a 6 (machine_few f s m))))))
head_few d ls (at_dirty f s a b c r e t m ha hb hc hd less he ht) = omega (arith, one_longer (to_rounds f s a b c r e) (codes "dirty") t 11 (one_longer (to_region f s a b c r) (codes "rounds") e 10 (one_longer (to_outbox f s a b c) (codes "region") r 9 (one_longer (to_credit f s a b) (codes "outbox") c 8 (one_longer (to_streams f s a) (codes "credit") b 7 (one_longer (machine f s) (codes "streams") a 6 (machine_few f s m)))))))

body_few : (d : Draft) (ls : List (List (List ℕ))) → IsBody d ls → length ls ≤ 2 ^ 22
body_few d ls b =
    let w = d.job in
    let l = b.listed in
    let lists = length-append (cancel_lines w.config.cancel) (map fault_fields w.faults ++ (map init_fields w.init ++ flat_map guest_lines w.traces)) in
    let faults = length-append (map fault_fields w.faults) (map init_fields w.init ++ flat_map guest_lines w.traces) in
    let inits = length-append (map init_fields w.init) (flat_map guest_lines w.traces) in
    let sizes = sizes_of w.shape b.fixed.good in
    omega (
      arith,
      ap length b.lines,
      length-append (head_lines w) (list_lines w.config.cancel w.faults w.init w.traces),
      length-append (machine_lines w) (limit_lines w.config ++ group_lines w),
      length-append (limit_lines w.config) (group_lines w),
      lists,
      faults,
      inits,
      length-map w.shape.disks disk_fields,
      sizes.few_disks,
      sizes.few_units,
      group_few (w.format == 2) w.group,
      cancel_few w.config.cancel,
      length-map w.faults fault_fields,
      l.few_faults,
      length-map w.init init_fields,
      init_few w.init l.init_rises,
      init_in (units w.shape) w.init l.init_units,
      traces_few w.shape w.traces l.good_ops,
      l.few_guests,
      l.few_ops,
    )

ended_not : (n : ℕ) → n ≡ 15 → (n == 15) ≡ false → ⊥
ended_not n e h = grind (arith, nat_tests)

pub lines_few : (d : Draft) (ls : List (List (List ℕ))) → Reached d ls → is_complete d ≡ false → length ls ≤ 2 ^ 22
lines_few d ls (in_head h) more = omega (arith, head_few d ls h)
lines_few d ls (in_body b) more = body_few d ls b
lines_few d ls (at_end w) more = absurd (ended_not d.last w.ended more)
