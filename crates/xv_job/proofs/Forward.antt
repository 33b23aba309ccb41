-- The text of a good job is read without a fault, as that job.
use Rattle.std.proofs.Common.{◌≡◌, ℕ, suc, ◌+◌, ◌^◌, ◌<◌, ◌≤◌, ◌==◌, true, false, List, [], ◌∷◌, ◌++◌, length, map, Option, Some, None, IfSome, sum_by, nat_lt, get_or, codes, decimal, refl, sym, ap, subst, arith, append_assoc, if◌then◌else◌, inl, inr, ◌⊎◌}
use Rattle.std.specs.List.{AllByRecursion, list_all, flat_map}
use Rattle.std.proofs.lemmas.List.{append-nil, length-append, length-map}
use Rattle.std.proofs.lemmas.List.Sums.{sum_by-append, sum_by-cons}
use Rattle.std.proofs.lemmas.Bool.{and_parts}
use Rattle.std.proofs.lemmas.Bool.Decides.{nat_tests}
use Rattle.xv_base.specs.declared.unit.DiskShape.{DiskShape}
use Rattle.xv_base.specs.declared.limits.Config.{Config}
use Rattle.xv_base.specs.declared.limits.Fault.{Fault}
use Rattle.xv_base.specs.declared.pattern.Init.{Init}
use Rattle.xv_base.specs.Units.{Shape, shape_of, units, blocks}
use Rattle.xv_base.specs.Layout.{IsGood}
use Rattle.xv_base.proofs.Within.{unit_size_most}
use Rattle.xv_text.specs.Fields.{IsPattern}
use Rattle.xv_trace.specs.declared.op.Op.{Op}
use Rattle.xv_trace.specs.Operations.{op_count, count_all, no_op, all_unit_operations}
use Rattle.xv_trace.specs.OpText.{op_fields, IsGoodOp}
use Rattle.xv_job.specs.Draft.{Draft, first_draft, exceeds}
use Rattle.xv_job.specs.JobText.{disk_fields, fault_fields, init_fields, guest_lines, group_lines, cancel_lines, limit_lines, machine_lines, job_lines}
use Rattle.xv_job.specs.Written.{Written, IsGoodWritten, job_of, fault_number, ops}
use Rattle.xv_model.specs.Job.{IsGoodJob, is_good_fault, operation_count, no_init}
use Rattle.xv_job.proofs.Shapes.{sizes_of, size_next, blocks_append, front_good}
use Rattle.xv_job.proofs.Head.{IsFormat, Between, config_of, draft_at}
use Rattle.xv_job.proofs.Lists.{all_of, Rises, rises_of, rises_next}
use Rattle.xv_job.proofs.Legal.{traces_counted}
use Rattle.xv_job.proofs.Steps.{Reads, reads_then, reads_one, draft_in, IsBehind, step_job, step_pages, step_disk, step_streams, step_credit, step_outbox, step_region, step_rounds, step_dirty, step_group, step_cancel, step_fault, step_init, step_guest, step_op, step_end}

lt_of : (a b : ℕ) → nat_lt a b ≡ true → a < b
lt_of a b h = grind (arith, nat_tests)

-- the disks
pub record IsSmallDisk (x : DiskShape) : Type 0 where
  pub blocks : x.blocks < 2 ^ 32
  pub size : x.block_size < 2 ^ 32

pub small_disk : (p z : ℕ) (ds : List DiskShape) (x : DiskShape) (more : List DiskShape) → IsGood (shape_of p z (ds ++ x ∷ more)) → IsSmallDisk x
small_disk p z ds x more g =
    let h = sizes_of (shape_of p z (ds ++ x ∷ more)) g in
    let size = unit_size_most x.block_size (size_next 1 ds x more h.block_sizes) in
    record { blocks = omega (arith, h.few_units, blocks_append ds (x ∷ more)); size = omega (arith, size) }

pub record HasReadDisks (f p z last : ℕ) (done todo : List DiskShape) : Type 0 where
  pub after : ℕ
  pub is_after : (after ≡ 2) ⊎ (after ≡ 3)
  pub reads : Reads (draft_at last f (shape_of p z done) (config_of 0 0 0 0 0 0)) (map disk_fields todo) (draft_at after f (shape_of p z (done ++ todo)) (config_of 0 0 0 0 0 0))

disks_read : (f p z last : ℕ) (done todo : List DiskShape) → (last ≡ 2) ⊎ (last ≡ 3) → IsGood (shape_of p z (done ++ todo)) → AllByRecursion (λ x. 1 ≤ x.blocks) todo → HasReadDisks f p z last done todo
disks_read f p z last done [] at good some = record { after = last; is_after = at; reads = ap (λ (ds : List DiskShape). draft_at last f (shape_of p z ds) (config_of 0 0 0 0 0 0)) (sym (append-nil done)) }
disks_read f p z last done (x ∷ todo) at good some =
    let e : (done ++ x ∷ []) ++ todo ≡ done ++ x ∷ todo = append_assoc done (x ∷ []) todo in
    let P : List DiskShape → Type 0 = λ ds. IsGood (shape_of p z ds) in
    let next = disks_read f p z 3 (done ++ x ∷ []) todo (inr refl) (subst P (sym e) good) some.1 in
    let small = small_disk p z done x todo good in
    let Q : List DiskShape → Type 0 = λ ds. Reads (draft_at 3 f (shape_of p z (done ++ x ∷ [])) (config_of 0 0 0 0 0 0)) (map disk_fields todo) (draft_at next.after f (shape_of p z ds) (config_of 0 0 0 0 0 0)) in
    record {
      after = next.after;
      is_after = next.is_after;
      reads = reads_one (draft_at last f (shape_of p z done) (config_of 0 0 0 0 0 0)) (disk_fields x) (map disk_fields todo) _ _ (step_disk last f p z done x todo at good some.0 small.blocks small.size) (subst Q e next.reads);
    }

-- the lists behind the limits: the rank that is reached, and the lines that are read
pub record HasRead (f most : ℕ) (d : Draft) (ls : List (List (List ℕ))) (to : ℕ → Draft) : Type 0 where
  pub after : ℕ
  pub behind : IsBehind f after
  pub within : after ≤ most
  pub reads : Reads d ls (to after)

faults_read : (last : ℕ) (s : Shape) (f g : ℕ) (k : Config) (done todo : List Fault) → IsBehind f last → last ≤ 12 → k.streams ≤ 8 → list_all (λ x. nat_lt (fault_number x) (2 ^ 32)) todo ≡ true → list_all (is_good_fault k.streams) todo ≡ true → length done + length todo ≤ 32 → HasRead f 12 (draft_in last s f g k done [] []) (map fault_fields todo) (λ after. draft_in after s f g k (done ++ todo) [] [])
faults_read last s f g k done [] b before streams small good few = record { after = last; behind = b; within = before; reads = ap (λ (fs : List Fault). draft_in last s f g k fs [] []) (sym (append-nil done)) }
faults_read last s f g k done (x ∷ todo) b before streams small good few =
    let e : (done ++ x ∷ []) ++ todo ≡ done ++ x ∷ todo = append_assoc done (x ∷ []) todo in
    let is_small = and_parts (nat_lt (fault_number x) (2 ^ 32)) (list_all (λ x. nat_lt (fault_number x) (2 ^ 32)) todo) small in
    let is_good = and_parts (is_good_fault k.streams x) (list_all (is_good_fault k.streams) todo) good in
    let next = faults_read 12 s f g k (done ++ x ∷ []) todo (record { low = omega arith; high = omega arith; first = λ h. absurd (omega arith) }) (omega arith) streams is_small.1 is_good.1 (omega (arith, length-append done (x ∷ []))) in
    let Q : List Fault → Type 0 = λ fs. Reads (draft_in 12 s f g k (done ++ x ∷ []) [] []) (map fault_fields todo) (draft_in next.after s f g k fs [] []) in
    record {
      after = next.after;
      behind = next.behind;
      within = next.within;
      reads = reads_one (draft_in last s f g k done [] []) (fault_fields x) (map fault_fields todo) _ _ (step_fault last s f g k done x b before streams (lt_of (fault_number x) (2 ^ 32) is_small.0) is_good.0 (omega arith)) (subst Q e next.reads);
    }

init_read : (last : ℕ) (s : Shape) (f g : ℕ) (k : Config) (fs : List Fault) (done todo : List Init) → IsBehind f last → last ≤ 13 → IsGood s → AllByRecursion (λ i. i.unit.0 < units s) todo → Rises (done ++ todo) → AllByRecursion (λ i. IsPattern i.pattern) todo → HasRead f 13 (draft_in last s f g k fs done []) (map init_fields todo) (λ after. draft_in after s f g k fs (done ++ todo) [])
init_read last s f g k fs done [] b before good there rises patterns = record { after = last; behind = b; within = before; reads = ap (λ (is : List Init). draft_in last s f g k fs is []) (sym (append-nil done)) }
init_read last s f g k fs done (x ∷ todo) b before good there rises patterns =
    let e : (done ++ x ∷ []) ++ todo ≡ done ++ x ∷ todo = append_assoc done (x ∷ []) todo in
    let P : List Init → Type 0 = λ is. Rises is in
    let next = init_read 13 s f g k fs (done ++ x ∷ []) todo (record { low = omega arith; high = omega arith; first = λ h. absurd (omega arith) }) (omega arith) good there.1 (subst P (sym e) rises) patterns.1 in
    let Q : List Init → Type 0 = λ is. Reads (draft_in 13 s f g k fs (done ++ x ∷ []) []) (map init_fields todo) (draft_in next.after s f g k fs is []) in
    record {
      after = next.after;
      behind = next.behind;
      within = next.within;
      reads = reads_one (draft_in last s f g k fs done []) (init_fields x) (map init_fields todo) _ _ (step_init last s f g k fs done x b before good there.0 (sizes_of s good).few_units (rises_next done x todo rises) patterns.0) (subst Q e next.reads);
    }

-- the operations of a guest, and the guests
ops_read : (s : Shape) (f g : ℕ) (k : Config) (fs : List Fault) (is : List Init) (front : List (List Op)) (done todo : List Op) → AllByRecursion (IsGoodOp s) todo → sum_by count_all front + (count_all done + count_all todo) ≤ 2 ^ 20 → Reads (draft_in 14 s f g k fs is (front ++ done ∷ [])) (map op_fields todo) (draft_in 14 s f g k fs is (front ++ (done ++ todo) ∷ []))
ops_read s f g k fs is front done [] good few = ap (λ (ops : List Op). draft_in 14 s f g k fs is (front ++ ops ∷ [])) (sym (append-nil done))
ops_read s f g k fs is front done (op ∷ todo) good few =
    let e : (done ++ op ∷ []) ++ todo ≡ done ++ op ∷ todo = append_assoc done (op ∷ []) todo in
    let c = sum_by-cons op_count op todo in
    let one = sum_by-cons op_count op [] in
    let two = sum_by-append op_count done (op ∷ []) in
    let all = sum_by-append count_all front (done ∷ []) in
    let last = sum_by-cons count_all done [] in
    let next = ops_read s f g k fs is front (done ++ op ∷ []) todo good.1 (omega (arith, c, one, two)) in
    let Q : List Op → Type 0 = λ ops. Reads (draft_in 14 s f g k fs is (front ++ (done ++ op ∷ []) ∷ [])) (map op_fields todo) (draft_in 14 s f g k fs is (front ++ ops ∷ [])) in
    reads_one (draft_in 14 s f g k fs is (front ++ done ∷ [])) (op_fields op) (map op_fields todo) _ _ (step_op s f g k fs is front done op good.0 (omega (arith, c, all, last))) (subst Q e next)

guest_read : (last : ℕ) (s : Shape) (f g : ℕ) (k : Config) (fs : List Fault) (is : List Init) (done : List (List Op)) (ops : List Op) → IsBehind f last → length done < 16 → AllByRecursion (IsGoodOp s) ops → sum_by count_all done + count_all ops ≤ 2 ^ 20 → Reads (draft_in last s f g k fs is done) (guest_lines ops) (draft_in 14 s f g k fs is (done ++ ops ∷ []))
guest_read last s f g k fs is done ops b few good count =
    reads_one (draft_in last s f g k fs is done) (codes "guest" ∷ []) (map op_fields ops) _ _ (step_guest last s f g k fs is done b few) (ops_read s f g k fs is done [] ops good (omega arith))

guests_read : (s : Shape) (f g : ℕ) (k : Config) (fs : List Fault) (is : List Init) (done todo : List (List Op)) → length done + length todo ≤ 16 → AllByRecursion (λ ops. AllByRecursion (IsGoodOp s) ops) todo → sum_by count_all done + sum_by count_all todo ≤ 2 ^ 20 → Reads (draft_in 14 s f g k fs is done) (flat_map guest_lines todo) (draft_in 14 s f g k fs is (done ++ todo))
guests_read s f g k fs is done [] few good count = ap (λ (ts : List (List Op)). draft_in 14 s f g k fs is ts) (sym (append-nil done))
guests_read s f g k fs is done (ops ∷ todo) few good count =
    let e : (done ++ ops ∷ []) ++ todo ≡ done ++ ops ∷ todo = append_assoc done (ops ∷ []) todo in
    let c = sum_by-cons count_all ops todo in
    let one = sum_by-cons count_all ops [] in
    let two = sum_by-append count_all done (ops ∷ []) in
    let here = guest_read 14 s f g k fs is done ops (record { low = omega arith; high = omega arith; first = λ h. absurd (omega arith) }) (omega arith) good.0 (omega (arith, c)) in
    let next = guests_read s f g k fs is (done ++ ops ∷ []) todo (omega (arith, length-append done (ops ∷ []))) good.1 (omega (arith, c, one, two)) in
    let Q : List (List Op) → Type 0 = λ ts. Reads (draft_in 14 s f g k fs is (done ++ ops ∷ [])) (flat_map guest_lines todo) (draft_in 14 s f g k fs is ts) in
    reads_then (draft_in 14 s f g k fs is done) (guest_lines ops) (flat_map guest_lines todo) _ _ here (subst Q e next)

-- the group and the cancel number
abbrev pub group_line_of : ℕ → ℕ → List (List (List ℕ))
group_line_of f g = if f == 2 then (codes "group" ∷ decimal g ∷ []) ∷ [] else []

group_one : (s : Shape) (k : Config) → HasRead 1 10 (draft_in 9 s 1 1 k [] [] []) (group_line_of 1 1) (λ after. draft_in after s 1 1 k [] [] [])
group_one s k = record { after = 9; behind = record { low = omega arith; high = omega arith; first = λ h. refl }; within = omega arith; reads = refl }

group_two : (s : Shape) (g : ℕ) (k : Config) → Between 1 16 g → HasRead 2 10 (draft_in 9 s 2 1 k [] [] []) (group_line_of 2 g) (λ after. draft_in after s 2 g k [] [] [])
group_two s g k h = record {
  after = 10;
  behind = record { low = omega arith; high = omega arith; first = λ e. absurd (omega arith) };
  within = omega arith;
  reads = reads_one (draft_in 9 s 2 1 k [] [] []) (codes "group" ∷ decimal g ∷ []) [] _ _ (step_group s g k h) refl;
}

group_read : (s : Shape) (f g : ℕ) (k : Config) → ((f ≡ 1) × (g ≡ 1)) ⊎ ((f ≡ 2) × (1 ≤ g) × (g ≤ 16)) → HasRead f 10 (draft_in 9 s f 1 k [] [] []) (group_line_of f g) (λ after. draft_in after s f g k [] [] [])
group_read s f g k (inl (e, h)) =
    let P : ℕ → Type 0 = λ n. HasRead 1 10 (draft_in 9 s 1 1 k [] [] []) (group_line_of 1 n) (λ after. draft_in after s 1 n k [] [] []) in
    let Q : ℕ → Type 0 = λ n. HasRead n 10 (draft_in 9 s n 1 k [] [] []) (group_line_of n g) (λ after. draft_in after s n g k [] [] []) in
    subst Q (sym e) (subst P (sym h) (group_one s k))
group_read s f g k (inr (e, l, h)) =
    let Q : ℕ → Type 0 = λ n. HasRead n 10 (draft_in 9 s n 1 k [] [] []) (group_line_of n g) (λ after. draft_in after s n g k [] [] []) in
    subst Q (sym e) (group_two s g k (l, h))

cancel_read : (last : ℕ) (s : Shape) (f g : ℕ) (k : Config) (c : Option ℕ) → k.cancel ≡ None → IsBehind f last → last ≤ 10 → IfSome c (λ n. n < 2 ^ 32) → HasRead f 11 (draft_in last s f g k [] [] []) (cancel_lines c) (λ after. draft_in after s f g (record k { cancel = c }) [] [] [])
cancel_read last s f g k None e b before small = record {
  after = last;
  behind = b;
  within = omega arith;
  reads = ap (λ (o : Option ℕ). draft_in last s f g (record k { cancel = o }) [] [] []) e;
}
cancel_read last s f g k (Some n) e b before small = record {
  after = 11;
  behind = record { low = omega arith; high = omega arith; first = λ h. absurd (omega arith) };
  within = omega arith;
  reads = reads_one (draft_in last s f g k [] [] []) (codes "cancel" ∷ decimal n ∷ []) [] _ _ (step_cancel last s f g k n b (omega arith) small) refl;
}

-- the lines of the limits
limits_read : (last f : ℕ) (s : Shape) (a b c d m t : ℕ) → (last ≡ 2) ⊎ (last ≡ 3) → Between 1 8 a → Between 1 1024 b → Between 1 1024 c → Between 1 256 d → d ≤ c → Between 1 64 m → t ≤ 2 ^ 20 → Reads (draft_at last f s (config_of 0 0 0 0 0 0)) (limit_lines (config_of a b c d m t)) (draft_at 9 f s (config_of a b c d m t))
limits_read last f s a b c d m t at ha hb hc hd less hm ht =
    let end = draft_at 9 f s (config_of a b c d m t) in
    let six : List (List (List ℕ)) = (codes "dirty" ∷ decimal t ∷ []) ∷ [] in
    let five : List (List (List ℕ)) = (codes "rounds" ∷ decimal m ∷ []) ∷ six in
    let four : List (List (List ℕ)) = (codes "region" ∷ decimal d ∷ []) ∷ five in
    let three : List (List (List ℕ)) = (codes "outbox" ∷ decimal c ∷ []) ∷ four in
    let two : List (List (List ℕ)) = (codes "credit" ∷ decimal b ∷ []) ∷ three in
    let done : Reads end [] end = refl in
    reads_one (draft_at last f s (config_of 0 0 0 0 0 0)) (codes "streams" ∷ decimal a ∷ []) two (draft_at 4 f s (config_of a 0 0 0 0 0)) end (step_streams last f s a at ha)
    (reads_one (draft_at 4 f s (config_of a 0 0 0 0 0)) (codes "credit" ∷ decimal b ∷ []) three (draft_at 5 f s (config_of a b 0 0 0 0)) end (step_credit f s a b hb)
    (reads_one (draft_at 5 f s (config_of a b 0 0 0 0)) (codes "outbox" ∷ decimal c ∷ []) four (draft_at 6 f s (config_of a b c 0 0 0)) end (step_outbox f s a b c hc)
    (reads_one (draft_at 6 f s (config_of a b c 0 0 0)) (codes "region" ∷ decimal d ∷ []) five (draft_at 7 f s (config_of a b c d 0 0)) end (step_region f s a b c d hd less)
    (reads_one (draft_at 7 f s (config_of a b c d 0 0)) (codes "rounds" ∷ decimal m ∷ []) six (draft_at 8 f s (config_of a b c d m 0)) end (step_rounds f s a b c d m hm)
    (reads_one (draft_at 8 f s (config_of a b c d m 0)) (codes "dirty" ∷ decimal t ∷ []) [] end end (step_dirty f s a b c d m t ht) done)))))

-- the parts of a good job
pub record HasGoodParts (w : Written) : Type 0 where
  pub limits : IsGoodJob (job_of w)
  pub some_blocks : AllByRecursion (λ x. 1 ≤ x.blocks) w.shape.disks
  pub rises : Rises w.init
  pub units_in : AllByRecursion (λ i. i.unit.0 < units w.shape) w.init
  pub patterns : AllByRecursion (λ i. IsPattern i.pattern) w.init
  pub few_guests : length w.traces ≤ 16
  pub some_guest : 1 ≤ length w.traces
  pub good_ops : AllByRecursion (λ ops. AllByRecursion (IsGoodOp w.shape) ops) w.traces
  pub few_ops : sum_by count_all w.traces ≤ 2 ^ 20
  pub fits : exceeds w.config.cancel (sum_by count_all w.traces) ≡ false
  pub small : IfSome w.config.cancel (λ k. k < 2 ^ 32)

blocks_all : (ds : List DiskShape) → ((d : ℕ) → d < length ds → 1 ≤ blocks ds d) → AllByRecursion (λ x. 1 ≤ x.blocks) ds
blocks_all [] h = tt
blocks_all (x ∷ ds) h = (h 0 (omega arith), blocks_all ds (λ d lt. h (suc d) (omega arith)))

ops_all : (s : Shape) (traces : List (List Op)) → ((guest i : ℕ) → i < length (get_or traces guest []) → IsGoodOp s (get_or (get_or traces guest []) i no_op)) → AllByRecursion (λ ops. AllByRecursion (IsGoodOp s) ops) traces
ops_all s [] h = tt
ops_all s (ops ∷ traces) h = (all_of (IsGoodOp s) ops no_op (h 0), ops_all s traces (λ guest. h (suc guest)))

not_less : (k m : ℕ) → k ≤ m → nat_lt m k ≡ false
not_less k m h = grind (arith, nat_tests)

fits_of : (c : Option ℕ) (n m : ℕ) → n ≡ m → IfSome c (λ k. k ≤ n) → exceeds c m ≡ false
fits_of None n m e h = refl
fits_of (Some k) n m e h = not_less k m (omega arith)

small_of : (c : Option ℕ) (n : ℕ) → n ≤ 1048576 → IfSome c (λ k. k ≤ n) → IfSome c (λ k. k < 2 ^ 32)
small_of None n few h = tt
small_of (Some k) n few h = omega arith

few_of : (w : Written) → length (job_of w).traces ≤ 16 → length w.traces ≤ 16
few_of w h = omega (arith, length-map w.traces (all_unit_operations w.shape))

pub some_of : (w : Written) → 1 ≤ length (job_of w).traces → 1 ≤ length w.traces
some_of w h = omega (arith, length-map w.traces (all_unit_operations w.shape))

pub good_parts : (w : Written) → IsGoodWritten w → HasGoodParts w
good_parts w g =
    let l = g.limits in
    let count : operation_count (job_of w) ≡ sum_by count_all w.traces = traces_counted w.shape w.traces in
    record {
      limits = l;
      some_blocks = blocks_all w.shape.disks l.some_blocks;
      rises = rises_of w.init l.init_rises;
      units_in = all_of (λ i. i.unit.0 < units w.shape) w.init no_init l.init_units;
      patterns = all_of (λ i. IsPattern i.pattern) w.init no_init g.patterns;
      few_guests = few_of w l.guests.1;
      some_guest = some_of w l.guests.0;
      good_ops = ops_all w.shape w.traces g.operations;
      few_ops = omega (arith, count, l.operations);
      fits = fits_of w.config.cancel (operation_count (job_of w)) (sum_by count_all w.traces) count l.cancel;
      small = small_of w.config.cancel (operation_count (job_of w)) l.operations l.cancel;
    }

-- the machine
format_of : (f g : ℕ) → ((f ≡ 1) × (g ≡ 1)) ⊎ ((f ≡ 2) × (1 ≤ g) × (g ≤ 16)) → IsFormat f
format_of f g (inl h) = inl h.0
format_of f g (inr h) = inr h.0

pub record HasReadMachine (w : Written) : Type 0 where
  pub after : ℕ
  pub is_after : (after ≡ 2) ⊎ (after ≡ 3)
  pub reads : Reads first_draft (machine_lines w) (draft_at after w.format w.shape (config_of 0 0 0 0 0 0))

machine_read : (w : Written) → IsGoodWritten w → HasGoodParts w → HasReadMachine w
machine_read w g p =
    let f = w.format in
    let s = w.shape in
    let good = p.limits.machine in
    let h = sizes_of s good in
    let disks = disks_read f s.pages s.page_size 2 [] s.disks (inl refl) good p.some_blocks in
    let size = unit_size_most s.page_size h.page_size in
    let end = draft_at disks.after f s (config_of 0 0 0 0 0 0) in
    record {
      after = disks.after;
      is_after = disks.is_after;
      reads =
          reads_one first_draft (codes "job" ∷ decimal f ∷ []) ((codes "pages" ∷ decimal s.pages ∷ decimal s.page_size ∷ []) ∷ map disk_fields s.disks) (draft_at 1 f (shape_of 0 0 []) (config_of 0 0 0 0 0 0)) end (step_job f (format_of f w.group p.limits.formats))
          (reads_one (draft_at 1 f (shape_of 0 0 []) (config_of 0 0 0 0 0 0)) (codes "pages" ∷ decimal s.pages ∷ decimal s.page_size ∷ []) (map disk_fields s.disks) (draft_at 2 f (shape_of s.pages s.page_size []) (config_of 0 0 0 0 0 0)) end (step_pages f s.pages s.page_size (front_good s.pages s.page_size [] s.disks good) (omega (arith, h.few_units)) (omega (arith, size))) disks.reads);
    }

-- the guests
traces_read : (last : ℕ) (s : Shape) (f g : ℕ) (k : Config) (fs : List Fault) (is : List Init) (ts : List (List Op)) → IsBehind f last → 1 ≤ length ts → length ts ≤ 16 → AllByRecursion (λ ops. AllByRecursion (IsGoodOp s) ops) ts → sum_by count_all ts ≤ 2 ^ 20 → Reads (draft_in last s f g k fs is []) (flat_map guest_lines ts) (draft_in 14 s f g k fs is ts)
traces_read last s f g k fs is [] b some few good count = absurd (omega arith)
traces_read last s f g k fs is (ops ∷ ts) b some few good count =
    let c = sum_by-cons count_all ops ts in
    let d = sum_by-cons count_all ops [] in
    let here = guest_read last s f g k fs is [] ops b (omega arith) good.0 (omega (arith, c)) in
    reads_then (draft_in last s f g k fs is []) (guest_lines ops) (flat_map guest_lines ts) (draft_in 14 s f g k fs is (ops ∷ [])) (draft_in 14 s f g k fs is (ops ∷ ts)) here
    (guests_read s f g k fs is (ops ∷ []) ts (omega arith) good.1 (omega (arith, c, d)))

-- the lists, to the end
body_read : (w : Written) → IsGoodWritten w → HasGoodParts w → (k : Config) → k ≡ record w.config { cancel = None } → Reads (draft_in 9 w.shape w.format 1 k [] [] []) (group_lines w ++ (cancel_lines w.config.cancel ++ (map fault_fields w.faults ++ (map init_fields w.init ++ (flat_map guest_lines w.traces ++ (codes "end" ∷ []) ∷ []))))) (record { last = 15; job = w })
body_read w g p k e =
    let s = w.shape in
    let f = w.format in
    let l = p.limits in
    let kc = record k { cancel = w.config.cancel } in
    let config : kc ≡ w.config = ap (λ (c : Config). record c { cancel = w.config.cancel }) e in
    let streams : kc.streams ≡ w.config.streams = ap (λ (c : Config). c.streams) config in
    let P : Config → Type 0 = λ c. list_all (is_good_fault c.streams) w.faults ≡ true in
    let Q : Config → Type 0 = λ c. exceeds c.cancel (sum_by count_all w.traces) ≡ false in
    let none : k.cancel ≡ None = ap (λ (c : Config). c.cancel) e in
    let one = group_read s f w.group k l.formats in
    let two = cancel_read one.after s f w.group k w.config.cancel none one.behind one.within p.small in
    let three = faults_read two.after s f w.group kc [] w.faults two.behind (omega (arith, two.within)) (omega (arith, streams, l.streams.1)) g.faults (subst P (sym config) l.fault_numbers) (omega (arith, l.fault_lines)) in
    let four = init_read three.after s f w.group kc w.faults [] w.init three.behind (omega (arith, three.within)) l.machine p.units_in p.rises p.patterns in
    let five = traces_read four.after s f w.group kc w.faults w.init w.traces four.behind p.some_guest p.few_guests p.good_ops p.few_ops in
    let six = step_end s f w.group kc w.faults w.init w.traces (subst Q (sym config) p.fits) in
    let end : Draft = record { last = 15; job = w } in
    let to_end : draft_in 15 s f w.group kc w.faults w.init w.traces ≡ end = ap (λ (c : Config). draft_in 15 s f w.group c w.faults w.init w.traces) config in
    let last = reads_one (draft_in 14 s f w.group kc w.faults w.init w.traces) (codes "end" ∷ []) [] (draft_in 15 s f w.group kc w.faults w.init w.traces) end six to_end in
    reads_then (draft_in 9 s f 1 k [] [] []) (group_lines w) _ (draft_in one.after s f w.group k [] [] []) end one.reads
    (reads_then (draft_in one.after s f w.group k [] [] []) (cancel_lines w.config.cancel) _ (draft_in two.after s f w.group kc [] [] []) end two.reads
    (reads_then (draft_in two.after s f w.group kc [] [] []) (map fault_fields w.faults) _ (draft_in three.after s f w.group kc w.faults [] []) end three.reads
    (reads_then (draft_in three.after s f w.group kc w.faults [] []) (map init_fields w.init) _ (draft_in four.after s f w.group kc w.faults w.init []) end four.reads
    (reads_then (draft_in four.after s f w.group kc w.faults w.init []) (flat_map guest_lines w.traces) ((codes "end" ∷ []) ∷ []) (draft_in 14 s f w.group kc w.faults w.init w.traces) end five last))))

pub job_reads : (w : Written) → IsGoodWritten w → Reads first_draft (job_lines w) (record { last = 15; job = w })
job_reads w g =
    let p = good_parts w g in
    let l = p.limits in
    let c = w.config in
    let k = config_of c.streams c.credit c.outbox c.region c.rounds c.dirty in
    let m = machine_read w g p in
    let end : Draft = record { last = 15; job = w } in
    let limits = limits_read m.after w.format w.shape c.streams c.credit c.outbox c.region c.rounds c.dirty m.is_after l.streams l.credit l.outbox (l.region.0, l.region.1) l.region.2 l.rounds l.dirty in
    reads_then first_draft (machine_lines w) _ (draft_at m.after w.format w.shape (config_of 0 0 0 0 0 0)) end m.reads
    (reads_then (draft_at m.after w.format w.shape (config_of 0 0 0 0 0 0)) (limit_lines w.config) _ (draft_at 9 w.format w.shape k) end limits
    (body_read w g p k refl))
