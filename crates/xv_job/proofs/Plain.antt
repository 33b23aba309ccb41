-- The lines of a good job have no space and no line feed in their fields.
use Rattle.std.proofs.Common.{◌≡◌, ℕ, ◌^◌, ◌<◌, ◌≤◌, ◌==◌, ◌&&◌, Bool, true, false, List, [], ◌∷◌, ◌++◌, map, Option, Some, None, IfSome, nat_lt, codes, decimal, refl, sym, subst, arith, append_assoc, if◌then◌else◌, inl, inr, ◌⊎◌}
use Rattle.std.specs.List.{AllByRecursion, list_all, flat_map}
use Rattle.std.proofs.lemmas.Bool.{and_parts}
use Rattle.std.proofs.lemmas.Bool.Decides.{nat_tests}
use Rattle.xv_base.specs.declared.unit.DiskShape.{DiskShape}
use Rattle.xv_base.specs.declared.limits.Fault.{Fault}
use Rattle.xv_base.specs.declared.limits.Fault.TheVariants.{SourceRead, SourceWrite, DestRead, DestWrite, Flush, Put, Take, AckPut, AckTake}
use Rattle.xv_base.specs.declared.pattern.Init.{Init}
use Rattle.xv_base.specs.Units.{Shape, shape_of, units}
use Rattle.xv_base.proofs.Within.{unit_size_most}
use Rattle.xv_base.specs.Layout.{IsGood}
use Rattle.xv_text.specs.Fields.{IsPattern}
use Rattle.xv_text.proofs.Apart.{IsPlain, IsPlainLine, ArePlainLines, decimal_plain, hex_plain}
use Rattle.xv_trace.specs.declared.op.Op.{Op}
use Rattle.xv_trace.specs.OpText.{op_fields, IsGoodOp}
use Rattle.xv_trace.proofs.OpLines.{op_fields_plain}
use Rattle.xv_job.specs.JobText.{disk_fields, fault_fields, init_fields, guest_lines, group_lines, cancel_lines, limit_lines, machine_lines, job_lines}
use Rattle.xv_job.specs.Written.{Written, IsGoodWritten, fault_number}
use Rattle.xv_model.specs.Job.{is_good_fault}
use Rattle.xv_job.proofs.Shapes.{sizes_of}
use Rattle.xv_job.proofs.Forward.{HasGoodParts, good_parts, small_disk}

-- lines put together
pub plain_append : (xs ys : List (List (List ℕ))) → ArePlainLines xs → ArePlainLines ys → ArePlainLines (xs ++ ys)
plain_append [] ys h k = k
plain_append (x ∷ xs) ys h k = (h.0, plain_append xs ys h.1 k)

-- a line of a word and numbers
one_line : (word : List ℕ) (n : ℕ) → IsPlain word → n < 2 ^ 64 → IsPlainLine (word ∷ decimal n ∷ [])
one_line word n p h = (omega arith, (p, (decimal_plain n h, tt)))

two_line : (word : List ℕ) (m n : ℕ) → IsPlain word → m < 2 ^ 64 → n < 2 ^ 64 → IsPlainLine (word ∷ decimal m ∷ decimal n ∷ [])
two_line word m n p h k = (omega arith, (p, (decimal_plain m h, (decimal_plain n k, tt))))

-- the machine
disks_plain : (p z : ℕ) (done todo : List DiskShape) → IsGood (shape_of p z (done ++ todo)) → ArePlainLines (map disk_fields todo)
disks_plain p z done [] good = tt
disks_plain p z done (x ∷ todo) good =
    let small = small_disk p z done x todo good in
    let P : List DiskShape → Type 0 = λ ds. IsGood (shape_of p z ds) in
    (two_line (codes "disk") x.blocks x.block_size (record { no_space = refl; no_feed = refl }) (omega (arith, small.blocks)) (omega (arith, small.size)), disks_plain p z (done ++ x ∷ []) todo (subst P (sym (append_assoc done (x ∷ []) todo)) good))

format_small : (f g : ℕ) → ((f ≡ 1) × (g ≡ 1)) ⊎ ((f ≡ 2) × (1 ≤ g) × (g ≤ 16)) → (f < 2 ^ 64) × (g < 2 ^ 64)
format_small f g (inl (e, h)) = (omega arith, omega arith)
format_small f g (inr (e, l, h)) = (omega arith, omega arith)

machine_plain : (w : Written) → HasGoodParts w → ArePlainLines (machine_lines w)
machine_plain w p =
    let h = sizes_of w.shape p.limits.machine in
    let size = unit_size_most w.shape.page_size h.page_size in (
      one_line (codes "job") w.format (record { no_space = refl; no_feed = refl }) (format_small w.format w.group p.limits.formats).0,
      (
        two_line (codes "pages") w.shape.pages w.shape.page_size (record { no_space = refl; no_feed = refl }) (omega (arith, h.few_units)) (omega (arith, size)),
        disks_plain w.shape.pages w.shape.page_size [] w.shape.disks p.limits.machine,
      ),
    )

limits_plain : (w : Written) → HasGoodParts w → ArePlainLines (limit_lines w.config)
limits_plain w p =
    let l = p.limits in (
      one_line (codes "streams") w.config.streams (record { no_space = refl; no_feed = refl }) (omega (arith, l.streams.1)),
      (
        one_line (codes "credit") w.config.credit (record { no_space = refl; no_feed = refl }) (omega (arith, l.credit.1)),
        (
          one_line (codes "outbox") w.config.outbox (record { no_space = refl; no_feed = refl }) (omega (arith, l.outbox.1)),
          (
            one_line (codes "region") w.config.region (record { no_space = refl; no_feed = refl }) (omega (arith, l.region.1)),
            (
              one_line (codes "rounds") w.config.rounds (record { no_space = refl; no_feed = refl }) (omega (arith, l.rounds.1)),
              (
                one_line (codes "dirty") w.config.dirty (record { no_space = refl; no_feed = refl }) (omega (arith, l.dirty)),
                tt,
              ),
            ),
          ),
        ),
      ),
    )

group_plain : (b : Bool) (g : ℕ) → g < 2 ^ 64 → ArePlainLines (if b then (codes "group" ∷ decimal g ∷ []) ∷ [] else [])
group_plain true g h = (one_line (codes "group") g (record { no_space = refl; no_feed = refl }) h, tt)
group_plain false g h = tt

cancel_plain : (c : Option ℕ) → IfSome c (λ k. k < 2 ^ 32) → ArePlainLines (cancel_lines c)
cancel_plain None h = tt
cancel_plain (Some k) h = (one_line (codes "cancel") k (record { no_space = refl; no_feed = refl }) (omega arith), tt)

-- planned faults
small_number : (k : ℕ) → nat_lt k (2 ^ 32) ≡ true → k < 2 ^ 64
small_number k h = let a : k < 2 ^ 32 = grind (arith, nat_tests) in omega arith

small_stream : (s k streams : ℕ) → streams ≤ 8 → (nat_lt 0 k && nat_lt s streams) ≡ true → s < 2 ^ 64
small_stream s k streams few h = let b : nat_lt s streams ≡ true = (and_parts (nat_lt 0 k) (nat_lt s streams) h).1 in let a : s < streams = grind (arith, nat_tests) in omega arith

call_line : (word : List ℕ) (k : ℕ) → IsPlain word → nat_lt k (2 ^ 32) ≡ true → IsPlainLine (codes "fault" ∷ word ∷ decimal k ∷ [])
call_line word k p h = (omega arith, (record { no_space = refl; no_feed = refl }, (p, (decimal_plain k (small_number k h), tt))))

stream_line : (word : List ℕ) (s k : ℕ) → IsPlain word → s < 2 ^ 64 → nat_lt k (2 ^ 32) ≡ true → IsPlainLine (codes "fault" ∷ word ∷ decimal s ∷ decimal k ∷ [])
stream_line word s k p h m = (omega arith, (record { no_space = refl; no_feed = refl }, (p, (decimal_plain s h, (decimal_plain k (small_number k m), tt)))))

fault_plain : (x : Fault) (streams : ℕ) → streams ≤ 8 → nat_lt (fault_number x) (2 ^ 32) ≡ true → is_good_fault streams x ≡ true → IsPlainLine (fault_fields x)
fault_plain (SourceRead k) streams few h g = call_line (codes "sread") k (record { no_space = refl; no_feed = refl }) h
fault_plain (SourceWrite k) streams few h g = call_line (codes "swrite") k (record { no_space = refl; no_feed = refl }) h
fault_plain (DestRead k) streams few h g = call_line (codes "dread") k (record { no_space = refl; no_feed = refl }) h
fault_plain (DestWrite k) streams few h g = call_line (codes "dwrite") k (record { no_space = refl; no_feed = refl }) h
fault_plain (Flush k) streams few h g = call_line (codes "flush") k (record { no_space = refl; no_feed = refl }) h
fault_plain (Put s k) streams few h g = stream_line (codes "put") s k (record { no_space = refl; no_feed = refl }) (small_stream s k streams few g) h
fault_plain (Take s k) streams few h g = stream_line (codes "take") s k (record { no_space = refl; no_feed = refl }) (small_stream s k streams few g) h
fault_plain (AckPut k) streams few h g = call_line (codes "ackput") k (record { no_space = refl; no_feed = refl }) h
fault_plain (AckTake k) streams few h g = call_line (codes "acktake") k (record { no_space = refl; no_feed = refl }) h

faults_plain : (fs : List Fault) (streams : ℕ) → streams ≤ 8 → list_all (λ x. nat_lt (fault_number x) (2 ^ 32)) fs ≡ true → list_all (is_good_fault streams) fs ≡ true → ArePlainLines (map fault_fields fs)
faults_plain [] streams few h g = tt
faults_plain (x ∷ fs) streams few h g =
    let a = and_parts (nat_lt (fault_number x) (2 ^ 32)) (list_all (λ x. nat_lt (fault_number x) (2 ^ 32)) fs) h in
    let b = and_parts (is_good_fault streams x) (list_all (is_good_fault streams) fs) g in
    (fault_plain x streams few a.0 b.0, faults_plain fs streams few a.1 b.1)

-- contents and traces
init_plain : (s : Shape) (is : List Init) → units s ≤ 2 ^ 20 → AllByRecursion (λ i. i.unit.0 < units s) is → AllByRecursion (λ i. IsPattern i.pattern) is → ArePlainLines (map init_fields is)
init_plain s [] few h p = tt
init_plain s (x ∷ is) few h p = ((omega arith, (record { no_space = refl; no_feed = refl }, (decimal_plain x.unit.0 (omega (arith, h.0)), (hex_plain x.pattern p.0, tt)))), init_plain s is few h.1 p.1)

ops_plain : (s : Shape) (ops : List Op) → AllByRecursion (IsGoodOp s) ops → ArePlainLines (map op_fields ops)
ops_plain s [] h = tt
ops_plain s (op ∷ ops) h = (op_fields_plain op h.0.can_be_said, ops_plain s ops h.1)

traces_plain : (s : Shape) (ts : List (List Op)) → AllByRecursion (λ ops. AllByRecursion (IsGoodOp s) ops) ts → ArePlainLines (flat_map guest_lines ts)
traces_plain s [] h = tt
traces_plain s (ops ∷ ts) h = plain_append (guest_lines ops) (flat_map guest_lines ts) ((omega arith, (record { no_space = refl; no_feed = refl }, tt)), ops_plain s ops h.0) (traces_plain s ts h.1)

pub job_plain : (w : Written) → IsGoodWritten w → ArePlainLines (job_lines w)
job_plain w g =
    let p = good_parts w g in
    let l = p.limits in
    plain_append (machine_lines w) _ (machine_plain w p)
    (plain_append (limit_lines w.config) _ (limits_plain w p)
    (plain_append (group_lines w) _ (group_plain (w.format == 2) w.group (format_small w.format w.group l.formats).1)
    (plain_append (cancel_lines w.config.cancel) _ (cancel_plain w.config.cancel p.small)
    (plain_append (map fault_fields w.faults) _ (faults_plain w.faults w.config.streams l.streams.1 g.faults l.fault_numbers)
    (plain_append (map init_fields w.init) _ (init_plain w.shape w.init (sizes_of w.shape l.machine).few_units p.units_in p.patterns)
    (plain_append (flat_map guest_lines w.traces) ((codes "end" ∷ []) ∷ []) (traces_plain w.shape w.traces p.good_ops) ((omega arith, (record { no_space = refl; no_feed = refl }, tt)), tt)))))))
