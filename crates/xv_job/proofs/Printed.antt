-- Lines that are written one after another.
use Rattle.std.proofs.Common.{◌≡◌, ℕ, ◌+◌, ◌<◌, List, [], ◌∷◌, ◌++◌, length, map, take, get_or, codes, decimal, refl, sym, ap, ◌∙◌, append_assoc}
use Rattle.std.specs.List.{flat_map}
use Rattle.std.proofs.lemmas.List.{append-nil, map-append, take_more}
use Rattle.std.proofs.lemmas.List.Concat.{flat_map-append}
use Rattle.xv_base.specs.declared.unit.DiskShape.{DiskShape}
use Rattle.xv_base.specs.declared.limits.Fault.{Fault}
use Rattle.xv_base.specs.declared.pattern.Init.{Init}
use Rattle.xv_trace.specs.declared.op.Op.{Op}
use Rattle.xv_base.specs.Units.{blocks, block_size}
use Rattle.xv_base.proofs.Sums.{blocks-get_or, block_size-get_or}
use Rattle.xv_text.specs.Lines.{line, text_of}
use Rattle.xv_trace.specs.OpText.{Program}
use Rattle.xv_job.specs.Written.{Written, ops_held}
use Rattle.xv_job.specs.JobText.{disk_fields, fault_fields, init_fields, guest_lines, machine_lines, limit_lines, group_lines, cancel_lines, machine_of, group_line, job_text}

-- one more item, of one line
pub line_written : {X : Type 0} (f : X → List (List ℕ)) (xs : List X) (i : ℕ) (d : X) (out start : List ℕ) → i < length xs → out ≡ start ++ text_of (map f (take i xs)) → out ++ line (f (get_or xs i d)) ≡ start ++ text_of (map f (take (i + 1) xs))
line_written f xs i d out start h e =
    let items : map f (take (i + 1) xs) ≡ map f (take i xs) ++ f (get_or xs i d) ∷ [] = ap (map f) (take_more xs i d h) ∙ map-append f (take i xs) (get_or xs i d ∷ []) in
    let text : text_of (map f (take (i + 1) xs)) ≡ text_of (map f (take i xs)) ++ line (f (get_or xs i d)) =
    ap text_of items ∙ flat_map-append line (map f (take i xs)) (f (get_or xs i d) ∷ []) ∙ ap (λ (t : List ℕ). text_of (map f (take i xs)) ++ t) (append-nil (line (f (get_or xs i d)))) in
    ap (λ (t : List ℕ). t ++ line (f (get_or xs i d))) e ∙ append_assoc start (text_of (map f (take i xs))) (line (f (get_or xs i d))) ∙ ap (λ (t : List ℕ). start ++ t) (sym text)

-- the disks
pub disk_written : (ds : List DiskShape) (k b z : ℕ) (out start : List ℕ) → k < length ds → b ≡ blocks ds k → z ≡ block_size ds k → out ≡ start ++ text_of (map disk_fields (take k ds)) → out ++ line (codes "disk" ∷ decimal b ∷ decimal z ∷ []) ≡ start ++ text_of (map disk_fields (take (k + 1) ds))
disk_written ds k b z out start h e f o =
    let d : DiskShape = record { blocks = 0; block_size = 0 } in
    let fields : codes "disk" ∷ decimal b ∷ decimal z ∷ [] ≡ disk_fields (get_or ds k d) =
    ap (λ (n : ℕ). codes "disk" ∷ decimal n ∷ decimal z ∷ []) (e ∙ blocks-get_or ds k d h) ∙ ap (λ (n : ℕ). codes "disk" ∷ decimal (get_or ds k d).blocks ∷ decimal n ∷ []) (f ∙ block_size-get_or ds k d h) in
    ap (λ (l : List (List ℕ)). out ++ line l) fields ∙ line_written disk_fields ds k d out start h o

-- the traces
traces_all : (ts : List Program) → flat_map (λ (t : Program). guest_lines t.ops) (take (length ts) ts) ≡ flat_map guest_lines (ops_held ts)
traces_all [] = refl
traces_all (t ∷ ts) = ap (λ (ls : List (List (List ℕ))). guest_lines t.ops ++ ls) (traces_all ts)

pub traces_written : (ts : List Program) (n : ℕ) (out start : List ℕ) → n ≡ length ts → out ≡ start ++ text_of (flat_map (λ (t : Program). guest_lines t.ops) (take n ts)) → out ≡ start ++ text_of (flat_map guest_lines (ops_held ts))
traces_written ts n out start h e = e ∙ ap (λ (k : ℕ). start ++ text_of (flat_map (λ (t : Program). guest_lines t.ops) (take k ts))) h ∙ ap (λ (ls : List (List (List ℕ))). start ++ text_of ls) (traces_all ts)

-- parts one after another
pub then_written : (start before after : List ℕ) (a b : List (List (List ℕ))) → before ≡ start ++ text_of a → after ≡ before ++ text_of b → after ≡ start ++ text_of (a ++ b)
then_written start before after a b e f =
    f ∙ ap (λ (t : List ℕ). t ++ text_of b) e ∙ append_assoc start (text_of a) (text_of b) ∙ ap (λ (t : List ℕ). start ++ t) (sym (flat_map-append line a b))

-- the parts of a job
regroup : {X : Type 0} (m k g c f i t e : List X) → (((m ++ (k ++ (g ++ c))) ++ (f ++ i)) ++ t) ++ e ≡ m ++ (k ++ (g ++ (c ++ (f ++ (i ++ (t ++ e))))))
regroup m k g c f i t e = simp append_assoc

pub whole_written : (start out : List ℕ) (w : Written) → out ≡ start ++ text_of ((((machine_lines w ++ (limit_lines w.config ++ (group_lines w ++ cancel_lines w.config.cancel))) ++ (map fault_fields w.faults ++ map init_fields w.init)) ++ flat_map guest_lines w.traces) ++ (codes "end" ∷ []) ∷ []) → out ≡ start ++ job_text w
whole_written start out w e = e ∙ ap (λ (ls : List (List (List ℕ))). start ++ text_of ls) (regroup (machine_lines w) (limit_lines w.config) (group_lines w) (cancel_lines w.config.cancel) (map fault_fields w.faults) (map init_fields w.init) (flat_map guest_lines w.traces) ((codes "end" ∷ []) ∷ []))

-- a line alone
pub one_line_written : (start out : List ℕ) (l : List (List ℕ)) → out ≡ start ++ line l → out ≡ start ++ text_of (l ∷ [])
one_line_written start out l e = e ∙ ap (λ (t : List ℕ). start ++ t) (sym (append-nil (line l)))

pub all_written : (w : Written) (fs : List Fault) (is : List Init) (ts : List Program) (start one two three four five : List ℕ) → fs ≡ w.faults → is ≡ w.init → ops_held ts ≡ w.traces
    → one ≡ start ++ text_of (machine_of w.format w.shape)
    → two ≡ one ++ text_of (limit_lines w.config ++ (group_line w.format w.group ++ cancel_lines w.config.cancel))
    → three ≡ two ++ text_of (map fault_fields fs ++ map init_fields is)
    → four ≡ three ++ text_of (flat_map guest_lines (ops_held ts))
    → five ≡ four ++ line (codes "end" ∷ [])
    → five ≡ start ++ job_text w
all_written w fs is ts start one two three four five f i t a b c d e =
    let contents : three ≡ two ++ text_of (map fault_fields w.faults ++ map init_fields w.init) = c ∙ ap (λ (xs : List Fault). two ++ text_of (map fault_fields xs ++ map init_fields is)) f ∙ ap (λ (xs : List Init). two ++ text_of (map fault_fields w.faults ++ map init_fields xs)) i in
    let traces : four ≡ three ++ text_of (flat_map guest_lines w.traces) = d ∙ ap (λ (xs : List (List Op)). three ++ text_of (flat_map guest_lines xs)) t in
    let settings : List (List (List ℕ)) = machine_lines w ++ (limit_lines w.config ++ (group_lines w ++ cancel_lines w.config.cancel)) in
    let contents_too : List (List (List ℕ)) = settings ++ (map fault_fields w.faults ++ map init_fields w.init) in
    let traces_too : List (List (List ℕ)) = contents_too ++ flat_map guest_lines w.traces in
    whole_written start five w
    (then_written start four five traces_too ((codes "end" ∷ []) ∷ [])
    (then_written start three four contents_too (flat_map guest_lines w.traces)
    (then_written start two three settings (map fault_fields w.faults ++ map init_fields w.init)
    (then_written start one two (machine_lines w) (limit_lines w.config ++ (group_lines w ++ cancel_lines w.config.cancel)) a b) contents) traces)
    (one_line_written four five (codes "end" ∷ []) e))
