-- A text without a fault is the text of the job that its last state has, which is good.
use Rattle.std.proofs.Common.{◌≡◌, ℕ, suc, zero, ◌+◌, ◌^◌, ◌<◌, ◌≤◌, ◌==◌, Bool, true, false, List, [], ◌∷◌, ◌++◌, length, map, take, Option, Some, None, IfSome, get_or, codes, decimal, refl, sym, ap, ◌∙◌, subst, arith, append_assoc, if◌then◌else◌, inl, inr, ◌⊎◌, add-one}
use Rattle.std.specs.List.{AllByRecursion, flat_map}
use Rattle.std.proofs.lemmas.List.{append-nil, length-map}
use Rattle.std.proofs.lemmas.Bool.{cases_lt}
use Rattle.std.proofs.lemmas.Bool.Decides.{nat_tests}
use Rattle.xv_base.specs.declared.unit.DiskShape.{DiskShape}
use Rattle.xv_base.specs.declared.text.LineWhy.{LineWhy}
use Rattle.xv_base.specs.declared.text.LineWhy.TheVariants.{Unended}
use Rattle.xv_base.specs.declared.text.LineFault.{LineFault}
use Rattle.xv_base.specs.declared.limits.Config.{Config}
use Rattle.xv_base.specs.declared.pattern.UnitOp.{UnitOp}
use Rattle.xv_base.specs.Units.{Shape, shape_of, units, blocks}
use Rattle.xv_text.specs.Fields.{IsPattern}
use Rattle.xv_text.specs.Reading.{at_line, at_line_or, first_fault, last_state, line_count}
use Rattle.xv_trace.specs.declared.op.Op.{Op}
use Rattle.xv_trace.specs.declared.op.Verb.{Verb}
use Rattle.xv_trace.specs.declared.op.Verb.TheVariants.{Store as StoreVerb, Load as LoadVerb, Write as WriteVerb, Fetch as FetchVerb}
use Rattle.xv_trace.specs.Operations.{all_unit_operations, no_op}
use Rattle.xv_trace.specs.OpText.{verb_of, IsGoodOp}
use Rattle.xv_job.specs.declared.word.Word.{Word}
use Rattle.xv_job.specs.declared.word.Word.TheVariants.{Job as JobWord, Pages, Disk, Streams, Credit, Outbox, Region, Rounds, Dirty, Group, Cancel, Fault as FaultWord, Init as InitWord, Guest, Operation, End}
use Rattle.xv_job.specs.Words.{own_word, or_operation, needed, is_group, may_come, word_of}
use Rattle.xv_job.specs.Draft.{Draft, draft_by, next_draft, line_fault, word_fault, is_in_traces, is_complete, exceeds, operations_so_far, job_reader}
use Rattle.xv_job.specs.JobText.{machine_lines, limit_lines, group_lines, cancel_lines, fault_fields, init_fields, guest_lines, job_lines}
use Rattle.xv_job.specs.Written.{Written, IsGoodWritten, job_of, ops}
use Rattle.xv_model.specs.Job.{IsGoodJob, operation_count, trace, no_init, no_operation, IsLegal, operation}
use Rattle.xv_text.specs.declared.row.Kind.TheVariants.{Number}
use Rattle.xv_text.specs.Fields.{values, number_at}
use Rattle.xv_job.proofs.Args.{nothing, one_number}
use Rattle.xv_job.proofs.Parts.{own_spelled, verb_spelling, either, IsFine, fine, comes, spelling, spelled, not_there, inside}
use Rattle.xv_job.proofs.Shapes.{not_above}
use Rattle.xv_job.proofs.Head.{IsFormat, IsMachine, Between, Head, at_start, at_job, at_pages, at_disk, at_streams, at_credit, at_outbox, at_region, at_rounds, at_dirty, config_of, head_job, draft_at, machine, to_dirty, step_start, step_job, step_pages, step_disk, step_streams, step_credit, step_outbox, step_region, step_rounds}
use Rattle.xv_job.proofs.Lists.{all_at, rises_at}
use Rattle.xv_job.proofs.Body.{IsFixed, IsListed, IsBody, head_lines, front_lines, body_cancel, body_fault, body_init, body_guest, body_operation}
use Rattle.xv_job.proofs.Legal.{traces_counted, ops_legal}

-- a whole job
pub record IsWhole (d : Draft) (ls : List (List (List ℕ))) : Type 0 where
  pub ended : d.last ≡ 15
  pub good : IsGoodWritten d.job
  pub lines : ls ≡ job_lines d.job

-- how far lines have been read
pub data Reached : Draft → List (List (List ℕ)) → Type 0 where
  in_head : {d : Draft} {ls : List (List (List ℕ))} → Head d ls → Reached d ls
  in_body : {d : Draft} {ls : List (List (List ℕ))} → IsBody d ls → Reached d ls
  at_end : {d : Draft} {ls : List (List (List ℕ))} → IsWhole d ls → Reached d ls

-- the limits are read: what follows is the body
fixed_of : (f g : ℕ) (s : Shape) (a b c d e t : ℕ) → IsMachine f s → ((f ≡ 1) × (g ≡ 1)) ⊎ ((f ≡ 2) × (1 ≤ g) × (g ≤ 16)) → Between 1 8 a → Between 1 1024 b → Between 1 1024 c → Between 1 256 d → d ≤ c → Between 1 64 e → t ≤ 2 ^ 20 → IsFixed (record (head_job f s (config_of a b c d e t)) { group = g })
fixed_of f g s a b c d e t m fg ha hb hc hd less he ht = record { good = m.good; some_blocks = m.some_blocks; formats = fg; streams = ha; credit = hb; outbox = hc; region = hd; in_outbox = less; rounds = he; dirty = ht }

listed_none : (last : ℕ) (w : Written) → last < 11 → w.config.cancel ≡ None → w.faults ≡ [] → w.init ≡ [] → w.traces ≡ [] → IsListed last w
listed_none last w before e f g h = record {
  no_cancel = λ lt. e;
  no_faults = λ lt. f;
  no_init = λ lt. g;
  no_traces = λ lt. h;
  some_trace = λ ge. absurd (omega arith);
  cancel_fits = rw e tt;
  few_faults = rw f (omega arith);
  good_faults = rw f refl;
  said_faults = rw f refl;
  init_units = rw g tt;
  init_rises = rw g tt;
  init_patterns = rw g tt;
  few_guests = rw h (omega arith);
  good_ops = rw h tt;
  few_ops = rw h (omega arith);
}

-- the lines of the limits, put together in another way
dirty_lines : (f g : ℕ) (s : Shape) (a b c d e t : ℕ) → to_dirty f s a b c d e t ≡ machine f s ++ limit_lines (config_of a b c d e t)
dirty_lines f g s a b c d e t = simp append_assoc

one_format : (f : ℕ) (s : Shape) (k : Config) → f ≡ 1 → group_lines (head_job f s k) ≡ []
one_format f s k e = rw e refl

body_lines : (f : ℕ) (s : Shape) (a b c d e t : ℕ) → f ≡ 1 → to_dirty f s a b c d e t ≡ front_lines (head_job f s (config_of a b c d e t))
body_lines f s a b c d e t one =
    dirty_lines f 1 s a b c d e t
    ∙ ap (λ (ls : List (List (List ℕ))). machine f s ++ ls) (sym (append-nil (limit_lines (config_of a b c d e t))) ∙ ap (λ (ls : List (List (List ℕ))). limit_lines (config_of a b c d e t) ++ ls) (sym (one_format f s (config_of a b c d e t) one)))
    ∙ sym (append-nil (head_lines (head_job f s (config_of a b c d e t))))

body_of : (f : ℕ) (s : Shape) (a b c d e t : ℕ) → f ≡ 1 → IsMachine f s → Between 1 8 a → Between 1 1024 b → Between 1 1024 c → Between 1 256 d → d ≤ c → Between 1 64 e → t ≤ 2 ^ 20 → IsBody (draft_at 9 f s (config_of a b c d e t)) (to_dirty f s a b c d e t)
body_of f s a b c d e t one m ha hb hc hd less he ht = record {
  fixed = fixed_of f 1 s a b c d e t m (inl (one, refl)) ha hb hc hd less he ht;
  low = omega arith;
  high = omega arith;
  first = λ h. one;
  listed = listed_none 9 (head_job f s (config_of a b c d e t)) (omega arith) refl refl refl refl;
  lines = body_lines f s a b c d e t one;
}

-- the line of the group
two_lines : (f g : ℕ) (s : Shape) (k : Config) → f ≡ 2 → group_lines (record (head_job f s k) { group = g }) ≡ (codes "group" ∷ decimal g ∷ []) ∷ []
two_lines f g s k e = rw e refl

group_of : (f : ℕ) (s : Shape) (a b c d e t : ℕ) (args : List (List ℕ)) → IsMachine f s → Between 1 8 a → Between 1 1024 b → Between 1 1024 c → Between 1 256 d → d ≤ c → Between 1 64 e → t ≤ 2 ^ 20 → IsFine (draft_at 9 f s (config_of a b c d e t)) Group args → IsBody (draft_by (draft_at 9 f s (config_of a b c d e t)) (Some Group) args) (to_dirty f s a b c d e t ++ (codes "group" ∷ args) ∷ [])
group_of f s a b c d e t args m ha hb hc hd less he ht h =
    let k = config_of a b c d e t in
    let g = number_at (values (Number ∷ []) args) 0 in
    let read = one_number args h.said_well in
    let two = (comes f 9 Group h.comes).group refl in
    let in_range = inside 18 1 16 g h.numbers in
    let w = record (head_job f s k) { group = g } in
    record {
      fixed = fixed_of f g s a b c d e t m (inr (two, in_range.0, in_range.1)) ha hb hc hd less he ht;
      low = omega arith;
      high = omega arith;
      first = λ e. absurd (omega arith);
      listed = listed_none 10 w (omega arith) refl refl refl refl;
      lines =
          ap (λ (x : List (List ℕ)). to_dirty f s a b c d e t ++ (codes "group" ∷ x) ∷ []) read.0
          ∙ ap (λ (ls : List (List (List ℕ))). ls ++ (codes "group" ∷ decimal g ∷ []) ∷ []) (dirty_lines f g s a b c d e t)
          ∙ append_assoc (machine f s) (limit_lines k) ((codes "group" ∷ decimal g ∷ []) ∷ [])
          ∙ ap (λ (ls : List (List (List ℕ))). machine f s ++ (limit_lines k ++ ls)) (sym (two_lines f g s k two))
          ∙ sym (append-nil (head_lines w));
    }

-- what a job's numbers make of it
count_of : (w : Written) → operation_count (job_of w) ≡ operations_so_far w
count_of w = traces_counted w.shape w.traces

cancel_in : (c : Option ℕ) (n m : ℕ) → m ≡ n → exceeds c n ≡ false → IfSome c (λ k. k ≤ m)
cancel_in None n m e h = tt
cancel_in (Some k) n m e h = omega (arith, not_above k n h)

some_blocks_at : (ds : List DiskShape) → AllByRecursion (λ disk. 1 ≤ disk.blocks) ds → (d : ℕ) → d < length ds → 1 ≤ blocks ds d
some_blocks_at [] h d lt = absurd (omega arith)
some_blocks_at (x ∷ ds) h zero lt = h.0
some_blocks_at (x ∷ ds) h (suc d) lt = some_blocks_at ds h.1 d (omega arith)

ops_at : (s : Shape) (traces : List (List Op)) → AllByRecursion (λ ops. AllByRecursion (IsGoodOp s) ops) traces → (guest : ℕ) → AllByRecursion (IsGoodOp s) (get_or traces guest [])
ops_at s [] h guest = tt
ops_at s (ops ∷ traces) h zero = h.0
ops_at s (ops ∷ traces) h (suc guest) = ops_at s traces h.1 guest

pub trace_is : (s : Shape) (traces : List (List Op)) (guest : ℕ) → get_or (map (all_unit_operations s) traces) guest [] ≡ all_unit_operations s (get_or traces guest [])
trace_is s [] guest = refl
trace_is s (ops ∷ traces) zero = refl
trace_is s (ops ∷ traces) (suc guest) = trace_is s traces guest

legal_at : (w : Written) → IsFixed w → AllByRecursion (λ ops. AllByRecursion (IsGoodOp w.shape) ops) w.traces → (guest k : ℕ) → k < length (trace (job_of w) guest) → IsLegal w.shape (operation (job_of w) guest k)
legal_at w f h guest k lt =
    let P : List UnitOp → Type 0 = λ us. AllByRecursion (IsLegal w.shape) us in
    let all = subst P (sym (trace_is w.shape w.traces guest)) (ops_legal w.shape (get_or w.traces guest []) f.good (ops_at w.shape w.traces h guest)) in
    all_at (IsLegal w.shape) (trace (job_of w) guest) no_operation all k lt

good_job : (w : Written) → IsFixed w → IsListed 14 w → exceeds w.config.cancel (operations_so_far w) ≡ false → IsGoodJob (job_of w)
good_job w f l fits = record {
  machine = f.good;
  same_units = refl;
  some_blocks = some_blocks_at w.shape.disks f.some_blocks;
  formats = f.formats;
  streams = f.streams;
  credit = f.credit;
  outbox = f.outbox;
  region = (f.region.0, f.region.1, f.in_outbox);
  rounds = f.rounds;
  dirty = f.dirty;
  cancel = cancel_in w.config.cancel (operations_so_far w) (operation_count (job_of w)) (count_of w) fits;
  guests = (omega (arith, length-map w.traces (all_unit_operations w.shape), l.some_trace (omega arith)), omega (arith, length-map w.traces (all_unit_operations w.shape), l.few_guests));
  operations = omega (arith, count_of w, l.few_ops);
  legal = legal_at w f l.good_ops;
  init_units = all_at (λ i. i.unit.0 < units w.shape) w.init no_init l.init_units;
  init_rises = rises_at w.init l.init_rises;
  fault_lines = l.few_faults;
  fault_numbers = l.good_faults;
}

pub good_written : (w : Written) → IsFixed w → IsListed 14 w → exceeds w.config.cancel (operations_so_far w) ≡ false → IsGoodWritten w
good_written w f l fits = record {
  limits = good_job w f l fits;
  operations = λ guest. all_at (IsGoodOp w.shape) (ops w guest) no_op (ops_at w.shape w.traces l.good_ops guest);
  patterns = all_at (λ i. IsPattern i.pattern) w.init no_init l.init_patterns;
  faults = l.said_faults;
}

-- the end of a job
needed_for_end : (f last : ℕ) → 15 ≤ needed f last → 14 ≤ last
needed_for_end f last h = grind (arith, nat_tests)

regroup : {X : Type 0} (m k g c f i t e : List X) → ((m ++ (k ++ g)) ++ (c ++ (f ++ (i ++ t)))) ++ e ≡ m ++ (k ++ (g ++ (c ++ (f ++ (i ++ (t ++ e))))))
regroup m k g c f i t e = simp append_assoc

end_lines : (w : Written) → front_lines w ++ (codes "end" ∷ []) ∷ [] ≡ job_lines w
end_lines w = regroup (machine_lines w) (limit_lines w.config) (group_lines w) (cancel_lines w.config.cancel) (map fault_fields w.faults) (map init_fields w.init) (flat_map guest_lines w.traces) ((codes "end" ∷ []) ∷ [])

body_end : (d : Draft) (ls : List (List (List ℕ))) (args : List (List ℕ)) → IsBody d ls → IsFine d End args → IsWhole (draft_by d (Some End) args) (ls ++ (codes "end" ∷ args) ∷ [])
body_end d ls args b h =
    let o = comes d.job.format d.last End h.comes in
    let next = needed_for_end d.job.format d.last o.next in
    let at : d.last ≡ 14 = omega (arith, b.high, next) in
    let P : ℕ → Type 0 = λ n. IsListed n d.job in
    let read = nothing args h.said_well in
    record {
      ended = refl;
      good = good_written d.job b.fixed (subst P at b.listed) (not_there _ _ h.numbers);
      lines = ap (λ (a : List (List ℕ)). ls ++ (codes "end" ∷ a) ∷ []) read ∙ ap (λ (xs : List (List (List ℕ))). xs ++ (codes "end" ∷ []) ∷ []) b.lines ∙ end_lines d.job;
    }

earlier : (last n : ℕ) → last ≤ n → (last ≡ n → false ≡ true) → last < n
earlier last n le once = elim (cases_lt last n) [
  | inl lt ↦ lt
  | inr ge ↦ let k : false ≡ true = once (omega arith) in absurd (cc)
]

-- any line behind the limits
body_step : (d : Draft) (ls : List (List (List ℕ))) (w : Word) (args : List (List ℕ)) → IsBody d ls → IsFine d w args → ((v : Verb) → w ≡ Operation v → d.last ≡ 14) → Reached (draft_by d (Some w) args) (ls ++ (spelling w ∷ args) ∷ [])
body_step d ls Cancel args b h at = in_body (body_cancel d ls args b h)
body_step d ls FaultWord args b h at = in_body (body_fault d ls args b h)
body_step d ls InitWord args b h at = in_body (body_init d ls args b h)
body_step d ls Guest args b h at = in_body (body_guest d ls args b h)
body_step d ls (Operation verb) args b h at = in_body (body_operation d ls verb args b h (at verb refl))
body_step d ls End args b h at = at_end (body_end d ls args b h)
body_step d ls Group args b h at =
    let o = comes d.job.format d.last Group h.comes in
    let low = b.low in
    let two = o.group refl in
    let before = earlier d.last 10 o.order o.once in
    let one = b.first (omega arith) in
    absurd (omega arith)
body_step d ls Dirty args b h at =
    let o = comes d.job.format d.last Dirty h.comes in
    let low = b.low in
    let before = earlier d.last 9 o.order o.once in
    absurd (omega arith)
body_step d ls JobWord args b h at = let o = (comes d.job.format d.last JobWord h.comes).order in let low = b.low in absurd (omega arith)
body_step d ls Pages args b h at = let o = (comes d.job.format d.last Pages h.comes).order in let low = b.low in absurd (omega arith)
body_step d ls Disk args b h at = let o = (comes d.job.format d.last Disk h.comes).order in let low = b.low in absurd (omega arith)
body_step d ls Streams args b h at = let o = (comes d.job.format d.last Streams h.comes).order in let low = b.low in absurd (omega arith)
body_step d ls Credit args b h at = let o = (comes d.job.format d.last Credit h.comes).order in let low = b.low in absurd (omega arith)
body_step d ls Outbox args b h at = let o = (comes d.job.format d.last Outbox h.comes).order in let low = b.low in absurd (omega arith)
body_step d ls Region args b h at = let o = (comes d.job.format d.last Region h.comes).order in let low = b.low in absurd (omega arith)
body_step d ls Rounds args b h at = let o = (comes d.job.format d.last Rounds h.comes).order in let low = b.low in absurd (omega arith)

-- behind the dirty limit, in format 1, or a group
only_group : (w : Word) → may_come 2 9 w ≡ true → is_group w ≡ true
only_group Group h = refl
only_group _ h = absurd (cc)

one_format_of : (f : ℕ) (w : Word) → IsFormat f → may_come f 9 w ≡ true → is_group w ≡ false → f ≡ 1
one_format_of f w (inl e) h g = e
one_format_of f w (inr e) h g =
    let k : may_come 2 9 w ≡ true = (rw e at h) in
    let l : true ≡ false = sym (only_group w k) ∙ g in
    absurd (cc)

dirty_step : (f : ℕ) (s : Shape) (a b c d e t : ℕ) (w : Word) (args : List (List ℕ)) → IsMachine f s → Between 1 8 a → Between 1 1024 b → Between 1 1024 c → Between 1 256 d → d ≤ c → Between 1 64 e → t ≤ 2 ^ 20 → IsFine (draft_at 9 f s (config_of a b c d e t)) w args → ((v : Verb) → w ≡ Operation v → ◌≡◌ {A = ℕ} 9 14) → Reached (draft_by (draft_at 9 f s (config_of a b c d e t)) (Some w) args) (to_dirty f s a b c d e t ++ (spelling w ∷ args) ∷ [])
dirty_step f s a b c d e t Group args m ha hb hc hd less he ht h at = in_body (group_of f s a b c d e t args m ha hb hc hd less he ht h)
dirty_step f s a b c d e t w args m ha hb hc hd less he ht h at =
    let one = one_format_of f w m.is_format h.comes refl in
    body_step (draft_at 9 f s (config_of a b c d e t)) (to_dirty f s a b c d e t) w args (body_of f s a b c d e t one m ha hb hc hd less he ht) h at

-- any line
not_ended : (n : ℕ) → n ≡ 15 → (n == 15) ≡ false → ⊥
not_ended n e h = grind (arith, nat_tests)

step_word : (d : Draft) (ls : List (List (List ℕ))) (w : Word) (args : List (List ℕ)) → Reached d ls → is_complete d ≡ false → IsFine d w args → ((v : Verb) → w ≡ Operation v → d.last ≡ 14) → Reached (draft_by d (Some w) args) (ls ++ (spelling w ∷ args) ∷ [])
step_word d ls w args (in_head at_start) more h at = in_head (step_start w args h)
step_word d ls w args (in_head (at_job f i)) more h at = in_head (step_job f i w args h)
step_word d ls w args (in_head (at_pages f p z m)) more h at = in_head (step_pages f (shape_of p z []) m w args h)
step_word d ls w args (in_head (at_disk f s m)) more h at = in_head (step_disk f s m w args h)
step_word d ls w args (in_head (at_streams f s a m ha)) more h at = in_head (step_streams f s a m ha w args h)
step_word d ls w args (in_head (at_credit f s a b m ha hb)) more h at = in_head (step_credit f s a b m ha hb w args h)
step_word d ls w args (in_head (at_outbox f s a b c m ha hb hc)) more h at = in_head (step_outbox f s a b c m ha hb hc w args h)
step_word d ls w args (in_head (at_region f s a b c r m ha hb hc hd less)) more h at = in_head (step_region f s a b c r m ha hb hc hd less w args h)
step_word d ls w args (in_head (at_rounds f s a b c r e m ha hb hc hd less he)) more h at = in_head (step_rounds f s a b c r e m ha hb hc hd less he w args h)
step_word d ls w args (in_head (at_dirty f s a b c r e t m ha hb hc hd less he ht)) more h at = dirty_step f s a b c r e t w args m ha hb hc hd less he ht h at
step_word d ls w args (in_body b) more h at = body_step d ls w args b h at
step_word d ls w args (at_end e) more h at = absurd (not_ended d.last e.ended more)

earlier_word : (v : Verb) → own_word (verb_spelling v) ≡ None
earlier_word StoreVerb = refl
earlier_word LoadVerb = refl
earlier_word WriteVerb = refl
earlier_word FetchVerb = refl

no_own : (text : List ℕ) (v : Verb) → own_word text ≡ Some (Operation v) → ⊥
no_own text v e =
    let s = own_spelled text (Operation v) e in
    let k : None ≡ Some (Operation v) = sym (earlier_word v) ∙ ap own_word (sym s) ∙ e in
    absurd (cc)

or_in_traces : (b : Bool) (text : List ℕ) (v : Verb) (own : Option Word) → own_word text ≡ own → or_operation own (if b then verb_of text else None) ≡ Some (Operation v) → b ≡ true
or_in_traces true text v own e h = refl
or_in_traces false text v None e h = absurd (cc)
or_in_traces false text v (Some w) e h = absurd (no_own text v (e ∙ h))

in_traces : (n : ℕ) → (n == 14) ≡ true → n ≡ 14
in_traces n h = grind (arith, nat_tests)

pub operation_at : (d : Draft) (text : List ℕ) (w : Word) → word_of (is_in_traces d) text ≡ Some w → (v : Verb) → w ≡ Operation v → d.last ≡ 14
operation_at d text w e v same = in_traces d.last (or_in_traces (is_in_traces d) text v (own_word text) refl (e ∙ ap (λ (u : Word). Some u) same))

step_by : (d : Draft) (ls : List (List (List ℕ))) (word : List ℕ) (args : List (List ℕ)) (o : Option Word) → word_of (is_in_traces d) word ≡ o → Reached d ls → is_complete d ≡ false → word_fault d o args ≡ None → Reached (draft_by d o args) (ls ++ (word ∷ args) ∷ [])
step_by d ls word args None e r more h = absurd (cc)
step_by d ls word args (Some w) e r more h =
    let P : List ℕ → Type 0 = λ text. Reached (draft_by d (Some w) args) (ls ++ (text ∷ args) ∷ []) in
    subst P (sym (spelled (is_in_traces d) word w e)) (step_word d ls w args r more (fine d w args h) (operation_at d word w e))

no_word : (b : Bool) → word_of b [] ≡ None
no_word true = refl
no_word false = refl

no_line : (d : Draft) → line_fault d [] ≡ None → ⊥
no_line d h = let k : word_fault d None [] ≡ None = (rw (no_word (is_in_traces d)) at h) in absurd (cc)

pub step_line : (d : Draft) (ls : List (List (List ℕ))) (l : List (List ℕ)) → Reached d ls → is_complete d ≡ false → line_fault d l ≡ None → Reached (next_draft d l) (ls ++ l ∷ [])
step_line d ls [] r more h = absurd (no_line d h)
step_line d ls (word ∷ args) r more h = step_by d ls word args (word_of (is_in_traces d) word) refl r more h

-- all lines
head_goes_on : (d : Draft) (ls : List (List (List ℕ))) → Head d ls → is_complete d ≡ false
head_goes_on d ls at_start = refl
head_goes_on d ls (at_job f i) = refl
head_goes_on d ls (at_pages f p z m) = refl
head_goes_on d ls (at_disk f s m) = refl
head_goes_on d ls (at_streams f s a m ha) = refl
head_goes_on d ls (at_credit f s a b m ha hb) = refl
head_goes_on d ls (at_outbox f s a b c m ha hb hc) = refl
head_goes_on d ls (at_region f s a b c r m ha hb hc hd less) = refl
head_goes_on d ls (at_rounds f s a b c r e m ha hb hc hd less he) = refl
head_goes_on d ls (at_dirty f s a b c r e t m ha hb hc hd less he ht) = refl

body_goes_on : (n : ℕ) → n ≤ 14 → (n == 15) ≡ true → ⊥
body_goes_on n h e = grind (arith, nat_tests)

pub whole_of : (d : Draft) (ls : List (List (List ℕ))) → Reached d ls → is_complete d ≡ true → IsWhole d ls
whole_of d ls (in_head h) e = let k : true ≡ false = sym e ∙ head_goes_on d ls h in absurd (cc)
whole_of d ls (in_body b) e = absurd (body_goes_on d.last b.high e)
whole_of d ls (at_end w) e = w

pub later_none : (n : ℕ) (why : Option LineWhy) (later : Option LineFault) → at_line_or n why later ≡ None → (why ≡ None) × (later ≡ None)
later_none n None later h = (refl, h)
later_none n (Some why) later h = absurd (cc)

pub sound : (lines : List (List (List ℕ))) (d : Draft) (n : ℕ) (rest : Bool) (before : List (List (List ℕ))) → Reached d before → first_fault job_reader false d n lines rest ≡ None → IsWhole (last_state job_reader d lines) (before ++ take (line_count job_reader d lines) lines)
sound [] d n rest before r h = elim (either (is_complete d)) [
  | inl done ↦
      let P : List (List (List ℕ)) → Type 0 = λ ls. IsWhole d ls in
      subst P (sym (append-nil before)) (whole_of d before r done)
  | inr more ↦ let k : Some (at_line n Unended) ≡ None = (rw more at h) in absurd (cc)
]
sound (l ∷ ls) d n rest before r h = elim (either (is_complete d)) [
  | inl done ↦
      let P : List (List (List ℕ)) → Type 0 = λ xs. IsWhole d xs in
      rw done (subst P (sym (append-nil before)) (whole_of d before r done))
  | inr more ↦
      let k : at_line_or n (line_fault d l) (first_fault job_reader false (next_draft d l) (n + 1) ls rest) ≡ None = (rw more at h) in
      let a = later_none n (line_fault d l) (first_fault job_reader false (next_draft d l) (n + 1) ls rest) k in
      let s = sound ls (next_draft d l) (n + 1) rest (before ++ l ∷ []) (step_line d before l r more a.0) a.1 in
      let P : List (List (List ℕ)) → Type 0 = λ xs. IsWhole (last_state job_reader (next_draft d l) ls) xs in
      rw (more, a.0, add-one) (subst P (append_assoc before (l ∷ []) (take (line_count job_reader (next_draft d l) ls) ls)) s)
]
