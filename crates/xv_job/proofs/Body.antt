-- The lines of a job behind its limits, read one by one: what has been read is the front of a good job's lines.
use Rattle.std.proofs.Common.{◌≡◌, ℕ, ◌+◌, ◌^◌, ◌<◌, ◌≤◌, ◌==◌, ◌||◌, Bool, true, false, not, List, [], ◌∷◌, ◌++◌, length, map, Option, Some, None, IfSome, sum_by, nat_lt, nat_le, codes, decimal, refl, sym, ap, ◌∙◌, subst, arith, append_assoc, inl, inr, ◌⊎◌}
use Rattle.std.specs.List.{AllByRecursion, list_all, list_any, flat_map}
use Rattle.std.proofs.lemmas.List.{append-nil, length-append, map-append}
use Rattle.std.proofs.lemmas.List.Sums.{sum_by-append, sum_by-cons}
use Rattle.std.proofs.lemmas.List.Concat.{flat_map-append}
use Rattle.std.proofs.lemmas.Bool.{cases_lt}
use Rattle.std.proofs.lemmas.Bool.Decides.{nat_tests}
use Rattle.xv_base.specs.declared.text.LineWhy.TheVariants.{Limit, Order, OutOfRange, TooMany}
use Rattle.xv_base.specs.declared.limits.Fault.{Fault}
use Rattle.xv_base.specs.declared.limits.Fault.TheVariants.{SourceRead, SourceWrite, DestRead, DestWrite, Flush, Put, Take, AckPut, AckTake}
use Rattle.xv_base.specs.declared.pattern.Init.{Init}
use Rattle.xv_base.specs.Units.{Shape, units}
use Rattle.xv_base.specs.Layout.{IsGood}
use Rattle.xv_text.specs.declared.row.Kind.TheVariants.{Number, Bytes}
use Rattle.xv_text.specs.Fields.{values, number_at, fault_if, fields_fault, IsPattern}
use Rattle.xv_trace.specs.declared.op.Op.{Op}
use Rattle.xv_trace.specs.declared.op.Verb.{Verb}
use Rattle.xv_trace.specs.declared.op.Verb.TheVariants.{Store as StoreVerb, Load as LoadVerb, Write as WriteVerb, Fetch as FetchVerb}
use Rattle.xv_trace.specs.Operations.{op_fault, op_count, count_all}
use Rattle.xv_trace.specs.OpText.{head, tail, kinds_of, op_of, op_fields, IsGoodOp}
use Rattle.xv_job.specs.declared.word.Word.TheVariants.{Cancel, Fault as FaultWord, Init as InitWord, Guest, Operation}
use Rattle.xv_job.specs.declared.word.Call.{Call}
use Rattle.xv_job.specs.declared.word.Call.TheVariants.{SourceRead as SourceReadCall, SourceWrite as SourceWriteCall, DestRead as DestReadCall, DestWrite as DestWriteCall, Flush as FlushCall, Put as PutCall, Take as TakeCall, AckPut as AckPutCall, AckTake as AckTakeCall}
use Rattle.xv_job.specs.Words.{call_of, call_kinds}
use Rattle.xv_job.specs.Draft.{Draft, draft_by, planned_fault, faults_said, fault_of, has_bad_number, operations_so_far, after_last, with_op}
use Rattle.xv_job.specs.JobText.{machine_lines, limit_lines, group_lines, cancel_lines, fault_fields, init_fields, guest_lines}
use Rattle.xv_job.specs.Written.{Written, fault_number}
use Rattle.xv_model.specs.Job.{is_good_fault}
use Rattle.xv_job.proofs.Args.{nothing, one_number, two_numbers, number_and_bytes, op_read}
use Rattle.xv_trace.proofs.OpLines.{verb_word}
use Rattle.xv_job.proofs.Parts.{IsFine, comes, chosen, spelling, neither, neither_test, not_there}
use Rattle.xv_job.proofs.Shapes.{not_above}
use Rattle.xv_job.proofs.Head.{Between}
use Rattle.xv_job.proofs.Lists.{all_push, tests_push, Rises, rises_push, has_last, with_op_is, ops_count, ops_lines}

-- what no line behind the limits changes
pub record IsFixed (w : Written) : Type 0 where
  pub good : IsGood w.shape
  pub some_blocks : AllByRecursion (λ disk. 1 ≤ disk.blocks) w.shape.disks
  pub formats : ((w.format ≡ 1) × (w.group ≡ 1)) ⊎ ((w.format ≡ 2) × (1 ≤ w.group) × (w.group ≤ 16))
  pub streams : Between 1 8 w.config.streams
  pub credit : Between 1 1024 w.config.credit
  pub outbox : Between 1 1024 w.config.outbox
  pub region : Between 1 256 w.config.region
  pub in_outbox : w.config.region ≤ w.config.outbox
  pub rounds : Between 1 64 w.config.rounds
  pub dirty : w.config.dirty ≤ 2 ^ 20

-- the lines so far
abbrev pub list_lines : Option ℕ → List Fault → List Init → List (List Op) → List (List (List ℕ))
list_lines cancel faults inits traces = cancel_lines cancel ++ (map fault_fields faults ++ (map init_fields inits ++ flat_map guest_lines traces))

abbrev pub head_lines : Written → List (List (List ℕ))
head_lines w = machine_lines w ++ (limit_lines w.config ++ group_lines w)

abbrev pub front_lines : Written → List (List (List ℕ))
front_lines w = head_lines w ++ list_lines w.config.cancel w.faults w.init w.traces

-- the lists, with what is known of them behind a line of this rank
pub record IsListed (last : ℕ) (w : Written) : Type 0 where
  pub no_cancel : last < 11 → w.config.cancel ≡ None
  pub no_faults : last < 12 → w.faults ≡ []
  pub no_init : last < 13 → w.init ≡ []
  pub no_traces : last < 14 → w.traces ≡ []
  pub some_trace : 14 ≤ last → 1 ≤ length w.traces
  pub cancel_fits : IfSome w.config.cancel (λ k. k < 2 ^ 32)
  pub few_faults : length w.faults ≤ 32
  pub good_faults : list_all (is_good_fault w.config.streams) w.faults ≡ true
  pub said_faults : list_all (λ fault. nat_lt (fault_number fault) (2 ^ 32)) w.faults ≡ true
  pub init_units : AllByRecursion (λ i. i.unit.0 < units w.shape) w.init
  pub init_rises : Rises w.init
  pub init_patterns : AllByRecursion (λ i. IsPattern i.pattern) w.init
  pub few_guests : length w.traces ≤ 16
  pub good_ops : AllByRecursion (λ ops. AllByRecursion (IsGoodOp w.shape) ops) w.traces
  pub few_ops : sum_by count_all w.traces ≤ 2 ^ 20

pub record IsBody (d : Draft) (ls : List (List (List ℕ))) : Type 0 where
  pub fixed : IsFixed d.job
  pub low : 9 ≤ d.last
  pub high : d.last ≤ 14
  pub first : d.last ≡ 9 → d.job.format ≡ 1
  pub listed : IsListed d.last d.job
  pub lines : ls ≡ front_lines d.job

-- one more line of each kind
line_more : (ls front lists more : List (List (List ℕ))) (line : List (List ℕ)) → ls ≡ front ++ lists → lists ++ line ∷ [] ≡ more → ls ++ line ∷ [] ≡ front ++ more
line_more ls front lists more line e f = ap (λ (xs : List (List (List ℕ))). xs ++ line ∷ []) e ∙ append_assoc front lists (line ∷ []) ∙ ap (λ (xs : List (List (List ℕ))). front ++ xs) f

cancel_more : (c : Option ℕ) (fs : List Fault) (is : List Init) (ts : List (List Op)) (k : ℕ) → c ≡ None → fs ≡ [] → is ≡ [] → ts ≡ [] → list_lines c fs is ts ++ (codes "cancel" ∷ decimal k ∷ []) ∷ [] ≡ list_lines (Some k) fs is ts
cancel_more c fs is ts k e f g h = rw (e, f, g, h) refl

fault_more : (c : Option ℕ) (fs : List Fault) (is : List Init) (ts : List (List Op)) (x : Fault) → is ≡ [] → ts ≡ [] → list_lines c fs is ts ++ fault_fields x ∷ [] ≡ list_lines c (fs ++ x ∷ []) is ts
fault_more c fs is ts x g h =
    rw (g, h) (append_assoc (cancel_lines c) (map fault_fields fs ++ ([] ++ [])) (fault_fields x ∷ [])
    ∙ ap (λ ls. cancel_lines c ++ ls) (append_assoc (map fault_fields fs) ([] ++ []) (fault_fields x ∷ []) ∙ sym (map-append fault_fields fs (x ∷ [])) ∙ sym (append-nil (map fault_fields (fs ++ x ∷ [])))))

init_more : (c : Option ℕ) (fs : List Fault) (is : List Init) (ts : List (List Op)) (x : Init) → ts ≡ [] → list_lines c fs is ts ++ init_fields x ∷ [] ≡ list_lines c fs (is ++ x ∷ []) ts
init_more c fs is ts x h =
    rw h (append_assoc (cancel_lines c) (map fault_fields fs ++ (map init_fields is ++ [])) (init_fields x ∷ [])
    ∙ ap (λ ls. cancel_lines c ++ ls) (append_assoc (map fault_fields fs) (map init_fields is ++ []) (init_fields x ∷ [])
    ∙ ap (λ ls. map fault_fields fs ++ ls) (append_assoc (map init_fields is) [] (init_fields x ∷ []) ∙ sym (map-append init_fields is (x ∷ [])) ∙ sym (append-nil (map init_fields (is ++ x ∷ []))))))

trace_more : (c : Option ℕ) (fs : List Fault) (is : List Init) (ts us : List (List Op)) (line : List (List ℕ)) → flat_map guest_lines us ≡ flat_map guest_lines ts ++ line ∷ [] → list_lines c fs is ts ++ line ∷ [] ≡ list_lines c fs is us
trace_more c fs is ts us line e =
    append_assoc (cancel_lines c) (map fault_fields fs ++ (map init_fields is ++ flat_map guest_lines ts)) (line ∷ [])
    ∙ ap (λ ls. cancel_lines c ++ ls) (append_assoc (map fault_fields fs) (map init_fields is ++ flat_map guest_lines ts) (line ∷ [])
    ∙ ap (λ ls. map fault_fields fs ++ ls) (append_assoc (map init_fields is) (flat_map guest_lines ts) (line ∷ []) ∙ ap (λ ls. map init_fields is ++ ls) (sym e)))

guest_more : (ts : List (List Op)) → flat_map guest_lines (ts ++ [] ∷ []) ≡ flat_map guest_lines ts ++ (codes "guest" ∷ []) ∷ []
guest_more ts = flat_map-append guest_lines ts ([] ∷ [])

before_of : (last n : ℕ) → last ≤ n → (last ≡ n → false ≡ true) → last < n
before_of last n le once = elim (cases_lt last n) [
  | inl lt ↦ lt
  | inr ge ↦ let k : false ≡ true = once (omega arith) in absurd (cc)
]

-- a cancel number
pub body_cancel : (d : Draft) (ls : List (List (List ℕ))) (args : List (List ℕ)) → IsBody d ls → IsFine d Cancel args → IsBody (draft_by d (Some Cancel) args) (ls ++ (codes "cancel" ∷ args) ∷ [])
body_cancel d ls args b h =
    let o = comes d.job.format d.last Cancel h.comes in
    let l = b.listed in
    let k = number_at (values (Number ∷ []) args) 0 in
    let read = one_number args h.said_well in
    let before : d.last < 11 = before_of d.last 11 o.order (λ e. o.once e) in
    record {
      fixed = record { good = b.fixed.good; some_blocks = b.fixed.some_blocks; formats = b.fixed.formats; streams = b.fixed.streams; credit = b.fixed.credit; outbox = b.fixed.outbox; region = b.fixed.region; in_outbox = b.fixed.in_outbox; rounds = b.fixed.rounds; dirty = b.fixed.dirty };
      low = omega arith;
      high = omega arith;
      first = λ e. absurd (omega arith);
      listed = record {
        no_cancel = λ e. absurd (omega arith);
        no_faults = λ e. l.no_faults (omega arith);
        no_init = λ e. l.no_init (omega arith);
        no_traces = λ e. l.no_traces (omega arith);
        some_trace = λ e. absurd (omega arith);
        cancel_fits = read.1;
        few_faults = l.few_faults;
        good_faults = l.good_faults;
        said_faults = l.said_faults;
        init_units = l.init_units;
        init_rises = l.init_rises;
        init_patterns = l.init_patterns;
        few_guests = l.few_guests;
        good_ops = l.good_ops;
        few_ops = l.few_ops;
      };
      lines = ap (λ (a : List (List ℕ)). ls ++ (codes "cancel" ∷ a) ∷ []) read.0 ∙ line_more ls (head_lines d.job) _ _ (codes "cancel" ∷ decimal k ∷ []) b.lines (cancel_more d.job.config.cancel d.job.faults d.job.init d.job.traces k (l.no_cancel before) (l.no_faults (omega arith)) (l.no_init (omega arith)) (l.no_traces (omega arith)));
    }

-- a planned fault: its call is spelled so, its numbers are written so, and it is good where no number is bad
pub record IsPlanned (args : List (List ℕ)) (x : Fault) : Type 0 where
  pub said : faults_said (call_of (head args)) (tail args) ≡ x ∷ []
  pub written : fault_fields x ≡ codes "fault" ∷ args
  pub small : fault_number x < 2 ^ 32

abbrev pub call_word : Call → List ℕ
call_word SourceReadCall = codes "sread"
call_word SourceWriteCall = codes "swrite"
call_word DestReadCall = codes "dread"
call_word DestWriteCall = codes "dwrite"
call_word FlushCall = codes "flush"
call_word PutCall = codes "put"
call_word TakeCall = codes "take"
call_word AckPutCall = codes "ackput"
call_word AckTakeCall = codes "acktake"

never_call : (text : List ℕ) (c : Call) → ◌≡◌ {A = Option Call} None (Some c) → text ≡ call_word c
never_call text c e = absurd (cc)

pub call_spelled : (text : List ℕ) (c : Call) → call_of text ≡ Some c → text ≡ call_word c
call_spelled text c =
    chosen call_word _ text SourceReadCall _ c refl
    (chosen call_word _ text SourceWriteCall _ c refl
    (chosen call_word _ text DestReadCall _ c refl
    (chosen call_word _ text DestWriteCall _ c refl
    (chosen call_word _ text FlushCall _ c refl
    (chosen call_word _ text PutCall _ c refl
    (chosen call_word _ text TakeCall _ c refl
    (chosen call_word _ text AckPutCall _ c refl
    (chosen call_word _ text AckTakeCall _ c refl (never_call text c)))))))))

-- what a call's numbers are written by
pub record IsCallRead (c : Call) (args : List (List ℕ)) : Type 0 where
  pub written : fault_fields (fault_of c (values (call_kinds c) args)) ≡ codes "fault" ∷ call_word c ∷ args
  pub small : fault_number (fault_of c (values (call_kinds c) args)) < 2 ^ 32

one_read : (word : List ℕ) (args : List (List ℕ)) (n : ℕ) → args ≡ decimal n ∷ [] → ◌≡◌ {A = List (List ℕ)} (codes "fault" ∷ word ∷ decimal n ∷ []) (codes "fault" ∷ word ∷ args)
one_read word args n e = ap (λ (a : List (List ℕ)). codes "fault" ∷ word ∷ a) (sym e)

pub call_read : (c : Call) (args : List (List ℕ)) → fields_fault (call_kinds c) args ≡ None → IsCallRead c args
call_read SourceReadCall args h = let r = one_number args h in record { written = one_read _ args _ r.0; small = r.1 }
call_read SourceWriteCall args h = let r = one_number args h in record { written = one_read _ args _ r.0; small = r.1 }
call_read DestReadCall args h = let r = one_number args h in record { written = one_read _ args _ r.0; small = r.1 }
call_read DestWriteCall args h = let r = one_number args h in record { written = one_read _ args _ r.0; small = r.1 }
call_read FlushCall args h = let r = one_number args h in record { written = one_read _ args _ r.0; small = r.1 }
call_read PutCall args h = let r = two_numbers args h in record { written = ap (λ (a : List (List ℕ)). codes "fault" ∷ codes "put" ∷ a) (sym r.0); small = r.2 }
call_read TakeCall args h = let r = two_numbers args h in record { written = ap (λ (a : List (List ℕ)). codes "fault" ∷ codes "take" ∷ a) (sym r.0); small = r.2 }
call_read AckPutCall args h = let r = one_number args h in record { written = one_read _ args _ r.0; small = r.1 }
call_read AckTakeCall args h = let r = one_number args h in record { written = one_read _ args _ r.0; small = r.1 }

planned_by : (word : List ℕ) (args : List (List ℕ)) (o : Option Call) → call_of word ≡ o → planned_fault o args ≡ None → (x : Fault) × IsPlanned (word ∷ args) x
planned_by word args None e h = absurd (cc)
planned_by word args (Some c) e h =
    let r = call_read c args h in
    let word_is = call_spelled word c e in (
      fault_of c (values (call_kinds c) args),
      record {
        said = rw e refl;
        written = r.written ∙ ap (λ (w : List ℕ). codes "fault" ∷ w ∷ args) (sym word_is);
        small = r.small;
      },
    )

pub planned : (args : List (List ℕ)) → planned_fault (call_of (head args)) (tail args) ≡ None → (x : Fault) × IsPlanned args x
planned [] h = absurd (cc)
planned (word ∷ args) h = planned_by word args (call_of word) refl h

-- a fault without a bad number is good
not_zero : (k : ℕ) → (k == 0) ≡ false → nat_lt 0 k ≡ true
not_zero k h = grind (arith, nat_tests)

no_false : (b : Bool) → not b ≡ false → b ≡ true
no_false true h = refl
no_false false h = absurd (cc)

pub good_planned : (streams : ℕ) (x : Fault) → has_bad_number streams x ≡ false → is_good_fault streams x ≡ true
good_planned streams (SourceRead k) h = not_zero k (neither_test (k == 0) false h).0
good_planned streams (SourceWrite k) h = not_zero k (neither_test (k == 0) false h).0
good_planned streams (DestRead k) h = not_zero k (neither_test (k == 0) false h).0
good_planned streams (DestWrite k) h = not_zero k (neither_test (k == 0) false h).0
good_planned streams (Flush k) h = not_zero k (neither_test (k == 0) false h).0
good_planned streams (Put s k) h =
    let a = neither_test (k == 0) (not (nat_lt s streams)) h in
    rw (not_zero k a.0, no_false (nat_lt s streams) a.1) refl
good_planned streams (Take s k) h =
    let a = neither_test (k == 0) (not (nat_lt s streams)) h in
    rw (not_zero k a.0, no_false (nat_lt s streams) a.1) refl
good_planned streams (AckPut k) h = not_zero k (neither_test (k == 0) false h).0
good_planned streams (AckTake k) h = not_zero k (neither_test (k == 0) false h).0

lt_test : (a b : ℕ) → a < b → nat_lt a b ≡ true
lt_test a b h = grind (arith, nat_tests)

le_not : (a b : ℕ) → nat_le b a ≡ false → a < b
le_not a b h = grind (arith, nat_tests)

any_one : (b : Bool) → (b || false) ≡ false → b ≡ false
any_one b h = (neither_test b false h).0

pub body_fault : (d : Draft) (ls : List (List (List ℕ))) (args : List (List ℕ)) → IsBody d ls → IsFine d FaultWord args → IsBody (draft_by d (Some FaultWord) args) (ls ++ (codes "fault" ∷ args) ∷ [])
body_fault d ls args b h =
    let o = comes d.job.format d.last FaultWord h.comes in
    let l = b.listed in
    let read = planned args h.said_well in
    let x = read.0 in
    let low = b.low in
    let faults : d.job.faults ++ faults_said (call_of (head args)) (tail args) ≡ d.job.faults ++ x ∷ [] = ap (λ (fs : List Fault). d.job.faults ++ fs) read.1.said in
    let tests = neither (fault_if (nat_le 32 (length d.job.faults)) (Limit 15)) (fault_if (list_any (has_bad_number d.job.config.streams) (faults_said (call_of (head args)) (tail args))) (Limit 16)) h.numbers in
    let few = le_not (length d.job.faults) 32 (not_there _ _ tests.0) in
    let any : list_any (has_bad_number d.job.config.streams) (x ∷ []) ≡ false = ap (list_any (has_bad_number d.job.config.streams)) (sym read.1.said) ∙ not_there _ _ tests.1 in
    let good = good_planned d.job.config.streams x (any_one (has_bad_number d.job.config.streams x) any) in
    let order = o.order in
    record {
      fixed = record { good = b.fixed.good; some_blocks = b.fixed.some_blocks; formats = b.fixed.formats; streams = b.fixed.streams; credit = b.fixed.credit; outbox = b.fixed.outbox; region = b.fixed.region; in_outbox = b.fixed.in_outbox; rounds = b.fixed.rounds; dirty = b.fixed.dirty };
      low = omega arith;
      high = omega arith;
      first = λ e. absurd (omega arith);
      listed = record {
        no_cancel = λ e. absurd (omega arith);
        no_faults = λ e. absurd (omega arith);
        no_init = λ e. l.no_init (omega arith);
        no_traces = λ e. l.no_traces (omega arith);
        some_trace = λ e. absurd (omega arith);
        cancel_fits = l.cancel_fits;
        few_faults = omega (arith, ap length faults, length-append d.job.faults (x ∷ []));
        good_faults = ap (list_all (is_good_fault d.job.config.streams)) faults ∙ tests_push (is_good_fault d.job.config.streams) d.job.faults x l.good_faults good;
        said_faults = ap (list_all (λ fault. nat_lt (fault_number fault) (2 ^ 32))) faults ∙ tests_push (λ fault. nat_lt (fault_number fault) (2 ^ 32)) d.job.faults x l.said_faults (lt_test (fault_number x) (2 ^ 32) read.1.small);
        init_units = l.init_units;
        init_rises = l.init_rises;
        init_patterns = l.init_patterns;
        few_guests = l.few_guests;
        good_ops = l.good_ops;
        few_ops = l.few_ops;
      };
      lines =
          ap (λ (a : List (List ℕ)). ls ++ a ∷ []) (sym read.1.written)
          ∙ line_more ls (head_lines d.job) _ _ (fault_fields x) b.lines (fault_more d.job.config.cancel d.job.faults d.job.init d.job.traces x (l.no_init (omega arith)) (l.no_traces (omega arith)))
          ∙ ap (λ (fs : List Fault). head_lines d.job ++ list_lines d.job.config.cancel fs d.job.init d.job.traces) (sym faults);
    }

-- a first content
pub body_init : (d : Draft) (ls : List (List (List ℕ))) (args : List (List ℕ)) → IsBody d ls → IsFine d InitWord args → IsBody (draft_by d (Some InitWord) args) (ls ++ (codes "init" ∷ args) ∷ [])
body_init d ls args b h =
    let o = comes d.job.format d.last InitWord h.comes in
    let l = b.listed in
    let low = b.low in
    let order = o.order in
    let n = number_at (values (Number ∷ Bytes ∷ []) args) 0 in
    let p = (values (Number ∷ Bytes ∷ []) args).pattern in
    let x : Init = record { unit = record { 0 = n }; pattern = p } in
    let read = number_and_bytes args h.said_well in
    let tests = neither (fault_if (nat_le (units d.job.shape) n) OutOfRange) (fault_if (nat_lt n (after_last d.job.init)) Order) h.numbers in
    record {
      fixed = record { good = b.fixed.good; some_blocks = b.fixed.some_blocks; formats = b.fixed.formats; streams = b.fixed.streams; credit = b.fixed.credit; outbox = b.fixed.outbox; region = b.fixed.region; in_outbox = b.fixed.in_outbox; rounds = b.fixed.rounds; dirty = b.fixed.dirty };
      low = omega arith;
      high = omega arith;
      first = λ e. absurd (omega arith);
      listed = record {
        no_cancel = λ e. absurd (omega arith);
        no_faults = λ e. absurd (omega arith);
        no_init = λ e. absurd (omega arith);
        no_traces = λ e. l.no_traces (omega arith);
        some_trace = λ e. absurd (omega arith);
        cancel_fits = l.cancel_fits;
        few_faults = l.few_faults;
        good_faults = l.good_faults;
        said_faults = l.said_faults;
        init_units = all_push (λ i. i.unit.0 < units d.job.shape) d.job.init x l.init_units (le_not n (units d.job.shape) (not_there _ _ tests.0));
        init_rises = rises_push d.job.init x l.init_rises (not_above (after_last d.job.init) n (not_there _ _ tests.1));
        init_patterns = all_push (λ i. IsPattern i.pattern) d.job.init x l.init_patterns read.2;
        few_guests = l.few_guests;
        good_ops = l.good_ops;
        few_ops = l.few_ops;
      };
      lines =
          ap (λ (a : List (List ℕ)). ls ++ (codes "init" ∷ a) ∷ []) read.0
          ∙ line_more ls (head_lines d.job) _ _ (init_fields x) b.lines (init_more d.job.config.cancel d.job.faults d.job.init d.job.traces x (l.no_traces (omega arith)));
    }

-- the next guest
pub body_guest : (d : Draft) (ls : List (List (List ℕ))) (args : List (List ℕ)) → IsBody d ls → IsFine d Guest args → IsBody (draft_by d (Some Guest) args) (ls ++ (codes "guest" ∷ args) ∷ [])
body_guest d ls args b h =
    let l = b.listed in
    let read = nothing args h.said_well in
    let few = le_not (length d.job.traces) 16 (not_there _ _ h.numbers) in
    record {
      fixed = record { good = b.fixed.good; some_blocks = b.fixed.some_blocks; formats = b.fixed.formats; streams = b.fixed.streams; credit = b.fixed.credit; outbox = b.fixed.outbox; region = b.fixed.region; in_outbox = b.fixed.in_outbox; rounds = b.fixed.rounds; dirty = b.fixed.dirty };
      low = omega arith;
      high = omega arith;
      first = λ e. absurd (omega arith);
      listed = record {
        no_cancel = λ e. absurd (omega arith);
        no_faults = λ e. absurd (omega arith);
        no_init = λ e. absurd (omega arith);
        no_traces = λ e. absurd (omega arith);
        some_trace = λ e. omega (arith, length-append d.job.traces ([] ∷ []));
        cancel_fits = l.cancel_fits;
        few_faults = l.few_faults;
        good_faults = l.good_faults;
        said_faults = l.said_faults;
        init_units = l.init_units;
        init_rises = l.init_rises;
        init_patterns = l.init_patterns;
        few_guests = omega (arith, length-append d.job.traces ([] ∷ []));
        good_ops = all_push (λ ops. AllByRecursion (IsGoodOp d.job.shape) ops) d.job.traces [] l.good_ops tt;
        few_ops = omega (arith, l.few_ops, sum_by-append count_all d.job.traces ([] ∷ []), sum_by-cons count_all [] []);
      };
      lines =
          ap (λ (a : List (List ℕ)). ls ++ (codes "guest" ∷ a) ∷ []) read
          ∙ line_more ls (head_lines d.job) _ _ (codes "guest" ∷ []) b.lines (trace_more d.job.config.cancel d.job.faults d.job.init d.job.traces (d.job.traces ++ [] ∷ []) (codes "guest" ∷ []) (guest_more d.job.traces));
    }

-- the next operation of the last guest
ops_push : (shape : Shape) (front : List (List Op)) (last : List Op) (op : Op) → AllByRecursion (λ ops. AllByRecursion (IsGoodOp shape) ops) (front ++ last ∷ []) → IsGoodOp shape op → AllByRecursion (λ ops. AllByRecursion (IsGoodOp shape) ops) (front ++ (last ++ op ∷ []) ∷ [])
ops_push shape [] last op h good = (all_push (IsGoodOp shape) last op h.0 good, tt)
ops_push shape (x ∷ front) last op h good = (h.0, ops_push shape front last op h.1 good)

-- what one more operation changes
pub record IsOpAdded (shape : Shape) (ts us : List (List Op)) (op : Op) : Type 0 where
  pub guests : length us ≡ length ts
  pub count : sum_by count_all us ≡ sum_by count_all ts + op_count op
  pub good : AllByRecursion (λ ops. AllByRecursion (IsGoodOp shape) ops) us
  pub lines : flat_map guest_lines us ≡ flat_map guest_lines ts ++ op_fields op ∷ []

op_added_at : (shape : Shape) (ts front : List (List Op)) (last : List Op) (op : Op) → ts ≡ front ++ last ∷ [] → AllByRecursion (λ ops. AllByRecursion (IsGoodOp shape) ops) (front ++ last ∷ []) → IsGoodOp shape op → IsOpAdded shape (front ++ last ∷ []) (with_op (front ++ last ∷ []) op) op
op_added_at shape ts front last op e all good =
    let P : List (List Op) → Type 0 = λ us. IsOpAdded shape (front ++ last ∷ []) us op in
    subst P (sym (with_op_is front last op)) (record {
      guests = omega (arith, length-append front ((last ++ op ∷ []) ∷ []), length-append front (last ∷ []));
      count = ops_count front last op;
      good = ops_push shape front last op all good;
      lines = ops_lines front last op;
    })

pub op_added : (shape : Shape) (ts : List (List Op)) (op : Op) → 1 ≤ length ts → AllByRecursion (λ ops. AllByRecursion (IsGoodOp shape) ops) ts → IsGoodOp shape op → IsOpAdded shape ts (with_op ts op) op
op_added shape ts op some all good =
    let s = has_last ts some in
    let P : List (List Op) → Type 0 = λ us. IsOpAdded shape us (with_op us op) op in
    let Q : List (List Op) → Type 0 = λ us. AllByRecursion (λ ops. AllByRecursion (IsGoodOp shape) ops) us in
    subst P (sym s.whole) (op_added_at shape ts s.front s.last op s.whole (subst Q s.whole all) good)

op_line : (verb : Verb) (args : List (List ℕ)) → op_fields (op_of verb (values (kinds_of verb) args)) ≡ verb_word verb ∷ args → op_fields (op_of verb (values (kinds_of verb) args)) ≡ spelling (Operation verb) ∷ args
op_line StoreVerb args e = e
op_line LoadVerb args e = e
op_line WriteVerb args e = e
op_line FetchVerb args e = e

pub body_operation : (d : Draft) (ls : List (List (List ℕ))) (verb : Verb) (args : List (List ℕ)) → IsBody d ls → IsFine d (Operation verb) args → d.last ≡ 14 → IsBody (draft_by d (Some (Operation verb)) args) (ls ++ (spelling (Operation verb) ∷ args) ∷ [])
body_operation d ls verb args b h at =
    let l = b.listed in
    let op = op_of verb (values (kinds_of verb) args) in
    let read = op_read verb args h.said_well in
    let tests = neither (op_fault d.job.shape op) (fault_if (nat_lt (2 ^ 20) (operations_so_far d.job + op_count op)) TooMany) h.numbers in
    let added = op_added d.job.shape d.job.traces op (l.some_trace (omega arith)) l.good_ops (record { can_be_said = read.1; acts = tests.0 }) in
    let few = not_above (operations_so_far d.job + op_count op) (2 ^ 20) (not_there _ _ tests.1) in
    record {
      fixed = record { good = b.fixed.good; some_blocks = b.fixed.some_blocks; formats = b.fixed.formats; streams = b.fixed.streams; credit = b.fixed.credit; outbox = b.fixed.outbox; region = b.fixed.region; in_outbox = b.fixed.in_outbox; rounds = b.fixed.rounds; dirty = b.fixed.dirty };
      low = omega arith;
      high = omega arith;
      first = λ e. absurd (omega arith);
      listed = record {
        no_cancel = λ e. absurd (omega arith);
        no_faults = λ e. absurd (omega arith);
        no_init = λ e. absurd (omega arith);
        no_traces = λ e. absurd (omega arith);
        some_trace = λ e. omega (arith, added.guests, l.some_trace (omega arith));
        cancel_fits = l.cancel_fits;
        few_faults = l.few_faults;
        good_faults = l.good_faults;
        said_faults = l.said_faults;
        init_units = l.init_units;
        init_rises = l.init_rises;
        init_patterns = l.init_patterns;
        few_guests = omega (arith, added.guests, l.few_guests);
        good_ops = added.good;
        few_ops = omega (arith, added.count, few);
      };
      lines =
          ap (λ (a : List (List ℕ)). ls ++ a ∷ []) (sym (op_line verb args read.0))
          ∙ line_more ls (head_lines d.job) _ _ (op_fields op) b.lines (trace_more d.job.config.cancel d.job.faults d.job.init d.job.traces (with_op d.job.traces op) (op_fields op) added.lines);
    }
