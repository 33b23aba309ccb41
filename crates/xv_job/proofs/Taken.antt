-- What is refused of a line, in the order of the tests.
use Rattle.std.proofs.Common.{◌≡◌, Result, Ok, Err, OnOk, ℕ, zero, suc, get_or, set, inl, inr, ◌+◌, ◌-◌, ◌^◌, ◌<◌, ◌≤◌, true, false, List, [], ◌∷◌, ◌++◌, length, Option, Some, None, nat_lt, nat_le, refl, sym, ap, ◌∙◌, arith}
use Rattle.std.proofs.lemmas.Bool.{cases_lt}
use Rattle.std.proofs.lemmas.List.{length-append, map-append}
use Rattle.std.proofs.lemmas.Bool.Decides.{nat_tests}
use Rattle.xv_base.specs.declared.text.LineWhy.{LineWhy}
use Rattle.xv_base.specs.declared.text.LineWhy.TheVariants.{Limit, TooMany}
use Rattle.xv_base.specs.declared.limits.Fault.{Fault}
use Rattle.xv_base.specs.declared.pattern.Init.{Init}
use Rattle.xv_base.specs.Units.{Shape, units}
use Rattle.xv_trace.specs.declared.op.Op.{Op}
use Rattle.xv_trace.specs.declared.op.Verb.{Verb}
use Rattle.xv_trace.specs.Operations.{op_fault, op_count}
use Rattle.xv_trace.specs.OpText.{Program, kinds_of, op_of, verb_fault}
use Rattle.xv_text.specs.declared.row.Kind.TheVariants.{Number, Bytes}
use Rattle.xv_text.specs.Fields.{Values, values, number_at, fields_fault, or_else, fault_if}
use Rattle.xv_job.specs.declared.word.Word.TheVariants.{Fault as FaultWord, Init as InitWord, Operation}
use Rattle.xv_job.specs.declared.word.Call.{Call}
use Rattle.xv_job.specs.Words.{call_of, call_kinds}
use Rattle.xv_job.specs.Written.{Written}
use Rattle.xv_job.specs.Draft.{fault_of, has_bad_number, after_last, said, operations_so_far, with_op}
use Rattle.xv_job.specs.Held.{behind_fault}
use Rattle.xv_job.specs.Written.{ops_held}
use Rattle.xv_job.proofs.Lists.{after_last_push, has_last, get_last, with_op_is}

le_test : (a b : ℕ) → a ≤ b → nat_le a b ≡ true
le_test a b h = grind (arith, nat_tests)

pub too_many_faults : (w : Written) (args : List (List ℕ)) (what : List ℕ) (numbers : List (List ℕ)) (call : Call) → args ≡ what ∷ numbers → Some call ≡ call_of what → fields_fault (call_kinds call) numbers ≡ None → 32 ≤ length w.faults → behind_fault w FaultWord args ≡ Some (Limit 15)
too_many_faults w args what numbers call e f g h = rw (e, ← f, g, le_test 32 (length w.faults) h) refl

below_test : (a b : ℕ) → b < a → nat_le a b ≡ false
below_test a b h = grind (arith, nat_tests)

pub bad_fault : (w : Written) (args : List (List ℕ)) (what : List ℕ) (numbers : List (List ℕ)) (call : Call) (row : Values) → args ≡ what ∷ numbers → Some call ≡ call_of what → fields_fault (call_kinds call) numbers ≡ None → row ≡ values (call_kinds call) numbers → length w.faults < 32 → has_bad_number w.config.streams (fault_of call row) ≡ true → behind_fault w FaultWord args ≡ Some (Limit 16)
bad_fault w args what numbers call row e f g r h bad =
    let bad_too : has_bad_number w.config.streams (fault_of call (values (call_kinds call) numbers)) ≡ true = ap (λ (v : Values). has_bad_number w.config.streams (fault_of call v)) (sym r) ∙ bad in
    rw (e, ← f, g, below_test 32 (length w.faults) h, bad_too) refl

pub good_fault : (w : Written) (args : List (List ℕ)) (what : List ℕ) (numbers : List (List ℕ)) (call : Call) (row : Values) (x : Fault) → args ≡ what ∷ numbers → Some call ≡ call_of what → fields_fault (call_kinds call) numbers ≡ None → row ≡ values (call_kinds call) numbers → length w.faults < 32 → x ≡ fault_of call row → has_bad_number w.config.streams x ≡ false → behind_fault w FaultWord args ≡ None
good_fault w args what numbers call row x e f g r h is good =
    let read : x ≡ fault_of call (values (call_kinds call) numbers) = is ∙ ap (fault_of call) r in
    let good_too : has_bad_number w.config.streams (fault_of call (values (call_kinds call) numbers)) ≡ false = ap (has_bad_number w.config.streams) (sym read) ∙ good in
    rw (e, ← f, g, below_test 32 (length w.faults) h, good_too) refl

pub fault_said : (w : Written) (args : List (List ℕ)) (what : List ℕ) (numbers : List (List ℕ)) (call : Call) (row : Values) (x : Fault) (fs : List Fault) → args ≡ what ∷ numbers → Some call ≡ call_of what → row ≡ values (call_kinds call) numbers → x ≡ fault_of call row → fs ≡ w.faults ++ x ∷ [] → record w { faults = fs } ≡ said w FaultWord args
fault_said w args what numbers call row x fs e f r is k =
    let read : x ≡ fault_of call (values (call_kinds call) numbers) = is ∙ ap (fault_of call) r in
    rw (e, ← f, k, read) refl

lt_test : (a b : ℕ) → b ≤ a → nat_lt a b ≡ false
lt_test a b h = grind (arith, nat_tests)

pub init_passes : (w : Written) (args : List (List ℕ)) (row : Values) (n : ℕ) → fields_fault (Number ∷ Bytes ∷ []) args ≡ None → row ≡ values (Number ∷ Bytes ∷ []) args → n ≡ number_at row 0 → n < units w.shape → after_last w.init ≤ n → behind_fault w InitWord args ≡ None
init_passes w args row n e r k there rises =
    let is : n ≡ number_at (values (Number ∷ Bytes ∷ []) args) 0 = k ∙ ap (λ (v : Values). number_at v 0) r in
    rw (e, ← is, below_test (units w.shape) n there, lt_test n (after_last w.init) rises) refl

pub init_said : (w : Written) (args : List (List ℕ)) (row : Values) (n : ℕ) (p : List ℕ) (is : List Init) → row ≡ values (Number ∷ Bytes ∷ []) args → n ≡ number_at row 0 → p ≡ row.pattern → is ≡ w.init ++ record { unit = record { 0 = n }; pattern = p } ∷ [] → record w { init = is } ≡ said w InitWord args
init_said w args row n p is r k q e =
    let number : n ≡ number_at (values (Number ∷ Bytes ∷ []) args) 0 = k ∙ ap (λ (v : Values). number_at v 0) r in
    let pattern : p ≡ (values (Number ∷ Bytes ∷ []) args).pattern = q ∙ ap (λ (v : Values). v.pattern) r in
    rw (e, number, pattern) refl

pub init_after : (is more : List Init) (x : Init) (n : ℕ) → more ≡ is ++ x ∷ [] → x.unit.0 ≡ n → n + 1 ≡ after_last more
init_after is more x n e f = omega (arith, ap after_last e, after_last_push is x)

less : (a b : ℕ) → a < b → nat_lt a b ≡ true
less a b h = grind (arith, nat_tests)

get_or_default_of : {X : Type 0} (xs : List X) (i : ℕ) (d e : X) → i < length xs → get_or xs i d ≡ get_or xs i e
get_or_default_of [] i d e h = absurd (omega arith)
get_or_default_of (x ∷ xs) zero d e h = refl
get_or_default_of (x ∷ xs) (suc i) d e h = get_or_default_of xs i d e (omega arith)

-- an operation, where there is room for so many more
same_test : (a b c d : ℕ) → (a < b → c < d) → (c < d → a < b) → nat_lt a b ≡ nat_lt c d
same_test a b c d f g = elim (cases_lt a b) [
  | inl lt ↦ let h = f lt in rw (less a b lt, less c d h) refl
  | inr ge ↦ elim (cases_lt c d) [
    | inl lt ↦ let h = g lt in absurd (omega arith)
    | inr past ↦ rw (lt_test a b ge, lt_test c d past) refl
  ]
]

room_is : (n k room c : ℕ) → k ≤ n → room ≡ n - k → nat_lt room c ≡ nat_lt n (k + c)
room_is n k room c le e = same_test room c n (k + c) (λ h. omega arith) (λ h. omega arith)

verb_fault_is : (w : Written) (shape : Shape) (k room : ℕ) (verb : Verb) (args : List (List ℕ)) → shape ≡ w.shape → k ≡ operations_so_far w → k ≤ 2 ^ 20 → room ≡ 2 ^ 20 - k → verb_fault shape room verb args ≡ or_else (fields_fault (kinds_of verb) args) (or_else (op_fault w.shape (op_of verb (values (kinds_of verb) args))) (fault_if (nat_lt (2 ^ 20) (operations_so_far w + op_count (op_of verb (values (kinds_of verb) args)))) TooMany))
verb_fault_is w shape k room verb args e f le r =
    let t : nat_lt room (op_count (op_of verb (values (kinds_of verb) args))) ≡ nat_lt (2 ^ 20) (operations_so_far w + op_count (op_of verb (values (kinds_of verb) args))) = room_is (2 ^ 20) (operations_so_far w) room (op_count (op_of verb (values (kinds_of verb) args))) (omega arith) (omega arith) in
    rw (e, t) refl

pub op_tested : (w : Written) (shape : Shape) (k room : ℕ) (verb : Verb) (args : List (List ℕ)) (found : Option LineWhy) → shape ≡ w.shape → k ≡ operations_so_far w → k ≤ 2 ^ 20 → room ≡ 2 ^ 20 - k → verb_fault shape room verb args ≡ found → behind_fault w (Operation verb) args ≡ found
op_tested w shape k room verb args found e f le r h = sym (verb_fault_is w shape k room verb args e f le r) ∙ h

-- the last trace with an operation more
set_last : {X : Type 0} (front : List X) (last new : X) → set (front ++ last ∷ []) (length (front ++ last ∷ []) - 1) new ≡ front ++ new ∷ []
set_last [] last new = refl
set_last (x ∷ front) last new =
    let n : length ((x ∷ front) ++ last ∷ []) - 1 ≡ suc (length (front ++ last ∷ []) - 1) = omega (arith, length-append front (last ∷ [])) in
    rw n (ap (λ xs. x ∷ xs) (set_last front last new))

pushed_at : (ts front : List Program) (last new : Program) (op : Op) → ts ≡ front ++ last ∷ [] → new.ops ≡ (get_or ts (length ts - 1) last).ops ++ op ∷ [] → ops_held (set ts (length ts - 1) new) ≡ with_op (ops_held ts) op
pushed_at ts front last new op e f =
    let here : get_or ts (length ts - 1) last ≡ last = rw e (get_last front last last) in
    let ops : new.ops ≡ last.ops ++ op ∷ [] = f ∙ ap (λ (p : Program). p.ops ++ op ∷ []) here in
    rw e (ap ops_held (set_last front last new) ∙ map-append (λ (t : Program). t.ops) front (new ∷ []) ∙ ap (λ (o : List Op). ops_held front ++ o ∷ []) ops ∙ sym (with_op_is (ops_held front) last.ops op) ∙ ap (λ (ts : List (List Op)). with_op ts op) (sym (map-append (λ (t : Program). t.ops) front (last ∷ []))))

pub op_pushed : (ts : List Program) (n : ℕ) (new old : Program) (op : Op) → 1 ≤ length ts → n ≡ length ts - 1 → old ≡ get_or ts n old → new ≡ record old { ops = old.ops ++ op ∷ [] } → ops_held (set ts n new) ≡ with_op (ops_held ts) op
op_pushed ts n new old op some e at f =
    let s = has_last ts some in
    let here : old ≡ get_or ts (length ts - 1) s.last = at ∙ ap (λ (k : ℕ). get_or ts k old) e ∙ get_or_default_of ts (length ts - 1) old s.last (omega arith) in
    rw e (pushed_at ts s.front s.last new op s.whole (ap (λ (p : Program). p.ops) f ∙ ap (λ (p : Program). p.ops ++ op ∷ []) here))

pub on_ok : {T E : Type 0} (r : Result T E) (P Q : Type 0) → (P → Q) → OnOk r P → OnOk r Q
on_ok (Ok x) P Q f h = f h
on_ok (Err e) P Q f h = h
