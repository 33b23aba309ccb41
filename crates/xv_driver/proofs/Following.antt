-- The journal of a run that the driver made, where its calls fail as planned, is the driven run of its job.
use Rattle.std.specs.Prelude.{◌≡◌, ◌≤◌, ℕ, zero, suc, ◌+◌, ◌&&◌, Bool, true, false, List, [], ◌∷◌, ◌++◌, length, Option, Some, None, is_none, if◌then◌else◌}
use Rattle.std.proofs.Common.{arith, refl, sym, ap, ◌∙◌, append_assoc, append-nil, length-append}
use Rattle.std.proofs.lemmas.Bool.{and_parts}
use Rattle.xv_model.specs.Job.{Job}
use Rattle.xv_model.specs.View.{View, first_view}
use Rattle.xv_model.specs.Wait.{Event, Why, wait}
use Rattle.xv_model.specs.Effect.{Turn}
use Rattle.xv_model.specs.Step.{Entry, Call, step, turn, run, call, calls, is_flagged, same_truth, is_planned, is_faithful_from, is_faithful, flag, flag_by}
use Rattle.xv_model.specs.Driver.{first_able, next_event, driven_view, driven_call, driven_entry, driven_from, driven}
use Rattle.xv_model.specs.Work.{is_finished, bound}
use Rattle.xv_model.proofs.OneMore.{run-one, calls-one, is_faithful-one}
use Rattle.xv_model.proofs.Finished.{driver_none}
use Rattle.xv_model.proofs.Bound.Runs.{run-within}
use Rattle.xv_job.specs.Written.{job_of}
use Rattle.xv_core.specs.Seen.{Seen, view_of}
use Rattle.xv_core.specs.Keeping.{IsKept}
use Rattle.xv_driver.specs.Driven.{IsDrivenStep, AreDriven}
use Rattle.xv_driver.proofs.Driving.{entry, step-journal, driven-job, driven-grew, driven-journal}

-- the first event that can act can act
acts-by : (b : Bool) (job : Job) (v : View) (x e : Event) (es : List Event) → is_none (wait job v x false) ≡ b → (first_able job v es ≡ Some e → is_none (wait job v e false) ≡ true) →
    (if b then Some x else first_able job v es) ≡ Some e → is_none (wait job v e false) ≡ true
acts-by true job v x e es h later found = let same : x ≡ e = cc in ap (λ (y : Event). is_none (wait job v y false)) (sym same) ∙ h
acts-by false job v x e es h later found = later found

first-acts : (job : Job) (v : View) (es : List Event) (e : Event) → first_able job v es ≡ Some e → is_none (wait job v e false) ≡ true
first-acts job v [] e found = absurd (cc)
first-acts job v (x ∷ es) e found = acts-by (is_none (wait job v x false)) job v x e es refl (first-acts job v es e) found

none-is : (w : Option Why) → is_none w ≡ true → w ≡ None
none-is None h = refl
none-is (Some why) h = absurd (cc)

next-acts : (job : Job) (v : View) (n : ℕ) (e : Event) → next_event job v n ≡ Some e → wait job v e false ≡ None
next-acts job v n e found = none-is (wait job v e false) (first-acts job v _ e found)

-- a front of a faithful journal is faithful
front-from : (job : Job) (v : View) (before : List Call) (xs ys : List Entry) → is_faithful_from job v before (xs ++ ys) ≡ true → is_faithful_from job v before xs ≡ true
front-from job v before [] ys h = refl
front-from job v before (x ∷ xs) ys h =
    let here = same_truth (is_flagged x.turn) (is_planned job.faults before (call job v x.event)) in
    let w = step job v x.event (is_flagged x.turn) in
    let later = before ++ call job v x.event ∷ [] in
    let parts = and_parts here (is_faithful_from job w later (xs ++ ys)) h in
    ap (λ (b : Bool). b && is_faithful_from job w later xs) parts.0 ∙ front-from job w later xs ys parts.1

faithful-front : (job : Job) (xs ys : List Entry) → is_faithful job (xs ++ ys) ≡ true → is_faithful job xs ≡ true
faithful-front job xs ys h = front-from job (first_view job) [] xs ys h

-- its last entry is flagged as planned
truth-same : (a b : Bool) → same_truth a b ≡ true → b ≡ a
truth-same true b h = h
truth-same false true h = absurd (cc)
truth-same false false h = refl

as-planned : (job : Job) (journal : List Entry) (e : Event) (a : Turn) → wait job (run job journal) e false ≡ None → is_faithful job (journal ++ entry e a ∷ []) ≡ true → flag job (run job journal) (calls job journal) e ≡ is_flagged a
as-planned job journal e a acts faithful =
    let planned = is_planned job.faults (calls job journal) (call job (run job journal) e) in
    let both : (is_faithful job journal && same_truth (is_flagged a) planned) ≡ true = sym (is_faithful-one job journal (entry e a)) ∙ faithful in
    ap (λ (w : Option Why). flag_by w job (run job journal) (calls job journal) e) acts
    ∙ truth-same (is_flagged a) planned (and_parts (is_faithful job journal) (same_truth (is_flagged a) planned) both).1

-- so the driven run goes on with that entry
goes-with : (job : Job) (v : View) (before : List Call) (n steps : ℕ) (e : Event) (a : Turn) → next_event job v n ≡ Some e → flag job v before e ≡ is_flagged a → a ≡ turn job v e (is_flagged a) →
    driven_from job v before n (suc steps) ≡ entry e a ∷ driven_from job (step job v e (is_flagged a)) (before ++ call job v e ∷ []) (n + 1) steps
goes-with job v before n steps e a next flagged is =
    ap (λ (o : Option Event). driven_entry o job v before ++ driven_from job (driven_view o job v before) (before ++ driven_call o job v) (n + 1) steps) next
    ∙ ap (λ (f : Bool). entry e (turn job v e f) ∷ driven_from job (step job v e f) (before ++ call job v e ∷ []) (n + 1) steps) flagged
    ∙ ap (λ (t : Turn). entry e t ∷ driven_from job (step job v e (is_flagged a)) (before ++ call job v e ∷ []) (n + 1) steps) (sym is)

-- the driven run behind a journal
abbrev behind : Job → List Entry → ℕ → List Entry
behind job journal steps = driven_from job (run job journal) (calls job journal) (length journal) steps

behind-one : (job : Job) (journal : List Entry) (e : Event) (a : Turn) (steps : ℕ) → next_event job (run job journal) (length journal) ≡ Some e → a ≡ turn job (run job journal) e (is_flagged a) → is_faithful job (journal ++ entry e a ∷ []) ≡ true →
    behind job journal (suc steps) ≡ entry e a ∷ behind job (journal ++ entry e a ∷ []) steps
behind-one job journal e a steps next is faithful =
    let more = journal ++ entry e a ∷ [] in
    let v = run job journal in
    let before = calls job journal in
    let n = length journal in
    let longer : n + 1 ≡ length more = sym (length-append journal (entry e a ∷ [])) in
    goes-with job v before n steps e a next (as-planned job journal e a (next-acts job v n e next) faithful) is
    ∙ ap (λ (w : View). entry e a ∷ driven_from job w (before ++ call job v e ∷ []) (n + 1) steps) (sym (run-one job journal (entry e a)))
    ∙ ap (λ (cs : List Call). entry e a ∷ driven_from job (run job more) cs (n + 1) steps) (sym (calls-one job journal (entry e a)))
    ∙ ap (λ (k : ℕ). entry e a ∷ driven_from job (run job more) (calls job more) k steps) longer

-- where the run is finished nothing is added
none-behind : (job : Job) (v : View) (before : List Call) (n steps : ℕ) → is_finished job v ≡ true → driven_from job v before n steps ≡ []
none-behind job v before n zero done = refl
none-behind job v before n (suc steps) done =
    ap (λ (o : Option Event). driven_entry o job v before ++ driven_from job (driven_view o job v before) (before ++ driven_call o job v) (n + 1) steps) (driver_none job v n done)
    ∙ none-behind job v (before ++ []) (n + 1) steps done

-- a run of the driver to the end adds just that
follows-none : (steps : ℕ) (job : Job) (m n : Seen) → n ≡ m → is_finished job (run job n.journal) ≡ true → n.journal ≡ m.journal ++ behind job m.journal steps
follows-none steps job m n h done =
    let same : n.journal ≡ m.journal = ap (λ (s : Seen). s.journal) h in
    let over : is_finished job (run job m.journal) ≡ true = ap (λ (es : List Entry). is_finished job (run job es)) (sym same) ∙ done in
    same ∙ sym (append-nil m.journal) ∙ ap (λ (es : List Entry). m.journal ++ es) (sym (none-behind job (run job m.journal) (calls job m.journal) (length m.journal) steps over))

follows-one : (steps : ℕ) (job : Job) (m mid n : Seen) (d : IsDrivenStep m mid) → job_of m.job ≡ job → is_faithful job mid.journal ≡ true → n.journal ≡ mid.journal ++ behind job mid.journal steps → n.journal ≡ m.journal ++ behind job m.journal (suc steps)
follows-one steps job m mid n d same faithful later =
    let one = entry d.event d.answer in
    let entered : mid.journal ≡ m.journal ++ one ∷ [] = step-journal m mid d in
    let next : next_event job (run job m.journal) (length m.journal) ≡ Some d.event = ap (λ (j : Job). next_event j (run j m.journal) (length m.journal)) (sym same) ∙ d.next in
    let is : d.answer ≡ turn job (run job m.journal) d.event (is_flagged d.answer) = d.stepped.answers ∙ ap (λ (j : Job). turn j (run j m.journal) d.event (is_flagged d.answer)) same in
    let front : is_faithful job (m.journal ++ one ∷ []) ≡ true = ap (is_faithful job) (sym entered) ∙ faithful in
    later
    ∙ ap (λ (es : List Entry). es ++ behind job es steps) entered
    ∙ append_assoc m.journal (one ∷ []) (behind job (m.journal ++ one ∷ []) steps)
    ∙ ap (λ (es : List Entry). m.journal ++ es) (sym (behind-one job m.journal d.event d.answer steps next is front))

follows-all : (k steps : ℕ) (job : Job) (m n : Seen) → job_of m.job ≡ job → AreDriven k m n → k ≤ steps → is_faithful job n.journal ≡ true → is_finished job (run job n.journal) ≡ true → n.journal ≡ m.journal ++ behind job m.journal steps
follows-all zero steps job m n same h le faithful done = follows-none steps job m n h done
follows-all (suc k) zero job m n same h le faithful done = absurd (omega arith)
follows-all (suc k) (suc steps) job m n same h le faithful done =
    let mid = h.0 in
    let later = driven-journal k mid n h.1.1 in
    let front : is_faithful job mid.journal ≡ true = faithful-front job mid.journal later.0 (ap (is_faithful job) (sym later.1) ∙ faithful) in
    let rest = follows-all k steps job mid n (ap job_of h.1.0.stepped.job ∙ same) h.1.1 (omega arith) faithful done in
    follows-one steps job m mid n h.1.0 same front rest

pub is-driven : (m n : Seen) (k : ℕ) → AreDriven k m n → m.journal ≡ [] → IsKept n → is_faithful (job_of n.job) n.journal ≡ true → is_finished (job_of n.job) (view_of n) ≡ true → n.journal ≡ driven (job_of n.job)
is-driven m n k h empty kept faithful done =
    let job = job_of n.job in
    let none : length m.journal ≡ 0 = ap (λ (es : List Entry). length es) empty in
    let within : k ≤ bound job = omega (arith, none, driven-grew k m n h, run-within job n.journal kept.good kept.fitting kept.is_run) in
    follows-all k (bound job) job m n (ap job_of (sym (driven-job k m n h))) h within faithful done
    ∙ ap (λ (es : List Entry). es ++ behind job es (bound job)) empty
