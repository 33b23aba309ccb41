-- A journal with one more entry.
use Rattle.std.specs.Prelude.{◌≡◌, ◌&&◌, Bool, true, false, List, [], ◌∷◌, ◌++◌}
use Rattle.std.proofs.Common.{refl, ap, sym, ◌∙◌, append_assoc, append-nil}
use Rattle.xv_model.specs.Job.{Job}
use Rattle.xv_model.specs.View.{View, first_view}
use Rattle.xv_model.specs.Step.{Entry, Call, step, after, run, turn, call, calls_from, calls, is_flagged, same_turn, is_run_from, is_run, same_truth, is_planned, is_faithful_from, is_faithful}

and_assoc : (a b c : Bool) → (a && (b && c)) ≡ ((a && b) && c)
and_assoc true b c = refl
and_assoc false b c = refl

and-true : (b : Bool) → (b && true) ≡ b
and-true true = refl
and-true false = refl

after-one : (job : Job) (v : View) (es : List Entry) (e : Entry) → after job v (es ++ e ∷ []) ≡ step job (after job v es) e.event (is_flagged e.turn)
after-one job v [] e = refl
after-one job v (x ∷ es) e = after-one job (step job v x.event (is_flagged x.turn)) es e

pub run-one : (job : Job) (journal : List Entry) (e : Entry) → run job (journal ++ e ∷ []) ≡ step job (run job journal) e.event (is_flagged e.turn)
run-one job journal e = after-one job (first_view job) journal e

calls_from-one : (job : Job) (v : View) (es : List Entry) (e : Entry) → calls_from job v (es ++ e ∷ []) ≡ calls_from job v es ++ call job (after job v es) e.event ∷ []
calls_from-one job v [] e = refl
calls_from-one job v (x ∷ es) e = ap (λ (cs : List Call). call job v x.event ∷ cs) (calls_from-one job (step job v x.event (is_flagged x.turn)) es e)

pub calls-one : (job : Job) (journal : List Entry) (e : Entry) → calls job (journal ++ e ∷ []) ≡ calls job journal ++ call job (run job journal) e.event ∷ []
calls-one job journal e = calls_from-one job (first_view job) journal e

is_run_from-one : (job : Job) (v : View) (es : List Entry) (e : Entry) → is_run_from job v (es ++ e ∷ []) ≡ (is_run_from job v es && same_turn e.turn (turn job (after job v es) e.event (is_flagged e.turn)))
is_run_from-one job v [] e = and-true (same_turn e.turn (turn job v e.event (is_flagged e.turn)))
is_run_from-one job v (x ∷ es) e =
    let w = step job v x.event (is_flagged x.turn) in
    let here = same_turn x.turn (turn job v x.event (is_flagged x.turn)) in
    ap (λ (b : Bool). here && b) (is_run_from-one job w es e) ∙ and_assoc here (is_run_from job w es) (same_turn e.turn (turn job (after job w es) e.event (is_flagged e.turn)))

pub is_run-one : (job : Job) (journal : List Entry) (e : Entry) → is_run job (journal ++ e ∷ []) ≡ (is_run job journal && same_turn e.turn (turn job (run job journal) e.event (is_flagged e.turn)))
is_run-one job journal e = is_run_from-one job (first_view job) journal e

is_faithful_from-one : (job : Job) (v : View) (before : List Call) (es : List Entry) (e : Entry) → is_faithful_from job v before (es ++ e ∷ []) ≡ (is_faithful_from job v before es && same_truth (is_flagged e.turn) (is_planned job.faults (before ++ calls_from job v es) (call job (after job v es) e.event)))
is_faithful_from-one job v before [] e =
    and-true (same_truth (is_flagged e.turn) (is_planned job.faults before (call job v e.event)))
    ∙ ap (λ (cs : List Call). same_truth (is_flagged e.turn) (is_planned job.faults cs (call job v e.event))) (sym (append-nil before))
is_faithful_from-one job v before (x ∷ es) e =
    let w = step job v x.event (is_flagged x.turn) in
    let here = same_truth (is_flagged x.turn) (is_planned job.faults before (call job v x.event)) in
    let later = before ++ call job v x.event ∷ [] in
    let last = call job (after job w es) e.event in
    ap (λ (b : Bool). here && b) (is_faithful_from-one job w later es e)
    ∙ and_assoc here (is_faithful_from job w later es) (same_truth (is_flagged e.turn) (is_planned job.faults (later ++ calls_from job w es) last))
    ∙ ap (λ (cs : List Call). (here && is_faithful_from job w later es) && same_truth (is_flagged e.turn) (is_planned job.faults cs last)) (append_assoc before (call job v x.event ∷ []) (calls_from job w es))

pub is_faithful-one : (job : Job) (journal : List Entry) (e : Entry) → is_faithful job (journal ++ e ∷ []) ≡ (is_faithful job journal && same_truth (is_flagged e.turn) (is_planned job.faults (calls job journal) (call job (run job journal) e.event)))
is_faithful-one job journal e = is_faithful_from-one job (first_view job) [] journal e
