-- A step's view and its answer together, and what the entries of a run are.
use Rattle.std.proofs.Common.{◌≡◌, ℕ, ◌==◌, Bool, true, false, Option, Some, None, refl, ap, sym, subst, ◌∙◌}
use Rattle.std.proofs.lemmas.Bool.{and_parts, eqb-true}
use Rattle.xv_model.specs.Job.{Job}
use Rattle.xv_model.specs.View.{View}
use Rattle.xv_model.specs.Wait.{Event, Why, wait}
use Rattle.xv_model.specs.Effect.{Turn, Note, effect, fault_effect, answer, fault_answer}
use Rattle.xv_model.specs.Step.{Entry, step, turn, view_by, turn_by, breaks, is_flagged, is_wait, same_note, same_cause, same_turn}
use Rattle.xv_model.proofs.Bound.Runs.{agrees-goes}
use Rattle.xv_base.specs.declared.answer.Turn.TheVariants.{Done, Queued, Faulted, Wait as Waits, Failed as Broke}
use Rattle.xv_base.specs.declared.answer.Cause.{Cause}
use Rattle.xv_base.specs.declared.answer.Cause.TheVariants.{SourceRead, DestWrite, Flush, Put, Take, AckPut, AckTake}

-- what a step does and answers: it waits, goes on, or its call fails
by_ways : (P : View → Turn → Type 0) (w : Option Why) (b : Bool) (job : Job) (v : View) (e : Event) → ((why : Why) → w ≡ Some why → P v (Waits why)) →
    (w ≡ None → b ≡ false → P (effect job v e) (answer job v e)) → (w ≡ None → b ≡ true → P (fault_effect v e) (fault_answer e)) → P (view_by w b job v e) (turn_by w b job v e)
by_ways P (Some why) b job v e waits goes fails = waits why refl
by_ways P None false job v e waits goes fails = goes refl refl
by_ways P None true job v e waits goes fails = fails refl refl

pub step_ways : (P : View → Turn → Type 0) (job : Job) (v : View) (e : Event) (flag : Bool) → ((why : Why) → P v (Waits why)) →
    (wait job v e flag ≡ None → breaks job v e flag ≡ false → P (effect job v e) (answer job v e)) →
    (wait job v e flag ≡ None → breaks job v e flag ≡ true → P (fault_effect v e) (fault_answer e)) → P (step job v e flag) (turn job v e flag)
step_ways P job v e flag waits goes fails = by_ways P (wait job v e flag) (breaks job v e flag) job v e (λ why is. waits why) goes fails

-- equal answers are one answer
abbrev with_numbers : ℕ → ℕ → Note
with_numbers a b = record { a = a; b = b }

same_note-is : (m n : Note) → same_note m n ≡ true → m ≡ n
same_note-is m n h =
    let p = and_parts (m.a == n.a) (m.b == n.b) h in
    ap (λ (a : ℕ). with_numbers a m.b) (eqb-true m.a n.a p.0) ∙ ap (λ (b : ℕ). with_numbers n.a b) (eqb-true m.b n.b p.1)

same_cause-is : (c d : Cause) → same_cause c d ≡ true → c ≡ d
same_cause-is SourceRead SourceRead h = refl
same_cause-is DestWrite DestWrite h = refl
same_cause-is Flush Flush h = refl
same_cause-is (Put s) (Put t) h = ap Put (eqb-true s t h)
same_cause-is (Take s) (Take t) h = ap Take (eqb-true s t h)
same_cause-is AckPut AckPut h = refl
same_cause-is AckTake AckTake h = refl
same_cause-is c d h = absurd (cc)

pub same_turn-is : (s t : Turn) → same_turn s t ≡ true → s ≡ t
same_turn-is (Done m) (Done n) h = ap Done (same_note-is m n h)
same_turn-is Queued Queued h = refl
same_turn-is Faulted Faulted h = refl
same_turn-is (Broke c) (Broke d) h = ap Broke (same_cause-is c d h)
same_turn-is s t h = absurd (cc)

-- an entry of a run has the step's answer, and its event went on
none_waits : (why : Option Why) (b : Bool) (job : Job) (v : View) (e : Event) → is_wait (turn_by why b job v e) ≡ false → why ≡ None
none_waits None b job v e h = refl
none_waits (Some why) b job v e h = absurd (cc)

pub record WentOn (job : Job) (v : View) (e : Entry) : Type 0 where
  pub answer_is : e.turn ≡ turn job v e.event (is_flagged e.turn)
  pub goes : wait job v e.event (is_flagged e.turn) ≡ None

pub went_on : (job : Job) (v : View) (e : Entry) → same_turn e.turn (turn job v e.event (is_flagged e.turn)) ≡ true → WentOn job v e
went_on job v e h =
    let flag = is_flagged e.turn in
    record {
      answer_is = same_turn-is e.turn (turn job v e.event flag) h;
      goes = none_waits (wait job v e.event flag) (breaks job v e.event flag) job v e.event (agrees-goes e.turn (turn job v e.event flag) h);
    }

-- what an entry of a run does and answers: it goes on, or its call fails
pub entry_ways : (P : View → Turn → Type 0) (job : Job) (v : View) (e : Entry) → same_turn e.turn (turn job v e.event (is_flagged e.turn)) ≡ true →
    (wait job v e.event (is_flagged e.turn) ≡ None → breaks job v e.event (is_flagged e.turn) ≡ false → P (effect job v e.event) (answer job v e.event)) →
    (wait job v e.event (is_flagged e.turn) ≡ None → breaks job v e.event (is_flagged e.turn) ≡ true → P (fault_effect v e.event) (fault_answer e.event)) →
    P (step job v e.event (is_flagged e.turn)) e.turn
entry_ways P job v e h goes fails =
    let flag = is_flagged e.turn in
    let w = went_on job v e h in
    subst (λ (t : Turn). P (step job v e.event flag) t) (sym w.answer_is)
    (by_ways P (wait job v e.event flag) (breaks job v e.event flag) job v e.event (λ why is. absurd (some_none why (sym is ∙ w.goes))) goes fails)
  where
    some_none : (why : Why) → Some why ≡ None → ⊥
    some_none why h = cc
