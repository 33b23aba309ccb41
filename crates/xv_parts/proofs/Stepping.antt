-- The calls made after a step, a wait leaving them as they were; and that its flag is the one that the planned faults give.
use Rattle.std.specs.Prelude.{◌≡◌, Bool, true, false, List, [], ◌∷◌, ◌++◌, Option, Some, None, if◌then◌else◌}
use Rattle.std.proofs.Common.{refl, sym, ap, subst, ◌∙◌}
use Rattle.std.proofs.lemmas.Bool.{and_parts}
use Rattle.std.proofs.lemmas.List.{append-nil}
use Rattle.xv_model.specs.Job.{Job}
use Rattle.xv_model.specs.View.{View}
use Rattle.xv_model.specs.Wait.{Event, Why, wait}
use Rattle.xv_model.specs.Effect.{Turn, answer}
use Rattle.xv_model.specs.Step.{Entry, Call, turn, turn_by, run, call, calls, call_of, entry_of, is_flagged, is_wait, same_truth, is_planned, is_faithful, flag, flag_by}
use Rattle.xv_model.proofs.OneMore.{calls-one, is_faithful-one}
use Rattle.xv_core.proofs.MovingEvents.Settled.{wait-unflagged}
use Rattle.xv_core.proofs.Stepped.After.{plain-answer}

apart : {A : Type 0} (b : Bool) → b ≡ true → b ≡ false → A
apart b h k = absurd (cc)

pub calls-after : (job : Job) (journal : List Entry) (e : Event) (a : Turn) → calls job (journal ++ entry_of e a) ≡ calls job journal ++ call_of job (run job journal) e a
calls-after job journal e a = by-wait (is_wait a)
  where
    by-wait : (w : Bool) → calls job (journal ++ (if w then [] else record { event = e; turn = a } ∷ [])) ≡ calls job journal ++ (if w then [] else call job (run job journal) e ∷ [])
    by-wait true = ap (calls job) (append-nil journal) ∙ sym (append-nil (calls job journal))
    by-wait false = calls-one job journal (record { event = e; turn = a })

-- the last entry of a faithful journal is flagged as planned
pub planned-last : (job : Job) (journal : List Entry) (e : Event) (a : Turn) → is_faithful job (journal ++ entry_of e a) ≡ true → is_wait a ≡ false → same_truth (is_flagged a) (is_planned job.faults (calls job journal) (call job (run job journal) e)) ≡ true
planned-last job journal e a faithful goes =
    let last : Entry = record { event = e; turn = a } in
    let longer : is_faithful job (journal ++ last ∷ []) ≡ true = subst (λ (w : Bool). is_faithful job (journal ++ (if w then [] else last ∷ [])) ≡ true) goes faithful in
    (and_parts (is_faithful job journal) (same_truth (is_flagged a) (is_planned job.faults (calls job journal) (call job (run job journal) e))) (sym (is_faithful-one job journal last) ∙ longer)).1

truth : (f p : Bool) → same_truth f p ≡ true → f ≡ p
truth true p h = sym h
truth false true h = absurd (cc)
truth false false h = refl

-- where an entry is flagged as planned, and flagged only where there was something to do, its flag is the planned one
module _ (job : Job) (v : View) (made : List Call) (e : Event) (a : Turn) (answers : a ≡ turn job v e (is_flagged a)) where
  going : wait job v e false ≡ None → (w : Bool) → is_wait a ≡ w → is_wait a ≡ false
  going none false goes = goes
  going none true waits =
      let now : a ≡ turn job v e false = subst (λ (f : Bool). a ≡ turn job v e f) (wait-unflagged a waits).0 answers in
      let done : a ≡ answer job v e = now ∙ ap (λ (w : Option Why). turn_by w false job v e) none in
      apart (is_wait a) waits (ap is_wait done ∙ (plain-answer job v e).0)

  unflagged : (why : Why) → wait job v e false ≡ Some why → (is_flagged a ≡ true → wait job v e false ≡ None) → (f : Bool) → is_flagged a ≡ f → is_flagged a ≡ false
  unflagged why is finds false off = off
  unflagged why is finds true on = absurd (let none : wait job v e false ≡ None = finds on in cc)

  pub flag-is : (is_flagged a ≡ true → wait job v e false ≡ None) → (is_wait a ≡ false → same_truth (is_flagged a) (is_planned job.faults made (call job v e)) ≡ true) → is_flagged a ≡ flag job v made e
  flag-is finds planned = by-why (wait job v e false) refl
    where
      by-why : (o : Option Why) → wait job v e false ≡ o → is_flagged a ≡ flag_by o job v made e
      by-why (Some why) is = unflagged why is finds (is_flagged a) refl
      by-why None none = truth (is_flagged a) (is_planned job.faults made (call job v e)) (planned (going none (is_wait a) refl))
