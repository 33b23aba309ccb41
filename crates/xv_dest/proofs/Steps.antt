-- How an event's part in the destination is shown: from what it waits for, and from what it does where it goes on.
use Rattle.std.proofs.Common.{◌≡◌, true, false, Option, Some, None, refl, sym, ap, subst, ◌∙◌}
use Rattle.xv_base.specs.declared.answer.Turn.TheVariants.{Wait}
use Rattle.xv_model.specs.Job.{Job}
use Rattle.xv_model.specs.View.{View}
use Rattle.xv_model.specs.Wait.{Event, Why, wait}
use Rattle.xv_model.specs.Effect.{Turn, effect, fault_answer, answer}
use Rattle.xv_model.specs.Step.{is_flagged, is_wait, is_call, call, breaks, view_by, turn_by}
use Rattle.xv_model.specs.Contents.{Contents, contents_by, moves}
use Rattle.xv_dest.specs.Half.{Dest, IsDestOf, HasDestBytes, with_dest}
use Rattle.xv_dest.specs.Step.{StepsDest, MovesDest}

-- what holds at the view that has the half's part holds at the view
pub steps-at : (job : Job) (v : View) (event : Event) (a : Turn) (old new : Dest) → with_dest v old ≡ v → StepsDest job (with_dest v old) event a old new → StepsDest job v event a old new
steps-at job v event a old new e s = subst (λ (x : View). StepsDest job x event a old new) e s

pub moves-at : (job : Job) (v : View) (c : Contents) (event : Event) (a : Turn) (old new : Dest) → with_dest v old ≡ v → MovesDest job (with_dest v old) c event a new → MovesDest job v c event a new
moves-at job v c event a old new e s = subst (λ (x : View). MovesDest job x c event a new) e s

pub of-itself : (job : Job) (v : View) (h : Dest) → IsDestOf job v h → IsDestOf job (with_dest v h) h
of-itself job v h of = record { shape = of.shape; limit = of.limit; part = refl }

-- an event that waits
pub steps-waiting : (job : Job) (v : View) (event : Event) (why : Why) (h : Dest) → IsDestOf job v h → wait job v event false ≡ Some why → StepsDest job v event (Wait why) h h
steps-waiting job v event why h of e = record {
  answers = sym (ap (λ w. turn_by w (breaks job v event false) job v event) e);
  waits = λ _. refl;
  part = λ _. subst (λ (w : Option Why). IsDestOf job (view_by w (breaks job v event false) job v event) h) (sym e) of;
  failed = λ f. absurd (cc);
}

pub moves-waiting : (job : Job) (v : View) (c : Contents) (event : Event) (why : Why) (h : Dest) → HasDestBytes c h → wait job v event false ≡ Some why → MovesDest job v c event (Wait why) h
moves-waiting job v c event why h has e = record {
  moved = λ _. subst (λ (w : Option Why). HasDestBytes (contents_by w (breaks job v event false) job v event c) h) (sym e) has;
  kept = λ f. absurd (cc);
}

-- an event whose call failed
pub steps-failing : (job : Job) (v : View) (event : Event) (a : Turn) (old new : Dest) → IsDestOf job v new → wait job v event true ≡ None → is_call (call job v event) ≡ true → a ≡ fault_answer event → is_flagged a ≡ true → is_wait a ≡ false → StepsDest job v event a old new
steps-failing job v event a old new of e calls is flagged goes = record {
  answers = is ∙ sym (rw (flagged, e, calls) refl);
  waits = λ w. absurd (cc);
  part = λ w. absurd (cc);
  failed = λ _. of;
}

pub moves-failing : (job : Job) (v : View) (c : Contents) (event : Event) (a : Turn) (new : Dest) → HasDestBytes c new → is_flagged a ≡ true → MovesDest job v c event a new
moves-failing job v c event a new has flagged = record {
  moved = λ f. absurd (cc);
  kept = λ _. has;
}

-- an event that went on
pub steps-going : (job : Job) (v : View) (event : Event) (a : Turn) (old new : Dest) → wait job v event false ≡ None → IsDestOf job (effect job v event) new → a ≡ answer job v event → is_flagged a ≡ false → is_wait a ≡ false → StepsDest job v event a old new
steps-going job v event a old new e of is flagged goes = record {
  answers = is ∙ sym (rw (flagged, e) refl);
  waits = λ w. absurd (cc);
  part = λ _. subst (λ (w : Option Why). IsDestOf job (view_by w (breaks job v event false) job v event) new) (sym e) of;
  failed = λ f. absurd (cc);
}

pub moves-going : (job : Job) (v : View) (c : Contents) (event : Event) (a : Turn) (new : Dest) → wait job v event false ≡ None → HasDestBytes (moves job v event c) new → is_flagged a ≡ false → MovesDest job v c event a new
moves-going job v c event a new e has flagged = record {
  moved = λ _. subst (λ (w : Option Why). HasDestBytes (contents_by w (breaks job v event false) job v event c) new) (sym e) has;
  kept = λ f. absurd (cc);
}
