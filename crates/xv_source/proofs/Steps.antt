-- From what a call did to the half to the machine's step, for any event.
use Rattle.std.specs.Prelude.{◌≡◌, Bool, true, false, [], Option, Some, None, is_some, unwrap_or}
use Rattle.std.proofs.Common.{refl, sym, ap, subst, ◌∙◌}
use Rattle.xv_base.specs.declared.answer.Turn.TheVariants.{Wait}
use Rattle.xv_model.specs.Job.{Job}
use Rattle.xv_model.specs.View.{View}
use Rattle.xv_model.specs.Wait.{Event, Why, wait}
use Rattle.xv_model.specs.Effect.{Turn, effect, answer, fault_answer}
use Rattle.xv_model.specs.Step.{call, is_call, breaks, turn_by, view_by, turn, is_flagged, is_wait}
use Rattle.xv_model.specs.Contents.{Contents, moves, contents_by}
use Rattle.xv_source.specs.Half.{Source, with_limits, with_source, with_source_bytes, IsSourceOf, HasSourceBytes, AreWhole}
use Rattle.xv_source.specs.Step.{after_fault, StepsSource}

-- what holds of the job and the view with the half's own numbers put into them holds of those that it is part of, where
-- these are the same; and back
pub along : (P : Job → View → Type 0) (job : Job) (v : View) (h : Source) → IsSourceOf job v h → P (with_limits job h) (with_source v h) → P job v
along P job v h of holds = subst (λ (j : Job). P j v) of.limits (subst (λ (w : View). P (with_limits job h) w) of.part holds)

pub against : (P : Job → View → Type 0) (job : Job) (v : View) (h : Source) → IsSourceOf job v h → P job v → P (with_limits job h) (with_source v h)
against P job v h of holds = subst (λ (w : View). P (with_limits job h) w) (sym of.part) (subst (λ (j : Job). P j v) (sym of.limits) holds)

-- a wait, after which nothing has changed
pub steps-waits : (job : Job) (v : View) (event : Event) (why : Why) (h : Source) → IsSourceOf job v h → wait job v event false ≡ Some why → StepsSource job v event (Wait why) h h
steps-waits job v event why h of waits = record {
  answers = ap (λ (w : Option Why). turn_by w false job v event) (sym waits);
  waits = λ _. refl;
  part = λ _. subst (λ (w : Option Why). IsSourceOf job (view_by w false job v event) h) (sym waits) of;
  bytes = λ c _ has _. subst (λ (w : Option Why). HasSourceBytes (contents_by w false job v event c) h) (sym waits) has;
  failed = λ flagged. absurd (cc);
  failed_bytes = λ c flagged _. absurd (cc);
}

-- an event that goes on and is done
pub steps-done : (job : Job) (v : View) (event : Event) (t : Turn) (old new : Source) → wait job v event false ≡ None → is_flagged t ≡ false → is_wait t ≡ false →
    t ≡ answer job v event → IsSourceOf job (effect job v event) new → ((c : Contents) → HasSourceBytes c old → AreWhole old.shape c.source → HasSourceBytes (moves job v event c) new) →
    StepsSource job v event t old new
steps-done job v event t old new goes unflagged no_wait answers part bytes = record {
  answers = subst (λ (f : Bool). t ≡ turn job v event f) (sym unflagged) (answers ∙ ap (λ (w : Option Why). turn_by w false job v event) (sym goes));
  waits = λ waits. absurd (cc);
  part = λ _. subst (λ (w : Option Why). IsSourceOf job (view_by w false job v event) new) (sym goes) part;
  bytes = λ c _ has whole. subst (λ (w : Option Why). HasSourceBytes (contents_by w false job v event c) new) (sym goes) (bytes c has whole);
  failed = λ flagged. absurd (cc);
  failed_bytes = λ c flagged _. absurd (cc);
}

-- an event that goes on, and whose call failed
pub steps-failed : (job : Job) (v : View) (event : Event) (t : Turn) (old new : Source) → wait job v event true ≡ None → is_call (call job v event) ≡ true → is_flagged t ≡ true → is_wait t ≡ false →
    t ≡ fault_answer event → IsSourceOf job (after_fault v event) new → ((c : Contents) → HasSourceBytes c old → HasSourceBytes c new) →
    StepsSource job v event t old new
steps-failed job v event t old new goes calls flagged no_wait answers part bytes = record {
  answers = subst (λ (f : Bool). t ≡ turn job v event f) (sym flagged)
      (answers ∙ ap (λ (b : Bool). turn_by None b job v event) (sym calls) ∙ ap (λ (w : Option Why). turn_by w (breaks job v event true) job v event) (sym goes));
  waits = λ waits. absurd (cc);
  part = λ unflagged. absurd (cc);
  bytes = λ c unflagged _ _. absurd (cc);
  failed = λ _. part;
  failed_bytes = λ c _ has. bytes c has;
}

-- What an event that is done does, in a job, a view and contents that are made of the half's numbers: all computes there.
pub record Does (job : Job) (v : View) (event : Event) (t : Turn) (old new : Source) : Type 0 where
  pub answers : t ≡ answer (with_limits job old) (with_source v old) event
  pub part : IsSourceOf (with_limits job old) (effect (with_limits job old) (with_source v old) event) new
  pub bytes : (c : Contents) → is_some old.told.contents ≡ true → AreWhole old.shape (unwrap_or old.told.contents []) →
      HasSourceBytes (moves (with_limits job old) (with_source v old) event (with_source_bytes c old)) new

pub steps-does : (job : Job) (v : View) (event : Event) (t : Turn) (old new : Source) → IsSourceOf job v old → wait job v event false ≡ None → is_flagged t ≡ false → is_wait t ≡ false →
    Does job v event t old new → StepsSource job v event t old new
steps-does job v event t old new of goes unflagged no_wait does =
    along (λ (j : Job) (w : View). StepsSource j w event t old new) job v old of
    (steps-done (with_limits job old) (with_source v old) event t old new (against (λ (j : Job) (w : View). wait j w event false ≡ None) job v old of goes) unflagged no_wait
    does.answers does.part
    (λ c has whole. subst (λ (x : Contents). HasSourceBytes (moves (with_limits job old) (with_source v old) event x) new) has.part
    (does.bytes c has.told (subst (λ (x : Contents). AreWhole old.shape x.source) (sym has.part) whole))))
