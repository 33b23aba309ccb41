-- What a step leaves: the view after it, a wait leaving it as it was.
use Rattle.std.specs.Prelude.{◌≡◌, ◌==◌, Bool, true, false, List, [], ◌∷◌, ◌++◌, Option, Some, None, if◌then◌else◌}
use Rattle.std.proofs.Common.{refl, sym, ap, ◌∙◌}
use Rattle.std.proofs.lemmas.List.{append-nil}
use Rattle.xv_base.specs.declared.event.Event.TheVariants.{Guest, Begin, Read, Advance, Release, Round, Page, Send, Deliver, Apply, Ack, Credit, Stun, Switch, Cancel}
use Rattle.xv_base.specs.declared.answer.Turn.TheVariants.{Queued}
use Rattle.xv_model.specs.Job.{Job}
use Rattle.xv_model.specs.View.{View}
use Rattle.xv_model.specs.Wait.{Event, Why, wait, next_aim, is_join}
use Rattle.xv_model.specs.Effect.{Turn, answer, fault_answer}
use Rattle.xv_model.specs.Step.{Entry, turn, turn_by, step, view_by, breaks, run, entry_of, is_flagged, is_wait}
use Rattle.xv_model.proofs.OneMore.{run-one}
use Rattle.xv_job.specs.Written.{Written, job_of}
use Rattle.xv_core.specs.Seen.{Seen, view_of}
use Rattle.xv_core.specs.Stepped.{IsStep}

-- an event that goes on is answered by no wait, and not flagged where its call did not fail
abbrev pub IsPlain : Turn → Type 0
IsPlain a = (is_wait a ≡ false) × (is_flagged a ≡ false)

plain-if : (c : Bool) (a b : Turn) → IsPlain a → IsPlain b → IsPlain (if c then a else b)
plain-if true a b h k = h
plain-if false a b h k = k

pub plain-answer : (job : Job) (v : View) (e : Event) → IsPlain (answer job v e)
plain-answer job v (Guest g) = plain-if (is_join (next_aim job v g.0)) Queued _ (refl, refl) (refl, refl)
plain-answer job v (Begin d) = (refl, refl)
plain-answer job v (Read d) = (refl, refl)
plain-answer job v (Advance d) = (refl, refl)
plain-answer job v (Release d) = (refl, refl)
plain-answer job v Round = (refl, refl)
plain-answer job v Page = (refl, refl)
plain-answer job v (Send s) = plain-if (job.format == 1) _ _ (refl, refl) (refl, refl)
plain-answer job v (Deliver s) = plain-if (job.format == 1) _ _ (refl, refl) (refl, refl)
plain-answer job v Apply = (refl, refl)
plain-answer job v Ack = (refl, refl)
plain-answer job v Credit = (refl, refl)
plain-answer job v Stun = (refl, refl)
plain-answer job v Switch = (refl, refl)
plain-answer job v Cancel = (refl, refl)

pub fault-goes : (e : Event) → is_wait (fault_answer e) ≡ false
fault-goes (Guest g) = refl
fault-goes (Begin d) = refl
fault-goes (Read d) = refl
fault-goes (Advance d) = refl
fault-goes (Release d) = refl
fault-goes Round = refl
fault-goes Page = refl
fault-goes (Send s) = refl
fault-goes (Deliver s) = refl
fault-goes Apply = refl
fault-goes Ack = refl
fault-goes Credit = refl
fault-goes Stun = refl
fault-goes Switch = refl
fault-goes Cancel = refl

apart : {A : Type 0} (b : Bool) → b ≡ true → b ≡ false → A
apart b h k = absurd (cc)

-- a wait leaves the view
still-by : (w : Option Why) (b : Bool) (job : Job) (v : View) (e : Event) → is_wait (turn_by w b job v e) ≡ true → view_by w b job v e ≡ v
still-by (Some why) b job v e h = refl
still-by None false job v e h = apart (is_wait (answer job v e)) h (plain-answer job v e).0
still-by None true job v e h = apart (is_wait (fault_answer e)) h (fault-goes e)

pub run-after : (job : Job) (journal : List Entry) (e : Event) (a : Turn) → a ≡ turn job (run job journal) e (is_flagged a) → run job (journal ++ entry_of e a) ≡ step job (run job journal) e (is_flagged a)
run-after job journal e a answers = by-wait (is_wait a) refl
  where
    by-wait : (w : Bool) → is_wait a ≡ w → run job (journal ++ (if w then [] else record { event = e; turn = a } ∷ [])) ≡ step job (run job journal) e (is_flagged a)
    by-wait true waits =
        ap (run job) (append-nil journal)
        ∙ sym (still-by (wait job (run job journal) e (is_flagged a)) (breaks job (run job journal) e (is_flagged a)) job (run job journal) e (sym (ap is_wait answers) ∙ waits))
    by-wait false goes = run-one job journal (record { event = e; turn = a })

pub view-after : (m n : Seen) (e : Event) (a : Turn) → IsStep m e a n → view_of n ≡ step (job_of m.job) (view_of m) e (is_flagged a)
view-after m n e a s =
    ap (λ (w : Written). run (job_of w) n.journal) s.job
    ∙ ap (run (job_of m.job)) s.journal
    ∙ run-after (job_of m.job) m.journal e a s.answers
