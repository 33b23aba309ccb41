-- What the driver steps does not wait, whether its call fails or not.
use Rattle.std.specs.Prelude.{◌≡◌, not, Bool, true, false, Option, Some, None}
use Rattle.std.proofs.Common.{refl, ap, ◌∙◌}
use Rattle.xv_base.specs.declared.event.Event.TheVariants.{Guest, Begin, Read, Advance, Release, Round, Page, Send, Deliver, Apply, Ack, Credit, Stun, Switch, Cancel}
use Rattle.xv_base.specs.declared.answer.Why.TheVariants.{NotNow, NothingThere}
use Rattle.xv_model.specs.Job.{Job}
use Rattle.xv_model.specs.View.{View, is_live, is_empty, stream}
use Rattle.xv_model.specs.Wait.{Event, Why, wait, unless}
use Rattle.xv_model.specs.Effect.{Turn}
use Rattle.xv_model.specs.Step.{turn, turn_by, breaks, is_wait, is_flagged}
use Rattle.xv_model.proofs.GoesOn.{unless-none}
use Rattle.xv_core.proofs.Stepped.After.{plain-answer, fault-goes}

-- what goes on where its call does not fail goes on where it does
acts-flagged : (job : Job) (v : View) (e : Event) → wait job v e false ≡ None → wait job v e true ≡ None
acts-flagged job v (Guest g) h = h
acts-flagged job v (Begin d) h = h
acts-flagged job v (Read d) h = h
acts-flagged job v (Advance d) h = h
acts-flagged job v (Release d) h = h
acts-flagged job v Round h = h
acts-flagged job v Page h = h
acts-flagged job v (Send s) h = h
acts-flagged job v (Deliver s) h = rw (unless-none (not (is_live v.phase)) NotNow (unless (is_empty (stream v s)) NothingThere None) h).0 refl
acts-flagged job v Apply h = h
acts-flagged job v Ack h = h
acts-flagged job v Credit h = rw (unless-none (not (is_live v.phase)) NotNow (unless (is_empty v.acks) NothingThere None) h).0 refl
acts-flagged job v Stun h = h
acts-flagged job v Switch h = h
acts-flagged job v Cancel h = h

pub acts-either : (job : Job) (v : View) (e : Event) (flag : Bool) → wait job v e false ≡ None → wait job v e flag ≡ None
acts-either job v e false h = h
acts-either job v e true h = acts-flagged job v e h

-- no answer of an event that goes on is a wait
no_wait-by : (why : Option Why) (broken : Bool) (job : Job) (v : View) (e : Event) → why ≡ None → is_wait (turn_by why broken job v e) ≡ false
no_wait-by (Some why) broken job v e h = absurd (cc)
no_wait-by None false job v e h = (plain-answer job v e).0
no_wait-by None true job v e h = fault-goes e

pub goes-on : (job : Job) (v : View) (e : Event) (a : Turn) → wait job v e false ≡ None → a ≡ turn job v e (is_flagged a) → is_wait a ≡ false
goes-on job v e a acts is =
    let f = is_flagged a in
    ap is_wait is ∙ no_wait-by (wait job v e f) (breaks job v e f) job v e (acts-either job v e f acts)
