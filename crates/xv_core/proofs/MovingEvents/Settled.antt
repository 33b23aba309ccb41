-- An event that moves messages, once it is settled: there was room for its entry, and the migration stays one, having made
-- a step.
use Rattle.std.specs.Prelude.{◌≡◌, ◌≤◌, ◌<◌, ℕ, ◌+◌, not, Bool, true, false, List, [], ◌∷◌, ◌++◌, length, Option, Some, None, if◌then◌else◌}
use Rattle.std.proofs.Common.{arith, refl, ap, sym, subst, ◌∙◌, inl, inr, append-nil}
use Rattle.std.proofs.lemmas.Bool.{cases_Bool}
use Rattle.xv_base.specs.declared.answer.Turn.TheVariants.{Done, Queued, Faulted, Wait as Waits, Failed as Broke}
use Rattle.xv_base.specs.declared.answer.Why.{Why}
use Rattle.xv_base.specs.declared.event.Phase.TheVariants.{Failed as FailedPhase}
use Rattle.xv_model.specs.Job.{Job}
use Rattle.xv_model.specs.View.{View, Phase}
use Rattle.xv_model.specs.Wait.{Event, wait, fits, unless}
use Rattle.xv_model.specs.Effect.{Turn, answer}
use Rattle.xv_model.specs.Step.{Entry, turn, turn_by, is_flagged, is_wait}
use Rattle.xv_model.specs.Work.{bound}
use Rattle.xv_job.specs.Written.{Written, job_of}
use Rattle.xv_source.specs.Half.{Source}
use Rattle.xv_core.specs.Seen.{Seen}
use Rattle.xv_core.specs.State.{State, view, seen_of}
use Rattle.xv_core.specs.Kept.{IsState, HasRooms}
use Rattle.xv_core.proofs.Stepped.Waited.{Waited}
use Rattle.xv_core.specs.Stepped.{IsStep}
use Rattle.xv_core.specs.Settling.{is_failed}
use Rattle.xv_core.proofs.Keeping.Counts.{journal-has-room}
use Rattle.xv_core.proofs.Stepped.Stays.{stays}
use Rattle.xv_core.proofs.Stepped.Steps.{seen-steps, wait-seen}
use Rattle.xv_core.proofs.Stepped.Waits.{wait-stays, waited-none}
use Rattle.xv_core.proofs.MovingEvents.Moved.{Called, IsMove, IsSettled, settles}

-- A half's call of an event, as it was made in a migration: the answer is the machine's, and either it went out, or it
-- waited and nothing moved.
pub record OfMove (s : State) (e : Event) (a : Turn) (m : State) : Type 0 where
  pub fit : fits (job_of s.job) e ≡ true
  pub move : IsMove (job_of s.job) (view s) e
  pub answers : a ≡ turn (job_of s.job) (view s) e (is_flagged a)
  pub journal : m.journal ≡ s.journal
  pub called : is_wait a ≡ false → Called s e a m
  pub waited : is_wait a ≡ true → Waited s m

-- room for the entry
pub room-for : (s m : State) (e : Event) (a : Turn) (capacity : ℕ) → IsState s → OfMove s e a m → capacity ≡ bound (job_of s.job) → is_wait a ≡ false → length s.journal < capacity
room-for s m e a capacity k of room goes =
    let there : length s.journal + 1 ≤ bound (job_of s.job) = journal-has-room s e (is_flagged a) k.running of.fit (subst (λ (x : Turn). is_wait x ≡ false) of.answers goes) in
    omega arith

-- an answer that is a wait is neither flagged nor a failure, and says what is waited for
pub wait-unflagged : (a : Turn) → is_wait a ≡ true → (is_flagged a ≡ false) × (is_failed a ≡ false)
wait-unflagged (Done n) e = absurd (cc)
wait-unflagged Queued e = absurd (cc)
wait-unflagged Faulted e = absurd (cc)
wait-unflagged (Waits why) e = (refl, refl)
wait-unflagged (Broke cause) e = absurd (cc)

waits-by : (w : Option Why) (job : Job) (v : View) (e : Event) (a : Turn) → is_wait (answer job v e) ≡ false → a ≡ turn_by w false job v e → is_wait a ≡ true → (why : Why) × (a ≡ Waits why) × (w ≡ Some why)
waits-by None job v e a no_wait answers waits = absurd (let done : is_wait a ≡ false = ap is_wait answers ∙ no_wait in cc)
waits-by (Some why) job v e a no_wait answers waits = (why, answers, refl)

pub what-for : (job : Job) (v : View) (e : Event) (a : Turn) → is_wait (answer job v e) ≡ false → a ≡ turn job v e (is_flagged a) → is_wait a ≡ true → (why : Why) × (a ≡ Waits why) × (wait job v e false ≡ Some why)
what-for job v e a no_wait answers waits =
    waits-by (wait job v e false) job v e a no_wait (subst (λ (f : Bool). a ≡ turn job v e f) (wait-unflagged a waits).0 answers) waits

-- the state that was settled after a wait
again : (m : State) (journal : List Entry) (phase : Phase) (source : Source) → journal ≡ m.journal → phase ≡ m.phase → source ≡ m.source → record m { journal = journal; phase = phase; source = source } ≡ m
again m journal phase source e f g = rw (e, f, g) refl

settled-wait : (m t : State) (e : Event) (a : Turn) → is_wait a ≡ true → IsSettled m e a t → t ≡ m
settled-wait m t e a waits is =
    let unfailed : is_failed a ≡ false = (wait-unflagged a waits).1 in
    let journal : t.journal ≡ m.journal =
    is.journal ∙ ap (λ (b : Bool). m.journal ++ (if b then [] else record { event = e; turn = a } ∷ [])) waits ∙ append-nil m.journal in
    let phase : t.phase ≡ m.phase = is.phase ∙ ap (λ (b : Bool). if b then FailedPhase else m.phase) unfailed in
    is.rest ∙ again m t.journal t.phase t.source journal phase (is.going unfailed)

-- The migration after such an event.
pub stays-settled : (s m t : State) (e : Event) (a : Turn) → IsState s → OfMove s e a m → IsSettled m e a t → IsState t
stays-settled s m t e a k of is = elim (cases_Bool (is_wait a)) [
  | inl waits ↦ subst IsState (sym (settled-wait m t e a waits is)) (wait-stays s m k (of.waited waits))
  | inr goes ↦ stays s t e a k (settles s m t e a k.running of.fit goes of.answers of.move (of.called goes) is)
]

waits-step : (s m : State) (e : Event) (a : Turn) → OfMove s e a m → is_wait a ≡ true → IsStep (seen_of s) e a (seen_of m)
waits-step s m e a of waits =
    let is = what-for (job_of s.job) (view s) e a of.move.no_wait of.answers waits in
    subst (λ (x : Turn). IsStep (seen_of s) e x (seen_of m)) (sym is.1) (wait-seen s m e is.0 is.2 (of.waited waits))

pub steps-settled : (s m t : State) (old : Seen) (e : Event) (a b : Turn) → IsState s → seen_of s ≡ old → b ≡ a → OfMove s e a m → IsSettled m e a t → IsStep old e b (seen_of t)
steps-settled s m t old e a b k sees same of is =
    let stepped : IsStep (seen_of s) e a (seen_of t) = elim (cases_Bool (is_wait a)) [
      | inl waits ↦ subst (λ (u : State). IsStep (seen_of s) e a (seen_of u)) (sym (settled-wait m t e a waits is)) (waits-step s m e a of waits)
      | inr goes ↦ seen-steps s t e a k (settles s m t e a k.running of.fit goes of.answers of.move (of.called goes) is)
    ] in
    subst (λ (x : Seen). IsStep x e b (seen_of t)) sees (subst (λ (x : Turn). IsStep (seen_of s) e x (seen_of t)) (sym same) stepped)

-- the rooms after it
pub rooms-stay : (job : Written) (history_room journal_room more_room reads_room read_room : ℕ) → HasRooms job history_room journal_room reads_room read_room → more_room ≡ journal_room → HasRooms job history_room more_room reads_room read_room
rooms-stay job history_room journal_room more_room reads_room read_room rooms more = record {
  history = rooms.history;
  journal = more ∙ rooms.journal;
  reads = rooms.reads;
  read = rooms.read;
}

-- a wait before any call
pub waits-for : (s : State) (old : Seen) (e : Event) (why : Why) → seen_of s ≡ old → wait (job_of s.job) (view s) e false ≡ Some why → IsStep old e (Waits why) old
waits-for s old e why sees is = subst (λ (x : Seen). IsStep x e (Waits why) x) sees (wait-seen s s e why is (waited-none s))

pub at-once : (b : Bool) (why : Why) (later : Option Why) → b ≡ false → unless (not b) why later ≡ Some why
at-once false why later e = refl
at-once true why later e = absurd (cc)
