-- An event of the source alone, once it is settled: there was room for its entry, and the migration stays one, having made
-- a step.
use Rattle.std.specs.Prelude.{◌≡◌, ◌≤◌, ◌<◌, ℕ, ◌+◌, Bool, true, false, List, [], ◌∷◌, ◌++◌, length, Option, Some, None, if◌then◌else◌}
use Rattle.std.proofs.Common.{arith, refl, ap, sym, subst, ◌∙◌, inl, inr, append-nil}
use Rattle.std.proofs.lemmas.Bool.{cases_Bool}
use Rattle.xv_base.specs.declared.answer.Turn.TheVariants.{Done, Queued, Faulted, Wait as Waits, Failed as Broke}
use Rattle.xv_base.specs.declared.event.Phase.TheVariants.{Stunned, Failed as FailedPhase}
use Rattle.xv_base.specs.declared.event.Event.TheVariants.{Stun}
use Rattle.xv_model.specs.Job.{Job}
use Rattle.xv_model.specs.View.{View, Phase}
use Rattle.xv_model.specs.Wait.{Event, Why, wait}
use Rattle.xv_model.specs.Effect.{Turn, answer}
use Rattle.xv_model.specs.Step.{Entry, turn, turn_by, entry_of, is_flagged, is_wait}
use Rattle.xv_model.specs.Work.{bound}
use Rattle.xv_job.specs.Written.{Written, job_of}
use Rattle.xv_source.specs.Half.{Source}
use Rattle.xv_core.specs.Seen.{Seen}
use Rattle.xv_core.specs.State.{State, view, seen_of}
use Rattle.xv_core.specs.Kept.{IsState, HasRooms}
use Rattle.xv_core.specs.Happening.{Happened}
use Rattle.xv_core.specs.Stepped.{IsStep}
use Rattle.xv_core.specs.Settling.{is_failed, Abandoned}
use Rattle.xv_core.proofs.Keeping.Counts.{journal-has-room}
use Rattle.xv_core.proofs.CopyingEvents.SourceAlone.{Settled, settles, unflagged, unflagged-unfailed}
use Rattle.xv_core.proofs.CopyingEvents.SourceEvents.{OfHalf}
use Rattle.xv_core.proofs.Stepped.Stays.{stays}
use Rattle.xv_core.proofs.Stepped.Steps.{seen-steps, wait-seen}
use Rattle.xv_core.proofs.Stepped.Waits.{waited-none}

-- room for the entry
pub room-for : (s : State) (e : Event) (a : Turn) (half : Source) (phase : Phase) (stun : Option ℕ) (capacity : ℕ) → IsState s → OfHalf s e a half phase stun → capacity ≡ bound (job_of s.job) → is_wait a ≡ false → length s.journal < capacity
room-for s e a half phase stun capacity k of room goes =
    let there : length s.journal + 1 ≤ bound (job_of s.job) = journal-has-room s e (is_flagged a) k.running of.fit (subst (λ (x : Turn). is_wait x ≡ false) of.steps.answers goes) in
    omega arith

-- a wait changes nothing
wait-unflagged : (a : Turn) → is_wait a ≡ true → (is_flagged a ≡ false) × (is_failed a ≡ false)
wait-unflagged (Done n) e = absurd (cc)
wait-unflagged Queued e = absurd (cc)
wait-unflagged Faulted e = absurd (cc)
wait-unflagged (Waits why) e = (refl, refl)
wait-unflagged (Broke cause) e = absurd (cc)

no-entry : (e : Event) (a : Turn) → is_wait a ≡ true → entry_of e a ≡ []
no-entry e a waits = ap (λ (b : Bool). if b then [] else record { event = e; turn = a } ∷ []) waits

-- the wait that an answer is
pub record IsWait (s : State) (e : Event) (a : Turn) : Type 0 where
  pub why : Why
  pub is : a ≡ Waits why
  pub waits : wait (job_of s.job) (view s) e false ≡ Some why

wait-by : (w : Option Why) (job : Job) (v : View) (e : Event) → is_wait (answer job v e) ≡ false → is_wait (turn_by w false job v e) ≡ true → (why : Why) × ((turn_by w false job v e ≡ Waits why) × (w ≡ Some why))
wait-by (Some why) job v e none waits = (why, (refl, refl))
wait-by None job v e none waits = absurd (cc)

the-wait : (s : State) (e : Event) (a : Turn) → is_wait (answer (job_of s.job) (view s) e) ≡ false → a ≡ turn (job_of s.job) (view s) e (is_flagged a) → is_wait a ≡ true → IsWait s e a
the-wait s e a none answers waits =
    let answered : a ≡ turn (job_of s.job) (view s) e false = subst (λ (f : Bool). a ≡ turn (job_of s.job) (view s) e f) (wait-unflagged a waits).0 answers in
    let (why, is) = wait-by (wait (job_of s.job) (view s) e false) (job_of s.job) (view s) e none (subst (λ (x : Turn). is_wait x ≡ true) answered waits) in
    record { why = why; is = answered ∙ is.0; waits = is.1 }

wait-is-step : (s : State) (e : Event) (a : Turn) → IsWait s e a → IsStep (seen_of s) e a (seen_of s)
wait-is-step s e a w = subst (λ (x : Turn). IsStep (seen_of s) e x (seen_of s)) (sym w.is) (wait-seen s s e w.why w.waits (waited-none s))

-- the state that was settled after a wait
again : (s : State) (journal : List Entry) (phase : Phase) (stun : Option ℕ) (source : Source) → journal ≡ s.journal → phase ≡ s.phase → stun ≡ s.stun → source ≡ s.source → record s { journal = journal; phase = phase; stun = stun; source = source } ≡ s
again s journal phase stun source e f g h = rw (e, f, g, h) refl

settled-wait : (s t : State) (e : Event) (a : Turn) (half : Source) → is_wait a ≡ true → half ≡ s.source → Settled s e a half s.phase s.stun t → t ≡ s
settled-wait s t e a half waits same is =
    let unfailed : is_failed a ≡ false = (wait-unflagged a waits).1 in
    let journal : t.journal ≡ s.journal = is.journal ∙ ap (λ (es : List Entry). s.journal ++ es) (no-entry e a waits) ∙ append-nil s.journal in
    let phase : t.phase ≡ s.phase = is.phase ∙ ap (λ (b : Bool). if b then FailedPhase else s.phase) unfailed in
    let stun : t.stun ≡ s.stun = is.stun ∙ ap (λ (b : Bool). if b then s.stun else s.stun) unfailed in
    let source : t.source ≡ s.source = is.going unfailed ∙ same in
    is.rest ∙ again s t.journal t.phase t.stun t.source journal phase stun source

-- what `settle` ensures of the state with the half, in the phase and with the stun that it was called with
pub record SettledBy (s : State) (e : Event) (a : Turn) (half : Source) (t : State) : Type 0 where
  pub rest : t ≡ record s { journal = t.journal; phase = t.phase; source = t.source }
  pub journal : t.journal ≡ s.journal ++ entry_of e a
  pub phase : t.phase ≡ (if is_failed a then FailedPhase else s.phase)
  pub going : is_failed a ≡ false → t.source ≡ half
  pub given_up : is_failed a ≡ true → Abandoned half t.source

either : (b : Bool) (stun : Option ℕ) → stun ≡ (if b then stun else stun)
either true stun = refl
either false stun = refl

settled : (s t : State) (e : Event) (a : Turn) (half : Source) → SettledBy s e a half t → Settled s e a half s.phase s.stun t
settled s t e a half is =
    let stun : t.stun ≡ s.stun = ap (λ (u : State). u.stun) is.rest in
    record {
      rest = is.rest ∙ ap (λ (n : Option ℕ). record s { journal = t.journal; phase = t.phase; stun = n; source = t.source }) (sym stun);
      journal = is.journal;
      phase = is.phase;
      stun = stun ∙ either (is_failed a) s.stun;
      going = is.going;
      given_up = is.given_up;
    }

-- The migration after an event of the source alone.
pub stays-settled : (s t : State) (e : Event) (a : Turn) (half : Source) → IsState s → OfHalf s e a half s.phase s.stun → SettledBy s e a half t → IsState t
stays-settled s t e a half k of by =
    let is = settled s t e a half by in
    elim (cases_Bool (is_wait a)) [
      | inl waits ↦ subst IsState (sym (settled-wait s t e a half waits (of.steps.waits waits) is)) k
      | inr goes ↦ stays s t e a k (settles s t e a half s.phase s.stun k.running k.carried of.fit goes of.of (of.done goes) is)
    ]

pub steps-settled : (s t : State) (m : Seen) (e : Event) (a b : Turn) (half : Source) → IsState s → seen_of s ≡ m → b ≡ a → OfHalf s e a half s.phase s.stun → SettledBy s e a half t → IsStep m e b (seen_of t)
steps-settled s t m e a b half k sees same of by =
    let is = settled s t e a half by in
    let stepped : IsStep (seen_of s) e a (seen_of t) = elim (cases_Bool (is_wait a)) [
      | inl waits ↦ subst (λ (u : State). IsStep (seen_of s) e a (seen_of u)) (sym (settled-wait s t e a half waits (of.steps.waits waits) is)) (wait-is-step s e a (the-wait s e a of.of.no_wait of.steps.answers waits))
      | inr goes ↦ seen-steps s t e a k (settles s t e a half s.phase s.stun k.running k.carried of.fit goes of.of (of.done goes) is)
    ] in
    subst (λ (x : Seen). IsStep x e b (seen_of t)) sees (subst (λ (x : Turn). IsStep (seen_of s) e x (seen_of t)) (sym same) stepped)

-- the rooms after it
pub rooms-stay : (job : Written) (history_room journal_room more_room reads_room read_room : ℕ) → HasRooms job history_room journal_room reads_room read_room → more_room ≡ journal_room → HasRooms job history_room more_room reads_room read_room
rooms-stay job history_room journal_room more_room reads_room read_room rooms more = record {
  history = rooms.history;
  journal = more ∙ rooms.journal;
  reads = rooms.reads;
  read = rooms.read;
}

-- after a wait of the half's own, before anything is settled
waited : (s : State) (half : Source) → half ≡ s.source → s ≡ record s { source = half }
waited s half same = rw same refl

pub stays-waiting : (s : State) (e : Event) (a : Turn) (half : Source) (phase : Phase) (stun : Option ℕ) → IsState s → OfHalf s e a half phase stun → is_wait a ≡ true → IsState (record s { source = half })
stays-waiting s e a half phase stun k of waits = subst IsState (waited s half (of.steps.waits waits)) k

pub steps-waiting : (s : State) (m : Seen) (e : Event) (a : Turn) (half : Source) (phase : Phase) (stun : Option ℕ) → seen_of s ≡ m → OfHalf s e a half phase stun → is_wait a ≡ true → IsStep m e a (seen_of (record s { source = half }))
steps-waiting s m e a half phase stun sees of waits =
    subst (λ (x : Seen). IsStep x e a (seen_of (record s { source = half }))) sees
    (subst (λ (u : State). IsStep (seen_of s) e a (seen_of u)) (waited s half (of.steps.waits waits)) (wait-is-step s e a (the-wait s e a of.of.no_wait of.steps.answers waits)))

-- what `settle` ensures of the state in which the guest is stopped, whose phase and stun were set before
pub record StoppedBy (s : State) (a : Turn) (half : Source) (t : State) : Type 0 where
  pub rest : t ≡ record s { journal = t.journal; phase = t.phase; stun = t.stun; source = t.source }
  pub stun : t.stun ≡ Some (length s.history)
  pub journal : t.journal ≡ s.journal ++ entry_of Stun a
  pub phase : t.phase ≡ (if is_failed a then FailedPhase else Stunned)
  pub going : is_failed a ≡ false → t.source ≡ half

-- The guest is stopped, by an event that makes no call.
stopped : (s t : State) (a : Turn) (half : Source) → IsState s → OfHalf s Stun a half Stunned (Some (length s.history)) → is_wait a ≡ false → StoppedBy s a half t → Happened s Stun a t
stopped s t a half k of goes by =
    let plain : is_failed a ≡ false = unflagged-unfailed a (unflagged (job_of s.job) (view s) Stun a Stunned (Some (length s.history)) of.of refl of.steps.answers) in
    settles s t Stun a half Stunned (Some (length s.history)) k.running k.carried of.fit goes of.of (of.done goes) (record {
      rest = by.rest;
      journal = by.journal;
      phase = by.phase;
      stun = by.stun ∙ ap (λ (b : Bool). if b then s.stun else Some (length s.history)) (sym plain);
      going = by.going;
      given_up = λ failed. absurd (cc);
    })

pub stays-stopped : (s t : State) (a : Turn) (half : Source) → IsState s → OfHalf s Stun a half Stunned (Some (length s.history)) → is_wait a ≡ false → StoppedBy s a half t → IsState t
stays-stopped s t a half k of goes by = stays s t Stun a k (stopped s t a half k of goes by)

pub steps-stopped : (s t : State) (m : Seen) (a b : Turn) (half : Source) → IsState s → seen_of s ≡ m → b ≡ a → OfHalf s Stun a half Stunned (Some (length s.history)) → is_wait a ≡ false → StoppedBy s a half t → IsStep m Stun b (seen_of t)
steps-stopped s t m a b half k sees same of goes by =
    subst (λ (x : Seen). IsStep x Stun b (seen_of t)) sees
    (subst (λ (x : Turn). IsStep (seen_of s) Stun x (seen_of t)) (sym same) (seen-steps s t Stun a k (stopped s t a half k of goes by)))

pub no-wait : (a : Turn) → ((why : Why) → a ≡ Waits why → ⊥) → is_wait a ≡ false
no-wait (Done n) none = refl
no-wait Queued none = refl
no-wait Faulted none = refl
no-wait (Waits why) none = absurd (none why refl)
no-wait (Broke cause) none = refl
