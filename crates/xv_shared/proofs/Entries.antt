-- What a step's entry adds to the numbers of entries by kind, and what a guest's worker is told.
use Rattle.std.proofs.Common.{◌≡◌, ◌≢◌, ℕ, ◌+◌, ◌<◌, ◌≤◌, ◌&&◌, ◌^◌, not, Bool, true, false, if◌then◌else◌, length, List, [], ◌∷◌, ◌++◌, Option, Some, None, refl, sym, ap, ◌∙◌, arith}
use Rattle.std.proofs.lemmas.List.{append-nil}
use Rattle.std.proofs.lemmas.List.Sums.{count_by-le-length}
use Rattle.xv_base.specs.declared.event.Event.TheVariants.{Guest}
use Rattle.xv_base.specs.declared.answer.Turn.TheVariants.{Done, Queued, Faulted, Wait, Failed}
use Rattle.xv_base.specs.declared.answer.Why.TheVariants.{TraceEnd, InQueue, CancelDue, Stunned, Throttled, NoCredit, NothingThere, NotNow}
use Rattle.xv_base.specs.declared.unit.GuestId.{GuestId}
use Rattle.xv_model.specs.Job.{Job}
use Rattle.xv_model.specs.View.{View}
use Rattle.xv_model.specs.Wait.{Event, Why, wait}
use Rattle.xv_model.specs.Effect.{Turn, answer}
use Rattle.xv_model.specs.Step.{Entry, is_wait, is_flagged, entry_of, turn, turn_by, breaks}
use Rattle.xv_model.specs.Growth.{happened, is_queued, is_fault, is_failure}
use Rattle.xv_model.specs.Journal.{is_guest, guest_entries, other_entries}
use Rattle.xv_model.proofs.Journal.OneStep.{guests-one, others-one}
use Rattle.xv_job.specs.Written.{job_of}
use Rattle.xv_core.specs.Seen.{Seen, view_of}
use Rattle.xv_core.specs.Stepped.{IsStep}
use Rattle.xv_core.proofs.Stepped.After.{plain-answer}
use Rattle.xv_shared.specs.Tallies.{once}
use Rattle.xv_shared.specs.Turns.{told, why_told}
use Rattle.xv_shared.specs.Held.{ByKind, by_kind, entries}

none_more : (n : ℕ) → n ≡ n + 0
none_more n = omega arith

-- a guest's entry, of each kind of answers to which no wait belongs
pub guest-entry : (kind : Turn → Bool) (j : List Entry) (g : GuestId) (a : Turn) → ((why : Why) → kind (Wait why) ≡ false) → guest_entries kind (j ++ entry_of (Guest g) a) ≡ guest_entries kind j + once (kind a)
guest-entry kind j g (Done n) w = guests-one kind j (record { event = Guest g; turn = Done n })
guest-entry kind j g Queued w = guests-one kind j (record { event = Guest g; turn = Queued })
guest-entry kind j g Faulted w = guests-one kind j (record { event = Guest g; turn = Faulted })
guest-entry kind j g (Wait why) w = rw (w why) (ap (guest_entries kind) (append-nil j) ∙ none_more (guest_entries kind j))
guest-entry kind j g (Failed cause) w = guests-one kind j (record { event = Guest g; turn = Failed cause })

pub guest-no_other : (j : List Entry) (g : GuestId) (a : Turn) → other_entries (j ++ entry_of (Guest g) a) ≡ other_entries j
guest-no_other j g (Done n) = others-one j (record { event = Guest g; turn = Done n }) ∙ sym (none_more _)
guest-no_other j g Queued = others-one j (record { event = Guest g; turn = Queued }) ∙ sym (none_more _)
guest-no_other j g Faulted = others-one j (record { event = Guest g; turn = Faulted }) ∙ sym (none_more _)
guest-no_other j g (Wait why) = ap other_entries (append-nil j)
guest-no_other j g (Failed cause) = others-one j (record { event = Guest g; turn = Failed cause }) ∙ sym (none_more _)

-- an entry of another event
no_guest : (kind : Turn → Bool) (j : List Entry) (e : Event) (a : Turn) → is_guest e ≡ false → guest_entries kind (j ++ record { event = e; turn = a } ∷ []) ≡ guest_entries kind j
no_guest kind j e a o = guests-one kind j (record { event = e; turn = a }) ∙ (ap (λ (b : Bool). guest_entries kind j + (if b && kind a then 1 else 0)) o ∙ sym (none_more _))

one_other : (j : List Entry) (e : Event) (a : Turn) → is_guest e ≡ false → other_entries (j ++ record { event = e; turn = a } ∷ []) ≡ other_entries j + 1
one_other j e a o = others-one j (record { event = e; turn = a }) ∙ ap (λ (b : Bool). other_entries j + (if b then 0 else 1)) o

pub other-no_guest : (kind : Turn → Bool) (j : List Entry) (e : Event) (a : Turn) → is_guest e ≡ false → guest_entries kind (j ++ entry_of e a) ≡ guest_entries kind j
other-no_guest kind j e (Done n) o = no_guest kind j e (Done n) o
other-no_guest kind j e Queued o = no_guest kind j e Queued o
other-no_guest kind j e Faulted o = no_guest kind j e Faulted o
other-no_guest kind j e (Wait why) o = ap (guest_entries kind) (append-nil j)
other-no_guest kind j e (Failed cause) o = no_guest kind j e (Failed cause) o

pub other-entry : (j : List Entry) (e : Event) (a : Turn) → is_guest e ≡ false → other_entries (j ++ entry_of e a) ≡ other_entries j + once (not (is_wait a))
other-entry j e (Done n) o = one_other j e (Done n) o
other-entry j e Queued o = one_other j e Queued o
other-entry j e Faulted o = one_other j e Faulted o
other-entry j e (Wait why) o = ap other_entries (append-nil j) ∙ none_more _
other-entry j e (Failed cause) o = one_other j e (Failed cause) o

-- a worker is told an answer of the same kind
pub told-done : (a : Turn) → happened (told a) ≡ happened a
told-done (Done n) = refl
told-done Queued = refl
told-done Faulted = refl
told-done (Wait why) = refl
told-done (Failed cause) = refl

pub told-queued : (a : Turn) → is_queued (told a) ≡ is_queued a
told-queued (Done n) = refl
told-queued Queued = refl
told-queued Faulted = refl
told-queued (Wait why) = refl
told-queued (Failed cause) = refl

pub told-fault : (a : Turn) → is_fault (told a) ≡ is_fault a
told-fault (Done n) = refl
told-fault Queued = refl
told-fault Faulted = refl
told-fault (Wait why) = refl
told-fault (Failed cause) = refl

pub told-failure : (a : Turn) → is_failure (told a) ≡ is_failure a
told-failure (Done n) = refl
told-failure Queued = refl
told-failure Faulted = refl
told-failure (Wait why) = refl
told-failure (Failed cause) = refl

-- a guest's event does not end the migration
plain-holds : (a : Turn) → is_flagged a ≡ false → is_failure a ≡ false
plain-holds (Done n) f = refl
plain-holds Queued f = refl
plain-holds Faulted f = refl
plain-holds (Wait why) f = refl
plain-holds (Failed cause) f = absurd (cc)

guest-ways : (w : Option Why) (broken : Bool) (job : Job) (v : View) (g : GuestId) → is_failure (turn_by w broken job v (Guest g)) ≡ false
guest-ways (Some why) broken job v g = refl
guest-ways None false job v g = plain-holds (answer job v (Guest g)) (plain-answer job v (Guest g)).1
guest-ways None true job v g = refl

pub guest-holds : (m n : Seen) (g : GuestId) (a : Turn) → IsStep m (Guest g) a n → is_failure a ≡ false
guest-holds m n g a s = ap is_failure s.answers ∙ guest-ways (wait (job_of m.job) (view_of m) (Guest g) (is_flagged a)) (breaks (job_of m.job) (view_of m) (Guest g) (is_flagged a)) (job_of m.job) (view_of m) g

-- so it has exactly one kind, unless it waits
pub one-kind : (a : Turn) → is_failure a ≡ false → once (happened a) + once (is_queued a) + once (is_fault a) ≡ once (not (is_wait a))
one-kind (Done n) f = refl
one-kind Queued f = refl
one-kind Faulted f = refl
one-kind (Wait why) f = refl
one-kind (Failed cause) f = absurd (cc)

-- each number of entries is within the journal's length
pub guests-within : (kind : Turn → Bool) (j : List Entry) → guest_entries kind j ≤ length j
guests-within kind j = count_by-le-length (λ (e : Entry). is_guest e.event && kind e.turn) j

pub others-within : (j : List Entry) → other_entries j ≤ length j
others-within j = count_by-le-length (λ (e : Entry). not (is_guest e.event)) j
