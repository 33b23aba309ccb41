-- A step that does not wait, entered into the journal with its answer.
use Rattle.std.proofs.Common.{◌≡◌, ℕ, ◌+◌, ◌&&◌, ◌==◌, not, Bool, true, false, if◌then◌else◌, List, [], ◌∷◌, ◌++◌, take, Option, None, Some, refl, ap, sym, subst, ◌∙◌, inl, inr}
use Rattle.std.specs.List.{list_all}
use Rattle.std.proofs.lemmas.Bool.{cases_Bool, and_from, eq-eqb}
use Rattle.std.proofs.lemmas.List.Folds.{list_all-append}
use Rattle.std.proofs.lemmas.List.Sums.{sum_by_push}
use Rattle.xv_base.specs.declared.limits.TheConstants.{SINGLE_FORMAT}
use Rattle.xv_base.specs.declared.event.Event.TheVariants.{Guest, Send, Deliver, Credit}
use Rattle.xv_base.specs.declared.answer.Turn.TheVariants.{Done, Queued, Faulted, Wait as Waits, Failed as Broke}
use Rattle.xv_base.specs.declared.answer.Cause.{Cause}
use Rattle.xv_base.specs.declared.answer.Cause.TheVariants.{SourceRead, DestWrite, Flush, Put, Take, AckPut, AckTake}
use Rattle.xv_model.specs.Job.{Job, UnitOp}
use Rattle.xv_model.specs.View.{View, UnitHead, front_group}
use Rattle.xv_model.specs.Wait.{Event, Why, Aim, Alone, Store, Join, Mirror, wait, fits, next_operation, next_aim}
use Rattle.xv_model.specs.Effect.{Turn, Note, answer, fault_answer, guest_answer, group_note, batch}
use Rattle.xv_model.specs.Step.{Entry, step, turn, view_by, turn_by, breaks, call, is_call, is_wait, is_flagged, same_cause, same_turn, run, is_run}
use Rattle.xv_model.specs.Growth.{is_rest, rest}
use Rattle.xv_model.specs.Journal.{is_guest, is_of, guest_entries, own_entries, other_entries}
use Rattle.xv_model.proofs.OneMore.{run-one, is_run-one}

-- an answer that is no wait agrees with itself
same_cause-self : (c : Cause) → same_cause c c ≡ true
same_cause-self SourceRead = refl
same_cause-self DestWrite = refl
same_cause-self Flush = refl
same_cause-self (Put s) = eq-eqb s s refl
same_cause-self (Take s) = eq-eqb s s refl
same_cause-self AckPut = refl
same_cause-self AckTake = refl

same_turn-self : (t : Turn) → is_wait t ≡ false → same_turn t t ≡ true
same_turn-self (Done n) goes = and_from (n.a == n.a) (n.b == n.b) (eq-eqb n.a n.a refl) (eq-eqb n.b n.b refl)
same_turn-self Queued goes = refl
same_turn-self Faulted goes = refl
same_turn-self (Waits why) goes = absurd (cc)
same_turn-self (Broke cause) goes = same_cause-self cause

-- the answer of an event that goes on is not flagged, and that of a call that failed is
guest_unflagged : (op : UnitOp) (a : Aim) → is_flagged (guest_answer op a) ≡ false
guest_unflagged op Alone = refl
guest_unflagged op Store = refl
guest_unflagged op Join = refl
guest_unflagged op Mirror = refl

note_unflagged : (b : Bool) (m n : Note) → is_flagged (if b then Done m else Done n) ≡ false
note_unflagged true m n = refl
note_unflagged false m n = refl

group_unflagged : (job : Job) (group : List UnitHead) → is_flagged (group_note job group) ≡ false
group_unflagged job group = note_unflagged (job.format == SINGLE_FORMAT) _ _

goes_unflagged : (job : Job) (v : View) (e : Event) → is_flagged (answer job v e) ≡ false
goes_unflagged job v (Guest g) = guest_unflagged (next_operation job v g.0) (next_aim job v g.0)
goes_unflagged job v (Send s) = group_unflagged job (take (batch job v) v.outbox.messages)
goes_unflagged job v (Deliver s) = group_unflagged job (front_group v s)
goes_unflagged job v e = refl

fails_flagged : (e : Event) → is_flagged (fault_answer e) ≡ true
fails_flagged (Guest g) = refl
fails_flagged e = refl

-- where the flag does not count, the event goes on without it too
no_flag : (flag : Bool) → (flag && true) ≡ false → flag ≡ false
no_flag true h = h
no_flag false h = refl

unflagged_wait : (job : Job) (v : View) (e : Event) (flag : Bool) → breaks job v e flag ≡ false → wait job v e flag ≡ wait job v e false
unflagged_wait job v (Deliver s) flag b = ap (wait job v (Deliver s)) (no_flag flag b)
unflagged_wait job v Credit flag b = ap (wait job v Credit) (no_flag flag b)
unflagged_wait job v e flag b = refl

flag_on : (flag called : Bool) → (flag && called) ≡ true → flag ≡ true
flag_on true called h = refl
flag_on false called h = h

-- the step and its answer are those of the flag that the answer tells
record IsTold (job : Job) (v : View) (e : Event) (flag : Bool) : Type 0 where
  view : step job v e flag ≡ step job v e (is_flagged (turn job v e flag))
  answer : turn job v e flag ≡ turn job v e (is_flagged (turn job v e flag))

flagged_as : (w : Option Why) (b : Bool) (job : Job) (v : View) (e : Event) → is_wait (turn_by w b job v e) ≡ false → is_flagged (turn_by w b job v e) ≡ b
flagged_as (Some why) b job v e h = absurd (cc)
flagged_as None false job v e h = goes_unflagged job v e
flagged_as None true job v e h = fails_flagged e

told_same : (job : Job) (v : View) (e : Event) (flag : Bool) → flag ≡ is_flagged (turn job v e flag) → IsTold job v e flag
told_same job v e flag is = record { view = ap (step job v e) is; answer = ap (turn job v e) is }

told_unflagged : (job : Job) (v : View) (e : Event) (flag : Bool) → is_flagged (turn job v e flag) ≡ false → breaks job v e flag ≡ false → IsTold job v e flag
told_unflagged job v e flag off b =
    let w = unflagged_wait job v e flag b in
    record {
      view = ap (λ (o : Option Why). view_by o (breaks job v e flag) job v e) w ∙ ap (λ (x : Bool). view_by (wait job v e false) x job v e) b ∙ ap (step job v e) (sym off);
      answer = ap (λ (o : Option Why). turn_by o (breaks job v e flag) job v e) w ∙ ap (λ (x : Bool). turn_by (wait job v e false) x job v e) b ∙ ap (turn job v e) (sym off);
    }

is_told : (job : Job) (v : View) (e : Event) (flag : Bool) → is_wait (turn job v e flag) ≡ false → IsTold job v e flag
is_told job v e flag h =
    let same = flagged_as (wait job v e flag) (breaks job v e flag) job v e h in
    elim (cases_Bool (breaks job v e flag)) [
      | inl on ↦ told_same job v e flag (flag_on flag (is_call (call job v e)) on ∙ sym (same ∙ on))
      | inr off ↦ told_unflagged job v e flag (same ∙ off) off
    ]

pub step-runs : (job : Job) (journal : List Entry) (e : Event) (flag : Bool) → is_run job journal ≡ true → is_wait (turn job (run job journal) e flag) ≡ false → is_run job (journal ++ record { event = e; turn = turn job (run job journal) e flag } ∷ []) ≡ true
step-runs job journal e flag r goes =
    let v = run job journal in
    let t = turn job v e flag in
    let told = is_told job v e flag goes in
    is_run-one job journal (record { event = e; turn = t })
    ∙ and_from (is_run job journal) (same_turn t (turn job v e (is_flagged t))) r (subst (λ (u : Turn). same_turn t u ≡ true) told.answer (same_turn-self t goes))

pub step-view : (job : Job) (journal : List Entry) (e : Event) (flag : Bool) → is_wait (turn job (run job journal) e flag) ≡ false → run job (journal ++ record { event = e; turn = turn job (run job journal) e flag } ∷ []) ≡ step job (run job journal) e flag
step-view job journal e flag goes = run-one job journal (record { event = e; turn = turn job (run job journal) e flag }) ∙ sym (is_told job (run job journal) e flag goes).view

-- one entry more
and-true : (b : Bool) → (b && true) ≡ b
and-true true = refl
and-true false = refl

pub fits-one : (job : Job) (journal : List Entry) (e : Entry) → list_all (λ (x : Entry). fits job x.event) (journal ++ e ∷ []) ≡ (list_all (λ (x : Entry). fits job x.event) journal && fits job e.event)
fits-one job journal e = list_all-append (λ (x : Entry). fits job x.event) journal (e ∷ []) ∙ ap (λ (b : Bool). list_all (λ (x : Entry). fits job x.event) journal && b) (and-true (fits job e.event))

pub guests-one : (kind : Turn → Bool) (journal : List Entry) (e : Entry) → guest_entries kind (journal ++ e ∷ []) ≡ guest_entries kind journal + (if is_guest e.event && kind e.turn then 1 else 0)
guests-one kind journal e = sum_by_push (λ (x : Entry). if is_guest x.event && kind x.turn then 1 else 0) journal e

pub own-one : (guest : ℕ) (kind : Turn → Bool) (journal : List Entry) (e : Entry) → own_entries guest kind (journal ++ e ∷ []) ≡ own_entries guest kind journal + (if is_of guest e.event && kind e.turn then 1 else 0)
own-one guest kind journal e = sum_by_push (λ (x : Entry). if is_of guest x.event && kind x.turn then 1 else 0) journal e

pub others-one : (journal : List Entry) (e : Entry) → other_entries (journal ++ e ∷ []) ≡ other_entries journal + (if is_guest e.event then 0 else 1)
others-one journal e = sum_by_push (λ (x : Entry). if not (is_guest x.event) then 1 else 0) journal e ∙ ap (λ (n : ℕ). other_entries journal + n) (turned (is_guest e.event))
  where
    turned : (b : Bool) → ◌≡◌ {A = ℕ} (if not b then 1 else 0) (if b then 0 else 1)
    turned true = refl
    turned false = refl

pub rest-one : (journal : List Entry) (e : Entry) → rest (journal ++ e ∷ []) ≡ rest journal + (if is_rest e then 1 else 0)
rest-one journal e = sum_by_push (λ (x : Entry). if is_rest x then 1 else 0) journal e
