-- What a guest's operation leaves of a migration, however it was answered: there was room for what it adds, all that a
-- migration keeps is kept, and it is a step as contracts see it.
use Rattle.std.specs.Prelude.{◌≡◌, ◌≤◌, ◌<◌, ℕ, ◌+◌, Bool, true, false, List, [], ◌∷◌, ◌++◌, length, take, drop, Some, if◌then◌else◌}
use Rattle.std.proofs.Common.{arith, ap, sym, subst, ◌∙◌, inl, inr}
use Rattle.std.proofs.lemmas.Bool.{cases_Bool}
use Rattle.std.proofs.lemmas.List.{append-nil, length-append, take_at}
use Rattle.xv_base.specs.declared.answer.Turn.TheVariants.{Wait as Waits}
use Rattle.xv_base.specs.declared.answer.Why.{Why}
use Rattle.xv_model.specs.Job.{UnitOp, operation_count}
use Rattle.xv_model.specs.Guest.{Ended}
use Rattle.xv_model.specs.Wait.{Event, wait}
use Rattle.xv_model.specs.Effect.{Turn}
use Rattle.xv_model.specs.Step.{Entry, entry_of, is_flagged, is_wait}
use Rattle.xv_model.specs.Work.{bound}
use Rattle.xv_job.specs.Written.{Written, job_of}
use Rattle.xv_source.specs.Half.{Source}
use Rattle.xv_dest.specs.Half.{Dest}
use Rattle.xv_core.specs.Reads.{read_lengths}
use Rattle.xv_core.specs.Seen.{Seen, view_of}
use Rattle.xv_core.specs.Answered.{read_by}
use Rattle.xv_core.specs.State.{State, state_of, seen_of, view, IsRunning}
use Rattle.xv_core.specs.Happening.{Happened}
use Rattle.xv_core.specs.Kept.{IsState, HasRooms}
use Rattle.xv_core.specs.Stepped.{IsStep}
use Rattle.xv_core.proofs.Keeping.Keeps.{keeps}
use Rattle.xv_core.proofs.Keeping.Counts.{history-within, journal-has-room}
use Rattle.xv_core.proofs.Keeping.Reads.{running-reads-fit}
use Rattle.xv_core.proofs.Stepped.Stays.{stays}
use Rattle.xv_core.proofs.Stepped.Steps.{seen-steps, wait-seen}
use Rattle.xv_core.proofs.Stepped.Waits.{waited-none}
use Rattle.xv_core.proofs.GuestEvents.Operating.{operated}

-- the operation waits, and nothing has changed
pub record Stands (s : State) (e : Event) (a : Turn) (ends : List Ended) (source : Source) (dest : Dest) (more : List ℕ) : Type 0 where
  pub why : Why
  pub answer_is : a ≡ Waits why
  pub waits : wait (job_of s.job) (view s) e false ≡ Some why
  pub none_ended : ends ≡ []
  pub none_read : more ≡ []
  pub source_is : source ≡ s.source
  pub dest_is : dest ≡ s.dest

-- an operation was answered, with these entries and these bytes more
pub record Answers (s : State) (e : Event) (a : Turn) (ends : List Ended) (source : Source) (dest : Dest) (more : List ℕ) : Type 0 where
  pub happens : is_wait a ≡ false → Happened s e a (operated s e a (s.history ++ ends) source dest (s.reads ++ more))
  pub stands : is_wait a ≡ true → Stands s e a ends source dest more

-- there is room for them
pub record Rooms (s : State) (a : Turn) (ends : List Ended) (more : List ℕ) : Type 0 where
  pub history : length s.history + length ends ≤ operation_count (job_of s.job)
  pub reads : length s.reads + length more ≤ read_lengths (job_of s.job)
  pub journal : is_wait a ≡ false → length s.journal < bound (job_of s.job)

reads-fit-in : (s : State) → IsRunning s → length s.reads ≤ read_lengths (job_of s.job)
reads-fit-in s r = omega (arith, r.reads_long, running-reads-fit s r)

pub rooms : (s : State) (e : Event) (a : Turn) (ends : List Ended) (source : Source) (dest : Dest) (more : List ℕ) → IsRunning s → Answers s e a ends source dest more → Rooms s a ends more
rooms s e a ends source dest more r x = elim (cases_Bool (is_wait a)) [
  | inl waits ↦
      let st = x.stands waits in
      record {
        history = omega (arith, history-within s r, ap (λ (es : List Ended). length es) st.none_ended);
        reads = omega (arith, reads-fit-in s r, ap (λ (xs : List ℕ). length xs) st.none_read);
        journal = λ goes. let no : true ≡ false = sym waits ∙ goes in absurd (cc);
      }
  | inr goes ↦
      let h = x.happens goes in
      let after = keeps s (operated s e a (s.history ++ ends) source dest (s.reads ++ more)) e a r h in
      record {
        history = omega (arith, history-within (operated s e a (s.history ++ ends) source dest (s.reads ++ more)) after, length-append s.history ends);
        reads = omega (arith, reads-fit-in (operated s e a (s.history ++ ends) source dest (s.reads ++ more)) after, length-append s.reads more);
        journal = λ _. omega (arith, journal-has-room s e (is_flagged a) r h.fitting (ap is_wait (sym h.answers) ∙ goes));
      }
]

-- all is kept, and it was a step
record Leaves (s t : State) (e : Event) (a : Turn) : Type 0 where
  kept : IsState t
  steps : IsStep (seen_of s) e a (seen_of t)

abbrev pub left : State → List Entry → List Ended → Source → Dest → List ℕ → State
left s journal history source dest reads = state_of s.job journal history s.phase s.stun source dest s.streams s.back reads

one-entry : (e : Event) (a : Turn) → is_wait a ≡ false → record { event = e; turn = a } ∷ [] ≡ entry_of e a
one-entry e a goes = ap (λ (b : Bool). if b then [] else record { event = e; turn = a } ∷ []) (sym goes)

no-entry : (e : Event) (a : Turn) → is_wait a ≡ true → [] ≡ entry_of e a
no-entry e a waits = ap (λ (b : Bool). if b then [] else record { event = e; turn = a } ∷ []) (sym waits)

leaves-by : (s : State) (e : Event) (a : Turn) (ends : List Ended) (source : Source) (dest : Dest) (more : List ℕ) → IsState s → Answers s e a ends source dest more →
    Leaves s (left s (s.journal ++ entry_of e a) (s.history ++ ends) source dest (s.reads ++ more)) e a
leaves-by s e a ends source dest more k x = elim (cases_Bool (is_wait a)) [
  | inr goes ↦
      let t = operated s e a (s.history ++ ends) source dest (s.reads ++ more) in
      let h = x.happens goes in
      subst (λ (es : List Entry). Leaves s (left s (s.journal ++ es) (s.history ++ ends) source dest (s.reads ++ more)) e a) (one-entry e a goes)
      (record { kept = stays s t e a k h; steps = seen-steps s t e a k h })
  | inl waits ↦
      let st = x.stands waits in
      let same : Leaves s s e (Waits st.why) = record { kept = k; steps = wait-seen s s e st.why st.waits (waited-none s) } in
      let here : Leaves s (left s (s.journal ++ []) (s.history ++ []) s.source s.dest (s.reads ++ [])) e (Waits st.why) =
      subst (λ (es : List Entry). Leaves s (left s es (s.history ++ []) s.source s.dest (s.reads ++ [])) e (Waits st.why)) (sym (append-nil s.journal))
      (subst (λ (es : List Ended). Leaves s (left s s.journal es s.source s.dest (s.reads ++ [])) e (Waits st.why)) (sym (append-nil s.history))
      (subst (λ (xs : List ℕ). Leaves s (left s s.journal s.history s.source s.dest xs) e (Waits st.why)) (sym (append-nil s.reads)) same)) in
      let halves : Leaves s (left s (s.journal ++ []) (s.history ++ []) source dest (s.reads ++ [])) e (Waits st.why) =
      subst (λ (h : Source). Leaves s (left s (s.journal ++ []) (s.history ++ []) h dest (s.reads ++ [])) e (Waits st.why)) (sym st.source_is)
      (subst (λ (h : Dest). Leaves s (left s (s.journal ++ []) (s.history ++ []) s.source h (s.reads ++ [])) e (Waits st.why)) (sym st.dest_is) here) in
      let lists : Leaves s (left s (s.journal ++ []) (s.history ++ ends) source dest (s.reads ++ more)) e (Waits st.why) =
      subst (λ (es : List Ended). Leaves s (left s (s.journal ++ []) (s.history ++ es) source dest (s.reads ++ more)) e (Waits st.why)) (sym st.none_ended)
      (subst (λ (xs : List ℕ). Leaves s (left s (s.journal ++ []) (s.history ++ []) source dest (s.reads ++ xs)) e (Waits st.why)) (sym st.none_read) halves) in
      subst (λ (es : List Entry). Leaves s (left s (s.journal ++ es) (s.history ++ ends) source dest (s.reads ++ more)) e a) (no-entry e a waits)
      (subst (λ (b : Turn). Leaves s (left s (s.journal ++ []) (s.history ++ ends) source dest (s.reads ++ more)) e b) (sym st.answer_is) lists)
]

-- the same in the words of the calls that enter it
pub record Finishes (m : Seen) (t : State) (e : Event) (a : Turn) : Type 0 where
  pub kept : IsState t
  pub steps : IsStep m e a (seen_of t)

leaves : (s : State) (e : Event) (a : Turn) (ends : List Ended) (source : Source) (dest : Dest) (more : List ℕ) (journal : List Entry) (history : List Ended) (reads : List ℕ) → IsState s → Answers s e a ends source dest more →
    journal ≡ s.journal ++ entry_of e a → history ≡ s.history ++ ends → reads ≡ s.reads ++ more → Leaves s (left s journal history source dest reads) e a
leaves s e a ends source dest more journal history reads k x entered ended read =
    subst (λ (es : List Entry). Leaves s (left s es history source dest reads) e a) (sym entered)
    (subst (λ (es : List Ended). Leaves s (left s (s.journal ++ entry_of e a) es source dest reads) e a) (sym ended)
    (subst (λ (xs : List ℕ). Leaves s (left s (s.journal ++ entry_of e a) (s.history ++ ends) source dest xs) e a) (sym read) (leaves-by s e a ends source dest more k x)))

pub finishes : (s : State) (m : Seen) (e : Event) (a : Turn) (ends : List Ended) (source : Source) (dest : Dest) (more : List ℕ) (journal : List Entry) (history : List Ended) (reads : List ℕ) → IsState s → seen_of s ≡ m → Answers s e a ends source dest more →
    journal ≡ s.journal ++ entry_of e a → history ≡ s.history ++ ends → reads ≡ s.reads ++ more → Finishes m (left s journal history source dest reads) e a
finishes s m e a ends source dest more journal history reads k seen x entered ended read =
    let l = leaves s e a ends source dest more journal history reads k x entered ended read in
    record { kept = l.kept; steps = subst (λ (n : Seen). IsStep n e a (seen_of (left s journal history source dest reads))) seen l.steps }

-- what a read gave stands in a buffer
pub read-from : (was now seen bytes : List ℕ) (op : UnitOp) (a : Turn) → now ≡ was ++ read_by op a seen → seen ≡ bytes → now ≡ was ++ read_by op a bytes
read-from was now seen bytes op a e f = e ∙ ap (λ (xs : List ℕ). was ++ read_by op a xs) f

-- memory for all is left
pub rooms-stay : (job : Written) (h j r n h' j' r' n' : ℕ) → HasRooms job h j r n → h' ≡ h → j' ≡ j → r' ≡ r → n' ≡ n → HasRooms job h' j' r' n'
rooms-stay job h j r n h' j' r' n' x e f g k = record {
  history = e ∙ x.history;
  journal = f ∙ x.journal;
  reads = g ∙ x.reads;
  read = k ∙ x.read;
}

-- a buffer that was lent whole holds what was written into it
pub lent-back : (n : ℕ) (xs ys : List ℕ) → n ≡ length xs → length ys ≡ length xs → take n (ys ++ drop (length ys) xs) ≡ ys
lent-back n xs ys e f = take_at ys (drop (length ys) xs) n (omega arith)

-- a wait before anything was asked of a half
wait-here : (s : State) (e : Event) (why : Why) → wait (job_of s.job) (view s) e false ≡ Some why → IsStep (seen_of s) e (Waits why) (seen_of s)
wait-here s e why waits = wait-seen s s e why waits (waited-none s)

pub stays-waiting : (s : State) (m : Seen) (e : Event) (why : Why) → IsState s → seen_of s ≡ m → wait (job_of m.job) (view_of m) e false ≡ Some why → IsStep m e (Waits why) m
stays-waiting s m e why k seen waits =
    subst (λ (n : Seen). IsStep n e (Waits why) n) seen (wait-here s e why (subst (λ (n : Seen). wait (job_of n.job) (view_of n) e false ≡ Some why) (sym seen) waits))
