-- What one entry more adds to what is counted of a journal.
use Rattle.std.specs.Prelude.{◌≡◌, ℕ, ◌+◌, ◌&&◌, Bool, true, false, List, [], ◌∷◌, ◌++◌, count_by, if◌then◌else◌}
use Rattle.std.proofs.Common.{arith, refl, ap, sym, ◌∙◌}
use Rattle.std.proofs.lemmas.List.Sums.{sum_by-append}
use Rattle.xv_model.specs.Job.{Job}
use Rattle.xv_model.specs.View.{View, first_view}
use Rattle.xv_model.specs.Wait.{Event}
use Rattle.xv_model.specs.Effect.{Turn}
use Rattle.xv_model.specs.Step.{Entry, Call, call, same_call, step, after, run, is_flagged}
use Rattle.xv_model.specs.Outside.{Outside, WriteSource, WriteDest, kind, outside, unless_failed, calls_made, calls_of_kind, is_source_write, is_dest_write, source_writes, dest_writes}
use Rattle.xv_model.proofs.Outside.Calls.{kind-call, calls_made-one, calls_of_kind-one}
use Rattle.xv_job.specs.Written.{Written, job_of}
use Rattle.xv_core.specs.Counting.{failed_calls_from, failed_calls, is_of_source, is_of_dest}
use Rattle.xv_core.specs.State.{State, view}
use Rattle.xv_core.specs.Happening.{Happened}
use Rattle.xv_core.proofs.Counting.Steps.{bit}

-- the calls that failed
failed_calls_from-one : (job : Job) (v : View) (es : List Entry) (e : Entry)
    → failed_calls_from job v (es ++ e ∷ []) ≡ failed_calls_from job v es ++ (if is_flagged e.turn then call job (after job v es) e.event ∷ [] else [])
failed_calls_from-one job v [] e = refl
failed_calls_from-one job v (x ∷ es) e =
    let w = step job v x.event (is_flagged x.turn) in
    by (is_flagged x.turn) (call job v x.event) (failed_calls_from job w (es ++ e ∷ [])) (failed_calls_from job w es) (if is_flagged e.turn then call job (after job w es) e.event ∷ [] else []) (failed_calls_from-one job w es e)
  where
    by : (f : Bool) (c : Call) (all front last : List Call) → all ≡ front ++ last → (if f then c ∷ all else all) ≡ (if f then c ∷ front else front) ++ last
    by true c all front last h = ap (λ (cs : List Call). c ∷ cs) h
    by false c all front last h = h

pub failed_calls-one : (job : Job) (journal : List Entry) (e : Entry)
    → failed_calls job (journal ++ e ∷ []) ≡ failed_calls job journal ++ (if is_flagged e.turn then call job (run job journal) e.event ∷ [] else [])
failed_calls-one job journal e = failed_calls_from-one job (first_view job) journal e

-- how many of them are of one object
one-failed : (test : Call → Bool) (f : Bool) (c : Call) → count_by test (if f then c ∷ [] else []) ≡ bit (f && test c)
one-failed test true c = omega arith
one-failed test false c = refl

-- the writes of a unit that an entry adds
-- one that failed adds none, and is of the side that it writes to
source-failed : (u : ℕ) (o : Outside) → 0 ≡ (if is_of_source (kind o) then 0 else bit (is_source_write u o))
source-failed u (WriteSource p) = refl
source-failed u o = refl

dest-failed : (u : ℕ) (o : Outside) → 0 ≡ (if is_of_dest (kind o) then 0 else bit (is_dest_write u o))
dest-failed u (WriteDest p) = refl
dest-failed u o = refl

source-added : (u : ℕ) (o : Outside) (f : Bool) → count_by (is_source_write u) (unless_failed f o) ≡ (if f && is_of_source (kind o) then 0 else bit (is_source_write u o))
source-added u o true = source-failed u o
source-added u (WriteSource p) false = omega arith
source-added u o false = refl

dest-added : (u : ℕ) (o : Outside) (f : Bool) → count_by (is_dest_write u) (unless_failed f o) ≡ (if f && is_of_dest (kind o) then 0 else bit (is_dest_write u o))
dest-added u o true = dest-failed u o
dest-added u (WriteDest p) false = omega arith
dest-added u o false = refl

-- after an event that happened
module _ (s t : State) (e : Event) (a : Turn) (h : Happened s e a t) where
  entry : Entry
  entry = record { event = e; turn = a }

  abbrev job : Job
  job = job_of s.job

  abbrev made : Outside
  made = outside job (view s) e

  pub then-same : {A : Type 0} (f : Job → List Entry → A) → f (job_of t.job) t.journal ≡ f job (s.journal ++ record { event = e; turn = a } ∷ [])
  then-same f = ap (λ (j : Written). f (job_of j) t.journal) h.job ∙ ap (λ (es : List Entry). f job es) h.journal

  pub kind-more : (c : Call) → calls_of_kind (job_of t.job) t.journal c ≡ calls_of_kind (job_of s.job) s.journal c + bit (same_call c (kind (outside (job_of s.job) (view s) e)))
  kind-more c =
      then-same (λ j es. calls_of_kind j es c)
      ∙ calls_of_kind-one job s.journal (record { event = e; turn = a }) c
      ∙ ap (λ (k : Call). calls_of_kind job s.journal c + bit (same_call c k)) (sym (kind-call job (view s) e))

  pub source-writes-more : (u : ℕ) → source_writes (job_of t.job) t.journal u ≡ source_writes (job_of s.job) s.journal u
      + (if is_flagged a && is_of_source (kind (outside (job_of s.job) (view s) e)) then 0 else bit (is_source_write u (outside (job_of s.job) (view s) e)))
  source-writes-more u =
      then-same (λ j es. source_writes j es u)
      ∙ ap (count_by (is_source_write u)) (calls_made-one job s.journal (record { event = e; turn = a }))
      ∙ sum_by-append (λ (o : Outside). bit (is_source_write u o)) (calls_made job s.journal) (unless_failed (is_flagged a) made)
      ∙ ap (λ (n : ℕ). source_writes job s.journal u + n) (source-added u made (is_flagged a))

  pub dest-writes-more : (u : ℕ) → dest_writes (job_of t.job) t.journal u ≡ dest_writes (job_of s.job) s.journal u
      + (if is_flagged a && is_of_dest (kind (outside (job_of s.job) (view s) e)) then 0 else bit (is_dest_write u (outside (job_of s.job) (view s) e)))
  dest-writes-more u =
      then-same (λ j es. dest_writes j es u)
      ∙ ap (count_by (is_dest_write u)) (calls_made-one job s.journal (record { event = e; turn = a }))
      ∙ sum_by-append (λ (o : Outside). bit (is_dest_write u o)) (calls_made job s.journal) (unless_failed (is_flagged a) made)
      ∙ ap (λ (n : ℕ). dest_writes job s.journal u + n) (dest-added u made (is_flagged a))

  pub failed-more : (test : Call → Bool) → count_by test (failed_calls (job_of t.job) t.journal) ≡ count_by test (failed_calls (job_of s.job) s.journal) + bit (is_flagged a && test (kind (outside (job_of s.job) (view s) e)))
  failed-more test =
      then-same (λ j es. count_by test (failed_calls j es))
      ∙ ap (count_by test) (failed_calls-one job s.journal (record { event = e; turn = a }))
      ∙ sum_by-append (λ (c : Call). bit (test c)) (failed_calls job s.journal) (if is_flagged a then call job (view s) e ∷ [] else [])
      ∙ ap (λ (n : ℕ). count_by test (failed_calls job s.journal) + n) (one-failed test (is_flagged a) (call job (view s) e) ∙ ap (λ (c : Call). bit (is_flagged a && test c)) (sym (kind-call job (view s) e)))
