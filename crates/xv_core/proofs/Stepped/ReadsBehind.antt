-- The bytes that an event reads for its guest come behind those read before, and are as many as its entry reads.
use Rattle.std.specs.Prelude.{◌≡◌, ◌≤◌, ℕ, suc, ◌&&◌, Bool, true, false, List, [], ◌∷◌, ◌++◌, length, take, drop, Option, Some, None, is_none, is_some, if◌then◌else◌}
use Rattle.std.proofs.Common.{arith, refl, ap, sym, subst, ◌∙◌, inl, inr, append-nil}
use Rattle.std.proofs.lemmas.Bool.{cases_lt}
use Rattle.std.proofs.lemmas.List.{length-append, length-take, get_or_past}
use Rattle.xv_base.specs.declared.event.Event.TheVariants.{Guest, Release}
use Rattle.xv_model.specs.Job.{Job, UnitOp, IsGoodJob, trace, operation, no_operation}
use Rattle.xv_model.specs.Guest.{Ended, ended, entry, no_entry, is_done, operation_at, content, part, read_bytes, reads}
use Rattle.xv_model.specs.View.{View}
use Rattle.xv_model.specs.Wait.{Event, Why, wait, next_aim, is_join}
use Rattle.xv_model.specs.Effect.{Turn, effect, fault_effect}
use Rattle.xv_model.specs.Step.{breaks, step, view_by, is_flagged}
use Rattle.xv_model.proofs.Histories.{push, reads-push_before}
use Rattle.xv_job.specs.Written.{job_of}
use Rattle.xv_core.specs.State.{State, view, seen_of, IsRunning}
use Rattle.xv_core.specs.Happening.{Happened}
use Rattle.xv_core.specs.Stepped.{ReadsMore}

-- an event adds one entry to the history, or none
pub record AddsOne (old new : List Ended) : Type 0 where
  pub added : List Ended
  pub longer : new ≡ old ++ added
  pub one : length added ≤ 1

pub none-added : (h : List Ended) → AddsOne h h
none-added h = record { added = []; longer = sym (append-nil h); one = omega arith }

pub one-added : (h : List Ended) (e : Ended) → AddsOne h (h ++ e ∷ [])
one-added h e = record { added = e ∷ []; longer = refl; one = omega arith }

one-unless : (b : Bool) (h : List Ended) (e : Ended) → AddsOne h (if b then h else h ++ e ∷ [])
one-unless true h e = none-added h
one-unless false h e = one-added h e

effect-adds : (job : Job) (v : View) (e : Event) → AddsOne v.history (effect job v e).history
effect-adds job v (Guest g) = one-unless (is_join (next_aim job v g.0)) v.history _
effect-adds job v (Release d) = one-added v.history _
effect-adds job v e = none-added v.history

fault-adds : (v : View) (e : Event) → AddsOne v.history (fault_effect v e).history
fault-adds v (Guest g) = one-added v.history _
fault-adds v (Release d) = one-added v.history _
fault-adds v e = none-added v.history

step-adds-by : (why : Option Why) (broken : Bool) (job : Job) (v : View) (e : Event) → AddsOne v.history (view_by why broken job v e).history
step-adds-by (Some why) broken job v e = none-added v.history
step-adds-by None false job v e = effect-adds job v e
step-adds-by None true job v e = fault-adds v e

pub step-adds : (job : Job) (v : View) (e : Event) (flag : Bool) → AddsOne v.history (step job v e flag).history
step-adds job v e flag = step-adds-by (wait job v e flag) (breaks job v e flag) job v e

-- an entry that is not there reads nothing
none-read : (done none : Bool) (op : UnitOp) (bytes : List ℕ) → done ≡ false → (if done && none then part op bytes else []) ≡ []
none-read false none op bytes e = refl
none-read true none op bytes e = absurd (cc)

pub past-reads-none : (job : Job) (h : List Ended) → read_bytes job h (length h) ≡ []
past-reads-none job h =
    let past : entry h (length h) ≡ no_entry = get_or_past h (length h) no_entry (omega arith) in
    none-read (is_done (entry h (length h)).outcome) (is_none (operation_at job h (length h)).write) (operation_at job h (length h)) (content job h (operation_at job h (length h)).unit.0 (length h)) (ap (λ (x : Ended). is_done x.outcome) past)

-- what a longer history reads more is what its new entry reads
reads-added : (job : Job) (h added : List Ended) → length added ≤ 1 → reads job (h ++ added) (length (h ++ added)) ≡ reads job h (length h) ++ read_bytes job (h ++ added) (length h)
reads-added job h [] one =
    let same : h ++ [] ≡ h = append-nil h in
    subst (λ (k : List Ended). reads job k (length k) ≡ reads job h (length h) ++ read_bytes job k (length h)) (sym same)
    (sym (append-nil (reads job h (length h))) ∙ ap (λ (bs : List ℕ). reads job h (length h) ++ bs) (sym (past-reads-none job h)))
reads-added job h (e ∷ []) one =
    let long : length (push h e) ≡ suc (length h) = omega (arith, length-append h (e ∷ [])) in
    ap (reads job (push h e)) long ∙ ap (λ (bs : List ℕ). bs ++ read_bytes job (push h e) (length h)) (reads-push_before job h e (length h) (omega arith))
reads-added job h (e ∷ f ∷ es) one = absurd (omega arith)

pub reads-more : (job : Job) (h k : List Ended) → AddsOne h k → reads job k (length k) ≡ reads job h (length h) ++ read_bytes job k (length h)
reads-more job h k adds = subst (λ (x : List Ended). reads job x (length x) ≡ reads job h (length h) ++ read_bytes job x (length h)) (sym adds.longer) (reads-added job h adds.added adds.one)

-- an operation of a good job reads at most 64 bytes
short-by : (op : UnitOp) → (is_some op.write ≡ false → op.len ≤ 64) → (if is_none op.write then op.len else 0) ≤ 64
short-by op short = by op.write refl
  where
    by : (w : Option (List ℕ)) → op.write ≡ w → (if is_none w then op.len else 0) ≤ 64
    by None e = short (ap is_some e)
    by (Some pattern) e = omega arith

short-read : (job : Job) (g k : ℕ) → IsGoodJob job → (if is_none (operation job g k).write then (operation job g k).len else 0) ≤ 64
short-read job g k good = elim (cases_lt k (length (trace job g))) [
  | inl there ↦ short-by (operation job g k) (good.legal g k there).short_read
  | inr past ↦
      let none : operation job g k ≡ no_operation = get_or_past (trace job g) k no_operation past in
      subst (λ (op : UnitOp). (if is_none op.write then op.len else 0) ≤ 64) (sym none) (omega arith)
]

few-read : (done none : Bool) (op : UnitOp) (bytes : List ℕ) → (if none then op.len else 0) ≤ 64 → length (if done && none then part op bytes else []) ≤ 64
few-read true true op bytes short = omega (arith, length-take op.len (drop op.offset bytes), short)
few-read true false op bytes short = omega arith
few-read false none op bytes short = omega arith

few-bytes : (job : Job) (h : List Ended) (n : ℕ) → IsGoodJob job → length (read_bytes job h n) ≤ 64
few-bytes job h n good =
    let op = operation_at job h n in
    few-read (is_done (entry h n).outcome) (is_none op.write) op (content job h op.unit.0 n) (short-read job (entry h n).guest.0 (ended (take n h) (entry h n).guest.0) good)

-- of an event that happened
pub reads-behind : (s t : State) (e : Event) (a : Turn) → IsRunning s → Happened s e a t → ReadsMore (seen_of s) e a (seen_of t)
reads-behind s t e a r h =
    let job = job_of s.job in
    let v = view s in
    let k = (step job v e (is_flagged a)).history in
    let grown = reads-more job v.history k (step-adds job v e (is_flagged a)) in
    let long : length h.read ≡ length (read_bytes job k (length v.history)) =
    omega (arith, ap (λ (bs : List ℕ). length bs) grown, length-append (reads job v.history (length v.history)) (read_bytes job k (length v.history)), r.reads_long, h.reads_long, ap (λ (bs : List ℕ). length bs) h.behind, length-append s.reads h.read) in
    record { bytes = h.read; behind = h.behind; long = long; few = omega (arith, long, few-bytes job k (length v.history) r.good) }
