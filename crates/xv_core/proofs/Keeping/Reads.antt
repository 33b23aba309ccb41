-- The bytes that guests have read are no more than their operations read together, and each unit's content has its size.
use Rattle.std.specs.Prelude.{◌≡◌, ◌≤◌, ◌<◌, ℕ, zero, suc, ◌+◌, ◌&&◌, Bool, true, false, List, [], ◌∷◌, length, take, drop, get_or, sum_by, is_none, unwrap_or, Option, Some, None, if◌then◌else◌}
use Rattle.std.proofs.Common.{arith, refl, ap, sym, subst, ◌∙◌, inl, inr, add-one}
use Rattle.std.proofs.lemmas.Bool.{cases_eq, cases_Bool}
use Rattle.std.proofs.lemmas.List.{length-append, length-take, length-drop, take_more, take_all}
use Rattle.std.proofs.lemmas.List.Sums.{sum_by-cons, sum_by_more, sum_by-take-le}
use Rattle.xv_model.specs.Job.{Job, UnitOp, IsGoodJob, trace, operation, no_operation, guest_count, unit_count, size}
use Rattle.xv_model.specs.Guest.{Ended, ended, entry, no_entry, is_done, operation_at, content, part, read_bytes, reads}
use Rattle.xv_model.specs.View.{View, is_switched}
use Rattle.xv_model.specs.Invariant.{IsViewOf}
use Rattle.xv_job.specs.Written.{job_of}
use Rattle.xv_core.specs.Reads.{read_length, read_lengths}
use Rattle.xv_core.specs.State.{State, view, both_tell, IsRunning}
use Rattle.xv_model.proofs.Histories.{push, ended-push_same, ended-push_other, ended-take-le, bytes_read, reads-push_at}
use Rattle.xv_model.proofs.Contents.Sizes.{length-content}
use Rattle.xv_model.proofs.Bound.Guests.{tally}
use Rattle.xv_core.proofs.Keeping.Joined.{view-holds}
use Rattle.xv_core.proofs.Keeping.Calls.{guest-there}

-- sums over the guests
tally-le : (n : ℕ) (f h : ℕ → ℕ) → ((g : ℕ) → f g ≤ h g) → tally n f ≤ tally n h
tally-le zero f h le = omega arith
tally-le (suc n) f h le = omega (arith, le 0, tally-le n (λ g. f (suc g)) (λ g. h (suc g)) (λ g. le (suc g)))

tally-more : (n : ℕ) (f h : ℕ → ℕ) (i x : ℕ) → i < n → f i + x ≤ h i → ((g : ℕ) → f g ≤ h g) → tally n f + x ≤ tally n h
tally-more zero f h i x lt more le = absurd (omega arith)
tally-more (suc n) f h zero x lt more le = omega (arith, more, tally-le n (λ g. f (suc g)) (λ g. h (suc g)) (λ g. le (suc g)))
tally-more (suc n) f h (suc i) x lt more le = omega (arith, le 0, tally-more n (λ g. f (suc g)) (λ g. h (suc g)) i x (omega arith) more (λ g. le (suc g)))

tally-traces : (traces : List (List UnitOp)) → tally (length traces) (λ g. sum_by read_length (get_or traces g [])) ≡ sum_by (λ ops. sum_by read_length ops) traces
tally-traces [] = refl
tally-traces (ops ∷ traces) = omega (arith, tally-traces traces, sum_by-cons (λ (xs : List UnitOp). sum_by read_length xs) ops traces)

-- how many bytes a guest's ended operations read, were each one done
abbrev taken : Job → List Ended → ℕ → ℕ
taken job h g = sum_by read_length (take (ended h g) (trace job g))

abbrev all_of : Job → ℕ → ℕ
all_of job g = sum_by read_length (trace job g)

-- one entry more
taken-same : (job : Job) (h : List Ended) (e : Ended) → ended h e.guest.0 < length (trace job e.guest.0) → taken job (push h e) e.guest.0 ≡ taken job h e.guest.0 + read_length (operation job e.guest.0 (ended h e.guest.0))
taken-same job h e more =
    ap (λ (k : ℕ). sum_by read_length (take k (trace job e.guest.0))) (ended-push_same h e)
    ∙ sum_by_more read_length (trace job e.guest.0) (ended h e.guest.0) no_operation more

taken-rises : (job : Job) (h : List Ended) (e : Ended) (g : ℕ) → ended h e.guest.0 < length (trace job e.guest.0) → taken job h g ≤ taken job (push h e) g
taken-rises job h e g more = elim (cases_eq e.guest.0 g) [
  | inl same ↦ subst (λ (k : ℕ). taken job h k ≤ taken job (push h e) k) same (omega (arith, taken-same job h e more))
  | inr other ↦ omega (arith, ap (λ (k : ℕ). sum_by read_length (take k (trace job g))) (ended-push_other h e g other))
]

tally-entry : (job : Job) (h : List Ended) (e : Ended) → ended h e.guest.0 < length (trace job e.guest.0) → tally (guest_count job) (taken job h) + read_length (operation job e.guest.0 (ended h e.guest.0)) ≤ tally (guest_count job) (taken job (push h e))
tally-entry job h e more =
    tally-more (guest_count job) (taken job h) (taken job (push h e)) e.guest.0 (read_length (operation job e.guest.0 (ended h e.guest.0)))
    (guest-there job e.guest.0 (omega (arith, more))) (omega (arith, taken-same job h e more)) (λ g. taken-rises job h e g more)

-- what an entry reads is no longer than its operation says
read-within : (done none : Bool) (op : UnitOp) (bytes : List ℕ) → length (if done && none then part op bytes else []) ≤ (if none then op.len else 0)
read-within true true op bytes = omega (arith, length-take op.len (drop op.offset bytes))
read-within true false op bytes = omega arith
read-within false true op bytes = omega arith
read-within false false op bytes = omega arith

-- The reads of a beginning of a legal history are within what its operations read.
reads-within : (job : Job) (h : List Ended) (n : ℕ) → ((g : ℕ) → ended h g ≤ length (trace job g)) → n ≤ length h → length (reads job h n) ≤ tally (guest_count job) (taken job (take n h))
reads-within job h zero legal le = omega arith
reads-within job h (suc n) legal le =
    let e = entry h n in
    let op = operation_at job h n in
    let before = take n h in
    let next : take (suc n) h ≡ push before e = ap (λ (k : ℕ). take k h) (sym (add-one n)) ∙ take_more h n no_entry le in
    let more : ended before e.guest.0 < length (trace job e.guest.0) = omega (arith, ended-push_same before e, ap (λ (x : List Ended). ended x e.guest.0) next, ended-take-le h (suc n) e.guest.0, legal e.guest.0) in
    let grown : tally (guest_count job) (taken job before) + read_length op ≤ tally (guest_count job) (taken job (take (suc n) h)) = subst (λ (x : List Ended). tally (guest_count job) (taken job before) + read_length op ≤ tally (guest_count job) (taken job x)) (sym next) (tally-entry job before e more) in
    omega (arith, length-append (reads job h n) (read_bytes job h n), reads-within job h n legal (omega arith), read-within (is_done e.outcome) (is_none op.write) op (content job h op.unit.0 n), grown)

abbrev pub LegalHistory : Job → List Ended → Type 0
LegalHistory job h = (g : ℕ) → ended h g ≤ length (trace job g)

all-within : (job : Job) (h : List Ended) → LegalHistory job h → length (reads job h (length h)) ≤ tally (guest_count job) (taken job h)
all-within job h legal = subst (λ (x : List Ended). length (reads job h (length h)) ≤ tally (guest_count job) (taken job x)) (take_all (length h) h (omega arith)) (reads-within job h (length h) legal (omega arith))

pub reads-fit : (job : Job) (h : List Ended) → LegalHistory job h → length (reads job h (length h)) ≤ read_lengths job
reads-fit job h legal =
    omega (arith, all-within job h legal, tally-le (guest_count job) (taken job h) (all_of job) (λ g. sum_by-take-le read_length (trace job g) (ended h g)), tally-traces job.traces)

-- The same of a running migration.
pub running-reads-fit : (s : State) → IsRunning s → length (reads (job_of s.job) (view s).history (length (view s).history)) ≤ read_lengths (job_of s.job)
running-reads-fit s r = reads-fit (job_of s.job) (view s).history (view-holds s r).history.legal

-- How many bytes an entry more adds to the reads: those of its operation, where that was done.
part-length : (op : UnitOp) (bytes : List ℕ) → op.offset + op.len ≤ length bytes → length (part op bytes) ≡ op.len
part-length op bytes fits = omega (arith, length-take op.len (drop op.offset bytes), length-drop op.offset bytes)

bytes-length : (done none : Bool) (op : UnitOp) (bytes : List ℕ) → op.offset + op.len ≤ length bytes → length (if done && none then part op bytes else []) ≡ (if done then (if none then op.len else 0) else 0)
bytes-length true true op bytes fits = part-length op bytes fits
bytes-length true false op bytes fits = refl
bytes-length false true op bytes fits = refl
bytes-length false false op bytes fits = refl

pub length-reads-push : (job : Job) (h : List Ended) (e : Ended) → IsGoodJob job → LegalHistory job h → ended h e.guest.0 < length (trace job e.guest.0) → length (reads job (push h e) (length h + 1)) ≡ length (reads job h (length h)) + (if is_done e.outcome then read_length (operation job e.guest.0 (ended h e.guest.0)) else 0)
length-reads-push job h e good legal more =
    let op = operation job e.guest.0 (ended h e.guest.0) in
    let is = good.legal e.guest.0 (ended h e.guest.0) more in
    let whole : length (content job h op.unit.0 (length h)) ≡ size job.shape op.unit.0 = length-content job h op.unit.0 (length h) good legal (omega arith) in
    let bytes = bytes_read (is_done e.outcome) op (λ u. content job h u (length h)) in
    let added : length bytes ≡ (if is_done e.outcome then read_length op else 0) = bytes-length (is_done e.outcome) (is_none op.write) op (content job h op.unit.0 (length h)) (omega (arith, is.in_unit, whole)) in
    omega (arith, ap (λ (bs : List ℕ). length bs) (reads-push_at job h e), length-append (reads job h (length h)) bytes, added)

-- Each unit's content has the unit's size on the source.
stun-within : (job : Job) (v : View) (stun : Option ℕ) → IsViewOf job v → v.stun ≡ stun → unwrap_or stun 0 ≤ length v.history
stun-within job v None inv e = omega arith
stun-within job v (Some n) inv e = omega (arith, inv.history.at_mark n e, inv.history.mark_within)

pub source-whole : (s : State) (unit : ℕ) → IsRunning s → both_tell s ≡ true → unit < unit_count (job_of s.job) → length (get_or (unwrap_or s.source.told.contents []) unit []) ≡ size (job_of s.job).shape unit
source-whole s unit r both there =
    let job = job_of s.job in
    let v = view s in
    let inv = view-holds s r in
    let holds = r.contents both in
    let sized = λ (n : ℕ) (le : n ≤ length v.history). length-content job v.history unit n r.good inv.history.legal le in
    elim (cases_Bool (is_switched v.phase)) [
      | inl on ↦ ap (λ (bytes : List ℕ). length bytes) (holds.source_switched unit there on) ∙ sized (unwrap_or v.stun 0) (stun-within job v v.stun inv refl)
      | inr off ↦ ap (λ (bytes : List ℕ). length bytes) (holds.source_is unit there off) ∙ sized (length v.history) (omega arith)
    ]
