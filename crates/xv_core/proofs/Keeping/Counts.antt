-- How far the numbers of a run rise: the versions of a unit no faster than the journal, the rounds and the history within
-- the job's limits.
use Rattle.std.specs.Prelude.{◌≡◌, ◌≤◌, ◌<◌, ℕ, zero, suc, ◌+◌, ◌-◌, ◌^◌, Bool, true, false, List, [], ◌∷◌, length, set, replicate, if◌then◌else◌}
use Rattle.std.specs.List.{list_all}
use Rattle.std.proofs.Common.{arith, refl, ap, subst, inl, inr}
use Rattle.std.proofs.lemmas.Bool.{cases_eq, and_parts}
use Rattle.std.proofs.lemmas.List.{get_or-set_other}
use Rattle.xv_base.proofs.Within.{good_within}
use Rattle.xv_model.specs.Job.{Job, IsGoodJob, unit_count, operation_count}
use Rattle.xv_model.specs.View.{View, Outbox, number, first_view, disk, front, least, is_running}
use Rattle.xv_model.specs.Wait.{Event, Aim, Alone, Store, Join, Mirror, fits, next_operation, next_aim}
use Rattle.xv_model.specs.Effect.{made, made_run, guest_by, cursor_unit}
use Rattle.xv_model.specs.Guest.{Ended}
use Rattle.xv_model.specs.Step.{Entry, step, turn, after, run, is_flagged, is_wait}
use Rattle.xv_model.specs.Invariant.{IsViewOf}
use Rattle.xv_model.specs.Work.{bound}
use Rattle.xv_job.specs.Written.{job_of}
use Rattle.xv_source.specs.Step.{HasFewVersions}
use Rattle.xv_core.specs.State.{State, view, IsRunning}
use Rattle.xv_model.proofs.Bags.{issued-run-other}
use Rattle.xv_model.proofs.Steps.{EffectsKeep, step_keeps}
use Rattle.xv_model.proofs.Bound.Guests.{waiting-fits}
use Rattle.xv_model.proofs.Bound.Runs.{step-lowers, run-within}
use Rattle.xv_core.proofs.Keeping.Joined.{shows, view-holds}

-- a message that is made raises one unit's number by one
bumped : (issued : List ℕ) (unit k : ℕ) → number (set issued unit (number issued unit + 1)) k ≤ number issued k + 1
bumped [] unit k = omega arith
bumped (n ∷ issued) zero zero = omega arith
bumped (n ∷ issued) zero (suc k) = omega arith
bumped (n ∷ issued) (suc unit) zero = omega arith
bumped (n ∷ issued) (suc unit) (suc k) = bumped issued unit k

made-rises : (box : Outbox) (unit at k : ℕ) → number (made box unit at).issued k ≤ number box.issued k + 1
made-rises box unit at k = bumped box.issued unit k

made_if-rises : (b : Bool) (box : Outbox) (unit at k : ℕ) → number (if b then made box unit at else box).issued k ≤ number box.issued k + 1
made_if-rises true box unit at k = made-rises box unit at k
made_if-rises false box unit at k = omega arith

-- the messages of a region are of distinct units
run-rises : (box : Outbox) (unit at n k : ℕ) → number (made_run box unit at n).issued k ≤ number box.issued k + 1
run-rises box unit at zero k = omega arith
run-rises box unit at (suc n) k = elim (cases_eq k (unit + n)) [
  | inl same ↦
      let before : number (made_run box unit at n).issued k ≡ number box.issued k = issued-run-other box unit at n k (inr (omega arith)) in
      omega (arith, made-rises (made_run box unit at n) (unit + n) at k)
  | inr other ↦
      let kept : number (made_run box unit at (suc n)).issued k ≡ number (made_run box unit at n).issued k = get_or-set_other (made_run box unit at n).issued (unit + n) k (number (made_run box unit at n).issued (unit + n) + 1) 0 other in
      omega (arith, run-rises box unit at n k)
]

guest-rises : (job : Job) (v : View) (g : ℕ) (a : Aim) (k : ℕ) → number (guest_by job v g (next_operation job v g) a).outbox.issued k ≤ number v.outbox.issued k + 1
guest-rises job v g Alone k = omega arith
guest-rises job v g Store k = omega arith
guest-rises job v g Join k = omega arith
guest-rises job v g Mirror k = made-rises v.outbox (next_operation job v g).unit.0 (length v.history + 1) k

effects-rise : (job : Job) (v : View) (k : ℕ) → EffectsKeep (λ (w : View). number w.outbox.issued k ≤ number v.outbox.issued k + 1) job v
effects-rise job v k =
    let same : number v.outbox.issued k ≤ number v.outbox.issued k + 1 = omega arith in
    record {
      guest = λ g there goes. guest-rises job v g (next_aim job v g) k;
      guest_fault = λ g there goes. same;
      begin = λ d there goes. same;
      read = λ d there goes. same;
      advance = λ d there goes. run-rises v.outbox (cursor_unit job v d) (length v.history) (disk v d).region k;
      release = λ d there goes. made_if-rises (is_running v.phase) v.outbox (front (disk v d)).unit.0 (length v.history + 1) k;
      release_fault = λ d there goes. same;
      round = λ goes. same;
      page = λ goes. made-rises v.outbox (least v.to_send) (length v.history) k;
      send = λ s there goes. same;
      deliver = λ s there goes. same;
      apply = λ goes. same;
      ack = λ goes. same;
      credit = λ goes. same;
      stun = λ goes. same;
      switch = λ goes. same;
      cancel = λ goes. same;
      fail = λ live. same;
    }

step-rises : (job : Job) (v : View) (e : Event) (flag : Bool) (k : ℕ) → fits job e ≡ true → number (step job v e flag).outbox.issued k ≤ number v.outbox.issued k + 1
step-rises job v e flag k fit = step_keeps (λ (w : View). number w.outbox.issued k ≤ number v.outbox.issued k + 1) job v e flag fit (omega arith) (effects-rise job v k)

after-rises : (job : Job) (v : View) (journal : List Entry) (k : ℕ) → list_all (λ (e : Entry). fits job e.event) journal ≡ true → number (after job v journal).outbox.issued k ≤ number v.outbox.issued k + length journal
after-rises job v [] k fit = omega arith
after-rises job v (e ∷ es) k fit =
    let both = and_parts (fits job e.event) (list_all (λ (x : Entry). fits job x.event) es) fit in
    let next = step job v e.event (is_flagged e.turn) in
    omega (arith, after-rises job next es k both.1, step-rises job v e.event (is_flagged e.turn) k both.0)

number-none : (n k : ℕ) → number (replicate n 0) k ≡ 0
number-none zero k = refl
number-none (suc n) zero = refl
number-none (suc n) (suc k) = number-none n k

-- Each unit has at most as many versions as the journal has entries.
pub versions-within : (job : Job) (journal : List Entry) (unit : ℕ) → list_all (λ (e : Entry). fits job e.event) journal ≡ true → number (run job journal).outbox.issued unit ≤ length journal
versions-within job journal unit fit = omega (arith, after-rises job (first_view job) journal unit fit, number-none (unit_count job) unit)

-- The journal is short.
pub bound-small : (job : Job) → IsGoodJob job → bound job ≤ 16777296
bound-small job good =
    let units = (good_within job.shape good.machine).few_units in
    let most : 2 ^ 20 ≡ 1048576 = refl in
    omega (arith, good.operations, good.same_units)

pub journal-short : (s : State) → IsRunning s → length s.journal ≤ bound (job_of s.job)
journal-short s r = omega (arith, run-within (job_of s.job) s.journal r.good r.fitting r.is_run)

pub few-versions : (s : State) → IsRunning s → HasFewVersions s.source
few-versions s r unit =
    let within : number s.source.issued unit ≤ length s.journal = subst (λ (issued : List ℕ). number issued unit ≤ length s.journal) (shows s r).issued (versions-within (job_of s.job) s.journal unit r.fitting) in
    omega (arith, within, journal-short s r, bound-small (job_of s.job) r.good)

-- The rounds and the history are within the job's numbers.
pub rounds-within : (job : Job) (v : View) → IsGoodJob job → IsViewOf job v → v.rounds ≤ 2097216
rounds-within job v good inv =
    let units = (good_within job.shape good.machine).few_units in
    let most : 2 ^ 20 ≡ 1048576 = refl in
    let history = waiting-fits job v inv in
    elim good.formats [
      | inl one ↦ omega (arith, inv.rounds.limited one.0, good.rounds.1)
      | inr two ↦ omega (arith, inv.rounds.limited_beside two.0, good.rounds.1, good.operations, history, good.same_units)
    ]

pub few-rounds : (s : State) → IsRunning s → s.source.rounds < 2 ^ 32 - 1
few-rounds s r = omega (arith, (shows s r).rounds, rounds-within (job_of s.job) (view s) r.good (view-holds s r))

pub history-within : (s : State) → IsRunning s → length s.history ≤ operation_count (job_of s.job)
history-within s r = omega (arith, ap (λ (h : List Ended). length h) (shows s r).history, waiting-fits (job_of s.job) (view s) (view-holds s r))

-- There is room for the next entry of the journal, and for the next one of the history.
pub journal-has-room : (s : State) (e : Event) (flag : Bool) → IsRunning s → fits (job_of s.job) e ≡ true → is_wait (turn (job_of s.job) (view s) e flag) ≡ false → length s.journal + 1 ≤ bound (job_of s.job)
journal-has-room s e flag r fit goes =
    let job = job_of s.job in
    omega (arith, run-within job s.journal r.good r.fitting r.is_run, step-lowers job (view s) e flag r.good fit (view-holds s r) goes)
