-- No entry of a run waits; and how long a run's journal is.
use Rattle.std.proofs.Common.{◌≡◌, ℕ, ◌+◌, ◌<◌, ◌≤◌, ◌^◌, ◌&&◌, not, Bool, true, false, if◌then◌else◌, List, [], ◌∷◌, length, refl, arith}
use Rattle.std.specs.List.{list_all}
use Rattle.std.proofs.lemmas.Bool.{and_parts}
use Rattle.std.proofs.lemmas.List.Sums.{sum_by-cons}
use Rattle.xv_base.specs.declared.event.Event.TheVariants.{Guest}
use Rattle.xv_base.proofs.Within.{good_within}
use Rattle.xv_model.specs.Job.{Job, IsGoodJob, UnitOp}
use Rattle.xv_model.specs.View.{View, first_view}
use Rattle.xv_model.specs.Wait.{Event, Aim, Alone, Store, Join, Mirror, fits, next_operation, next_aim}
use Rattle.xv_model.specs.Effect.{Turn, answer, fault_answer, guest_answer}
use Rattle.xv_model.specs.Step.{Entry, step, turn, is_flagged, same_turn, is_run, is_run_from}
use Rattle.xv_model.specs.Work.{bound}
use Rattle.xv_model.specs.Growth.{happened, is_queued, is_fault}
use Rattle.xv_model.specs.Journal.{is_guest, guest_entries, other_entries}
use Rattle.xv_model.proofs.Bound.Runs.{run-within}
use Rattle.xv_model.proofs.Journal.Ways.{entry_ways}

-- what counts
abbrev bit : Bool → ℕ
bit b = if b then 1 else 0

-- in how many of the four kinds an entry is
abbrev kinds : Event → Turn → ℕ
kinds e t = bit (is_guest e && happened t) + bit (is_guest e && is_queued t) + bit (is_guest e && is_fault t) + bit (not (is_guest e))

guest_kinds : (e : Event) (op : UnitOp) (a : Aim) → is_guest e ≡ true → kinds e (guest_answer op a) ≡ 1
guest_kinds e op Alone h = rw h refl
guest_kinds e op Store h = rw h refl
guest_kinds e op Join h = rw h refl
guest_kinds e op Mirror h = rw h refl

other_kinds : (e : Event) (t : Turn) → is_guest e ≡ false → kinds e t ≡ 1
other_kinds e t h = rw h refl

goes_kinds : (job : Job) (v : View) (e : Event) → kinds e (answer job v e) ≡ 1
goes_kinds job v (Guest g) = guest_kinds (Guest g) (next_operation job v g.0) (next_aim job v g.0) refl
goes_kinds job v e = other_kinds e (answer job v e) refl

fails_kinds : (e : Event) → kinds e (fault_answer e) ≡ 1
fails_kinds (Guest g) = refl
fails_kinds e = other_kinds e (fault_answer e) refl

one_kind : (job : Job) (v : View) (e : Entry) → same_turn e.turn (turn job v e.event (is_flagged e.turn)) ≡ true → kinds e.event e.turn ≡ 1
one_kind job v e h = entry_ways (λ w t. kinds e.event t ≡ 1) job v e h (λ w b. goes_kinds job v e.event) (λ w b. fails_kinds e.event)

kinds-from : (job : Job) (v : View) (journal : List Entry) → is_run_from job v journal ≡ true →
    length journal ≡ guest_entries happened journal + guest_entries is_queued journal + guest_entries is_fault journal + other_entries journal
kinds-from job v [] r = refl
kinds-from job v (e ∷ es) r =
    let next = step job v e.event (is_flagged e.turn) in
    let runs = and_parts (same_turn e.turn (turn job v e.event (is_flagged e.turn))) (is_run_from job next es) r in
    omega (
      arith,
      one_kind job v e runs.0,
      kinds-from job next es runs.1,
      sum_by-cons (λ (x : Entry). bit (is_guest x.event && happened x.turn)) e es,
      sum_by-cons (λ (x : Entry). bit (is_guest x.event && is_queued x.turn)) e es,
      sum_by-cons (λ (x : Entry). bit (is_guest x.event && is_fault x.turn)) e es,
      sum_by-cons (λ (x : Entry). bit (not (is_guest x.event))) e es,
    )

pub run-kinds : (job : Job) (journal : List Entry) → is_run job journal ≡ true →
    length journal ≡ guest_entries happened journal + guest_entries is_queued journal + guest_entries is_fault journal + other_entries journal
run-kinds job journal r = kinds-from job (first_view job) journal r

-- how long a journal is
pub journal-within : (job : Job) (journal : List Entry) → IsGoodJob job → list_all (λ (e : Entry). fits job e.event) journal ≡ true → is_run job journal ≡ true → length journal ≤ bound job
journal-within job journal good f r = omega (arith, run-within job journal good f r)

pub journal-small : (job : Job) (journal : List Entry) → IsGoodJob job → list_all (λ (e : Entry). fits job e.event) journal ≡ true → is_run job journal ≡ true → length journal < 2 ^ 32
journal-small job journal good f r =
    let few = (good_within job.shape good.machine).few_units in
    omega (arith, journal-within job journal good f r, few, good.same_units, good.operations)
