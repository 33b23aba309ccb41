-- The numbers of progress of a run, and the rest of its entries, make up its journal.
use Rattle.std.proofs.Common.{◌≡◌, ℕ, ◌+◌, ◌*◌, ◌≤◌, ◌==◌, ◌||◌, Bool, true, false, if◌then◌else◌, List, [], ◌∷◌, length, replicate, sum, refl, subst, sym, arith}
use Rattle.std.specs.List.{list_all}
use Rattle.std.proofs.lemmas.Bool.{and_parts}
use Rattle.std.proofs.lemmas.List.Sums.{sum_by-cons}
use Rattle.std.proofs.lemmas.List.Folds.{sum_by-replicate}
use Rattle.xv_base.specs.declared.event.Event.TheVariants.{Guest, Release, Apply}
use Rattle.xv_model.specs.Job.{Job, IsGoodJob, unit_count}
use Rattle.xv_model.specs.View.{View, first_view}
use Rattle.xv_model.specs.Wait.{Event, fits}
use Rattle.xv_model.specs.Effect.{Turn}
use Rattle.xv_model.specs.Step.{Entry, step, turn, after, run, is_flagged, same_turn, is_run, is_run_from}
use Rattle.xv_model.specs.Invariant.{IsViewOf}
use Rattle.xv_model.specs.Growth.{applied, ends, applies, happened, is_fault, is_rest, rest}
use Rattle.xv_model.proofs.First.{first_view-holds}
use Rattle.xv_model.proofs.Kept.{step-holds}
use Rattle.xv_model.proofs.Journal.Ways.{went_on}
use Rattle.xv_model.proofs.Growth.Numbers.{history-grows, applied-grows}

-- each entry is of one of three kinds
abbrev kinds : Event → Turn → ℕ
kinds e t = ends e t + applies e t + (if ends e t + applies e t == 0 then 1 else 0)

first_kind : (b : Bool) → (if b then 1 else 0) + 0 + (if (if b then 1 else 0) + 0 == 0 then 1 else 0) ≡ 1
first_kind true = refl
first_kind false = refl

second_kind : (b : Bool) → 0 + (if b then 1 else 0) + (if 0 + (if b then 1 else 0) == 0 then 1 else 0) ≡ 1
second_kind true = refl
second_kind false = refl

one_kind : (e : Event) (t : Turn) → kinds e t ≡ 1
one_kind (Guest g) t = first_kind (happened t || is_fault t)
one_kind (Release d) t = first_kind (happened t || is_fault t)
one_kind Apply t = second_kind (happened t)
one_kind e t = refl

parts-from : (job : Job) (v : View) (journal : List Entry) → IsGoodJob job → list_all (λ (e : Entry). fits job e.event) journal ≡ true → IsViewOf job v → is_run_from job v journal ≡ true →
    length v.history + applied v + length journal ≡ length (after job v journal).history + applied (after job v journal) + rest journal
parts-from job v [] good f i r = refl
parts-from job v (e ∷ es) good f i r =
    let flag = is_flagged e.turn in
    let next = step job v e.event flag in
    let fit = and_parts (fits job e.event) (list_all (λ (x : Entry). fits job x.event) es) f in
    let runs = and_parts (same_turn e.turn (turn job v e.event flag)) (is_run_from job next es) r in
    let is = (went_on job v e runs.0).answer_is in
    let history = subst (λ (t : Turn). length next.history ≡ length v.history + ends e.event t) (sym is) (history-grows job v e.event flag) in
    let messages = subst (λ (t : Turn). applied next ≡ applied v + applies e.event t) (sym is) (applied-grows job v e.event flag i) in
    omega (
      arith,
      history,
      messages,
      one_kind e.event e.turn,
      parts-from job next es good fit.1 (step-holds job v e.event flag good fit.0 i) runs.1,
      sum_by-cons (λ (x : Entry). if is_rest x then 1 else 0) e es,
    )

pub run-parts : (job : Job) (journal : List Entry) → IsGoodJob job → list_all (λ (e : Entry). fits job e.event) journal ≡ true → is_run job journal ≡ true →
    length journal ≡ length (run job journal).history + applied (run job journal) + rest journal
run-parts job journal good f r =
    let none : sum (replicate (unit_count job) 0) ≡ unit_count job * 0 = sum_by-replicate (λ (x : ℕ). x) (unit_count job) 0 in
    omega (arith, none, parts-from job (first_view job) journal good f (first_view-holds job good) r)

pub run-numbers_within : (job : Job) (journal : List Entry) → IsGoodJob job → list_all (λ (e : Entry). fits job e.event) journal ≡ true → is_run job journal ≡ true →
    length (run job journal).history + applied (run job journal) ≤ length journal
run-numbers_within job journal good f r = omega (arith, run-parts job journal good f r)
