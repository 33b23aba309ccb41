-- Every driven run ends, finished, within the bound.
use Rattle.std.proofs.Common.{◌≡◌, ◌⊎◌, ◌≤◌, ℕ, zero, suc, ◌+◌, ◌==◌, ◌&&◌, not, Bool, true, false, if◌then◌else◌, List, [], ◌∷◌, ◌++◌, length, Option, Some, None, refl, sym, ap, subst, ◌∙◌, inl, inr, append-nil, arith}
use Rattle.std.specs.List.{list_all}
use Rattle.std.proofs.lemmas.Bool.{cases_Bool, and_parts, and_from, eq-eqb}
use Rattle.xv_base.specs.declared.event.Event.TheVariants.{Guest, Begin, Read, Advance, Release, Round, Page, Send, Deliver, Apply, Ack, Credit, Stun, Switch, Cancel}
use Rattle.xv_base.specs.declared.answer.Turn.TheVariants.{Queued}
use Rattle.xv_base.specs.declared.answer.Why.TheVariants.{NotNow, NothingThere}
use Rattle.xv_model.specs.Job.{Job, IsGoodJob}
use Rattle.xv_model.specs.View.{View, first_view, is_live, is_empty, stream}
use Rattle.xv_model.specs.Wait.{Event, Why, wait, unless, fits, is_join, next_aim}
use Rattle.xv_model.specs.Effect.{Turn, note, answer, fault_answer}
use Rattle.xv_model.specs.Step.{Entry, Call, step, turn, turn_by, breaks, call, is_call, is_wait, is_flagged, same_turn, same_truth, is_planned, flag, flag_by, after, is_run_from, is_faithful_from}
use Rattle.xv_model.specs.Driver.{driven, driven_from, driven_view, driven_call, driven_entry}
use Rattle.xv_model.specs.Work.{bound, work_left, is_finished}
use Rattle.xv_model.specs.Invariant.{IsViewOf}
use Rattle.xv_model.proofs.GoesOn.{unless-none}
use Rattle.xv_model.proofs.First.{first_view-holds}
use Rattle.xv_model.proofs.Kept.{step-holds}
use Rattle.xv_model.proofs.Drivers.{driver_finds}
use Rattle.xv_model.proofs.Finished.{driver_none}
use Rattle.xv_model.proofs.Bound.Runs.{step-lowers, first-within, run-within}

-- an answer that is no wait, and says whether the call failed
pub record Tells (t : Turn) (failed : Bool) : Type 0 where
  pub flagged : is_flagged t ≡ failed
  pub goes : is_wait t ≡ false
  pub same : same_turn t t ≡ true

tells-note : (a b : ℕ) → Tells (note a b) false
tells-note a b = record { flagged = refl; goes = refl; same = and_from (a == a) (b == b) (eq-eqb a a refl) (eq-eqb b b refl) }

tells-if : (c failed : Bool) (s t : Turn) → Tells s failed → Tells t failed → Tells (if c then s else t) failed
tells-if true failed s t h k = h
tells-if false failed s t h k = k

pub tells-answer : (job : Job) (v : View) (e : Event) → Tells (answer job v e) false
tells-answer job v (Guest g) = tells-if (is_join (next_aim job v g.0)) false Queued _ (record { flagged = refl; goes = refl; same = refl }) (tells-note _ _)
tells-answer job v (Begin d) = tells-note _ _
tells-answer job v (Read d) = tells-note _ _
tells-answer job v (Advance d) = tells-note _ _
tells-answer job v (Release d) = tells-note _ _
tells-answer job v Round = tells-note _ _
tells-answer job v Page = tells-note _ _
tells-answer job v (Send s) = tells-if (job.format == 1) false _ _ (tells-note _ _) (tells-note _ _)
tells-answer job v (Deliver s) = tells-if (job.format == 1) false _ _ (tells-note _ _) (tells-note _ _)
tells-answer job v Apply = tells-note _ _
tells-answer job v Ack = tells-note _ _
tells-answer job v Credit = tells-note _ _
tells-answer job v Stun = tells-note _ _
tells-answer job v Switch = tells-note _ _
tells-answer job v Cancel = tells-note _ _

tells-fault : (e : Event) → Tells (fault_answer e) true
tells-fault (Guest g) = record { flagged = refl; goes = refl; same = refl }
tells-fault (Release d) = record { flagged = refl; goes = refl; same = refl }
tells-fault (Begin d) = record { flagged = refl; goes = refl; same = refl }
tells-fault (Advance d) = record { flagged = refl; goes = refl; same = refl }
tells-fault Round = record { flagged = refl; goes = refl; same = refl }
tells-fault Stun = record { flagged = refl; goes = refl; same = refl }
tells-fault Cancel = record { flagged = refl; goes = refl; same = refl }
tells-fault (Read d) = record { flagged = refl; goes = refl; same = refl }
tells-fault Page = record { flagged = refl; goes = refl; same = refl }
tells-fault (Send s) = record { flagged = refl; goes = refl; same = eq-eqb s s refl }
tells-fault (Deliver s) = record { flagged = refl; goes = refl; same = eq-eqb s s refl }
tells-fault Apply = record { flagged = refl; goes = refl; same = refl }
tells-fault Ack = record { flagged = refl; goes = refl; same = refl }
tells-fault Credit = record { flagged = refl; goes = refl; same = refl }
tells-fault Switch = record { flagged = refl; goes = refl; same = refl }

tells-by : (why : Option Why) (broken : Bool) (job : Job) (v : View) (e : Event) → why ≡ None → Tells (turn_by why broken job v e) broken
tells-by (Some why) broken job v e h = absurd (cc)
tells-by None false job v e h = tells-answer job v e
tells-by None true job v e h = tells-fault e

-- what goes on goes on where its call fails
goes_flagged : (job : Job) (v : View) (e : Event) → wait job v e false ≡ None → wait job v e true ≡ None
goes_flagged job v (Guest g) h = h
goes_flagged job v (Begin d) h = h
goes_flagged job v (Read d) h = h
goes_flagged job v (Advance d) h = h
goes_flagged job v (Release d) h = h
goes_flagged job v Round h = h
goes_flagged job v Page h = h
goes_flagged job v (Send s) h = h
goes_flagged job v (Deliver s) h = rw (unless-none (not (is_live v.phase)) NotNow (unless (is_empty (stream v s)) NothingThere None) h).0 refl
goes_flagged job v Apply h = h
goes_flagged job v Ack h = h
goes_flagged job v Credit h = rw (unless-none (not (is_live v.phase)) NotNow (unless (is_empty v.acks) NothingThere None) h).0 refl
goes_flagged job v Stun h = h
goes_flagged job v Switch h = h
goes_flagged job v Cancel h = h

goes_either : (job : Job) (v : View) (e : Event) (flag : Bool) → wait job v e false ≡ None → wait job v e flag ≡ None
goes_either job v e false h = h
goes_either job v e true h = goes_flagged job v e h

-- the driver's flag says whether the call is planned to fail, and an event with no call has none
breaks-planned : (flag c : Bool) → (flag ≡ true → c ≡ true) → (flag && c) ≡ flag
breaks-planned true c h = h refl
breaks-planned false c h = refl

pub driven-flag : (job : Job) (v : View) (calls : List Call) (e : Event) → wait job v e false ≡ None → flag job v calls e ≡ is_planned job.faults calls (call job v e)
driven-flag job v calls e acts = ap (λ (w : Option Why). flag_by w job v calls e) acts

pub driven-tells : (job : Job) (v : View) (calls : List Call) (e : Event) → wait job v e false ≡ None → Tells (turn job v e (flag job v calls e)) (flag job v calls e)
driven-tells job v calls e acts =
    let f = flag job v calls e in
    let has_call : f ≡ true → is_call (call job v e) ≡ true = λ h. (and_parts (is_call (call job v e)) _ (sym (driven-flag job v calls e acts) ∙ h)).0 in
    subst (Tells (turn job v e f)) (breaks-planned f (is_call (call job v e)) has_call) (tells-by (wait job v e f) (breaks job v e f) job v e (goes_either job v e f acts))

pub same_truth-same : (a b : Bool) → a ≡ b → same_truth a b ≡ true
same_truth-same true b e = sym e
same_truth-same false b e = ap not (sym e)

-- entries that drive a view to its end
pub record Drives (job : Job) (v : View) (calls : List Call) (entries : List Entry) : Type 0 where
  pub fitting : list_all (λ (e : Entry). fits job e.event) entries ≡ true
  pub runs : is_run_from job v entries ≡ true
  pub faithful : is_faithful_from job v calls entries ≡ true
  pub finished : is_finished job (after job v entries) ≡ true

drives-one : (job : Job) (v : View) (calls : List Call) (e : Event) (t : Turn) (failed : Bool) (rest : List Entry) → fits job e ≡ true → Tells t failed → t ≡ turn job v e failed → failed ≡ is_planned job.faults calls (call job v e) →
    Drives job (step job v e failed) (calls ++ call job v e ∷ []) rest → Drives job v calls (record { event = e; turn = t } ∷ rest)
drives-one job v calls e t failed rest fit tells is planned later = record {
  fitting = and_from (fits job e) (list_all (λ (x : Entry). fits job x.event) rest) fit later.fitting;
  runs =
      subst (λ (f : Bool). same_turn t (turn job v e f) && is_run_from job (step job v e f) rest ≡ true) (sym tells.flagged)
      (and_from (same_turn t (turn job v e failed)) (is_run_from job (step job v e failed) rest) (subst (λ (u : Turn). same_turn t u ≡ true) is tells.same) later.runs);
  faithful =
      subst (λ (f : Bool). same_truth f (is_planned job.faults calls (call job v e)) && is_faithful_from job (step job v e f) (calls ++ call job v e ∷ []) rest ≡ true) (sym tells.flagged)
      (and_from (same_truth failed (is_planned job.faults calls (call job v e))) (is_faithful_from job (step job v e failed) (calls ++ call job v e ∷ []) rest) (same_truth-same failed _ planned) later.faithful);
  finished = subst (λ (f : Bool). is_finished job (after job (step job v e f) rest) ≡ true) (sym tells.flagged) later.finished;
}

-- with no work left the run is finished
no_work : (job : Job) (v : View) → IsGoodJob job → IsViewOf job v → work_left job v ≤ 0 → is_finished job v ≡ false → ⊥
no_work job v good i none unfinished =
    let f = driver_finds job v 0 good i unfinished in
    let less = step-lowers job v f.event false good f.fitting i (tells-by (wait job v f.event false) (breaks job v f.event false) job v f.event f.acts).goes in
    omega (arith, none, less)

drives : (job : Job) (v : View) (calls : List Call) (n steps : ℕ) → IsGoodJob job → IsViewOf job v → (is_finished job v ≡ true) ⊎ (work_left job v ≤ steps) → Drives job v calls (driven_from job v calls n steps)
drives job v calls n zero good i h = record {
  fitting = refl;
  runs = refl;
  faithful = refl;
  finished = elim (cases_Bool (is_finished job v)) [
    | inl done ↦ done
    | inr not_done ↦ elim h [ inl done ↦ done | inr none ↦ absurd (no_work job v good i none not_done) ]
  ];
}
drives job v calls n (suc steps) good i h = elim (cases_Bool (is_finished job v)) [
  | inl done ↦
      subst (λ (o : Option Event). Drives job v calls (driven_entry o job v calls ++ driven_from job (driven_view o job v calls) (calls ++ driven_call o job v) (n + 1) steps)) (sym (driver_none job v n done))
      (subst (λ (cs : List Call). Drives job v calls (driven_from job v cs (n + 1) steps)) (sym (append-nil calls)) (drives job v calls (n + 1) steps good i (inl done)))
  | inr not_done ↦
      let f = driver_finds job v n good i not_done in
      let failed = flag job v calls f.event in
      let tells = driven-tells job v calls f.event f.acts in
      let next = step job v f.event failed in
      let less = step-lowers job v f.event failed good f.fitting i tells.goes in
      let within : work_left job next ≤ steps = elim h [ inl done ↦ absurd (cc) | inr le ↦ omega (arith, le, less) ] in
      let rest = drives job next (calls ++ call job v f.event ∷ []) (n + 1) steps good (step-holds job v f.event failed good f.fitting i) (inr within) in
      subst (λ (o : Option Event). Drives job v calls (driven_entry o job v calls ++ driven_from job (driven_view o job v calls) (calls ++ driven_call o job v) (n + 1) steps)) (sym f.is)
      (drives-one job v calls f.event (turn job v f.event failed) failed _ f.fitting tells refl (driven-flag job v calls f.event f.acts) rest)
]

pub driven-ends : (job : Job) → IsGoodJob job → Drives job (first_view job) [] (driven job)
driven-ends job good = drives job (first_view job) [] 0 (bound job) good (first_view-holds job good) (inr (first-within job good))

pub driven-within : (job : Job) → IsGoodJob job → length (driven job) ≤ bound job
driven-within job good = let d = driven-ends job good in omega (arith, run-within job (driven job) good d.fitting d.runs)
