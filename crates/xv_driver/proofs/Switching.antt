-- A job without a cancel number and without planned faults is neither cancelled nor fails, and so is switched over where it ends.
use Rattle.std.specs.Prelude.{◌≡◌, ℕ, ◌&&◌, not, Bool, true, false, List, [], ◌∷◌, ◌++◌, length, Option, Some, None}
use Rattle.std.proofs.Common.{refl}
use Rattle.std.proofs.lemmas.Bool.{and_parts}
use Rattle.xv_base.specs.declared.event.Event.TheVariants.{Guest, Begin, Read, Advance, Release, Round, Page, Send, Deliver, Apply, Ack, Credit, Stun, Switch, Cancel}
use Rattle.xv_base.specs.declared.event.Phase.TheVariants.{Running, Stunned, Switched, Cancelled, Failed}
use Rattle.xv_base.specs.declared.answer.Why.TheVariants.{NotNow}
use Rattle.xv_model.specs.Job.{Job, Fault}
use Rattle.xv_model.specs.View.{View, Phase, first_view, queues_empty, is_live}
use Rattle.xv_model.specs.Wait.{Event, Why, wait, unless, reaches}
use Rattle.xv_model.specs.Effect.{effect}
use Rattle.xv_model.specs.Step.{Entry, Call, step, view_by, after, run, call, is_flagged, is_call, same_truth, is_planned, is_faithful_from, is_faithful}
use Rattle.xv_model.specs.Work.{is_finished, all_ended_from}

-- the phases of a run that nothing breaks off
abbrev pub goes_well : Phase → Bool
goes_well Running = true
goes_well Stunned = true
goes_well Switched = true
goes_well Cancelled = false
goes_well Failed = false

never-due : (c : Option ℕ) (n : ℕ) (b : Bool) → c ≡ None → unless (not (reaches c n && b)) NotNow None ≡ None → ⊥
never-due None n b none goes = absurd (let impossible : Some NotNow ≡ None = goes in cc)
never-due (Some k) n b none goes = absurd (cc)

well-effect : (job : Job) (v : View) (e : Event) → job.config.cancel ≡ None → goes_well v.phase ≡ true → wait job v e false ≡ None → goes_well (effect job v e).phase ≡ true
well-effect job v (Guest g) none well goes = well
well-effect job v (Begin d) none well goes = well
well-effect job v (Read d) none well goes = well
well-effect job v (Advance d) none well goes = well
well-effect job v (Release d) none well goes = well
well-effect job v Round none well goes = well
well-effect job v Page none well goes = well
well-effect job v (Send s) none well goes = well
well-effect job v (Deliver s) none well goes = well
well-effect job v Apply none well goes = well
well-effect job v Ack none well goes = well
well-effect job v Credit none well goes = well
well-effect job v Stun none well goes = refl
well-effect job v Switch none well goes = refl
well-effect job v Cancel none well goes = absurd (never-due job.config.cancel (length v.history) (is_live v.phase) none goes)

well-by : (o : Option Why) (job : Job) (v : View) (e : Event) → goes_well v.phase ≡ true → (o ≡ None → goes_well (effect job v e).phase ≡ true) → goes_well (view_by o false job v e).phase ≡ true
well-by (Some why) job v e well later = well
well-by None job v e well later = later refl

well-step : (job : Job) (v : View) (e : Event) (flag : Bool) → flag ≡ false → job.config.cancel ≡ None → goes_well v.phase ≡ true → goes_well (step job v e flag).phase ≡ true
well-step job v e true flagged none well = absurd (cc)
well-step job v e false flagged none well = well-by (wait job v e false) job v e well (well-effect job v e none well)

-- without planned faults no entry of a faithful run is flagged
and-false : (b : Bool) → (b && false) ≡ false
and-false true = refl
and-false false = refl

none-planned : (faults : List Fault) (before : List Call) (c : Call) → faults ≡ [] → is_planned faults before c ≡ false
none-planned [] before c none = and-false (is_call c)
none-planned (f ∷ fs) before c none = absurd (cc)

same-false : (flag planned : Bool) → planned ≡ false → same_truth flag planned ≡ true → flag ≡ false
same-false false planned none same = refl
same-false true planned none same = absurd (cc)

well-after : (job : Job) (v : View) (before : List Call) (es : List Entry) → job.config.cancel ≡ None → job.faults ≡ [] → is_faithful_from job v before es ≡ true → goes_well v.phase ≡ true → goes_well (after job v es).phase ≡ true
well-after job v before [] none no_faults faithful well = well
well-after job v before (e ∷ es) none no_faults faithful well =
    let flag = is_flagged e.turn in
    let planned = is_planned job.faults before (call job v e.event) in
    let next = step job v e.event flag in
    let parts = and_parts (same_truth flag planned) (is_faithful_from job next (before ++ call job v e.event ∷ []) es) faithful in
    let unflagged = same-false flag planned (none-planned job.faults before (call job v e.event) no_faults) parts.0 in
    well-after job next (before ++ call job v e.event ∷ []) es none no_faults parts.1 (well-step job v e.event flag unflagged none well)

switched-by : (p : Phase) → goes_well p ≡ true → not (is_live p) ≡ true → p ≡ Switched
switched-by Running well over = absurd (cc)
switched-by Stunned well over = absurd (cc)
switched-by Switched well over = refl
switched-by Cancelled well over = absurd (cc)
switched-by Failed well over = absurd (cc)

pub ends-switched : (job : Job) (journal : List Entry) → job.config.cancel ≡ None → job.faults ≡ [] → is_faithful job journal ≡ true → is_finished job (run job journal) ≡ true → (run job journal).phase ≡ Switched
ends-switched job journal none no_faults faithful finished =
    let v = run job journal in
    let well = well-after job (first_view job) [] journal none no_faults faithful refl in
    let over = and_parts (not (is_live v.phase) && all_ended_from 0 job.traces v.history) (queues_empty v.disks) finished in
    switched-by v.phase well (and_parts (not (is_live v.phase)) (all_ended_from 0 job.traces v.history) over.0).0
