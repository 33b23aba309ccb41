-- The journal that a list of events makes is a run, and faithful to the planned faults.
use Rattle.std.specs.Prelude.{◌≡◌, ◌&&◌, Bool, true, false, List, [], ◌∷◌, ◌++◌, Option, Some, None, if◌then◌else◌}
use Rattle.std.specs.List.{list_all}
use Rattle.std.proofs.Common.{refl, ap, sym, subst, ◌∙◌, append-nil}
use Rattle.std.proofs.lemmas.Bool.{and_parts, and_from}
use Rattle.std.proofs.lemmas.List.Folds.{list_all-append}
use Rattle.xv_model.specs.Job.{Job}
use Rattle.xv_model.specs.View.{View, first_view}
use Rattle.xv_model.specs.Wait.{Event, Why, wait, fits}
use Rattle.xv_model.specs.Effect.{Turn}
use Rattle.xv_model.specs.Step.{Entry, Call, step, view_by, turn, turn_by, breaks, call, is_wait, same_turn, is_run_from, is_run, same_truth, is_planned, is_faithful_from, is_faithful, flag, flag_by, entry_of, call_of, turns_from, entries_of, play}
use Rattle.xv_model.proofs.Bound.Driven.{Tells, driven-flag, driven-tells, same_truth-same}

-- what is shown of the entries from a view on
record Plays (job : Job) (v : View) (calls : List Call) (entries : List Entry) : Type 0 where
  runs : is_run_from job v entries ≡ true
  faithful : is_faithful_from job v calls entries ≡ true

plays-one : (job : Job) (v : View) (calls : List Call) (e : Event) (t : Turn) (failed : Bool) (rest : List Entry) → Tells t failed → t ≡ turn job v e failed → failed ≡ is_planned job.faults calls (call job v e) →
    Plays job (step job v e failed) (calls ++ call job v e ∷ []) rest → Plays job v calls (record { event = e; turn = t } ∷ rest)
plays-one job v calls e t failed rest tells is planned later = record {
  runs =
      subst (λ (f : Bool). same_turn t (turn job v e f) && is_run_from job (step job v e f) rest ≡ true) (sym tells.flagged)
      (and_from (same_turn t (turn job v e failed)) (is_run_from job (step job v e failed) rest) (subst (λ (u : Turn). same_turn t u ≡ true) is tells.same) later.runs);
  faithful =
      subst (λ (f : Bool). same_truth f (is_planned job.faults calls (call job v e)) && is_faithful_from job (step job v e f) (calls ++ call job v e ∷ []) rest ≡ true) (sym tells.flagged)
      (and_from (same_truth failed (is_planned job.faults calls (call job v e))) (is_faithful_from job (step job v e failed) (calls ++ call job v e ∷ []) rest) (same_truth-same failed _ planned) later.faithful);
}

-- an event that goes on adds its entry, and one that waits adds none
abbrev PlaysOn : Job → View → List Call → Event → List Event → Bool → Type 0
PlaysOn job v calls e es failed = Plays job v calls (entry_of e (turn job v e failed) ++ entries_of es (turns_from job (step job v e failed) (calls ++ call_of job v e (turn job v e failed)) es))

plays-goes : (job : Job) (v : View) (calls : List Call) (e : Event) (es : List Event) → wait job v e false ≡ None →
    Plays job (step job v e (flag job v calls e)) (calls ++ call job v e ∷ []) (entries_of es (turns_from job (step job v e (flag job v calls e)) (calls ++ call job v e ∷ []) es)) → PlaysOn job v calls e es (flag job v calls e)
plays-goes job v calls e es goes later =
    let failed = flag job v calls e in
    let tells = driven-tells job v calls e goes in
    subst (λ (b : Bool). Plays job v calls ((if b then [] else record { event = e; turn = turn job v e failed } ∷ []) ++ entries_of es (turns_from job (step job v e failed) (calls ++ (if b then [] else call job v e ∷ [])) es))) (sym tells.goes)
    (plays-one job v calls e (turn job v e failed) failed _ tells refl (driven-flag job v calls e goes) later)

plays-waits : (job : Job) (v : View) (calls : List Call) (e : Event) (es : List Event) (why : Why) → wait job v e false ≡ Some why →
    Plays job v calls (entries_of es (turns_from job v calls es)) → PlaysOn job v calls e es (flag job v calls e)
plays-waits job v calls e es why waits later =
    let none : flag job v calls e ≡ false = ap (λ (w : Option Why). flag_by w job v calls e) waits in
    subst (PlaysOn job v calls e es) (sym none)
    (subst (λ (w : Option Why). Plays job v calls (entry_of e (turn_by w (breaks job v e false) job v e) ++ entries_of es (turns_from job (view_by w (breaks job v e false) job v e) (calls ++ call_of job v e (turn_by w (breaks job v e false) job v e)) es))) (sym waits)
    (subst (λ (cs : List Call). Plays job v calls (entries_of es (turns_from job v cs es))) (sym (append-nil calls)) later))

plays-by : (job : Job) (v : View) (calls : List Call) (e : Event) (es : List Event) (w : Option Why) → wait job v e false ≡ w →
    ((u : View) (later : List Call) → Plays job u later (entries_of es (turns_from job u later es))) → PlaysOn job v calls e es (flag job v calls e)
plays-by job v calls e es None goes rest = plays-goes job v calls e es goes (rest (step job v e (flag job v calls e)) (calls ++ call job v e ∷ []))
plays-by job v calls e es (Some why) waits rest = plays-waits job v calls e es why waits (rest v calls)

plays : (job : Job) (events : List Event) (v : View) (calls : List Call) → Plays job v calls (entries_of events (turns_from job v calls events))
plays job [] v calls = record { runs = refl; faithful = refl }
plays job (e ∷ es) v calls = plays-by job v calls e es (wait job v e false) refl (λ u later. plays job es u later)

pub play-runs : (job : Job) (events : List Event) → is_run job (play job events) ≡ true
play-runs job events = (plays job events (first_view job) []).runs

pub play-faithful : (job : Job) (events : List Event) → is_faithful job (play job events) ≡ true
play-faithful job events = (plays job events (first_view job) []).faithful

-- entries are of the events that made them
entry-fits : (job : Job) (e : Event) (t : Turn) (waits : Bool) → fits job e ≡ true → list_all (λ (x : Entry). fits job x.event) (if waits then [] else record { event = e; turn = t } ∷ []) ≡ true
entry-fits job e t true fit = refl
entry-fits job e t false fit = and_from (fits job e) true fit refl

entries-fit : (job : Job) (events : List Event) (ts : List Turn) → list_all (fits job) events ≡ true → list_all (λ (x : Entry). fits job x.event) (entries_of events ts) ≡ true
entries-fit job [] ts fit = refl
entries-fit job (e ∷ es) [] fit = refl
entries-fit job (e ∷ es) (t ∷ ts) fit =
    let parts = and_parts (fits job e) (list_all (fits job) es) fit in
    list_all-append (λ (x : Entry). fits job x.event) (entry_of e t) (entries_of es ts)
    ∙ and_from (list_all (λ (x : Entry). fits job x.event) (entry_of e t)) (list_all (λ (x : Entry). fits job x.event) (entries_of es ts)) (entry-fits job e t (is_wait t) parts.0) (entries-fit job es ts parts.1)

pub play-fits : (job : Job) (events : List Event) → list_all (fits job) events ≡ true → list_all (λ (x : Entry). fits job x.event) (play job events) ≡ true
play-fits job events fit = entries-fit job events _ fit
