-- Every step keeps the view invariant, and so does every run.
use Rattle.std.specs.Prelude.{◌≡◌, Bool, true, List, [], ◌∷◌}
use Rattle.std.specs.List.{list_all}
use Rattle.std.proofs.lemmas.Bool.{and_parts}
use Rattle.xv_model.specs.Job.{Job, IsGoodJob}
use Rattle.xv_model.specs.View.{View, first_view}
use Rattle.xv_model.specs.Wait.{Event, fits}
use Rattle.xv_model.specs.Step.{Entry, step, after, run, is_flagged}
use Rattle.xv_model.specs.Invariant.{IsViewOf}
use Rattle.xv_model.proofs.First.{first_view-holds}
use Rattle.xv_model.proofs.Regions.{regions-step}
use Rattle.xv_model.proofs.Rounds.{rounds-step}
use Rattle.xv_model.proofs.Queues.{queues-step}
use Rattle.xv_model.proofs.Legal.{history-step}
use Rattle.xv_model.proofs.Quiet.{quiet-step}
use Rattle.xv_model.proofs.Cancels.{cancel-step}
use Rattle.xv_model.proofs.Lists.{lists-step}
use Rattle.xv_model.proofs.Tips.{tips-step}
use Rattle.xv_model.proofs.Unsent.{unsent-step}
use Rattle.xv_model.proofs.Mirrors.{mirrors-step}
use Rattle.xv_model.proofs.Points.VersionSteps.{versions-step}
use Rattle.xv_model.proofs.Points.TimeSteps.{times-step}
use Rattle.xv_model.proofs.Points.OutboxSteps.{rises-step}
use Rattle.xv_model.proofs.Points.CreditSteps.{whole-step}

-- every point of the invariant stays over a step
pub step-holds : (job : Job) (v : View) (e : Event) (flag : Bool) → IsGoodJob job → fits job e ≡ true → IsViewOf job v → IsViewOf job (step job v e flag)
step-holds job v e flag good fit inv = record {
  versions = versions-step job v e flag good fit inv;
  times = times-step job v e flag good fit inv;
  tips = tips-step job v e flag good fit inv;
  unsent = unsent-step job v e flag good fit inv;
  mirrors = mirrors-step job v e flag good fit inv;
  outbox = rises-step job v e flag good fit inv;
  credit = whole-step job v e flag good fit inv;
  regions = regions-step job v e flag good fit inv;
  rounds = rounds-step job v e flag good fit inv;
  queues = queues-step job v e flag good fit inv;
  history = history-step job v e flag good fit inv;
  quiet = quiet-step job v e flag good fit inv;
  cancel = cancel-step job v e flag good fit inv;
  lists = lists-step job v e flag good fit inv;
}

-- and so over a journal from any view
pub after-holds : (job : Job) (v : View) (journal : List Entry) → IsGoodJob job → list_all (λ (e : Entry). fits job e.event) journal ≡ true → IsViewOf job v → IsViewOf job (after job v journal)
after-holds job v [] good fit inv = inv
after-holds job v (e ∷ es) good fit inv =
    let both = and_parts (fits job e.event) (list_all (λ (x : Entry). fits job x.event) es) fit in
    after-holds job (step job v e.event (is_flagged e.turn)) es good both.1 (step-holds job v e.event (is_flagged e.turn) good both.0 inv)

pub run-holds : (job : Job) (journal : List Entry) → IsGoodJob job → list_all (λ (e : Entry). fits job e.event) journal ≡ true → IsViewOf job (run job journal)
run-holds job journal good fit = after-holds job (first_view job) journal good fit (first_view-holds job good)
