-- Each worker's number is found under its name.
use Rattle.std.proofs.Common.{◌≡◌, ℕ, false, List, [], ◌∷◌, map, Some, IfSome, true≢false, refl, sym, subst, ◌∙◌, Option, None}
use Rattle.std.specs.List.{AllByRecursion, IsDistinct}
use Rattle.serde_json.specs.Data.{Data, Members, no_members, put}
use Rattle.serde_json.specs.Find.{get_member}
use Rattle.serde_json.proofs.Views.{get_member-put, get_member-put_other}
use Rattle.xv_base.specs.declared.event.Totals.{Totals}
use Rattle.xv_report.specs.declared.counts.Count.{Count}
use Rattle.xv_report.specs.Json.{number_value, put_workers, report_value, TellsEach}
use Rattle.xv_report.specs.Workers.{Tally, worker_name, is_worker, AreDistinct, HasSmallNumber, HaveSmallNumbers}
use Rattle.xv_report.proofs.Names.{named-worker}

-- the names of other workers are other names
others : (c : Count) (cs : List Count) → HasSmallNumber c.worker → HaveSmallNumbers cs → AllByRecursion (λ w. is_worker c.worker w ≡ false) (map (λ d. d.worker) cs) → AllByRecursion (λ d. worker_name c.worker ≡ worker_name d.worker → ⊥) cs
others c [] small fit apart = tt
others c (d ∷ cs) small fit apart = (λ e. true≢false (sym (named-worker c.worker d.worker small fit.0 e) ∙ apart.0), others c cs small fit.1 apart.1)

-- what stands under another name stays
kept : (name : List ℕ) (cs : List Count) (ms : Members) → AllByRecursion (λ d. name ≡ worker_name d.worker → ⊥) cs → get_member name (put_workers cs ms) ≡ get_member name ms
kept name [] ms other = refl
kept name (c ∷ cs) ms other =
    kept name cs (put (worker_name c.worker) (number_value c.steps) ms) other.1 ∙ get_member-put_other name (worker_name c.worker) (number_value c.steps) ms other.0

-- each worker put is found afterwards
found-each : (cs : List Count) (ms : Members) → AreDistinct cs → HaveSmallNumbers cs → AllByRecursion (λ c. get_member (worker_name c.worker) (put_workers cs ms) ≡ Some (number_value c.steps)) cs
unfolding IsDistinct
found-each [] ms apart fit = tt
found-each (c ∷ cs) ms apart fit =
    let more : Members = put (worker_name c.worker) (number_value c.steps) ms in
    (kept (worker_name c.worker) cs more (others c cs fit.0 fit.1 apart.0) ∙ get_member-put (worker_name c.worker) (number_value c.steps) ms, found-each cs more apart.1 fit.1)

-- so the report tells each worker's number
tells-each : (t : Totals) (tally : Tally) → AreDistinct tally.workers → HaveSmallNumbers tally.workers → TellsEach tally.workers (report_value t (Some tally))
tells-each t tally apart fit = found-each tally.workers no_members apart fit

pub told-each : (t : Totals) (counts : Option Tally) (report : Data) → report ≡ report_value t counts → IfSome counts (λ tally. AreDistinct tally.workers) → IfSome counts (λ tally. HaveSmallNumbers tally.workers)
    → IfSome counts (λ tally. TellsEach tally.workers report)
told-each t None report e apart fit = tt
told-each t (Some tally) report e apart fit = subst (TellsEach tally.workers) (sym e) (tells-each t tally apart fit)
