-- What a run by the driver leaves of a migration in memory.
use Rattle.std.proofs.Common.{◌≡◌, ℕ, true, List, [], ◌++◌, length, refl, sym, ap, ◌∙◌, subst}
use Rattle.std.specs.Prelude.{None, Result, Ok, Err, IfOk}
use Rattle.xv_base.specs.declared.event.Totals.{Totals}
use Rattle.xv_base.specs.declared.event.Phase.TheVariants.{Switched}
use Rattle.xv_model.specs.Job.{unit_count}
use Rattle.xv_model.specs.View.{is_switched}
use Rattle.xv_model.specs.Step.{Entry, is_faithful}
use Rattle.xv_model.specs.Work.{is_finished}
use Rattle.xv_model.specs.Driver.{driven}
use Rattle.xv_model.specs.Report.{totals}
use Rattle.xv_report.specs.Texts.{report_text}
use Rattle.xv_job.specs.Written.{Written, job_of}
use Rattle.xv_job.specs.Made.{made_job}
use Rattle.xv_core.specs.Seen.{Seen, view_of}
use Rattle.xv_core.specs.Origin.{HasOrigin}
use Rattle.xv_core.specs.Keeping.{IsKept}
use Rattle.xv_core.proofs.Stepped.Origins.{origin-same}
use Rattle.xv_parts.specs.Memory.{IsInMemory, begun_in_memory}
use Rattle.xv_parts.proofs.Planned.{faithful}
use Rattle.xv_parts.proofs.Holding.{source-writes, dest-writes}
use Rattle.xv_driver.specs.Driven.{AreDriven}
use Rattle.xv_driver.proofs.Following.{is-driven}
use Rattle.xv_driver.proofs.Switching.{ends-switched}
use Rattle.xv_top.specs.Driven.{agree_line, agreed_text, driven_journal, drive_text, HasDriven, HasHandedOver}
use Rattle.xv_top.proofs.Agreeing.{dest-guests}

-- a migration that comes from one that began in memory is in memory
pub is-in-memory : (w : Written) (start m : Seen) → start ≡ begun_in_memory w → m.job ≡ start.job → IsKept m → ((first : Seen) → HasOrigin first start → HasOrigin first m) → IsInMemory m
is-in-memory w start m is same kept origin =
    let job : w ≡ m.job = sym (same ∙ ap (λ (s : Seen). s.job) is) in
    let first : start ≡ begun_in_memory m.job = is ∙ ap begun_in_memory job in
    record { kept = kept; origin = subst (λ (s : Seen). HasOrigin s m) first (origin start (origin-same start)) }

journal-is : (w : Written) (start m : Seen) (k : ℕ) → start ≡ begun_in_memory w → m.job ≡ w → IsInMemory m → AreDriven k start m → is_finished (job_of m.job) (view_of m) ≡ true → m.journal ≡ driven_journal w
unfolding driven_journal
journal-is w start m k is same inside steps done =
    is-driven start m k steps (ap (λ (s : Seen). s.journal) is) inside.kept (faithful m inside) done
    ∙ ap (λ (x : Written). driven (job_of x)) same

pub has-driven : (w : Written) (start m : Seen) (k : ℕ) → start ≡ begun_in_memory w → m.job ≡ start.job → IsInMemory m → AreDriven k start m → is_finished (job_of m.job) (view_of m) ≡ true → HasDriven w m
has-driven w start m k is same inside steps done =
    let of_job : m.job ≡ w = same ∙ ap (λ (s : Seen). s.job) is in
    record {
      of_job = of_job;
      journal = journal-is w start m k is of_job inside steps done;
      faithful = subst (λ (x : Written). is_faithful (job_of x) m.journal ≡ true) of_job (faithful m inside);
      kept = inside.kept;
      counts = record { source = λ unit there. source-writes m inside unit; dest = λ unit there. dest-writes m inside unit };
      finished = done;
    }

-- without a cancel number and planned faults it ends switched over
hands-over : (m : Seen) → IsInMemory m → is_finished (job_of m.job) (view_of m) ≡ true → m.job.config.cancel ≡ None → m.job.faults ≡ [] → HasHandedOver m
hands-over m inside done none no_faults =
    let over : (view_of m).phase ≡ Switched = ends-switched (job_of m.job) m.journal none no_faults (faithful m inside) done in
    record { switched = over; holds = dest-guests m inside (ap is_switched over) }

-- a made job has neither
made-no-cancel : (n : ℕ) → (made_job n).config.cancel ≡ None
unfolding made_job
made-no-cancel n = refl

made-no-faults : (n : ℕ) → (made_job n).faults ≡ []
unfolding made_job
made-no-faults n = refl

pub made-hands-over : (n : ℕ) (w : Written) (m : Seen) → w ≡ made_job n → HasDriven w m → IsInMemory m → HasHandedOver m
made-hands-over n w m made has inside =
    let of_job : m.job ≡ made_job n = has.of_job ∙ made in
    hands-over m inside has.finished (ap (λ (x : Written). x.config.cancel) of_job ∙ made-no-cancel n) (ap (λ (x : Written). x.faults) of_job ∙ made-no-faults n)

-- what follows of a result that is no error
pub ok-both : {T E : Type 0} (r : Result T E) (P Q R : T → Type 0) → ((m : T) → P m → Q m → R m) → IfOk r P → IfOk r Q → IfOk r R
ok-both (Ok m) P Q R f p q = f m p q
ok-both (Err e) P Q R f p q = tt

-- what is written of a migration: the numbers that it tells, and that all units agree
pub agreed-is : (m : Seen) (t : Totals) → t ≡ totals (job_of m.job) (view_of m) (length m.journal) → agreed_text (job_of m.job) m.journal ≡ report_text t None ++ agree_line (unit_count (job_of m.job))
unfolding agreed_text
agreed-is m t of_totals = sym (ap (λ (u : Totals). report_text u None ++ agree_line (unit_count (job_of m.job))) of_totals)

-- the line that is printed
pub line-is : (bytes printed : List ℕ) (count all : ℕ) → bytes ≡ printed → printed ≡ agree_line count → count ≡ all → bytes ≡ agree_line all
line-is bytes printed count all same is of_all = same ∙ is ∙ ap agree_line of_all

-- a refusal that is handed on
pub fault-same : {S T E : Type 0} (r : Result S E) (x : Result T E) (a b : E) → r ≡ Err a → x ≡ Err a → x ≡ Err b → r ≡ Err b
fault-same r x a b is here there =
    let same : a ≡ b = (let both : x ≡ Err b = there in cc) in
    is ∙ ap Err same

-- what is written of such a migration is what its job says
pub text-is : (w : Written) (m : Seen) → HasDriven w m → agreed_text (job_of m.job) m.journal ≡ drive_text w
unfolding drive_text
text-is w m has =
    ap (λ (x : Written). agreed_text (job_of x) m.journal) has.of_job
    ∙ ap (λ (js : List Entry). agreed_text (job_of w) js) has.journal
