-- The report and the image of a migration in memory are those that its journal says.
use Rattle.std.proofs.Common.{◌≡◌, ℕ, List, ◌++◌, length, sym, ap, ◌∙◌}
use Rattle.std.specs.Prelude.{Result, Ok, Err, OnOk}
use Rattle.xv_base.specs.declared.event.Totals.{Totals}
use Rattle.xv_device.specs.Memory.{Device, told}
use Rattle.xv_model.specs.Report.{totals}
use Rattle.xv_report.specs.Texts.{image_text}
use Rattle.xv_report.specs.Workers.{Tally}
use Rattle.xv_job.specs.Written.{job_of}
use Rattle.xv_core.specs.Seen.{Seen, view_of}
use Rattle.xv_core.specs.Keeping.{told_contents}
use Rattle.xv_parts.specs.Memory.{IsInMemory}
use Rattle.xv_parts.specs.Sides.{sources, dests}
use Rattle.xv_parts.proofs.Holding.{source-holds, dest-holds}
use Rattle.xv_top.specs.Replay.{image_of}
use Rattle.xv_top.specs.declared.command.Form.{Form}
use Rattle.xv_top.proofs.Results.{contents-of}
use Rattle.xv_top.proofs.Printed.{sides-told}
use Rattle.xv_run.specs.Journal.{journal_text}
use Rattle.xv_run.specs.Numbers.{tally}
use Rattle.xv_run.specs.Run.{counted_text, report_of, result_text, run_text}

pub report-first : (form : Form) (m : Seen) (t : Totals) (counts : Tally) (finish : ℕ) → t ≡ totals (job_of m.job) (view_of m) (length m.journal) → counts ≡ tally (job_of m.job) m.journal finish → result_text form (job_of m.job) m.journal finish ≡ counted_text form t counts ++ image_of (job_of m.job) m.journal
unfolding report_of
report-first form m t counts finish of_totals of_counts =
    sym (ap (λ (u : Totals). counted_text form u counts ++ image_of (job_of m.job) m.journal) of_totals
    ∙ ap (λ (k : Tally). counted_text form (totals (job_of m.job) (view_of m) (length m.journal)) k ++ image_of (job_of m.job) m.journal) of_counts)

pub report-image : (form : Form) (m : Seen) (t : Totals) (counts : Tally) (finish : ℕ) (s d : Device) → IsInMemory m → t ≡ totals (job_of m.job) (view_of m) (length m.journal) → counts ≡ tally (job_of m.job) m.journal finish → told s ≡ m.source.told → told d ≡ m.dest.told → result_text form (job_of m.job) m.journal finish ≡ counted_text form t counts ++ image_text s.contents d.contents
report-image form m t counts finish s d inside of_totals of_counts of_source of_dest =
    let left = contents-of s m.source.told (sources (job_of m.job) (view_of m)) of_source (source-holds m inside) in
    let right = contents-of d m.dest.told (dests (job_of m.job) (view_of m)) of_dest (dest-holds m inside) in
    report-first form m t counts finish of_totals of_counts
    ∙ sym (ap (λ (xs : List (List ℕ)). counted_text form t counts ++ image_text xs d.contents) left
    ∙ ap (λ (ys : List (List ℕ)). counted_text form t counts ++ image_text (sources (job_of m.job) (view_of m)) ys) right)

-- what follows of a result that is no error
pub on-ok : {T E : Type 0} (r : Result T E) (P Q : Type 0) → (P → Q) → OnOk r P → OnOk r Q
on-ok (Ok x) P Q f p = f p
on-ok (Err e) P Q f p = tt

-- what is written, by what the devices tell
pub text-told : (form : Form) (m : Seen) (finish : ℕ) → IsInMemory m → run_text form (job_of m.job) m.journal finish ≡ journal_text (job_of m.job) m.journal ++ (report_of form (job_of m.job) m.journal finish ++ image_text (told_contents m.source) (told_contents m.dest))
text-told form m finish inside = ap (λ (xs : List ℕ). journal_text (job_of m.job) m.journal ++ (report_of form (job_of m.job) m.journal finish ++ xs)) (sides-told m inside)
