-- The report and the image of a migration in memory are those that its journal says.
use Rattle.std.proofs.Common.{◌≡◌, ℕ, List, ◌++◌, length, sym, ap, ◌∙◌, subst, Option, Some}
use Rattle.xv_base.specs.declared.event.Totals.{Totals}
use Rattle.xv_device.specs.Memory.{Device, told}
use Rattle.xv_device.specs.Told.{Told}
use Rattle.xv_io.specs.Io.{TookMore}
use Rattle.xv_io.proofs.Took.{took-both}
use Rattle.xv_model.specs.Report.{totals}
use Rattle.xv_report.specs.Texts.{image_text}
use Rattle.xv_job.specs.Written.{job_of}
use Rattle.xv_core.specs.Seen.{Seen, view_of}
use Rattle.xv_parts.specs.Memory.{IsInMemory}
use Rattle.xv_parts.specs.Sides.{sources, dests}
use Rattle.xv_parts.proofs.Holding.{source-holds, dest-holds}
use Rattle.xv_top.specs.Replay.{totals_text, result_text}
use Rattle.xv_top.specs.declared.command.Form.{Form}

-- the contents of a device that is seen as one of the migration's
pub contents-of : (d : Device) (t : Told) (contents : List (List ℕ)) → told d ≡ t → t.contents ≡ Some contents → d.contents ≡ contents
contents-of d t contents is tells =
    let both : Some d.contents ≡ Some contents = ap (λ (x : Told). x.contents) is ∙ tells in
    cc

-- it begins with the report
pub report-is : (form : Form) (m : Seen) (t : Totals) → t ≡ totals (job_of m.job) (view_of m) (length m.journal) → result_text form (job_of m.job) m.journal ≡ totals_text form t ++ image_text (sources (job_of m.job) (view_of m)) (dests (job_of m.job) (view_of m))
report-is form m t of_totals = sym (ap (λ (u : Totals). totals_text form u ++ image_text (sources (job_of m.job) (view_of m)) (dests (job_of m.job) (view_of m))) of_totals)

pub result-is : (form : Form) (m : Seen) (t : Totals) (s d : Device) → IsInMemory m → t ≡ totals (job_of m.job) (view_of m) (length m.journal) → told s ≡ m.source.told → told d ≡ m.dest.told → result_text form (job_of m.job) m.journal ≡ totals_text form t ++ image_text s.contents d.contents
result-is form m t s d inside of_totals of_source of_dest =
    let left = contents-of s m.source.told (sources (job_of m.job) (view_of m)) of_source (source-holds m inside) in
    let right = contents-of d m.dest.told (dests (job_of m.job) (view_of m)) of_dest (dest-holds m inside) in
    report-is form m t of_totals
    ∙ sym (ap (λ (xs : List (List ℕ)). totals_text form t ++ image_text xs d.contents) left
    ∙ ap (λ (ys : List (List ℕ)). totals_text form t ++ image_text (sources (job_of m.job) (view_of m)) ys) right)

-- two pieces were taken one after the other, and what was taken stays over a flush
pub written : (a b c d : Option (List ℕ)) (xs ys text : List ℕ) → TookMore a b xs → TookMore b c ys → d ≡ c → text ≡ xs ++ ys → TookMore a d text
written a b c d xs ys text first second stays is =
    subst (λ (t : Option (List ℕ)). TookMore a t text) (sym stays)
    (subst (λ (bytes : List ℕ). TookMore a c bytes) (sym is) (took-both a b c xs ys first second))
