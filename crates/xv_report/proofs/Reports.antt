-- How the report and the lines of counts are taken one after another.
use Rattle.std.proofs.Common.{◌≡◌, ℕ, List, ◌++◌, Option, Some, Bor, refl, sym, subst}
use Rattle.xv_base.specs.declared.event.Totals.{Totals}
use Rattle.xv_io.specs.Io.{TookMore, TookFront}
use Rattle.xv_report.specs.Texts.{state_rows, work_rows, counts_rows, tally_rows, report_text}
use Rattle.xv_report.specs.Workers.{Tally, tally_of}
use Rattle.xv_io.proofs.Took.{took-both, front-first, front-last}

-- the twelve lines
abbrev pub plain_text : Totals → List ℕ
plain_text t = state_rows t ++ work_rows t

pub plain-front : (t : Totals) (counts : Option Tally) (a b : Option (List ℕ)) → TookFront a b (plain_text t) → TookFront a b (report_text t counts)
plain-front t counts a b h = front-first a b (plain_text t) (counts_rows counts) (report_text t counts) h refl

pub report-whole : (t : Totals) (counts : Option (Bor Tally)) (r : Bor Tally) (a b c : Option (List ℕ)) → counts ≡ Some r → TookMore a b (plain_text t) → TookMore b c (tally_rows r.now) → TookMore a c (report_text t (tally_of counts))
report-whole t counts r a b c e p q =
    subst (λ (k : Option (Bor Tally)). TookMore a c (report_text t (tally_of k))) (sym e) (took-both a b c (plain_text t) (tally_rows r.now) p q)

pub report-front : (t : Totals) (counts : Option (Bor Tally)) (r : Bor Tally) (a b c : Option (List ℕ)) → counts ≡ Some r → TookMore a b (plain_text t) → TookFront b c (tally_rows r.now) → TookFront a c (report_text t (tally_of counts))
report-front t counts r a b c e p q =
    subst (λ (k : Option (Bor Tally)). TookFront a c (report_text t (tally_of k))) (sym e) (front-last a b c (plain_text t) (tally_rows r.now) (report_text t (Some r.now)) p q refl)
