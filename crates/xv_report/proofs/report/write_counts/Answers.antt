use Rattle.std.proofs.Common.{List, ℕ, ◌++◌, codes, decimal, refl, ap, ◌∙◌}
use Rattle.std.specs.List.{flat_map}
use Rattle.xv_report.specs.Texts.{row, worker_row}
use Rattle.xv_report.specs.Workers.{Tally}
use Rattle.xv_io.proofs.Took.{front-last, took-text, at_text}
use Rattle.xv_report.proofs.report.write_counts.Goals as goal

pub returns-clause-front : goal.returns-clause-front
returns-clause-front g c =
    let finish_row : Tally → List ℕ = λ t. row (codes "finish") (decimal t.finish) in
    front-last _ _ _ (flat_map worker_row c.args.counts.now.workers) (finish_row c.args.counts.now) _
    (took-text _ _ _ _ (ap (flat_map worker_row) c.deref.ensures.value ∙ ap (λ (t : Tally). flat_map worker_row t.workers) c.counts.view_is) c.in_ok-write_workers.ensures.whole)
    (at_text _ _ _ _ (c.bytes.ensures.exactly ∙ c.push_long.ensures.exactly ∙ ap (λ (r : List ℕ). r ++ row (codes "finish") (decimal c.counts.inside.finish)) c.new-line.ensures ∙ ap finish_row c.counts.view_is) c.write_text.ensures.front) refl
