use Rattle.std.proofs.Common.{◌+◌, ◌∙◌, ap, sym, length, arith}
use Rattle.xv_job.specs.Held.{draft_held}
use Rattle.xv_job.specs.JobText.{job_text, job_lines}
use Rattle.xv_job.specs.Written.{Written}
use Rattle.xv_job.proofs.Progress.{job_lines_few, job_is_read, fault_first, only_refused}
use Rattle.xv_job.proofs.Texts.{job_is_said}
use Rattle.xv_job.proofs.reading.read_job.Goals as goal

pub read_lines-requires-clause-numbered : goal.read_lines-requires-clause-numbered
read_lines-requires-clause-numbered c = omega (arith, job_lines_few c.args.text.now (draft_held c.new-held.result) c.new-held.ensures.first)

pub into_job-requires-clause-good : goal.into_job-requires-clause-good
into_job-requires-clause-good c =
    (job_is_read c.args.text.now (draft_held c.new-held.result) (draft_held c.read_lines.new.reader) c.in-Ok.place.byte c.in-Ok.place.line c.new-held.ensures.first
    c.in-Ok.ensures.no_fault c.in-Ok.ensures.state c.in-Ok.ensures.line c.in-Ok.ensures.front).good

pub returns-in-Ok-clause-front : goal.returns-in-Ok-clause-front
returns-in-Ok-clause-front c =
    (job_is_read c.args.text.now (draft_held c.new-held.result) (draft_held c.read_lines.new.reader) c.in-Ok.place.byte c.in-Ok.place.line c.new-held.ensures.first
    c.in-Ok.ensures.no_fault c.in-Ok.ensures.state c.in-Ok.ensures.line c.in-Ok.ensures.front).front
    ∙ ap job_text (sym c.into_job.ensures)

pub returns-in-Ok-clause-line : goal.returns-in-Ok-clause-line
returns-in-Ok-clause-line c =
    (job_is_read c.args.text.now (draft_held c.new-held.result) (draft_held c.read_lines.new.reader) c.in-Ok.place.byte c.in-Ok.place.line c.new-held.ensures.first
    c.in-Ok.ensures.no_fault c.in-Ok.ensures.state c.in-Ok.ensures.line c.in-Ok.ensures.front).number
    ∙ ap (λ (w : Written). length (job_lines w) + 1) (sym c.into_job.ensures)

pub returns-in-Ok-clause-only : goal.returns-in-Ok-clause-only
returns-in-Ok-clause-only c = λ w rest g e.
    c.into_job.ensures
    ∙ (job_is_read c.args.text.now (draft_held c.new-held.result) (draft_held c.read_lines.new.reader) c.in-Ok.place.byte c.in-Ok.place.line c.new-held.ensures.first
    c.in-Ok.ensures.no_fault c.in-Ok.ensures.state c.in-Ok.ensures.line c.in-Ok.ensures.front).said
    ∙ job_is_said w rest c.args.text.now g e

pub returns-in-Err-clause-only : goal.returns-in-Err-clause-only
returns-in-Err-clause-only c = λ w rest g e.
    only_refused _ c.args.text.now c.in-Err.error w rest (fault_first c.args.text.now (draft_held c.new-held.result) c.in-Err.error c.new-held.ensures.first c.in-Err.ensures.fault) g e
