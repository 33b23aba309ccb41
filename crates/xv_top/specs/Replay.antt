-- What `replay` writes for what it reads.
use Rattle.std.specs.Prelude.{ℕ, List, [], ◌∷◌, ◌++◌, length, None}
use Rattle.xv_base.specs.declared.event.Totals.{Totals}
use Rattle.xv_model.specs.Job.{Job}
use Rattle.xv_model.specs.Guest.{read_bytes}
use Rattle.xv_model.specs.View.{View, first_view}
use Rattle.xv_model.specs.Step.{Call, Entry, run, play, step, turn, flag, call_of}
use Rattle.xv_model.specs.Report.{totals, probe}
use Rattle.xv_job.specs.Written.{Written}
use Rattle.xv_job.specs.JobText.{job_text}
use Rattle.xv_script.specs.Lines.{turn_line, probe_line, script_text, events_of}
use Rattle.xv_script.specs.declared.line.Line.{Line}
use Rattle.xv_script.specs.declared.line.Line.TheVariants.{Step, Ask}
use Rattle.xv_report.specs.Texts.{report_text, image_text}
use Rattle.xv_report.specs.Json.{report_json}
use Rattle.xv_parts.specs.Sides.{sources, dests}
use Rattle.xv_top.specs.declared.command.Form.{Form}
use Rattle.xv_top.specs.declared.command.Form.TheVariants.{Rows, Json}

-- the input: a job, and a script
abbrev pub input_text : Written → List Line → List ℕ
input_text written lines = job_text written ++ script_text lines

-- The transcript of these lines from a view on, after these calls: each event with its answer and what it read, and the
-- numbers of each unit that is asked for. An event is flagged where the job's faults name the number of its call.
abbrev pub transcript_from : Job → View → List Call → List Line → List ℕ
transcript_from job v calls [] = []
transcript_from job v calls (Step e ∷ ls) =
    let failing = flag job v calls e in
    let answer = turn job v e failing in
    let after = step job v e failing in
    turn_line e answer (read_bytes job after.history (length v.history)) ++ transcript_from job after (calls ++ call_of job v e answer) ls
transcript_from job v calls (Ask unit ∷ ls) = probe_line (probe job v unit.0) ++ transcript_from job v calls ls

abbrev pub transcript : Job → List Line → List ℕ
transcript job lines = transcript_from job (first_view job) [] lines

-- the report in a form: a line for each number, or one line of JSON
abbrev pub totals_text : Form → Totals → List ℕ
totals_text Rows t = report_text t None
totals_text Json t = report_json t None

-- what a result is made of: the report, and the image, of the job and the journal that its migration has in the end
abbrev pub report_of : Form → Job → List Entry → List ℕ
report_of form job journal = totals_text form (totals job (run job journal) (length journal))

abbrev pub image_of : Job → List Entry → List ℕ
image_of job journal = image_text (sources job (run job journal)) (dests job (run job journal))

abbrev pub result_text : Form → Job → List Entry → List ℕ
result_text form job journal = report_of form job journal ++ image_of job journal

-- the output: the transcript of the lines, and the result of the journal that their events make
abbrev pub output_text : Form → Job → List Line → List ℕ
output_text form job lines = transcript job lines ++ result_text form job (play job (events_of lines))
