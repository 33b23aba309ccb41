use Rattle.std.proofs.Common.{ℕ, List, ◌++◌, sym, ap, ◌∙◌, arith}
use Rattle.xv_job.specs.Written.{job_of}
use Rattle.xv_job.specs.JobText.{job_text}
use Rattle.xv_job.proofs.Texts.{lines_are}
use Rattle.xv_script.specs.Script.{counts_of, text_fault}
use Rattle.xv_top.proofs.Inputs.{joined}
use Rattle.xv_top.proofs.Refusals.{fault-behind_job, lines-behind}
use Rattle.xv_top.proofs.input.parse.Goals as goal

pub read_events-requires : goal.read_events-requires
read_events-requires c =
    let w = c.in-Ok.found.0 in
    let is = joined c.args.text.now (job_text w) c.behind.result.now c.in-Ok.found.1.byte c.in-Ok.ensures.front (sym c.behind.ensures) in
    omega (arith, c.in-Ok.ensures.line, lines-behind c.args.text.now c.behind.result.now w (lines_are w c.behind.result.now c.args.text.now c.in-Ok.ensures.good is), c.requires)

pub returns-in-Ok-read_events-clause-text : goal.returns-in-Ok-read_events-clause-text
returns-in-Ok-read_events-clause-text c =
    let w = c.in-Ok.found.0 in
    let is = joined c.args.text.now (job_text w) c.behind.result.now c.in-Ok.found.1.byte c.in-Ok.ensures.front (sym c.behind.ensures) in
    let whole = fault-behind_job c.args.text.now c.behind.result.now w c.requires c.in-Ok.ensures.no_fault c.in-Ok.ensures.good is in
    record {
      no_fault = whole ∙ (ap (λ (n : ℕ). text_fault (counts_of (job_of w)) n c.behind.result.now) (sym c.in-Ok.ensures.line) ∙ c.in-Ok-read_events.ensures.no_fault);
      good = c.in-Ok.ensures.good;
      script = c.in-Ok-read_events.ensures.script;
      text = is ∙ ap (λ (bytes : List ℕ). job_text w ++ bytes) c.in-Ok-read_events.ensures.text;
    }

pub returns-in-Err-Fault-read_events-clause-refused : goal.returns-in-Err-Fault-read_events-clause-refused
returns-in-Err-Fault-read_events-clause-refused c =
    let w = c.in-Ok.found.0 in
    let is = joined c.args.text.now (job_text w) c.behind.result.now c.in-Ok.found.1.byte c.in-Ok.ensures.front (sym c.behind.ensures) in
    let whole = fault-behind_job c.args.text.now c.behind.result.now w c.requires c.in-Ok.ensures.no_fault c.in-Ok.ensures.good is in
    let found = rw c.in-Err-Fault-read_events.field-0-is at c.in-Err-Fault-read_events.ensures.fault in
    whole ∙ (ap (λ (n : ℕ). text_fault (counts_of (job_of w)) n c.behind.result.now) (sym c.in-Ok.ensures.line) ∙ found)
