use Rattle.std.proofs.Common.{◌≡◌, ◌∙◌, sym, true, None}
use Rattle.xv_text.specs.Lines.{fields}
use Rattle.xv_job.specs.Draft.{line_fault}
use Rattle.xv_job.specs.Held.{draft_held, behind_fault, job_held}
use Rattle.xv_job.specs.Words.{may_come}
use Rattle.xv_job.proofs.ReachedAt.{last_there, op_in_traces, fault_behind, stops_as, reached_by}
use Rattle.xv_job.proofs.held.Held.take_line.Goals as goal

pub may_come-requires : goal.may_come-requires
may_come-requires c = last_there (draft_held c.args.self.now) c.requires.reached

pub take-requires-clause-traces : goal.take-requires-clause-traces
take-requires-clause-traces c = op_in_traces (draft_held c.args.self.now) c.first_field-args.result.0.now c.in-Some.word (sym c.in-Some.ensures)

pub returns-in-Ok-clause-no_fault : goal.returns-in-Ok-clause-no_fault
returns-in-Ok-clause-no_fault c =
    let comes : may_come c.args.self.now.format c.args.self.now.last c.in-Some.word ≡ true = sym c.may_come.ensures ∙ c.if-not-may_come.false in
    fault_behind (draft_held c.args.self.now) (fields c.args.line.now) c.first_field-args.result.0.now c.first_field-args.result.1 c.in-Some.word c.first_field-args.ensures (sym c.in-Some.ensures) comes
    ∙ c.in-Ok.ensures.taken.no_fault

pub returns-in-Ok-clause-reached : goal.returns-in-Ok-clause-reached
returns-in-Ok-clause-reached c =
    let comes : may_come c.args.self.now.format c.args.self.now.last c.in-Some.word ≡ true = sym c.may_come.ensures ∙ c.if-not-may_come.false in
    let fine : line_fault (draft_held c.args.self.now) (fields c.args.line.now) ≡ None =
    fault_behind (draft_held c.args.self.now) (fields c.args.line.now) c.first_field-args.result.0.now c.first_field-args.result.1 c.in-Some.word c.first_field-args.ensures (sym c.in-Some.ensures) comes
    ∙ c.in-Ok.ensures.taken.no_fault in
    reached_by (draft_held c.args.self.now) (record { last = c.rank-self.result; job = job_held c.take.new.self }) (fields c.args.line.now) c.first_field-args.result.0.now c.first_field-args.result.1 c.in-Some.word c.rank-self.ensures.exactly c.in-Ok.ensures.taken.said c.first_field-args.ensures (sym c.in-Some.ensures) c.requires.reached c.requires.more fine

pub returns-in-Err-clause-stopped : goal.returns-in-Err-clause-stopped
returns-in-Err-clause-stopped c =
    let comes : may_come c.args.self.now.format c.args.self.now.last c.in-Some.word ≡ true = sym c.may_come.ensures ∙ c.if-not-may_come.false in
    stops_as (line_fault (draft_held c.args.self.now) (fields c.args.line.now)) (behind_fault (job_held c.args.self.now) c.in-Some.word c.first_field-args.result.1) c.in-Err.stop
    (fault_behind (draft_held c.args.self.now) (fields c.args.line.now) c.first_field-args.result.0.now c.first_field-args.result.1 c.in-Some.word c.first_field-args.ensures (sym c.in-Some.ensures) comes)
    c.in-Err.ensures.stopped
