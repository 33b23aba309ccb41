use Rattle.std.proofs.Common.{sym, ◌∙◌, inr}
use Rattle.xv_core.specs.Seen.{Seen}
use Rattle.xv_parts.specs.Memory.{IsInMemory}
use Rattle.xv_top.proofs.Printed.{loses-in-memory, zero-elsewhere, left-one}
use Rattle.xv_top.proofs.Statuses.{ok-no_err, err-no_err}
use Rattle.xv_run.specs.Promise.{PrintsRun}
use Rattle.xv_run.proofs.Left.{is-run, is-run-cut, short-or-none, prints-run}
use Rattle.xv_run.proofs.Statuses.{run-promise, run-says, ends-over}
use Rattle.xv_run.proofs.program.run.Goals as goal

pub status_of-status-requires : goal.status_of-status-requires
status_of-status-requires g c = c.in-Ok-run_out.ensures.taken.ended.finished

pub returns-in-Ok-run_out-clause-promise : goal.returns-in-Ok-run_out-clause-promise
returns-in-Ok-run_out-clause-promise g c =
    run-promise c.args.form _ c.read_input.ensures.most (λ not. absurd (not (ends-over _ _ c.status_of-status.ensures)))
    (run-says c.args.form _ _ _ c.status_of-status.ensures
    (is-run c.args.form _ c.in-Ok.job c.in-Ok-run_out.machine c.in-Ok-run_out.ensures.taken c.in-Ok.ensures.text
    (record { ended = c.in-Ok.ensures.ended; quiet = c.read_input.ensures.quiet (ok-no_err _ _ _ c.in-Ok.is) }) c.in-Ok-run_out.ensures.flushed (c.run_out.ensures.quiet (ok-no_err _ _ _ c.in-Ok-run_out.is)) c.leave.ensures))

pub returns-in-Err-WriteFault-clause-promise : goal.returns-in-Err-WriteFault-clause-promise
returns-in-Err-WriteFault-clause-promise g c =
    let failed = c.run_out.ensures.fault (cc (c.in-Err-WriteFault.is, c.in-Err-WriteFault.field-0-is)) in
    let cut = c.run_out.ensures.cut (cc (c.in-Err-WriteFault.is, c.in-Err-WriteFault.field-0-is)) in
    run-promise c.args.form _ c.read_input.ensures.most (λ _. c.requires)
    (c.read_input.ensures.quiet (ok-no_err _ _ _ c.in-Ok.is), (failed, inr (is-run-cut c.args.form _ c.in-Ok.job cut c.in-Ok.ensures.text failed)))

pub returns-in-Err-NoMemory-run_out-clause-promise : goal.returns-in-Err-NoMemory-run_out-clause-promise
returns-in-Err-NoMemory-run_out-clause-promise g c =
    let short = c.run_out.ensures.memory (cc (c.in-Err-NoMemory-run_out.is, c.in-Err-NoMemory-run_out.field-0-is)) in
    let quiet = c.run_out.ensures.quiet (err-no_err _ c.in-Err-NoMemory-run_out.field-0 _ c.in-Err-NoMemory-run_out.is (λ same. cc (c.in-Err-NoMemory-run_out.field-0-is, same))) in
    run-promise c.args.form _ c.read_input.ensures.most (λ _. c.requires)
    (short-or-none c.args.form _ c.in-Ok.job short c.in-Ok.ensures.text (c.read_input.ensures.quiet (ok-no_err _ _ _ c.in-Ok.is)) quiet)

pub returns-in-Ok-run_out-clause-loses_nothing : goal.returns-in-Ok-run_out-clause-loses_nothing
returns-in-Ok-run_out-clause-loses_nothing g c = λ m is.
    let inside = left-one IsInMemory c.in-Ok-run_out.machine m (sym c.leave.ensures ∙ is) c.in-Ok-run_out.ensures.in_memory in
    (loses-in-memory m inside, zero-elsewhere m inside)

pub returns-in-Ok-run_out-clause-prints_all : goal.returns-in-Ok-run_out-clause-prints_all
returns-in-Ok-run_out-clause-prints_all g c = λ m is.
    let machine = c.in-Ok-run_out.machine in
    left-one (λ (n : Seen). PrintsRun (g.I.Source.left c.args.input.now) (g.O.Sink.taken c.args.output.now) (g.O.Sink.taken c.run_out.new.output) n) machine m (sym c.leave.ensures ∙ is)
    (prints-run c.args.form c.in-Ok.job machine _ _ _ c.in-Ok-run_out.ensures.taken c.in-Ok-run_out.ensures.in_memory c.in-Ok.ensures.text)
