use Rattle.std.proofs.Common.{List, refl, sym, ◌∙◌, subst, inr}
use Rattle.std.specs.Prelude.{IfSome}
use Rattle.xv_job.specs.Written.{job_of}
use Rattle.xv_script.specs.Script.{IsScriptOf}
use Rattle.xv_script.specs.declared.line.Line.{Line}
use Rattle.xv_top.specs.Top.{IsInput}
use Rattle.xv_top.proofs.Statuses.{replay-promise, short-or-none, ok-no_err, err-no_err}
use Rattle.xv_core.specs.Seen.{Seen}
use Rattle.xv_parts.specs.Memory.{IsInMemory}
use Rattle.xv_top.specs.Printed.{PrintsAll, IsOfInput}
use Rattle.xv_top.proofs.Printed.{loses-in-memory, zero-elsewhere, left-one, prints-all, of-input}
use Rattle.xv_top.proofs.program.run_replay.Goals as goal

pub replay-requires : goal.replay-requires
replay-requires g c = record {
  script = subst (λ (lines : List Line). IsScriptOf (job_of c.in-Ok.found.0) lines) (sym c.deref.ensures.value) c.in-Ok.ensures.script;
}

pub returns-in-Ok-replay-clause-promise : goal.returns-in-Ok-replay-clause-promise
returns-in-Ok-replay-clause-promise g c =
    let text = subst (λ (lines : List Line). IfSome (g.I.Source.left c.args.input.now) (λ bytes. IsInput bytes c.in-Ok.found.0 lines)) (sym c.deref.ensures.value) c.in-Ok.ensures.text in
    replay-promise c.args.form _ c.read_input.ensures.most (λ not. absurd (not refl))
    (record {
      written = c.in-Ok.found.0;
      lines = c.deref.result.now;
      migration = c.in-Ok-replay.machine;
      read = record { ended = c.in-Ok.ensures.ended; quiet = c.read_input.ensures.quiet (ok-no_err _ _ _ c.in-Ok.is) };
      input = text;
      output = record { taken = c.in-Ok-replay.ensures.written; handed_on = c.in-Ok-replay.ensures.flushed; quiet = c.replay.ensures.quiet (ok-no_err _ _ _ c.in-Ok-replay.is) };
      has_run = c.in-Ok-replay.ensures.ran;
      is_left = c.leave.ensures;
    })

pub returns-in-Err-WriteFault-clause-promise : goal.returns-in-Err-WriteFault-clause-promise
returns-in-Err-WriteFault-clause-promise g c =
    let text = subst (λ (lines : List Line). IfSome (g.I.Source.left c.args.input.now) (λ bytes. IsInput bytes c.in-Ok.found.0 lines)) (sym c.deref.ensures.value) c.in-Ok.ensures.text in
    let failed = c.replay.ensures.fault (cc (c.in-Err-WriteFault.is, c.in-Err-WriteFault.field-0-is)) in
    replay-promise c.args.form _ c.read_input.ensures.most (λ _. c.requires) (
      c.read_input.ensures.quiet (ok-no_err _ _ _ c.in-Ok.is),
      (
        failed,
        inr (record { written = c.in-Ok.found.0; lines = c.deref.result.now; input = text; output = record { front = c.in-Err-WriteFault.ensures.front; failed = failed } }),
      ),
    )

pub returns-clause-promise : goal.returns-clause-promise
returns-clause-promise g c =
    let text = subst (λ (lines : List Line). IfSome (g.I.Source.left c.args.input.now) (λ bytes. IsInput bytes c.in-Ok.found.0 lines)) (sym c.deref.ensures.value) c.in-Ok.ensures.text in
    let short = c.replay.ensures.memory (cc (c.in-Err-NoMemory-replay.is, c.in-Err-NoMemory-replay.field-0-is)) in
    let quiet = c.replay.ensures.quiet (err-no_err _ c.in-Err-NoMemory-replay.field-0 _ c.in-Err-NoMemory-replay.is (λ same. (let impossible = sym c.in-Err-NoMemory-replay.field-0-is ∙ same in cc))) in
    replay-promise c.args.form _ c.read_input.ensures.most (λ _. c.requires)
    (short-or-none c.args.form _ c.in-Ok.found.0 c.deref.result.now (c.read_input.ensures.quiet (ok-no_err _ _ _ c.in-Ok.is)) quiet text short)

pub returns-in-Ok-replay-clause-loses_nothing : goal.returns-in-Ok-replay-clause-loses_nothing
returns-in-Ok-replay-clause-loses_nothing g c = λ m is.
    let inside = left-one IsInMemory c.in-Ok-replay.machine m (sym c.leave.ensures ∙ is) c.in-Ok-replay.ensures.in_memory in
    (loses-in-memory m inside, zero-elsewhere m inside)

pub returns-in-Ok-replay-clause-prints_all : goal.returns-in-Ok-replay-clause-prints_all
returns-in-Ok-replay-clause-prints_all g c = λ m is.
    let text = subst (λ (lines : List Line). IfSome (g.I.Source.left c.args.input.now) (λ bytes. IsInput bytes c.in-Ok.found.0 lines)) (sym c.deref.ensures.value) c.in-Ok.ensures.text in
    let script = subst (λ (lines : List Line). IsScriptOf (job_of c.in-Ok.found.0) lines) (sym c.deref.ensures.value) c.in-Ok.ensures.script in
    left-one (λ (n : Seen). PrintsAll (g.I.Source.left c.args.input.now) (g.O.Sink.taken c.args.output.now) (g.O.Sink.taken c.replay.new.output) n) c.in-Ok-replay.machine m (sym c.leave.ensures ∙ is)
    (prints-all (g.I.Source.left c.args.input.now) (g.O.Sink.taken c.args.output.now) (g.O.Sink.taken c.replay.new.output) c.in-Ok.found.0 c.in-Ok-replay.machine c.deref.result.now c.in-Ok-replay.ensures.ran.of_job script text c.in-Ok-replay.ensures.printed)

pub returns-in-Ok-replay-clause-of_input : goal.returns-in-Ok-replay-clause-of_input
returns-in-Ok-replay-clause-of_input g c = λ m is.
    let text = subst (λ (lines : List Line). IfSome (g.I.Source.left c.args.input.now) (λ bytes. IsInput bytes c.in-Ok.found.0 lines)) (sym c.deref.ensures.value) c.in-Ok.ensures.text in
    left-one (λ (n : Seen). IsOfInput (g.I.Source.left c.args.input.now) n) c.in-Ok-replay.machine m (sym c.leave.ensures ∙ is)
    (of-input (g.I.Source.left c.args.input.now) c.in-Ok.found.0 c.in-Ok-replay.machine c.deref.result.now c.in-Ok-replay.ensures.ran.of_job text)
