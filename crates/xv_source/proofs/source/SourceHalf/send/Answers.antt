use Rattle.std.proofs.Common.{◌≤◌, ◌∙◌, ap, sym, subst, length, ℕ}
use Rattle.xv_base.specs.declared.answer.Cause.TheVariants.{Put}
use Rattle.xv_base.specs.declared.answer.Turn.TheVariants.{Failed}
use Rattle.xv_base.specs.declared.event.Event.TheVariants.{Send}
use Rattle.xv_model.specs.View.{UnitHead}
use Rattle.xv_source.specs.Half.{Source}
use Rattle.xv_source.specs.Step.{StepsSource, batch_of}
use Rattle.xv_source.specs.Batches.{told_of}
use Rattle.xv_source.proofs.SendSteps.{batch-some, sends-done, sends-failed}
use Rattle.xv_source.proofs.source.SourceHalf.send.Goals as goal

pub returns-in-Ok-clause-step : goal.returns-in-Ok-clause-step
returns-in-Ok-clause-step g c = λ job v allows is_format is_most.
    let goes = sym c.in_default.ensures in
    let some = batch-some c.args.streams.now.format c.args.most c.args.stream c.args.self.now c.requires.most goes in
    let count = c.batch-count.ensures ∙ ap (λ (f : ℕ). batch_of f c.args.most c.args.self.now) c.format-format.ensures.exactly in
    sends-done job v c.args.stream c.told_of.result c.args.self.now c.send_batch.new.self c.args.streams.now.format c.args.most c.batch-count.result allows goes is_format is_most count
    (subst (λ (n : ℕ). 1 ≤ n) (sym count) some.0) (subst (λ (n : ℕ). n ≤ length c.args.self.now.messages) (sym count) some.1) c.in-Ok.ensures.sent
    (c.told_of.ensures ∙ ap (λ (f : ℕ). told_of f c.batch-count.result c.first-first.result) c.format-format.ensures.exactly
    ∙ ap (λ (m : UnitHead). told_of c.args.streams.now.format c.batch-count.result m) c.first-first.ensures)

pub returns-in-Err-clause-step : goal.returns-in-Err-clause-step
returns-in-Err-clause-step g c = λ job v allows is_format is_most.
    subst (λ (h : Source). StepsSource job v (Send c.args.stream) (Failed (Put c.args.stream)) c.args.self.now h) (sym c.in-Err.ensures.sent)
    (sends-failed job v c.args.stream c.args.self.now allows (sym c.in_default.ensures))
