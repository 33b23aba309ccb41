use Rattle.std.proofs.Common.{sym, ap, ◌∙◌}
use Rattle.xv_progress.specs.declared.numbers.Numbers.{Numbers}
use Rattle.xv_progress.specs.Passes.{Known}
use Rattle.xv_shared.proofs.Growing.{stepped-numbers, may-follow}
use Rattle.xv_shared.proofs.turns.step.Goals as goal

pub publish-requires : goal.publish-requires
publish-requires g c =
    let m = c.args.migration.now in
    let n = c.step-turn.new.self in
    let e = c.args.event in
    let a = c.step-turn.result in
    let x = c.numbers_after.result in
    let grown = c.numbers_after.ensures in
    let last = c.last-last.ensures.exactly ∙ c.requires.last in
    let is = stepped-numbers m n e a c.last-last.result x c.reads-before.ensures.kept c.requires.fitting c.step-turn.ensures last grown.history grown.copied grown.applied grown.journal in
    let may = may-follow m n e a c.last-last.result x c.reads-before.ensures.kept c.reads-later.ensures.kept c.requires.fitting c.step-turn.ensures last is in
    record {
      own = c.requires.own ∙ sym c.deref.ensures;
      parts = may.parts;
      rises = rw (← c.last-last.ensures.exactly) may.rises;
      journal_fits = may.journal_fits;
      copied_fits = may.copied_fits;
    }

pub returns-clause-published : goal.returns-clause-published
returns-clause-published g c =
    let m = c.args.migration.now in
    let n = c.step-turn.new.self in
    let grown = c.numbers_after.ensures in
    let last = c.last-last.ensures.exactly ∙ c.requires.last in
    let is = stepped-numbers m n c.args.event c.step-turn.result c.last-last.result c.numbers_after.result c.reads-before.ensures.kept c.requires.fitting c.step-turn.ensures last grown.history grown.copied grown.applied grown.journal in
    c.publish.ensures ∙ ap (λ (k : Numbers). record { belongs = c.args.publisher.now.belongs; numbers = k }) is
