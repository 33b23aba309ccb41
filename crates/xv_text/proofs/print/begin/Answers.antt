use Rattle.std.proofs.Common.{ap, ◌∙◌, ◌++◌, ◌∷◌, [], decimal, get_or, arith, length}
use Rattle.std.proofs.lemmas.List.{length-append}
use Rattle.xv_text.proofs.Prints.{spaced_more}
use Rattle.xv_text.proofs.print.begin.Goals as goal

pub loop-n-preserved : goal.loop-n-preserved
loop-n-preserved c = record {
  written =
      c.push_number.ensures.exactly
      ∙ ap (λ xs. xs ++ decimal (get_or c.args.numbers.now c.loop-n.n-index 0)) c.push.ensures
      ∙ spaced_more c.loop-n.line c.args.word.now c.args.numbers.now c.loop-n.n-index c.loop-n-test.true c.loop-n.invariant.written;
  short = omega (arith, c.push_number.ensures.few, ap length c.push.ensures, length-append c.loop-n.line (32 ∷ []), c.loop-n.invariant.short);
}
