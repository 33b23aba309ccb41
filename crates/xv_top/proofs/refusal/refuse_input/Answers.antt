use Rattle.std.proofs.Common.{ℕ, List, ◌∙◌, subst}
use Rattle.xv_io.specs.Io.{TookMore}
use Rattle.xv_top.proofs.refusal.refuse_input.Goals as goal

pub returns-in-Ok-clause-whole : goal.returns-in-Ok-clause-whole
returns-in-Ok-clause-whole g c = λ _. record {
  taken = subst (λ (line : List ℕ). TookMore (g.O.Sink.taken c.args.output.now) (g.O.Sink.taken c.write_out.new.output) line) (c.bytes.ensures.exactly ∙ c.print_refusal.ensures) c.in-Ok.ensures.whole;
  handed_on = c.in-Ok.ensures.flushed;
  quiet = c.in-Ok.ensures.quiet;
}
