use Rattle.std.proofs.Common.{List, ℕ, refl, subst, ◌∙◌}
use Rattle.xv_io.specs.Io.{TookFront}
use Rattle.xv_io.proofs.Took.{front-last}
use Rattle.xv_handover.specs.Lines.{transcript, nodes_text}
use Rattle.xv_top.proofs.Played.{err-with}
use Rattle.xv_top.proofs.handover.write_world.Goals as goal

pub returns-in-Ok-clause-front : goal.returns-in-Ok-clause-front
returns-in-Ok-clause-front g c =
    let taken = g.O.Sink.taken in
    let nodes = subst (λ (bytes : List ℕ). TookFront (taken c.write_answers.new.output) (taken c.write_out.new.output) bytes) (c.bytes.ensures.exactly ∙ c.print_world.ensures) c.write_out.ensures.front in
    err-with c.write_out.result _ (front-last (taken c.args.output.now) (taken c.write_answers.new.output) (taken c.write_out.new.output) (transcript c.args.events.now c.args.replies.now) (nodes_text c.args.world.now) _ c.in-Ok.ensures.whole nodes refl)
