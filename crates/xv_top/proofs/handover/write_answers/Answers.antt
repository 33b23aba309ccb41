use Rattle.std.proofs.Common.{length, List, ℕ, subst, sym, ◌∙◌}
use Rattle.std.proofs.lemmas.List.{length_push}
use Rattle.std.proofs.lemmas.Slice.Zip.{zip_turn}
use Rattle.xv_io.specs.Io.{TookMore, TookFront}
use Rattle.xv_top.proofs.Handovers.{IsTold, told_more, told_front}
use Rattle.xv_top.proofs.Played.{err-with}
use Rattle.xv_top.proofs.handover.write_answers.Goals as goal

pub loop-event-preserved : goal.loop-event-preserved
loop-event-preserved g c =
    let turn = zip_turn c.args.events.now c.args.replies.now c.loop-event.yielded c.into_iter-event-iterator.result c.loop-event.event-iterator c.next.new.self c.next.result (cc) (cc) c.loop-event.yielded_by (c.in-Some.event, c.in-Some.reply) c.in-Some.is c.next.ensures.steps in
    let taken = g.O.Sink.taken in
    let line = subst (λ (bytes : List ℕ). TookMore (taken c.loop-event.output) (taken c.write_text.new.sink) bytes) (c.bytes.ensures.exactly ∙ c.print_reply.ensures) c.in_ok-write_text.ensures.whole in
    let more = told_more c.args.events.now c.args.replies.now (length c.loop-event.yielded) _ _ _ c.in-Some.event.now c.in-Some.reply.now turn.0 turn.1 (turn.2 c.in-Some.event.now) (turn.3 c.in-Some.reply.now) c.loop-event.invariant.told line in
    record {
      told = subst (λ (n : ℕ). IsTold c.args.events.now c.args.replies.now n (taken c.args.output.now) (taken c.write_text.new.sink)) (sym (length_push c.loop-event.yielded (c.in-Some.event, c.in-Some.reply))) more;
      quiet = c.in_ok-write_text.ensures.quiet ∙ c.loop-event.invariant.quiet;
    }

pub returns-in_err-write_text-clause-front : goal.returns-in_err-write_text-clause-front
returns-in_err-write_text-clause-front g c =
    let turn = zip_turn c.args.events.now c.args.replies.now c.loop-event.yielded c.into_iter-event-iterator.result c.loop-event.event-iterator c.next.new.self c.next.result (cc) (cc) c.loop-event.yielded_by (c.in-Some.event, c.in-Some.reply) c.in-Some.is c.next.ensures.steps in
    let taken = g.O.Sink.taken in
    let line = subst (λ (bytes : List ℕ). TookFront (taken c.loop-event.output) (taken c.write_text.new.sink) bytes) (c.bytes.ensures.exactly ∙ c.print_reply.ensures) c.write_text.ensures.front in
    err-with c.from_residual.result _ (told_front c.args.events.now c.args.replies.now (length c.loop-event.yielded) _ _ _ c.in-Some.event.now c.in-Some.reply.now turn.0 turn.1 (turn.2 c.in-Some.event.now) (turn.3 c.in-Some.reply.now) c.loop-event.invariant.told line)
