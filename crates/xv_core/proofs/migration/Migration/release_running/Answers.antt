use Rattle.std.proofs.Common.{sym, arith, refl}
use Rattle.std.proofs.lemmas.List.{append-nil}
use Rattle.xv_core.proofs.Keeping.Counts.{few-versions}
use Rattle.xv_core.proofs.Counting.Room.{source-countable}
use Rattle.xv_core.proofs.GuestEvents.OperationSteps.{rooms, rooms-stay, finishes}
use Rattle.xv_core.proofs.GuestEvents.ReleaseTurns.{has-more, ready, release-running-answers}
use Rattle.xv_core.proofs.migration.Migration.release_running.Goals as goal

pub next_operation-op-requires : goal.next_operation-op-requires
next_operation-op-requires g c = has-more _ c.args.self.now c.args.disk c.args.waiting c.self.invariant.0 c.self.view_is c.requires.first

pub release-turn-requires-clause-front : goal.release-turn-requires-clause-front
release-turn-requires-clause-front g c =
    (ready _ c.args.self.now c.args.disk c.args.waiting c.next_operation-op.result c.self.invariant.0 c.self.view_is
    (record { there = c.requires.there; first = c.requires.first; not_due = c.requires.not_due; next = c.next_operation-op.ensures })).front_of

pub release-turn-requires-clause-block : goal.release-turn-requires-clause-block
release-turn-requires-clause-block g c =
    (ready _ c.args.self.now c.args.disk c.args.waiting c.next_operation-op.result c.self.invariant.0 c.self.view_is
    (record { there = c.requires.there; first = c.requires.first; not_due = c.requires.not_due; next = c.next_operation-op.ensures })).block

pub release-turn-requires-clause-legal : goal.release-turn-requires-clause-legal
release-turn-requires-clause-legal g c =
    (ready _ c.args.self.now c.args.disk c.args.waiting c.next_operation-op.result c.self.invariant.0 c.self.view_is
    (record { there = c.requires.there; first = c.requires.first; not_due = c.requires.not_due; next = c.next_operation-op.ensures })).legal

pub release-turn-requires-clause-few : goal.release-turn-requires-clause-few
release-turn-requires-clause-few g c = few-versions _ c.self.invariant.0.running

pub release-turn-requires-clause-countable : goal.release-turn-requires-clause-countable
release-turn-requires-clause-countable g c = source-countable _ c.self.invariant.0

pub end-requires : goal.end-requires
end-requires g c =
    let answers = release-running-answers _ c.args.self.now c.args.disk c.args.waiting c.release-turn.result c.release-turn.new.self c.next_operation-op.result c.len-length.result c.self.invariant.0 c.len-length.ensures.exactly c.self.view_is
    (record { there = c.requires.there; first = c.requires.first; not_due = c.requires.not_due; next = c.next_operation-op.ensures }) c.requires.running c.release-turn.ensures.step c.release-turn.ensures.call in
    let room = rooms _ _ _ _ _ _ _ c.self.invariant.0.running answers in
    record { room = omega (arith, room.history, c.self.invariant.1.history) }

pub enter-requires : goal.enter-requires
enter-requires g c =
    let answers = release-running-answers _ c.args.self.now c.args.disk c.args.waiting c.release-turn.result c.release-turn.new.self c.next_operation-op.result c.len-length.result c.self.invariant.0 c.len-length.ensures.exactly c.self.view_is
    (record { there = c.requires.there; first = c.requires.first; not_due = c.requires.not_due; next = c.next_operation-op.ensures }) c.requires.running c.release-turn.ensures.step c.release-turn.ensures.call in
    let room = rooms _ _ _ _ _ _ _ c.self.invariant.0.running answers in
    record { room = λ goes. let short = room.journal goes in omega (arith, short, c.self.invariant.1.journal) }

pub invariant_of-self : goal.invariant_of-self
invariant_of-self g c =
    let answers = release-running-answers _ c.args.self.now c.args.disk c.args.waiting c.release-turn.result c.release-turn.new.self c.next_operation-op.result c.len-length.result c.self.invariant.0 c.len-length.ensures.exactly c.self.view_is
    (record { there = c.requires.there; first = c.requires.first; not_due = c.requires.not_due; next = c.next_operation-op.ensures }) c.requires.running c.release-turn.ensures.step c.release-turn.ensures.call in
    let end = finishes _ c.args.self.now _ _ _ _ _ _ c.enter.new.journal.items c.end.new.history.entries c.self.inside.reads.items c.self.invariant.0 c.self.view_is answers c.enter.ensures.journal c.end.ensures.entries
    (sym (append-nil c.self.inside.reads.items)) in
    (end.kept, rooms-stay c.self.inside.job _ _ _ _ _ _ _ _ c.self.invariant.1 c.end.ensures.room c.enter.ensures.reserved refl refl)

pub returns : goal.returns
returns g c =
    let answers = release-running-answers _ c.args.self.now c.args.disk c.args.waiting c.release-turn.result c.release-turn.new.self c.next_operation-op.result c.len-length.result c.self.invariant.0 c.len-length.ensures.exactly c.self.view_is
    (record { there = c.requires.there; first = c.requires.first; not_due = c.requires.not_due; next = c.next_operation-op.ensures }) c.requires.running c.release-turn.ensures.step c.release-turn.ensures.call in
    let end = finishes _ c.args.self.now _ _ _ _ _ _ c.enter.new.journal.items c.end.new.history.entries c.self.inside.reads.items c.self.invariant.0 c.self.view_is answers c.enter.ensures.journal c.end.ensures.entries
    (sym (append-nil c.self.inside.reads.items)) in
    end.steps
