use Rattle.std.proofs.Common.{List, ℕ, length, arith, ap, ◌∙◌}
use Rattle.xv_core.specs.Answered.{read_by}
use Rattle.xv_core.proofs.Keeping.Counts.{few-versions}
use Rattle.xv_core.proofs.Counting.Room.{source-countable}
use Rattle.xv_core.proofs.GuestEvents.OperationSteps.{rooms, rooms-stay, finishes, read-from, lent-back}
use Rattle.xv_core.proofs.GuestEvents.Turns.{running-answers}
use Rattle.xv_core.proofs.migration.Migration.guest_running.Goals as goal

pub guest-turn-requires-clause-few : goal.guest-turn-requires-clause-few
guest-turn-requires-clause-few g c = few-versions _ c.self.invariant.0.running

pub guest-turn-requires-clause-countable : goal.guest-turn-requires-clause-countable
guest-turn-requires-clause-countable g c = source-countable _ c.self.invariant.0

pub end-requires : goal.end-requires
end-requires g c =
    let answers = running-answers _ c.args.self.now c.args.guest c.guest-turn.result c.guest-turn.new.self c.guest-turn.new.into c.next_operation-op.result c.len-length.result c.self.invariant.0 c.len-length.ensures.exactly c.self.view_is
    (record { there = c.requires.there; lets = c.requires.lets; next = c.next_operation-op.ensures }) c.requires.running (omega arith)
    c.guest-turn.ensures.step c.guest-turn.ensures.call c.guest-turn.ensures.reads in
    let room = rooms _ _ _ _ _ _ _ c.self.invariant.0.running answers in
    record { room = omega (arith, room.history, c.self.invariant.1.history) }

pub keep-requires-clause-room : goal.keep-requires-clause-room
keep-requires-clause-room g c =
    let answers = running-answers _ c.args.self.now c.args.guest c.guest-turn.result c.guest-turn.new.self c.guest-turn.new.into c.next_operation-op.result c.len-length.result c.self.invariant.0 c.len-length.ensures.exactly c.self.view_is
    (record { there = c.requires.there; lets = c.requires.lets; next = c.next_operation-op.ensures }) c.requires.running (omega arith)
    c.guest-turn.ensures.step c.guest-turn.ensures.call c.guest-turn.ensures.reads in
    let room = rooms _ _ _ _ _ _ _ c.self.invariant.0.running answers in
    let back = lent-back c.self.inside.read.len c.self.inside.read.items c.guest-turn.new.into (omega arith) (omega arith) in
    let long = ap (λ (bytes : List ℕ). length (read_by c.next_operation-op.result c.guest-turn.result bytes)) (c.deref.ensures.value ∙ back) in
    omega (arith, room.reads, c.self.invariant.1.reads, long)

pub enter-requires : goal.enter-requires
enter-requires g c =
    let answers = running-answers _ c.args.self.now c.args.guest c.guest-turn.result c.guest-turn.new.self c.guest-turn.new.into c.next_operation-op.result c.len-length.result c.self.invariant.0 c.len-length.ensures.exactly c.self.view_is
    (record { there = c.requires.there; lets = c.requires.lets; next = c.next_operation-op.ensures }) c.requires.running (omega arith)
    c.guest-turn.ensures.step c.guest-turn.ensures.call c.guest-turn.ensures.reads in
    let room = rooms _ _ _ _ _ _ _ c.self.invariant.0.running answers in
    record { room = λ goes. let short = room.journal goes in omega (arith, short, c.self.invariant.1.journal) }

pub invariant_of-self : goal.invariant_of-self
invariant_of-self g c =
    let answers = running-answers _ c.args.self.now c.args.guest c.guest-turn.result c.guest-turn.new.self c.guest-turn.new.into c.next_operation-op.result c.len-length.result c.self.invariant.0 c.len-length.ensures.exactly c.self.view_is
    (record { there = c.requires.there; lets = c.requires.lets; next = c.next_operation-op.ensures }) c.requires.running (omega arith)
    c.guest-turn.ensures.step c.guest-turn.ensures.call c.guest-turn.ensures.reads in
    let back = lent-back c.self.inside.read.len c.self.inside.read.items c.guest-turn.new.into (omega arith) (omega arith) in
    let end = finishes _ c.args.self.now _ _ _ _ _ _ c.enter.new.journal.items c.end.new.history.entries c.keep.new.reads.items c.self.invariant.0 c.self.view_is answers c.enter.ensures.journal c.end.ensures.entries
    (read-from c.self.inside.reads.items c.keep.new.reads.items c.deref.result.now c.guest-turn.new.into c.next_operation-op.result c.guest-turn.result c.keep.ensures.bytes (c.deref.ensures.value ∙ back)) in
    (end.kept, rooms-stay c.self.inside.job _ _ _ _ _ _ _ _ c.self.invariant.1 c.end.ensures.room c.enter.ensures.reserved c.keep.ensures.reserved (omega (arith, ap (λ (bytes : List ℕ). length bytes) back)))

pub returns : goal.returns
returns g c =
    let answers = running-answers _ c.args.self.now c.args.guest c.guest-turn.result c.guest-turn.new.self c.guest-turn.new.into c.next_operation-op.result c.len-length.result c.self.invariant.0 c.len-length.ensures.exactly c.self.view_is
    (record { there = c.requires.there; lets = c.requires.lets; next = c.next_operation-op.ensures }) c.requires.running (omega arith)
    c.guest-turn.ensures.step c.guest-turn.ensures.call c.guest-turn.ensures.reads in
    let back = lent-back c.self.inside.read.len c.self.inside.read.items c.guest-turn.new.into (omega arith) (omega arith) in
    let end = finishes _ c.args.self.now _ _ _ _ _ _ c.enter.new.journal.items c.end.new.history.entries c.keep.new.reads.items c.self.invariant.0 c.self.view_is answers c.enter.ensures.journal c.end.ensures.entries
    (read-from c.self.inside.reads.items c.keep.new.reads.items c.deref.result.now c.guest-turn.new.into c.next_operation-op.result c.guest-turn.result c.keep.ensures.bytes (c.deref.ensures.value ∙ back)) in
    end.steps
