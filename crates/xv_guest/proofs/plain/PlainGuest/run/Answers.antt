use Rattle.std.proofs.Common.{◌≡◌, ◌<◌, ◌^◌, length, take, drop, ◌++◌, slice_index, slice_set, ◌+◌, refl, sym, ap, ◌∙◌, arith, rules}
use Rattle.xv_guest.specs.Plain.{guest_ops}
use Rattle.xv_guest.proofs.Unmigrated.{begun, is_next, op_lies, op_fits, written_back, run_next, run_all}
use Rattle.xv_guest.proofs.plain.PlainGuest.run.Goals as goal

pub loop-i-init : goal.loop-i-init
loop-i-init c = (
  begun c.args.layout.now c.args.init.now c.args.traces.now c.args.history.now.entries c.in-Ok.device c.new-read.result.items c.in-Ok-zeros.next.items
      c.in-Ok.ensures c.new-read.ensures.items c.in-Ok-zeros.ensures.long c.in-Ok-zeros.ensures.zero,
  sym c.in-Ok-from_elem.buffer.ok.0 ∙ c.in-Ok-from_elem.ensures.len ∙ c.max_size.ensures.exactly,
)

pub next_op-op-requires-clause-there : goal.next_op-op-requires-clause-there
next_op-op-requires-clause-there c =
    let small : c.entry-ended.result.guest.0 < 2 ^ 8 = first_of (omega arith, search rules, grind arith) in
    rw c.deref_mut.ensures.value
    (is_next c.args.layout.now c.args.init.now c.args.traces.now c.args.history.now.entries c.loop-i.i c.loop-i.device c.loop-i.read.items c.loop-i.next.items c.entry-ended.result
    c.loop-i.invariant.0 (omega (arith, c.len-i-end.ensures.exactly)) c.entry-ended.ensures small c.requires.ended)

pub act-requires-clause-lies : goal.act-requires-clause-lies
act-requires-clause-lies c =
    let small : c.entry-ended.result.guest.0 < 2 ^ 8 = first_of (omega arith, search rules, grind arith) in
    let there : slice_index c.loop-i.next.items c.entry-ended.result.guest.0 < length (guest_ops c.args.traces.now c.entry-ended.result.guest.0) =
    is_next c.args.layout.now c.args.init.now c.args.traces.now c.args.history.now.entries c.loop-i.i c.loop-i.device c.loop-i.read.items c.loop-i.next.items c.entry-ended.result
    c.loop-i.invariant.0 (omega (arith, c.len-i-end.ensures.exactly)) c.entry-ended.ensures small c.requires.ended in
    op_lies c.args.layout.now c.loop-i.device.shape c.args.traces.now c.entry-ended.result.guest.0 (slice_index c.loop-i.next.items c.entry-ended.result.guest.0) c.next_op-op.result
    c.requires.within there (rw c.deref_mut.ensures.value at c.next_op-op.ensures.op) c.loop-i.invariant.0.at.shape_is

pub act-requires-clause-room : goal.act-requires-clause-room
act-requires-clause-room c =
    let small : c.entry-ended.result.guest.0 < 2 ^ 8 = first_of (omega arith, search rules, grind arith) in
    let there : slice_index c.loop-i.next.items c.entry-ended.result.guest.0 < length (guest_ops c.args.traces.now c.entry-ended.result.guest.0) =
    is_next c.args.layout.now c.args.init.now c.args.traces.now c.args.history.now.entries c.loop-i.i c.loop-i.device c.loop-i.read.items c.loop-i.next.items c.entry-ended.result
    c.loop-i.invariant.0 (omega (arith, c.len-i-end.ensures.exactly)) c.entry-ended.ensures small c.requires.ended in
    let lies = op_lies c.args.layout.now c.args.layout.now c.args.traces.now c.entry-ended.result.guest.0 (slice_index c.loop-i.next.items c.entry-ended.result.guest.0) c.next_op-op.result
    c.requires.within there (rw c.deref_mut.ensures.value at c.next_op-op.ensures.op) refl in
    let fits = op_fits c.args.layout.now c.next_op-op.result (c.greatest_size_is_had.ensures c.args.layout.now c.max_size.ensures.good) lies in
    omega (arith, fits, ap length c.deref_mut-in-loop-i.ensures.value, c.loop-i.invariant.1)

pub loop-i-preserved : goal.loop-i-preserved
loop-i-preserved c =
    let small : c.entry-ended.result.guest.0 < 2 ^ 8 = first_of (omega arith, search rules, grind arith) in
    let lt : c.loop-i.i < length c.args.history.now.entries = omega (arith, c.len-i-end.ensures.exactly) in
    let there : slice_index c.loop-i.next.items c.entry-ended.result.guest.0 < length (guest_ops c.args.traces.now c.entry-ended.result.guest.0) =
    is_next c.args.layout.now c.args.init.now c.args.traces.now c.args.history.now.entries c.loop-i.i c.loop-i.device c.loop-i.read.items c.loop-i.next.items c.entry-ended.result
    c.loop-i.invariant.0 lt c.entry-ended.ensures small c.requires.ended in
    let lies = op_lies c.args.layout.now c.args.layout.now c.args.traces.now c.entry-ended.result.guest.0 (slice_index c.loop-i.next.items c.entry-ended.result.guest.0) c.next_op-op.result
    c.requires.within there (rw c.deref_mut.ensures.value at c.next_op-op.ensures.op) refl in
    let next_is : take c.loop-i.next.len (c.next_op-op.new.next ++ drop (length c.next_op-op.new.next) c.loop-i.next.items) ≡ c.next_op-op.new.next =
    written_back c.loop-i.next.len c.loop-i.next.items c.next_op-op.new.next c.loop-i.next.ok.0 (c.next_op-op.auto.next ∙ ap length c.deref_mut.ensures.value) in
    let buffer_is : take c.loop-i.buffer.len (c.act.new.buffer ++ drop (length c.act.new.buffer) c.loop-i.buffer.items) ≡ c.act.new.buffer =
    written_back c.loop-i.buffer.len c.loop-i.buffer.items c.act.new.buffer c.loop-i.buffer.ok.0 (c.act.auto.buffer ∙ ap length c.deref_mut-in-loop-i.ensures.value) in
    let counted : c.next_op-op.new.next ≡ slice_set c.loop-i.next.items c.entry-ended.result.guest.0 (slice_index c.loop-i.next.items c.entry-ended.result.guest.0 + 1) =
    rw c.deref_mut.ensures.value at c.next_op-op.ensures.counted in (
      run_next c.args.layout.now c.args.init.now c.args.traces.now c.args.history.now.entries c.loop-i.i c.loop-i.device c.loop-i.read.items c.loop-i.next.items c.entry-ended.result c.next_op-op.result c.act.new.device c.act.new.read.items _
          c.loop-i.invariant.0 lt c.entry-ended.ensures small (rw c.deref_mut.ensures.value at c.next_op-op.ensures.op) lies.unit_is
          c.in-Ok-act.ensures.device c.in-Ok-act.ensures.read (next_is ∙ counted),
      ap length buffer_is ∙ c.act.auto.buffer ∙ ap length c.deref_mut-in-loop-i.ensures.value ∙ c.loop-i.invariant.1,
    )

pub returns-clause-unmigrated : goal.returns-clause-unmigrated
returns-clause-unmigrated c = run_all c.args.layout.now c.args.init.now c.args.traces.now c.args.history.now.entries c.loop-i.i c.loop-i.device c.loop-i.read.items c.loop-i.next.items c.loop-i.invariant.0 (omega (arith, c.len-i-end.ensures.exactly))
