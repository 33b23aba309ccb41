use Rattle.std.proofs.Common.{◌≡◌, ◌+◌, ◌-◌, ◌≤◌, take, drop, replicate, sym, ap, ◌∙◌, arith, false, Bool}
use Rattle.std.specs.Prelude.{if◌then◌else◌}
use Rattle.std.proofs.lemmas.List.{length-take}
use Rattle.xv_base.specs.declared.operation.UnitHead.{UnitHead}
use Rattle.xv_base.specs.Units.{size}
use Rattle.xv_base.proofs.Partition.{has_greatest_size}
use Rattle.xv_frame.specs.Frame.{message}
use Rattle.xv_frame.specs.Fields.{word_at}
use Rattle.xv_frame.specs.Reading.{entry_numbers, is_marked}
use Rattle.xv_streams.proofs.received.Place.read_entry.Goals as goal

pub keep_zeros-requires : goal.keep_zeros-requires
keep_zeros-requires c =
    omega (arith, c.size-size.ensures.exactly, (has_greatest_size c.args.layout.now c.size-size.ensures.good).most c.in-Ok.entry.head.unit.0 c.in-Ok.ensures.unit_in, c.requires.room)

pub keep-requires : goal.keep-requires
keep-requires c =
    let fits : c.size-size.result ≤ c.args.self.now.room =
    omega (arith, c.size-size.ensures.exactly, (has_greatest_size c.args.layout.now c.size-size.ensures.good).most c.in-Ok.entry.head.unit.0 c.in-Ok.ensures.unit_in, c.requires.room) in
    omega (arith, fits, length-take (20 + c.size-size.result - 20) (drop 20 c.args.bytes.now))

pub returns-else-entry-clause-kept : goal.returns-else-entry-clause-kept
returns-else-entry-clause-kept c =
    let s = c.args.layout.now in
    let b = c.args.bytes.now in
    let size_is : 20 + c.size-size.result - 20 ≡ size s (word_at b 0) = (let e : 20 + c.size-size.result - 20 ≡ c.size-size.result = omega arith in e) ∙ c.size-size.ensures.exactly ∙ ap (λ (h : UnitHead). size s h.unit.0) c.in-Ok.ensures.head in
    let mark : false ≡ is_marked b = sym c.if-entry.false ∙ c.in-Ok.ensures.zero in
    c.keep.ensures ∙ (λ i. record { message = message (c.in-Ok.ensures.head i) (take (size_is i) (drop 20 b)); room = c.args.self.now.room })
    ∙ ap (λ (k : Bool). record { message = message (entry_numbers b) (if k then replicate (size s (word_at b 0)) 0 else take (size s (word_at b 0)) (drop 20 b)); room = c.args.self.now.room }) mark
