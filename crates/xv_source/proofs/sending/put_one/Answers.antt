use Rattle.std.proofs.Common.{◌≡◌, ◌<◌, ◌∙◌, ap, arith, sym, subst, length, ℕ}
use Rattle.xv_base.specs.Units.{Shape, units, size}
use Rattle.xv_base.proofs.Partition.{has_greatest_size}
use Rattle.xv_frame.specs.Frame.{Each}
use Rattle.xv_outbox.specs.Messages.{UnitHead, message}
use Rattle.xv_streams.specs.Streamed.{lane}
use Rattle.xv_streams.specs.Carried.{IsCarried}
use Rattle.xv_source.proofs.Batching.{each-lane, one-fits}
use Rattle.xv_source.proofs.sending.put_one.Goals as goal

pub send-requires-clause-room : goal.send-requires-clause-room
send-requires-clause-room g c =
    let s = c.args.streams.now.shape in
    let lanes = subst (λ (f : ℕ). Each (IsCarried s f) c.args.streams.now.lanes) c.requires.format c.hold_spellings.ensures.lanes in
    let l = lane c.args.streams.now c.args.stream in
    let there : c.nth.result.unit.0 < units s = subst (λ (x : Shape). c.nth.result.unit.0 < units x) c.requires.layout c.nth.ensures.in_range in
    let most = (has_greatest_size s c.hold_spellings.ensures.good).most c.nth.result.unit.0 there in
    let whole : length c.nth_bytes.result.now ≡ size s c.nth.result.unit.0 =
    c.nth_bytes.ensures.whole ∙ ap (λ (x : Shape). size x (message c.args.outbox.now 0).head.unit.0) c.requires.layout ∙ ap (λ (h : UnitHead). size s h.unit.0) (sym c.nth.ensures.exactly) in
    one-fits s l c.nth_bytes.result.now (each-lane (IsCarried s 1) c.args.streams.now.lanes c.args.stream c.requires.stream_in lanes) c.requires.room (omega arith)
