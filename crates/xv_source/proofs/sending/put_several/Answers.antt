use Rattle.std.proofs.Common.{◌≡◌, ◌<◌, ◌∙◌, ap, sym, subst, length, ℕ}
use Rattle.std.proofs.lemmas.List.{length-take-le}
use Rattle.xv_frame.specs.Frame.{Each}
use Rattle.xv_streams.specs.Streamed.{Streamed, lane}
use Rattle.xv_streams.specs.Carried.{IsCarried}
use Rattle.xv_streams.specs.Fronts.{HasRoomFor}
use Rattle.xv_source.proofs.Batching.{each-lane, group-fits}
use Rattle.xv_source.proofs.sending.put_several.Goals as goal

pub send_group-requires-clause-room : goal.send_group-requires-clause-room
send_group-requires-clause-room g c =
    let new = c.add_first.new.streams in
    let s = new.shape in
    let format : new.format ≡ 2 = ap (λ (x : Streamed). x.format) c.add_first.ensures ∙ c.requires.format in
    let lanes = subst (λ (f : ℕ). Each (IsCarried s f) new.lanes) format c.hold_spellings.ensures.lanes in
    let there : c.args.stream < length new.lanes = subst (λ (x : Streamed). c.args.stream < length x.lanes) (sym c.add_first.ensures) c.requires.stream_in in
    let count : length new.making ≡ c.args.count = ap (λ (x : Streamed). length x.making) c.add_first.ensures ∙ length-take-le c.args.count c.args.outbox.now.messages c.requires.there in
    let room : HasRoomFor s 2 c.args.count (lane new c.args.stream) = subst (λ (x : Streamed). HasRoomFor x.shape 2 c.args.count (lane x c.args.stream)) (sym c.add_first.ensures) c.requires.room in
    group-fits s (lane new c.args.stream) new.making c.args.count (each-lane (IsCarried s 2) new.lanes c.args.stream there lanes) c.hold_spellings.ensures.making count c.requires.some room
