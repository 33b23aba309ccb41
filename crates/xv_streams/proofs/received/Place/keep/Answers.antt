use Rattle.std.proofs.Common.{◌≡◌, ◌≤◌, length, take, drop, refl, sym, ap, ◌∙◌, arith, subst}
use Rattle.std.proofs.lemmas.List.{with_items_is, take_at}
use Rattle.std.specs.Vec.{with_items}
use Rattle.xv_frame.specs.Frame.{message}
use Rattle.xv_streams.specs.Groups.{Place}
use Rattle.xv_streams.proofs.received.Place.keep.Goals as goal

pub lay-requires : goal.lay-requires
lay-requires c =
    let fits : length c.args.bytes.now ≤ length c.self.inside.buffer.items = subst (λ (p : Place). length c.args.bytes.now ≤ p.room) (sym c.self.view_is) c.requires in
    omega (arith, fits, ap length c.deref_mut.ensures.value)

pub returns : goal.returns
returns c =
    let held : (with_items c.self.inside.buffer c.lay.new.buffer).items ≡ c.lay.new.buffer = with_items_is c.self.inside.buffer c.lay.new.buffer (c.lay.auto.buffer ∙ c.deref_mut.ensures.len) in
    let front : take (length c.args.bytes.now) (with_items c.self.inside.buffer c.lay.new.buffer).items ≡ c.args.bytes.now =
    ap (take (length c.args.bytes.now)) (held ∙ c.lay.ensures) ∙ take_at c.args.bytes.now (drop (length c.args.bytes.now) c.deref_mut.result.now) (length c.args.bytes.now) refl in
    let long : length (with_items c.self.inside.buffer c.lay.new.buffer).items ≡ c.args.self.now.room =
    ap length held ∙ c.lay.auto.buffer ∙ ap length c.deref_mut.ensures.value ∙ ap (λ (p : Place). p.room) c.self.view_is in
    λ i. record { message = message c.args.head (front i); room = long i }
