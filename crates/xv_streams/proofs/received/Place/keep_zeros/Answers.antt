use Rattle.std.proofs.Common.{◌≡◌, ◌≤◌, length, take, drop, replicate, sym, ap, ◌∙◌, arith, subst}
use Rattle.std.proofs.lemmas.List.{with_items_is, take_at, length-replicate}
use Rattle.std.specs.Vec.{with_items}
use Rattle.xv_frame.specs.Frame.{message}
use Rattle.xv_streams.specs.Groups.{Place}
use Rattle.xv_streams.proofs.received.Place.keep_zeros.Goals as goal

pub lay_zeros-requires : goal.lay_zeros-requires
lay_zeros-requires c =
    let fits : c.args.size ≤ length c.self.inside.buffer.items = subst (λ (p : Place). c.args.size ≤ p.room) (sym c.self.view_is) c.requires in
    omega (arith, fits, ap length c.deref_mut.ensures.value)

pub returns : goal.returns
returns c =
    let held : (with_items c.self.inside.buffer c.lay_zeros.new.buffer).items ≡ c.lay_zeros.new.buffer = with_items_is c.self.inside.buffer c.lay_zeros.new.buffer (c.lay_zeros.auto.buffer ∙ c.deref_mut.ensures.len) in
    let front : take c.args.size (with_items c.self.inside.buffer c.lay_zeros.new.buffer).items ≡ replicate c.args.size 0 =
    ap (take c.args.size) (held ∙ c.lay_zeros.ensures) ∙ take_at (replicate c.args.size 0) (drop c.args.size c.deref_mut.result.now) c.args.size (length-replicate c.args.size 0) in
    let long : length (with_items c.self.inside.buffer c.lay_zeros.new.buffer).items ≡ c.args.self.now.room =
    ap length held ∙ c.lay_zeros.auto.buffer ∙ ap length c.deref_mut.ensures.value ∙ ap (λ (p : Place). p.room) c.self.view_is in
    λ i. record { message = message c.args.head (front i); room = long i }
