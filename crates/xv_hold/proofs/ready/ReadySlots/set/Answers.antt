use Rattle.std.proofs.Common.{◌≡◌, ◌+◌, drop, set, ap, ◌∙◌}
use Rattle.std.proofs.lemmas.List.{with_items_is}
use Rattle.std.specs.Vec.{with_items, with_item}
use Rattle.xv_hold.proofs.Matches.{set-seen}
use Rattle.xv_hold.proofs.ready.ReadySlots.set.Goals as goal

pub returns : goal.returns
returns c =
    let held : (with_items (with_item c.self.inside.places (c.self.inside.count + c.args.slot) c.entry_of.result) c.replay.new.places).items ≡ c.replay.new.places =
    with_items_is (with_item c.self.inside.places (c.self.inside.count + c.args.slot) c.entry_of.result) c.replay.new.places (c.replay.auto.places ∙ c.deref_mut.ensures.len) in
    rw (← c.self.view_is)
    (set-seen _ c.self.inside.places.items _ _ _
    (ap (drop c.self.inside.count) held
    ∙ c.replay.ensures.below
    ∙ ap (drop c.self.inside.count) c.deref_mut.ensures.value
    ∙ ap (λ e. drop c.self.inside.count (set c.self.inside.places.items (c.self.inside.count + c.args.slot) e)) c.entry_of.ensures))
