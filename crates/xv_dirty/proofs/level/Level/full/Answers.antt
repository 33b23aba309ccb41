use Rattle.std.proofs.Common.{◌≡◌, ◌∙◌}
use Rattle.std.specs.Vec.{with_items}
use Rattle.std.proofs.lemmas.List.{with_items_is}
use Rattle.xv_dirty.proofs.Words.{all_set}
use Rattle.xv_dirty.proofs.level.Level.full.Goals as goal

pub returns : goal.returns
returns c =
    let items : (with_items c.in-Ok.words c.clear_past.new.words).items ≡ c.clear_past.new.words = with_items_is c.in-Ok.words c.clear_past.new.words (c.clear_past.auto.words ∙ c.deref_mut.ensures.len) in
    rw items (all_set c.clear_past.new.words c.args.len c.clear_past.ensures.all)
