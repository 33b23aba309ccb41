use Rattle.std.proofs.Common.{refl, ◌∙◌}
use Rattle.std.proofs.lemmas.List.{with_items_is}
use Rattle.xv_source.proofs.GivingUp.{all-gone, part-given_up, bytes-given_up}
use Rattle.xv_source.proofs.source.SourceHalf.abandon.Goals as goal

pub returns-clause-part : goal.returns-clause-part
returns-clause-part g c = λ job v phase of.
    part-given_up job v phase c.args.self.now _ of
    (all-gone _ _ c.self.inside.disks.items c.deref_mut.result.now c.give_up.new.disks _ c.self.view_is refl refl c.deref_mut.ensures.value c.give_up.auto.disks c.give_up.ensures
    (with_items_is c.self.inside.disks c.give_up.new.disks (c.give_up.auto.disks ∙ c.deref_mut.ensures.len)))

pub returns-clause-bytes : goal.returns-clause-bytes
returns-clause-bytes g c = λ x has.
    bytes-given_up x c.args.self.now _ has
    (all-gone _ _ c.self.inside.disks.items c.deref_mut.result.now c.give_up.new.disks _ c.self.view_is refl refl c.deref_mut.ensures.value c.give_up.auto.disks c.give_up.ensures
    (with_items_is c.self.inside.disks c.give_up.new.disks (c.give_up.auto.disks ∙ c.deref_mut.ensures.len)))
